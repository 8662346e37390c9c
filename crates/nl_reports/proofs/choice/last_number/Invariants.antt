use Rattle.std.proofs.Common.{◌≡◌, ◌≤◌, length}
use Rattle.nl_reports.specs.Jobs.{last_of, told}
use Rattle.nl_reports.proofs.choice.last_number.Given as goal

-- those behind this one are the manifest's alone
abbrev pub invariant-builds : goal.invariant-builds
invariant-builds l = record {
  same : last_of (told l.fn.from) l.number ≡ last_of (told l.fn.from) l.count;
  all : l.count ≡ length l.fn.from.builds.items;
  within : l.number ≤ l.count;
}

abbrev pub decreases-builds : goal.decreases-builds
decreases-builds l = l.number
