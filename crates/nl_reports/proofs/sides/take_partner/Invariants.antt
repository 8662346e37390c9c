use Rattle.std.proofs.Common.{◌≡◌, List, ℕ, drop}
use Rattle.nl_reports.specs.Compare.{partner}
use Rattle.nl_reports.specs.Outputs.{HoldPlaces}
use Rattle.nl_reports.proofs.sides.take_partner.Given as goal

-- no command of the outputs before this one is left
abbrev pub invariant-loop-entry : goal.invariant-loop-entry
invariant-loop-entry l = record {
  same : l.left ≡ l.fn.left;
  none : (ps : List (List ℕ × ℕ)) → HoldPlaces ps l.outputs.entries
      → partner ps l.fn.left l.job.outputs.now ≡ partner ps l.fn.left (drop l.entry-index l.job.outputs.now);
}
