use Rattle.std.proofs.Common.{◌≡◌, ◌≤◌, ◌-◌, drop, length, take}
use Rattle.nl_builds.specs.Commands.{with_rows}
use Rattle.nl_builds.proofs.RowLemmas.{rows_onto}
use Rattle.nl_builds.proofs.command.with_rows.Given as goal

-- those from a place on have theirs
abbrev pub invariant-commands : goal.invariant-commands
invariant-commands l = record {
  told : rows_onto l.fn.order (take (l.at - 1) l.rows.items) (drop (l.at - 1) l.rows.items) ≡ with_rows l.fn.order l.fn.rows.items;
  within : l.at ≤ length l.rows.items;
}

abbrev pub decreases-commands : goal.decreases-commands
decreases-commands l = l.at
