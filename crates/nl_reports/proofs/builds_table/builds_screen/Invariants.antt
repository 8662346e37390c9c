use Rattle.std.proofs.Common.{◌≡◌, ◌++◌, ℕ, List}
use Rattle.nl_reports.specs.BuildsTable.{AreRows, heading_for}
use Rattle.nl_reports.specs.Jobs.{told}
use Rattle.nl_reports.proofs.builds_table.builds_screen.Given as goal

-- the rows of the builds before this one
abbrev pub invariant-loop-place : goal.invariant-loop-place
invariant-loop-place l = record {
  rows : List ℕ;
  are : AreRows l.zone (told l.from) l.place rows;
  is : l.lines.items ≡ heading_for l.zone ++ rows;
}
