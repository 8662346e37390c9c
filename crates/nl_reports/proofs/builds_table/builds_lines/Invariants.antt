use Rattle.std.proofs.Common.{◌≡◌, ◌+◌, ◌++◌, drop}
use Rattle.nl_reports.specs.BuildsText.{builds_text, lines_from}
use Rattle.nl_reports.specs.Jobs.{told}
use Rattle.nl_reports.proofs.builds_table.builds_lines.Given as goal

-- the lines so far, and those of what is left
abbrev pub invariant-loop-build : goal.invariant-loop-build
invariant-loop-build l = record {
  lines : l.lines.items ++ lines_from (told l.fn.from) (l.number + 1) (drop l.build-index l.fn.from.builds.items) ≡ builds_text (told l.fn.from);
  number : l.number ≡ l.build-index;
}
