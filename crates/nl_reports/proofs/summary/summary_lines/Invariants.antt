use Rattle.std.proofs.Common.{◌≡◌, ◌+◌, ◌*◌, ◌≤◌, ◌^◌, ◌++◌, drop, map}
use Rattle.nl_reports.specs.Jobs.{told}
use Rattle.nl_reports.specs.Kinds.{AreSumsOf}
use Rattle.nl_reports.specs.Rows.{told_row}
use Rattle.nl_reports.specs.Summary.{AreTotalsOf, no_totals, rows_from, total_of, totals_from}
use Rattle.nl_reports.proofs.summary.summary_lines.Given as goal

-- the numbers and the commands so far, and those of what is left
abbrev pub invariant-loop-place : goal.invariant-loop-place
invariant-loop-place l = record {
  totals : totals_from l.totals (told l.fn.from) (l.choice.first + l.place) (drop l.place l.told) ≡ totals_from no_totals (told l.fn.from) l.choice.first l.told;
  commands : map told_row l.commands.items ++ rows_from (told l.fn.from) (l.choice.first + l.place) (drop l.place l.told)
      ≡ rows_from (told l.fn.from) l.choice.first l.told;
  few : AreTotalsOf l.place l.totals;
  small : AreSumsOf 1 (map told_row l.commands.items);
}

-- the sum so far, and that of what is left
abbrev pub invariant-loop-command : goal.invariant-loop-command
invariant-loop-command l = record {
  total : l.total + total_of (map told_row (drop l.command-index l.commands)) ≡ total_of (map told_row l.commands);
  small : l.total ≤ l.command-index * 2 ^ 32;
}
