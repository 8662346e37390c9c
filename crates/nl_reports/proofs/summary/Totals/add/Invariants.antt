use Rattle.std.proofs.Common.{◌≡◌, ◌++◌, drop, map}
use Rattle.std.specs.List.{All}
use Rattle.nl_reports.specs.Jobs.{build_jobs, jobs_from, told}
use Rattle.nl_reports.specs.Kinds.{AreSumsOf}
use Rattle.nl_reports.specs.Numbers.{spans_of}
use Rattle.nl_reports.specs.Rows.{told_job, told_jobs, told_row}
use Rattle.nl_reports.specs.Spans.{IsEarly, span_of}
use Rattle.nl_reports.specs.Sweep.{weight}
use Rattle.nl_reports.proofs.summary.Totals.add.Given as goal

-- when those so far ran, and when those that are left did
abbrev pub invariant-loop-command : goal.invariant-loop-command
invariant-loop-command l = record {
  told : l.spans.items ++ map span_of (drop l.command-index l.commands) ≡ map span_of l.commands;
  early : All IsEarly l.spans.items;
}

-- the weights so far, and those of what is left
abbrev pub invariant-loop-span : goal.invariant-loop-span
invariant-loop-span l = l.weights.items ++ map (weight l.span-items) (drop l.span-index l.span-items) ≡ map (weight l.span-items) l.span-items

-- the commands so far, and those of what is left
abbrev pub invariant-loop-at : goal.invariant-loop-at
invariant-loop-at l = record {
  value : map told_row l.found.items ++ map (told_job (spans_of (build_jobs (told l.fn.from) l.fn.number))) (jobs_from l.fn.from.entries.items l.start (drop l.at l.commands))
      ≡ map told_row l.initial.found.items ++ told_jobs (build_jobs (told l.fn.from) l.fn.number);
  small : AreSumsOf 1 (map told_row l.initial.found.items) → AreSumsOf 1 (map told_row l.found.items);
}
