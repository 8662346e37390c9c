use Rattle.std.proofs.Common.{◌≡◌, ◌+◌, ◌*◌, ◌<◌, ◌≤◌, ◌^◌, drop, max, min}
use Rattle.std.specs.List.{fold, sum_by}
use Rattle.nl_builds.specs.declared.command.Command.{Command}
use Rattle.nl_reports.specs.Spans.{span_of, time_of}
use Rattle.nl_reports.proofs.job.numbers_of.Given as goal

-- the numbers so far, and those of what is left
abbrev pub invariant-loop-command : goal.invariant-loop-command
invariant-loop-command l = record {
  began : fold (λ n (c : Command). min n c.began) l.began (drop l.command-index l.commands) ≡ fold (λ n (c : Command). min n c.began) (2 ^ 32) l.commands;
  ended : fold (λ n (c : Command). max n c.ended) l.ended (drop l.command-index l.commands) ≡ fold (λ n (c : Command). max n c.ended) 0 l.commands;
  total : l.total + sum_by (λ (c : Command). time_of (span_of c)) (drop l.command-index l.commands) ≡ sum_by (λ (c : Command). time_of (span_of c)) l.commands;
  early : l.ended < 2 ^ 32;
  small : l.total ≤ l.command-index * 2 ^ 32;
}
