use Rattle.std.proofs.Common.{◌≡◌, ◌++◌}
use Rattle.nl_reports.specs.Ticks.{ticks_of}
use Rattle.nl_reports.proofs.frame.append_ticks.Given as goal

-- the lines before this one
abbrev pub invariant-loop-i : goal.invariant-loop-i
invariant-loop-i l = l.out.items ≡ l.initial.out.items ++ ticks_of l.frame l.step l.i
