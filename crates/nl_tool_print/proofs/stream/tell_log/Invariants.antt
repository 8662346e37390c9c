use Rattle.std.proofs.Common.{◌-◌}
use Rattle.nl_lines.specs.Lines.{max_log}
use Rattle.nl_tool_print.proofs.StreamLemmas.{Telling}
use Rattle.nl_tool_print.proofs.stream.tell_log.Given as goal

abbrev pub invariant-lines : goal.invariant-lines
invariant-lines g l = record {
  telling : Telling (g.T.LineText.of_line l.text l.version) l.initial.lines (g.S.Source.ahead l.initial.source) l.lines
      (g.S.Source.ahead l.source) (g.W.Write.contents l.initial.writer) (g.W.Write.contents l.writer) l.told;
}

abbrev pub decreases-lines : goal.decreases-lines
decreases-lines g l = max_log - l.lines.position
