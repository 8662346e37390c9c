use Rattle.std.proofs.Common.{◌-◌}
use Rattle.nl_lines.specs.Lines.{max_log}
use Rattle.nl_tool_change.specs.Files.{line_of}
use Rattle.nl_tool_change.proofs.FileLemmas.{Telling}
use Rattle.nl_tool_change.proofs.files.read_lines.Given as goal

abbrev pub invariant-lines : goal.invariant-lines
invariant-lines g l = record {
  telling : Telling g.P.Part.part_of (g.S.Source.ahead l.initial.source) l.lines
      (g.S.Source.ahead l.source) l.so_far.parts.items (line_of l.so_far.bad) l.so_far.count;
}

abbrev pub decreases-lines : goal.decreases-lines
decreases-lines g l = max_log - l.lines.position
