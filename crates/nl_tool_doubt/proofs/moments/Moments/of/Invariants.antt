use Rattle.std.proofs.Common.{◌≡◌, ◌++◌, drop, map}
use Rattle.std.specs.List.{filter}
use Rattle.nl_tool_doubt.specs.Known.{end_span, start_span}
use Rattle.nl_tool_doubt.specs.Moments.{tells}
use Rattle.nl_tool_doubt.proofs.moments.Moments.of.Given as goal

abbrev pub invariant-loop-entry : goal.invariant-loop-entry
invariant-loop-entry l = record {
  ends : l.ends.items ++ map end_span (filter tells (drop l.entry-index l.lines)) ≡ map end_span (filter tells l.lines);
  starts : l.starts.items ++ map start_span (filter tells (drop l.entry-index l.lines)) ≡ map start_span (filter tells l.lines);
}
