use Rattle.std.proofs.Common.{◌≡◌, ◌++◌, drop}
use Rattle.nl_tool_doubt.specs.Mending.{mend_lines, taken}
use Rattle.nl_tool_doubt.proofs.mending.said_of.Given as goal

abbrev pub invariant-loop-it : goal.invariant-loop-it
invariant-loop-it l = record {
  text : l.text.items ++ mend_lines (drop l.it-index l.named) ≡ mend_lines l.named;
  names : l.names.items ++ taken l.fn.how.all (drop l.it-index l.named) ≡ taken l.fn.how.all l.named;
}
