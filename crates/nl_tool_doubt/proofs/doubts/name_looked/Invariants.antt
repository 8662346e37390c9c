use Rattle.std.proofs.Common.{◌≡◌, ◌++◌, drop}
use Rattle.std.specs.List.{flat_map}
use Rattle.nl_tool_doubt.specs.Doubts.{named_by}
use Rattle.nl_tool_doubt.proofs.doubts.name_looked.Given as goal

abbrev pub invariant-loop-it : goal.invariant-loop-it
invariant-loop-it l =
    l.named.items ++ flat_map (named_by l.damaged l.counts l.stamps l.moments) (drop l.it-index l.looked)
    ≡ flat_map (named_by l.damaged l.counts l.stamps l.moments) l.looked
