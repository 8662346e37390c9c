use Rattle.std.proofs.Common.{◌≡◌, ◌++◌, drop}
use Rattle.std.specs.List.{flat_map}
use Rattle.nl_tool_doubt.specs.There.{learned, name_by}
use Rattle.nl_tool_doubt.proofs.files.add_names.Given as goal

abbrev pub invariant-loop-it : goal.invariant-loop-it
invariant-loop-it l = l.names.items ++ flat_map (learned name_by) (drop l.it-index l.looked) ≡ l.fn.names.items ++ flat_map (learned name_by) l.fn.looked
