use Rattle.std.proofs.Common.{◌≡◌, take}
use Rattle.nl_table.specs.Table.{each_once}
use Rattle.nl_tool_change.proofs.asked.kept_by.Given as goal

abbrev pub invariant-loop-name : goal.invariant-loop-name
invariant-loop-name l = l.set ≡ each_once (take l.name-index l.name-items)
