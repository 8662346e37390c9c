use Rattle.std.proofs.Common.{◌≡◌, ◌++◌, length}
use Rattle.std.specs.List.{flat_map}
use Rattle.nl_tool_change.specs.Replay.{behind_tab, time_fields}
use Rattle.nl_tool_change.specs.Reading.{SaysTimes}
use Rattle.std.specs.Prelude.{IsSome}
use Rattle.nl_tool_change.proofs.script.read_times.Given as goal

-- the pairs so far and what is left of the text are the text; where it says mtimes and names, so does what is left
abbrev pub invariant-pairs : goal.invariant-pairs
invariant-pairs l = record {
  line : flat_map time_fields l.pairs.items ++ behind_tab l.left ≡ behind_tab l.fn.text;
  says : SaysTimes (behind_tab l.fn.text) → SaysTimes (behind_tab l.left);
  there : IsSome l.left → IsSome l.fn.text;
}

abbrev pub decreases-pairs : goal.decreases-pairs
decreases-pairs l = length (behind_tab l.left)
