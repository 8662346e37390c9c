use Rattle.std.proofs.Common.{◌≡◌, ◌++◌, length}
use Rattle.std.specs.List.{All as Each, flat_map}
use Rattle.nl_fields.specs.Name.{IsName}
use Rattle.nl_tool_change.specs.Replay.{behind_tab, name_field}
use Rattle.nl_tool_change.specs.Reading.{SaysNames}
use Rattle.nl_tool_change.proofs.script.read_names.Given as goal

-- the names so far and what is left of the text are the text, and they are names; where it says names, so does what is left
abbrev pub invariant-names : goal.invariant-names
invariant-names l = record {
  line : flat_map name_field l.names.items ++ behind_tab l.left ≡ name_field l.fn.text;
  named : Each IsName l.names.items;
  says : SaysNames (name_field l.fn.text) → SaysNames (behind_tab l.left);
}

abbrev pub decreases-names : goal.decreases-names
decreases-names l = length (behind_tab l.left)
