use Rattle.std.proofs.Common.{◌≡◌, take}
use Rattle.std.specs.List.{flat_map}
use Rattle.nl_tool_change.specs.Replay.{reply_line}
use Rattle.nl_tool_change.proofs.script.run_script.Given as goal

abbrev pub invariant-loop-reply : goal.invariant-loop-reply
invariant-loop-reply l = l.text.items ≡ flat_map reply_line (take l.reply-index l.reply-items)
