-- One of the tests for `unsure` fails.
use Rattle.std.proofs.Common.{rules}
use Rattle.nl_tool_doubt.proofs.judge.doubt_from.Goals as goal
use Rattle.nl_tool_doubt.proofs.judge.doubt_from.Goals.{else-entry-time-via-then-entry-time+then-is_early+else-not-is_sure}
use Rattle.nl_tool_doubt.proofs.judge.doubt_from.Goals.{else-entry-time-via-then-entry-time+else-is_early, else-entry-time-via-else-entry-time}

pub returns : goal.returns
returns c = elim c.else-entry-time.branch [
  | else-entry-time-via-then-entry-time+then-is_early+else-not-is_sure w ↦ search rules
  | else-entry-time-via-then-entry-time+else-is_early w ↦ search rules
  | else-entry-time-via-else-entry-time w ↦ search rules
]
