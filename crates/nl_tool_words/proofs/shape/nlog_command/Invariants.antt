use Rattle.std.proofs.Common.{◌≡◌, length, map}
use Rattle.clap.specs.Words.{app_of}
use Rattle.nl_tool_words.specs.Rows.{nlog, with_words, word_by}
use Rattle.nl_tool_words.proofs.shape.nlog_command.Given as goal

-- the rows that are left make the program of that of before
abbrev pub invariant-rows : goal.invariant-rows
invariant-rows l = with_words (app_of l.nlog) (map word_by l.rest) ≡ nlog

abbrev pub decreases-rows : goal.decreases-rows
decreases-rows l = length l.rest
