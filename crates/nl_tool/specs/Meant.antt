-- What words mean that name no log (docs/CLI.md, "At a terminal").
use Rattle.std.specs.Prelude.{List, ℕ, Option}
use Rattle.std.specs.Option.{option_or}
use Rattle.std.specs.Borrow.{Bor}
use Rattle.nl_tool_words.specs.declared.words.Words.{Words}
use Rattle.nl_tool_words.specs.declared.words.Words.TheVariants.{Read}

-- the words that read a log which tells its version have this one, where they name none; all others are as they were
abbrev pub meant : Words → Option (Bor (List ℕ)) → Words
meant (Read what log choices) here = Read what (option_or log here) choices
meant words here = words
