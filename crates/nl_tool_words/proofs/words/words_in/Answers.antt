use Rattle.std.proofs.Common.{subst}
use Rattle.clap.specs.Words.{found_of, rows_of}
use Rattle.nl_tool_words.proofs.ValueLemmas.{entered_is}
use Rattle.nl_tool_words.specs.CommandLine.{IsComplete}
use Rattle.nl_tool_words.proofs.words.words_in.Goals as goal

pub words_of-requires-clause-named : goal.words_of-requires-clause-named
words_of-requires-clause-named c =
    let met = c.in-Some in
    (subst IsComplete (entered_is c.args.matches.now met.name.now (rows_of (found_of met.inner.now)) met.ensures.name met.ensures.rows) c.requires).0

pub words_of-requires-clause-whole : goal.words_of-requires-clause-whole
words_of-requires-clause-whole c =
    let met = c.in-Some in
    (subst IsComplete (entered_is c.args.matches.now met.name.now (rows_of (found_of met.inner.now)) met.ensures.name met.ensures.rows) c.requires).1
