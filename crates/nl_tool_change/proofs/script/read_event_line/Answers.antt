use Rattle.std.proofs.Common.{◌∙◌, sym}
use Rattle.std.proofs.lemmas.Option.{none-some}
use Rattle.nl_tool_change.specs.Reading.{word_of_event}
use Rattle.nl_tool_change.proofs.ReadingLemmas.{word_found}
use Rattle.nl_tool_change.proofs.script.read_event_line.Goals as goal

pub returns-in-None-clause-accepts : goal.returns-in-None-clause-accepts
returns-in-None-clause-accepts c = λ event says.
    let found = word_found c.args.line.now c.split_tab.result.0.now c.split_tab.result.1 event c.split_tab.ensures.line
    c.split_tab.ensures.no_tab says in
    absurd (none-some _ (sym c.in-None.is ∙ c.read_word.ensures.accepts (word_of_event event) found.0))
