use Rattle.nl_tool_print.proofs.EntryLemmas.{entries_shown}
use Rattle.nl_tool_print.proofs.laws.entries_are_shown.Goals as goal

pub returns : goal.returns
returns c = entries_shown
