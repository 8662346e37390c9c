use Rattle.nl_builds.proofs.LawLemmas.{entries_shared, commands_shared, told_rises, entries_moved}
use Rattle.nl_builds.proofs.RecordedLemmas.{recorded_plain}
use Rattle.nl_builds.proofs.laws.each_entry_is_of_one_command.Goals as goal

pub returns-clause-entries : goal.returns-clause-entries
returns-clause-entries c = entries_shared

pub returns-clause-commands : goal.returns-clause-commands
returns-clause-commands c = commands_shared

pub returns-clause-rise : goal.returns-clause-rise
returns-clause-rise c = told_rises

pub returns-clause-whole : goal.returns-clause-whole
returns-clause-whole c = entries_moved

pub returns-clause-recorded : goal.returns-clause-recorded
returns-clause-recorded c = recorded_plain
