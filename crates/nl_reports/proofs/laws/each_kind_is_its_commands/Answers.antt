use Rattle.nl_reports.proofs.KindSumLemmas.{kind_commands, kind_once, kind_times, kind_weights, commands_add_up, kind_weights_add_up, times_add_up}
use Rattle.nl_reports.proofs.laws.each_kind_is_its_commands.Goals as goal

pub returns-clause-once : goal.returns-clause-once
returns-clause-once c = kind_once

pub returns-clause-commands : goal.returns-clause-commands
returns-clause-commands c = kind_commands

pub returns-clause-times : goal.returns-clause-times
returns-clause-times c = kind_times

pub returns-clause-weights : goal.returns-clause-weights
returns-clause-weights c = kind_weights

pub returns-clause-all_commands : goal.returns-clause-all_commands
returns-clause-all_commands c = commands_add_up

pub returns-clause-all_times : goal.returns-clause-all_times
returns-clause-all_times c = times_add_up

pub returns-clause-all_weights : goal.returns-clause-all_weights
returns-clause-all_weights c = kind_weights_add_up
