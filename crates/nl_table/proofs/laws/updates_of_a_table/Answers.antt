use Rattle.std.proofs.Common.{ap, ◌∙◌}
use Rattle.nl_table.specs.History.{table}
use Rattle.nl_table.specs.Table.{without_mtimes}
use Rattle.nl_table.proofs.HistoryLemmas.{table-enter, table-forget, table-touch, table_without-dead, counts-logged, logged-push, plus-append}
use Rattle.nl_table.proofs.NameLemmas.{answer-alive, without_mtimes-touched}
use Rattle.nl_table.proofs.laws.updates_of_a_table.Goals as goal

pub returns-clause-enter : goal.returns-clause-enter
returns-clause-enter c = table-enter

pub returns-clause-forget : goal.returns-clause-forget
returns-clause-forget c = table-forget

pub returns-clause-dead : goal.returns-clause-dead
returns-clause-dead c = table_without-dead

pub returns-clause-alive : goal.returns-clause-alive
returns-clause-alive c = answer-alive

pub returns-clause-touch : goal.returns-clause-touch
returns-clause-touch c = table-touch

pub returns-clause-beside : goal.returns-clause-beside
returns-clause-beside c = λ h pairs. ap without_mtimes (table-touch h pairs) ∙ without_mtimes-touched pairs (table h)

pub returns-clause-counts : goal.returns-clause-counts
returns-clause-counts c = counts-logged

pub returns-clause-parts : goal.returns-clause-parts
returns-clause-parts c = plus-append

pub returns-clause-entry : goal.returns-clause-entry
returns-clause-entry c = logged-push
