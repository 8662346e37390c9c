use Rattle.nl_table.proofs.NameLemmas.{contains-answer, distinct-table, named-table}
use Rattle.nl_table.proofs.OrderLemmas.{table_in_order}
use Rattle.nl_table.proofs.laws.a_table_is_of_its_history.Goals as goal

pub returns : goal.returns
returns c = record { answer = named-table; names = contains-answer; distinct = distinct-table; order = table_in_order }
