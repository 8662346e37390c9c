use Rattle.nl_tool_change.specs.Calls.{keeping, touching}
use Rattle.nl_tool_change.specs.Files.{keep_of, times_of}
use Rattle.nl_tool_change.proofs.ReadLemmas.{read_first}
use Rattle.nl_tool_change.proofs.laws.files_are_read_first.Goals as goal

pub returns-clause-keep : goal.returns-clause-keep
returns-clause-keep g c = λ known result old new. read_first g.F.Folder keep_of keeping known old new result

pub returns-clause-times : goal.returns-clause-times
returns-clause-times g c = λ known result old new. read_first g.F.Folder times_of touching known old new result
