use Rattle.nl_c.specs.contracts.carried_folder.CarriedFolderFolder.TheImpl.{ghosts}
use Rattle.nl_c.specs.Carried.{LacksRoom}
use Rattle.nl_c.proofs.FaultLemmas.{faults_where, carried_lacks}
use Rattle.nl_c.proofs.laws.a_fault_is_want_of_room.Goals as goal

pub returns : goal.returns
returns c = faults_where ghosts LacksRoom carried_lacks
