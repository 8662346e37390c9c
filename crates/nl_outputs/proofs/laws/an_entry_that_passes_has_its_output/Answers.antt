use Rattle.nl_outputs.proofs.OutputLemmas.{never_hollow, read_as_made}
use Rattle.nl_outputs.proofs.laws.an_entry_that_passes_has_its_output.Goals as goal

pub returns : goal.returns
returns c = record {
  synced = λ name hash o steps was disk none finds careful. never_hollow name hash o steps was disk none finds careful;
  killed = λ name hash o steps was disk contents none finds calm careful passes read.
      read_as_made name hash o steps was disk.visible contents none finds calm careful passes read;
}
