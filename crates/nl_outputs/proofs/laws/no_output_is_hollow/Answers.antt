use Rattle.nl_outputs.proofs.OutputLemmas.{begun_never_hollow, new_never_hollow}
use Rattle.nl_outputs.proofs.laws.no_output_is_hollow.Goals as goal

pub returns : goal.returns
returns c = record {
  begun = λ start first intent hash o steps disk told kept apart careful.
      begun_never_hollow start first intent hash o steps disk told kept apart careful;
  new = λ start name hash o steps disk none told careful. new_never_hollow start name hash o steps disk none told careful;
}
