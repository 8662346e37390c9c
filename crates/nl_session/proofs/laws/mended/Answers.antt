use Rattle.nl_session.proofs.MendLemmas.{hash_over, intent_found, intent_stands, intents_again, mended_reads_so, names_over, other_found}
use Rattle.nl_session.proofs.laws.mended.Goals as goal

pub returns : goal.returns
returns c = record {
  named = intent_found;
  intents = intent_stands;
  others = other_found;
  hash = hash_over;
  places = names_over;
  again = intents_again;
  reads = mended_reads_so;
}
