use Rattle.nl_distrust.proofs.TrustLemmas.{whole_found, whole_log}
use Rattle.nl_distrust.proofs.WholeLemmas.{whole_by_counts}
use Rattle.nl_distrust.proofs.laws.a_whole_log_is_trusted.Goals as goal

pub returns : goal.returns
returns c = record {
  entries = λ version bytes each none. whole_log version bytes each none;
  whole = λ version bytes es is. whole_found version bytes es is;
  counts = λ version bytes es reads. whole_by_counts version bytes es reads;
}
