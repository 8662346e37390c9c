use Rattle.nl_tool_change.proofs.DamageLawLemmas.{damage_counts, repaired_whole}
use Rattle.nl_tool_change.proofs.laws.damage_is_what_check_counts.Goals as goal

pub returns-clause-counts : goal.returns-clause-counts
returns-clause-counts c = damage_counts

pub returns-clause-repaired : goal.returns-clause-repaired
returns-clause-repaired c = repaired_whole
