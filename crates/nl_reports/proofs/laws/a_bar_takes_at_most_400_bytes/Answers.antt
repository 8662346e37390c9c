use Rattle.nl_reports.proofs.SizeLemmas.{bar_size, all_bars_size}
use Rattle.nl_reports.proofs.PictureLemmas.{bar_within}
use Rattle.nl_reports.proofs.laws.a_bar_takes_at_most_400_bytes.Goals as goal

pub returns-clause-one : goal.returns-clause-one
returns-clause-one c = bar_size

pub returns-clause-all : goal.returns-clause-all
returns-clause-all c = all_bars_size

pub returns-clause-within : goal.returns-clause-within
returns-clause-within c = bar_within
