use Rattle.nl_lines.proofs.NewlineLemmas.{no_whole_line, take-whole_len}
use Rattle.nl_lines.proofs.SplitLemmas.{SplitsInto_total, SplitsInto_unique, whole_len-torn_len}
use Rattle.nl_lines.proofs.laws.a_text_splits_one_way.Goals as goal

pub returns : goal.returns
returns c = record {
  exists = SplitsInto_total;
  one = SplitsInto_unique;
  length = whole_len-torn_len;
  whole = take-whole_len;
  nothing = no_whole_line;
}
