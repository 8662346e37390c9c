use Rattle.nl_lines.proofs.LimitLemmas.{run_of_text_beyond, run_of_text_within}
use Rattle.nl_lines.proofs.RunLemmas.{run_of_text}
use Rattle.nl_lines.proofs.laws.a_run_shows_the_text.Goals as goal

pub returns : goal.returns
returns c = record { text = run_of_text; within = run_of_text_within; too_large = run_of_text_beyond }
