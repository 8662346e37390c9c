use Rattle.std.proofs.Common.{◌∙◌, Bor, List, ℕ, ap, option_map}
use Rattle.std.proofs.lemmas.Bool.Decides.{Decides-eqb}
use Rattle.std.proofs.lemmas.Slice.Eq.{strip_suffix_is}
use Rattle.nl_tool_change.proofs.ManifestLemmas.{cut_at, uncut}
use Rattle.nl_tool_change.proofs.files.before_rule.Goals as goal

pub returns-in_err-space : goal.returns-in_err-space
returns-in_err-space c = record {
  value = ap (option_map (λ (t : Bor (List ℕ)). t.now)) c.from_residual.ensures ∙ uncut c.args.line.now c.in_err-space.ensures;
}

pub returns : goal.returns
returns c = record {
  value = cut_at c.args.line.now c.in_ok-space.space c.strip_suffix.result c.in_ok-space.ensures
      (strip_suffix_is Decides-eqb _ _ c.strip_suffix.result c.strip_suffix.ensures.cases);
}
