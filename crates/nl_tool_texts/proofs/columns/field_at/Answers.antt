use Rattle.std.proofs.Common.{◌∙◌, ℕ, List, [], Option, ap, refl, rules, tests}
use Rattle.std.specs.Option.{unwrap_or}
use Rattle.std.proofs.lemmas.Iterator.Consumers.{nth_from_yields_List}
use Rattle.std.proofs.lemmas.Iterator.Splits.{YieldsList-from_slice_split}
use Rattle.nl_tool_texts.proofs.CellLemmas.{found_or}
use Rattle.nl_tool_texts.proofs.columns.field_at.Goals as goal

pub returns : goal.returns
returns c = record {
  value =
      ap (λ x. x.now) c.unwrap_or.ensures ∙ found_or c.nth.result _ refl ∙ ap (λ (o : Option (List ℕ)). unwrap_or o []) (nth_from_yields_List _ _ c.args.place c.nth.ensures.ran
      (YieldsList-from_slice_split _ _ c.args.line.now c.split.ensures.rest c.split.ensures.done c.split.ensures.closure (λ x r q k. search (rules, tests))));
}
