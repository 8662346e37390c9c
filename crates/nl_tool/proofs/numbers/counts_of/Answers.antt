use Rattle.std.proofs.Common.{◌≡◌, ◌∙◌, ◌==◌, rules, tests, List, ℕ, Bor, Option, ap, map, subst, sym}
use Rattle.std.specs.Prelude.{IfErr, IfOk}
use Rattle.std.specs.List.{slice_split}
use Rattle.std.proofs.lemmas.Iterator.Consumers.{map_from_collect}
use Rattle.std.proofs.lemmas.Iterator.Splits.{YieldsList-from_slice_split}
use Rattle.nl_tool.specs.Reports.{AreCounts, ArePositive, IsNoCounts, IsNotPositive}
use Rattle.nl_tool.proofs.numbers.counts_of.Goals as goal

pub returns : goal.returns
returns c =
    let all = map_from_collect _ c.collect.ensures.ran
    (YieldsList-from_slice_split _ (λ b. b == 44) c.as_bytes.result.now c.split.ensures.rest c.split.ensures.done c.split.ensures.closure (λ x r q k. search (rules, tests))) in
    let split : map (λ t. t.now) c.in_ok-texts.texts.items ≡ slice_split (λ b. b == 44) c.as_bytes.result.now = rw c.in_ok-texts.was at all in
    let texts : map (λ t. t.now) c.as_slice.result.now ≡ slice_split (λ b. b == 44) c.in-Some.jobs.now =
    ap (map (λ t. t.now)) c.as_slice.ensures.value ∙ split ∙ ap (slice_split (λ b. b == 44)) c.as_bytes.ensures.value in
    record {
      value = subst (λ (o : Option (Bor (List ℕ))). IfOk c.positive_in.result (λ counts. AreCounts o counts.items)) (sym c.in-Some.is)
          (subst (λ (l : List (List ℕ)). IfOk c.positive_in.result (λ counts. ArePositive l counts.items)) texts c.positive_in.ensures.value);
      faults = subst (λ (o : Option (Bor (List ℕ))). IfErr c.positive_in.result (IsNoCounts o c.positive_in.new.told.number)) (sym c.in-Some.is)
          (subst (λ (l : List (List ℕ)). IfErr c.positive_in.result (IsNotPositive l c.positive_in.new.told.number)) texts c.positive_in.ensures.faults);
    }
