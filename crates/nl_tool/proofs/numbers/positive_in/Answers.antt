use Rattle.std.proofs.Common.{◌∙◌, ap, append_assoc, ◌≡◌, ◌+◌, ◌≤◌, ℕ, suc, List, [], ◌∷◌, ◌++◌, Bor, append-nil, arith, drop, length, map, sym, subst, refl, inr}
use Rattle.std.proofs.lemmas.List.{at_drop_all}
use Rattle.std.proofs.lemmas.Option.{none-some}
use Rattle.nl_tool.specs.Reports.{ArePositive, IsFirstWrong}
use Rattle.nl_tool.proofs.CountLemmas.{positive_at, positive_behind, wrong_behind, wrong_here}
use Rattle.nl_tool.proofs.numbers.positive_in.Goals as goal

pub loop-text-preserved : goal.loop-text-preserved
loop-text-preserved c =
    let texts = c.args.texts.now in
    let i = c.loop-text.text-index in
    let next : i + 1 ≡ suc i = omega (arith) in
    let more : length c.loop-text.counts.items + suc 0 ≡ length c.push.new.self.items = omega (arith, c.in-Ok.ensures.len) in
    record {
      all = λ rest are. subst (ArePositive (map (λ text. text.now) texts))
          (sym (ap (λ (l : List ℕ). l ++ rest) c.in-Ok.ensures.items ∙ append_assoc c.loop-text.counts.items (c.in-Some.count ∷ []) rest))
          (c.loop-text.invariant.all (c.in-Some.count ∷ rest)
          (positive_behind texts i _ c.in-Some.count rest c.loop-text-test.true c.in-Some.ensures.value
          (subst (λ (k : ℕ). ArePositive (map (λ text. text.now) (drop k texts)) rest) next are)));
      first = λ m wrong.
          let same : suc (length c.loop-text.counts.items + suc m) ≡ suc (length c.push.new.self.items + m) = omega (arith, more) in
          subst (IsFirstWrong (map (λ text. text.now) c.args.texts.now)) same
          (c.loop-text.invariant.first (suc m)
          (wrong_behind texts i _ c.in-Some.count m c.loop-text-test.true c.in-Some.ensures.value
          (subst (λ (k : ℕ). IsFirstWrong (map (λ text. text.now) (drop k texts)) (suc m)) next wrong)));
    }

pub returns-in_default-clause-faults : goal.returns-in_default-clause-faults
returns-in_default-clause-faults c = inr (
  (c.refuse_number.ensures.value, rw c.refuse_number.ensures.why refl),
  rw c.refuse_number.ensures.why
      (subst (IsFirstWrong (map (λ text. text.now) c.args.texts.now)) (omega (arith, c.saturating_add.ensures, c.len.ensures, c.loop-text.counts.small))
      (c.loop-text.invariant.first 0 (wrong_here c.args.texts.now c.loop-text.text-index _ c.loop-text-test.true
      (λ n is. none-some _ (c.in_default.ensures.accepts n is.0 is.1 is.2))))),
  λ counts are.
      let there = positive_at c.args.texts.now counts c.loop-text.text-index _ c.loop-text-test.true are in
      absurd (none-some _ (c.in_default.ensures.accepts there.0 there.1 there.2 there.3)),
)

pub returns-clause-value : goal.returns-clause-value
returns-clause-value c =
    let texts = c.args.texts.now in
    let i = c.loop-text.text-index in
    let counts = c.loop-text.counts.items in
    let all : length texts ≤ i = omega (arith, c.loop-text-test.false) in
    subst (ArePositive (map (λ text. text.now) texts)) (append-nil counts)
    (c.loop-text.invariant.all [] (subst (λ (l : List (Bor (List ℕ))). ArePositive (map (λ text. text.now) l) []) (sym (at_drop_all (λ (l : List (Bor (List ℕ))). l) texts i all)) tt))
