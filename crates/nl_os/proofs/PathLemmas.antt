-- Where the last of a byte stands in a text.
use Rattle.std.proofs.Common.{◌≡◌, ℕ, zero, suc, ◌+◌, ◌<◌, List, length, get_or, take, drop, Some, None, refl, sym, ap, ◌∙◌, ⊎_elim, arith}
use Rattle.std.proofs.Common.{eq-eqb, ne_eqb}
use Rattle.std.proofs.lemmas.Bool.{cases_eq, cond-true, cond-false}
use Rattle.std.specs.Prelude.{option_map}
use Rattle.std.specs.Path.{rfind_below, rsplit_once}

rfind_below-none : (c : ℕ) (text : List ℕ) (n : ℕ) → ((i : ℕ) → i < n → get_or text i 0 ≡ c → ⊥) → rfind_below c text n ≡ None
rfind_below-none c text zero lacks = refl
rfind_below-none c text (suc n) lacks =
    cond-false _ _ _ (ne_eqb _ c (lacks n (omega arith))) ∙ rfind_below-none c text n (λ i below. lacks i (omega arith))

rfind_below-last : (c : ℕ) (text : List ℕ) (at n : ℕ) → at < n → get_or text at 0 ≡ c → ((i : ℕ) → at < i → i < n → get_or text i 0 ≡ c → ⊥)
    → rfind_below c text n ≡ Some at
rfind_below-last c text at zero below is last = absurd (omega arith)
rfind_below-last c text at (suc n) below is last =
    ⊎_elim
    (λ here. cond-true _ _ _ (eq-eqb _ c (ap (λ i. get_or text i 0) (sym here) ∙ is)) ∙ ap (λ i. Some i) (sym here))
    (λ other. cond-false _ _ _ (ne_eqb _ c (last n (omega arith) (omega arith)))
    ∙ rfind_below-last c text at n (omega arith) is (λ i after under. last i after (omega arith)))
    (cases_eq at n)

pub rsplit_once-none : (c : ℕ) (text : List ℕ) → ((i : ℕ) → i < length text → get_or text i 0 ≡ c → ⊥) → rsplit_once c text ≡ None
unfolding rsplit_once
rsplit_once-none c text lacks = ap (option_map (λ i. (take i text, drop (i + 1) text))) (rfind_below-none c text (length text) lacks)

pub rsplit_once-last : (c : ℕ) (text : List ℕ) (at : ℕ) → at < length text → get_or text at 0 ≡ c
    → ((i : ℕ) → at < i → i < length text → get_or text i 0 ≡ c → ⊥) → rsplit_once c text ≡ Some (take at text, drop (at + 1) text)
unfolding rsplit_once
rsplit_once-last c text at below is last =
    ap (option_map (λ i. (take i text, drop (i + 1) text))) (rfind_below-last c text at (length text) below is last)
