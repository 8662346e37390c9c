-- The steps of a sweep.
use Rattle.std.proofs.Common.{◌≡◌, ◌∙◌, ℕ, zero, suc, ◌+◌, ◌-◌, ◌*◌, ◌<◌, ◌≤◌, true, false, cond, List, [], ◌∷◌, ◌++◌, length, map, take, get_or}
use Rattle.std.proofs.Common.{sym, ap, arith, inl, inr}
use Rattle.std.specs.Prelude.{count_by, nat_le}
use Rattle.std.proofs.lemmas.Bool.{cases_lt}
use Rattle.std.proofs.lemmas.Bool.Decides.{nat_tests}
use Rattle.std.proofs.lemmas.List.{length-append, map_more}
use Rattle.std.proofs.lemmas.List.Sums.{sum_by-cons}
use Rattle.nl_reports.specs.Sweep.{before, share_of, any_of, alone_of}
use Rattle.nl_reports.specs.SweepSteps.{AreSums, IsLow, IsSwept, Rises, Swept, running_by, shares_before}
use Rattle.nl_reports.specs.declared.moments.Sums.{Sums}
use Rattle.nl_reports.proofs.SweepLemmas.{before-constant}

-- the sums at a moment up to which so many run
constant_up_to : (f : ℕ → ℕ) (at next v : ℕ) → at ≤ next → ((t : ℕ) → at ≤ t → t < next → f t ≡ v)
    → before f next ≡ before f at + (next - at) * v
constant_up_to f at next v order same =
    let whole : at + (next - at) ≡ next = omega arith in
    ap (before f) (sym whole) ∙ before-constant f at (next - at) v (λ t low high. same t low (omega arith))

pub sums_advance : (old : Sums) (next running : ℕ) (k : ℕ → ℕ) → old.at ≤ next → ((t : ℕ) → old.at ≤ t → t < next → k t ≡ running)
    → AreSums k old → AreSums k (record {
      at = next;
      shares = old.shares + (next - old.at) * share_of running;
      busy = old.busy + (next - old.at) * any_of running;
      alone = old.alone + (next - old.at) * alone_of running;
    })
sums_advance old next running k order same sums = record {
  shares = omega (
    arith,
    sums.shares,
    constant_up_to (λ t. share_of (k t)) old.at next (share_of running) order
        (λ t low high. ap share_of (same t low high)),
  );
  busy = omega (
    arith,
    sums.busy,
    constant_up_to (λ t. any_of (k t)) old.at next (any_of running) order
        (λ t low high. ap any_of (same t low high)),
  );
  alone = omega (
    arith,
    sums.alone,
    constant_up_to (λ t. alone_of (k t)) old.at next (alone_of running) order
        (λ t low high. ap alone_of (same t low high)),
  );
}

-- how many of some moments aren't after one, where the first i aren't and the others are
counted_to : (xs : List ℕ) (i t : ℕ) → i ≤ length xs → ((k : ℕ) → k < i → get_or xs k 0 ≤ t)
    → ((k : ℕ) → i ≤ k → k < length xs → t < get_or xs k 0) → count_by (λ x. nat_le x t) xs ≡ i
counted_to [] i t within first later = omega (arith, within)
counted_to (x ∷ xs) zero t within first later =
    let after : t < x = later 0 (omega arith) (omega arith) in
    let not : nat_le x t ≡ false = grind (arith, nat_tests) in
    let rest = counted_to xs 0 t (omega arith) (λ k below. absurd (omega arith)) (λ k low high. later (suc k) (omega arith) (omega arith)) in
    sum_by-cons (λ y. cond (nat_le y t) 1 0) x xs ∙ (rw not (omega (arith, rest)))
counted_to (x ∷ xs) (suc i) t within first later =
    let before : x ≤ t = first 0 (omega arith) in
    let yes : nat_le x t ≡ true = grind (arith, nat_tests) in
    let rest = counted_to xs i t (omega (arith, within)) (λ k below. first (suc k) (omega arith))
    (λ k low high. later (suc k) (omega arith) (omega arith)) in
    sum_by-cons (λ y. cond (nat_le y t) 1 0) x xs ∙ (rw yes (omega (arith, rest)))

-- up to the next start or end, as many run
module _ (starts ends : List ℕ) (s : Swept) (swept : IsSwept starts ends s) (next : ℕ) where
  pub steady_until : ((k : ℕ) → (length s.at_starts) ≤ k → k < length starts → next ≤ get_or starts k 0)
      → ((k : ℕ) → (length s.at_ends) ≤ k → k < length ends → next ≤ get_or ends k 0)
      → (t : ℕ) → s.sums.at ≤ t → t < next → running_by starts ends t ≡ (length s.at_starts) - (length s.at_ends)
  steady_until begins ends_later t low high =
      let first = counted_to starts (length s.at_starts) t swept.begun (λ k below. omega (arith, swept.began k below))
      (λ k from within. omega (arith, begins k from within)) in
      let second = counted_to ends (length s.at_ends) t swept.ended (λ k below. omega (arith, swept.has_ended k below))
      (λ k from within. omega (arith, ends_later k from within)) in
      omega (arith, first, second)

  pub swept_start : (new : Swept) → Rises starts → (length s.at_starts) < length starts → get_or starts (length s.at_starts) 0 ≡ next → s.sums.at ≤ next
      → ((k : ℕ) → (length s.at_ends) ≤ k → k < length ends → next ≤ get_or ends k 0)
      → IsLow new.sums → AreSums (running_by starts ends) new.sums → new.sums.at ≡ next
      → new.at_starts ≡ s.at_starts ++ new.sums.shares ∷ []
      → new.at_ends ≡ s.at_ends → IsSwept starts ends new
  swept_start new rises more is order ends_later low sums at at_starts at_ends =
      let begun : length new.at_starts ≡ length s.at_starts + 1 = ap length at_starts ∙ length-append s.at_starts (new.sums.shares ∷ []) in
      let ended : length new.at_ends ≡ length s.at_ends = ap length at_ends in
      record {
        low = low;
        begun = omega arith;
        ended = omega (arith, swept.ended);
        began = λ k below. elim (cases_lt k (length s.at_starts)) [
          | inl h ↦ omega (arith, swept.began k h)
          | inr h ↦ let same : k ≡ (length s.at_starts) = omega arith in omega (arith, ap (λ (j : ℕ). get_or starts j 0) same)
        ];
        begins = λ k from within. omega (arith, rises.order (length s.at_starts) k (omega arith) within);
        has_ended = λ k below. omega (arith, swept.has_ended k (omega arith));
        ends_later = λ k from within. omega (arith, ends_later k (omega arith) within);
        sums = sums;
        at_starts = at_starts ∙ ap (λ (l : List ℕ). l ++ new.sums.shares ∷ []) swept.at_starts
            ∙ ap (λ (v : ℕ). map (shares_before starts ends) (take (length s.at_starts) starts) ++ v ∷ [])
            (sums.shares ∙ ap (shares_before starts ends) (at ∙ sym is))
            ∙ sym (map_more (shares_before starts ends) starts (length s.at_starts) 0 more)
            ∙ ap (λ (n : ℕ). map (shares_before starts ends) (take n starts)) (sym begun);
        at_ends = at_ends ∙ swept.at_ends ∙ ap (λ (n : ℕ). map (shares_before starts ends) (take n ends)) (sym ended);
      }

  pub swept_end : (new : Swept) → Rises ends → (length s.at_ends) < length ends → get_or ends (length s.at_ends) 0 ≡ next → s.sums.at ≤ next
      → ((k : ℕ) → (length s.at_starts) ≤ k → k < length starts → next ≤ get_or starts k 0)
      → IsLow new.sums → AreSums (running_by starts ends) new.sums → new.sums.at ≡ next
      → new.at_ends ≡ s.at_ends ++ new.sums.shares ∷ []
      → new.at_starts ≡ s.at_starts → IsSwept starts ends new
  swept_end new rises more is order begins low sums at at_ends at_starts =
      let ended : length new.at_ends ≡ length s.at_ends + 1 = ap length at_ends ∙ length-append s.at_ends (new.sums.shares ∷ []) in
      let begun : length new.at_starts ≡ length s.at_starts = ap length at_starts in
      record {
        low = low;
        begun = omega (arith, swept.begun);
        ended = omega arith;
        began = λ k below. omega (arith, swept.began k (omega arith));
        begins = λ k from within. omega (arith, begins k (omega arith) within);
        has_ended = λ k below. elim (cases_lt k (length s.at_ends)) [
          | inl h ↦ omega (arith, swept.has_ended k h)
          | inr h ↦ let same : k ≡ (length s.at_ends) = omega arith in omega (arith, ap (λ (j : ℕ). get_or ends j 0) same)
        ];
        ends_later = λ k from within. omega (arith, rises.order (length s.at_ends) k (omega arith) within);
        sums = sums;
        at_ends = at_ends ∙ ap (λ (l : List ℕ). l ++ new.sums.shares ∷ []) swept.at_ends
            ∙ ap (λ (v : ℕ). map (shares_before starts ends) (take (length s.at_ends) ends) ++ v ∷ [])
            (sums.shares ∙ ap (shares_before starts ends) (at ∙ sym is))
            ∙ sym (map_more (shares_before starts ends) ends (length s.at_ends) 0 more)
            ∙ ap (λ (n : ℕ). map (shares_before starts ends) (take n ends)) (sym ended);
        at_starts = at_starts ∙ swept.at_starts ∙ ap (λ (n : ℕ). map (shares_before starts ends) (take n starts)) (sym begun);
      }
