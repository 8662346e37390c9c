-- The first lane that is free, and the ends of the lanes.
use Rattle.std.proofs.Common.{◌≡◌, ℕ, zero, suc, ◌+◌, ◌<◌, ◌≤◌, List, [], ◌∷◌, ◌++◌, length, get_or, set, refl, sym, ap, subst, inl, inr, arith, ◌∙◌}
use Rattle.std.specs.Prelude.{slice_index}
use Rattle.std.proofs.lemmas.Bool.Decides.{leb_tells}
use Rattle.std.proofs.lemmas.Bool.{le-leb, lt-leb}
use Rattle.nl_reports.specs.Spans.{closed_of}
use Rattle.nl_reports.specs.declared.moments.Span.{Span}
use Rattle.nl_reports.specs.Lanes.{AreBusy, first_free, given, lanes_from}

-- the lanes before this one are busy at a moment
abbrev pub AllBusy : ℕ → List ℕ → ℕ → Type 0
AllBusy at ends lane = (i : ℕ) → i < lane → at < get_or ends i 0

pub free_at : (at : ℕ) (ends : List ℕ) (lane : ℕ) → lane < length ends → AllBusy at ends lane → get_or ends lane 0 ≤ at → first_free at ends ≡ lane
free_at at [] lane within busy free = absurd (omega arith)
free_at at (e ∷ ends) zero within busy free = rw (le-leb e at free) refl
free_at at (e ∷ ends) (suc lane) within busy free =
    let rest : first_free at ends ≡ lane = free_at at ends lane (omega (arith, within)) (λ i before. busy (suc i) (omega (arith, before))) free in
    rw (lt-leb e at (busy 0 (omega arith))) (ap suc rest)

pub none_free : (at : ℕ) (ends : List ℕ) → AllBusy at ends (length ends) → first_free at ends ≡ length ends
none_free at [] busy = refl
none_free at (e ∷ ends) busy =
    rw (lt-leb e at (busy 0 (omega arith))) (ap suc (none_free at ends (λ i before. busy (suc i) (omega (arith, before)))))

-- the blocks before one are busy, and in it the lanes before a free one
pub free_behind : (at from lane : ℕ) (ends now : List ℕ) → now ≡ ends → AreBusy at 0 from ends → AreBusy at from lane now
    → slice_index now lane ≤ at → lane < length now → lane ≡ first_free at ends
free_behind at from lane ends now same before after free there =
    let first : AreBusy at 0 from now = subst (AreBusy at 0 from) (sym same) before in
    let busy : AllBusy at now lane = λ i within. elim (leb_tells from i) [
      | inl h ↦ after i h.1 within (omega (arith, within, there))
      | inr h ↦ first i (omega arith) h.1 (omega (arith, within, there))
    ] in
    sym (free_at at now lane there busy free) ∙ ap (first_free at) same

-- all blocks are busy
pub none_behind : (at to : ℕ) (ends : List ℕ) → AreBusy at 0 to ends → length ends ≤ to → length ends ≡ first_free at ends
none_behind at to ends busy all = sym (none_free at ends (λ i within. busy i (omega arith) (omega (arith, within, all)) within))

pub given_new : (ends : List ℕ) (lane end : ℕ) → lane ≡ length ends → set (ends ++ end ∷ []) lane end ≡ given lane end ends
given_new [] zero end is = refl
given_new [] (suc lane) end is = absurd (omega (arith, is))
given_new (e ∷ ends) zero end is = absurd (omega (arith, is))
given_new (e ∷ ends) (suc lane) end is = ap (λ l. e ∷ l) (given_new ends lane end (omega (arith, is)))

pub given_old : (ends : List ℕ) (lane end : ℕ) → lane < length ends → set ends lane end ≡ given lane end ends
given_old [] lane end within = absurd (omega arith)
given_old (e ∷ ends) zero end within = refl
given_old (e ∷ ends) (suc lane) end within = ap (λ l. e ∷ l) (given_old ends lane end (omega (arith, within)))

pub free_within : (at : ℕ) (ends : List ℕ) → first_free at ends ≤ length ends
free_within at [] = omega arith
free_within at (e ∷ ends) = grind (arith, free_within at ends)

-- ---- all lanes

pub lanes_length : (cs : List Span) (ends : List ℕ) → length (lanes_from ends cs) ≡ length cs
lanes_length [] ends = refl
lanes_length (c ∷ cs) ends = ap suc (lanes_length cs (given (first_free c.began ends) (closed_of c) ends))

given_shorter : (ends : List ℕ) (lane end : ℕ) → length (given lane end ends) ≤ length ends + 1
given_shorter [] lane end = omega arith
given_shorter (e ∷ ends) zero end = omega arith
given_shorter (e ∷ ends) (suc lane) end = omega (arith, given_shorter ends lane end)

pub lane_below : (cs : List Span) (ends : List ℕ) (i : ℕ) → i < length cs → get_or (lanes_from ends cs) i 0 ≤ length ends + i
lane_below [] ends i within = absurd (omega (arith, within))
lane_below (c ∷ cs) ends zero within = omega (arith, free_within c.began ends)
lane_below (c ∷ cs) ends (suc i) within =
    let lane = first_free c.began ends in
    omega (arith, lane_below cs (given lane (closed_of c) ends) i (omega (arith, within)), given_shorter ends lane (closed_of c))
