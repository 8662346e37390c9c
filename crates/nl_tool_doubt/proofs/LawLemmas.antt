-- What a reader could doubt of the rule.
use Rattle.std.proofs.Common.{◌≡◌, ◌⊎◌, ◌∙◌, ℕ, ◌+◌, ◌-◌, ◌<◌, ◌≤◌, Bool, true, false, cond, List, [], ◌∷◌, Option, None, Some, refl, sym, ap, subst, arith, inl, inr, zero, suc, length, get_or, map}
use Rattle.std.specs.Prelude.{ℤ, pos, negsuc, int_lt, nat_le, min, max, if◌then◌else◌}
use Rattle.std.specs.List.{Contains}
use Rattle.std.specs.Ordering.{int_eq}
use Rattle.std.proofs.lemmas.Bool.{cond-true}
use Rattle.std.proofs.lemmas.Bool.Decides.{leb_tells, nat_tests}
use Rattle.std.proofs.lemmas.List.{get_or-map, length-map}
use Rattle.nl_fields.specs.declared.entry.Entry.{Entry}
use Rattle.nl_versions.specs.declared.entries.Stamps.{Stamps}
use Rattle.nl_versions.specs.declared.entries.Stamps.TheVariants.{OfStart}
use Rattle.nl_tool_doubt.specs.Judging.{doubt_behind, doubt_by, doubt_from, ended, is_newer, written}
use Rattle.nl_tool_doubt.specs.Moments.{at_of, begun, bound, least_from, lo_of, m_of, nearest, tells, tick_of}
use Rattle.nl_tool_doubt.specs.declared.judge.Doubt.{Doubt}
use Rattle.nl_tool_doubt.specs.declared.judge.Doubt.TheVariants.{Newer, NoTime}

-- by whether there is a time, and whether the file is behind it
abbrev told : Bool → Bool → Option Doubt → Option Doubt
told none behind d = if none then Some NoTime else if behind then d else None

pub not_behind : (stamps : Stamps) (ls : List Entry) (e : Entry) (time last : ℤ) → int_lt e.mtime last ≡ false
    → doubt_by stamps ls e time last ≡ (if int_eq e.mtime (pos 0) then Some NoTime else None)
not_behind stamps ls e time last is = ap (λ (b : Bool). told (int_eq e.mtime (pos 0)) b (doubt_behind stamps ls e time last)) is

-- ---- the least moment

pub least_up : (from own : ℕ) (ms : List ℕ) → least_from from own ms ≤ own
least_up from own [] = omega arith
least_up from own (m ∷ ms) = more (nat_le from m) (least_up from own ms)
  where
    more : (b : Bool) → least_from from own ms ≤ own → cond b (min m (least_from from own ms)) (least_from from own ms) ≤ own
    more true h = omega (arith, h)
    more false h = h

pub late : (ls : List Entry) (e : Entry) → begun ls e ≤ m_of e
late ls e = least_up _ (m_of e) (map m_of ls)

least_of : (from own : ℕ) (ms : List ℕ) → (least_from from own ms ≡ own) ⊎ Contains ms (least_from from own ms)
least_of from own [] = inl refl
least_of from own (m ∷ ms) = more (nat_le from m) (least_of from own ms)
  where
    rest : ℕ
    rest = least_from from own ms

    later : (n : ℕ) → Contains ms n → Contains (m ∷ ms) n
    later n h = (suc h.0, omega (arith, h.1), h.2)

    more : (b : Bool) → (rest ≡ own) ⊎ Contains ms rest → (cond b (min m rest) rest ≡ own) ⊎ Contains (m ∷ ms) (cond b (min m rest) rest)
    more false (inl h) = inl h
    more false (inr h) = inr (later rest h)
    more true h = elim (leb_tells m rest) [
      | inl le ↦ let is : m ≡ min m rest = omega (arith, le.1) in inr (0, omega arith, is)
      | inr le ↦ let is : rest ≡ min m rest = omega (arith, le.1) in elim h [
        | inl same ↦ inl (sym is ∙ same)
        | inr there ↦ inr (subst (λ n. Contains (m ∷ ms) n) is (later rest there))
      ]
    ]

own_there : (ls : List Entry) (e : Entry) → Contains ls e → Contains (map m_of ls) (m_of e)
own_there ls e h =
    (h.0, omega (arith, h.1, length-map ls m_of), get_or-map m_of ls h.0 e (m_of e) h.1 ∙ ap m_of h.2)

pub of_a_line : (ls : List Entry) (e : Entry) → Contains ls e → Contains (map m_of ls) (begun ls e)
of_a_line ls e there = elim (least_of _ (m_of e) (map m_of ls)) [
  | inl own ↦ subst (λ n. Contains (map m_of ls) n) (sym own) (own_there ls e there)
  | inr h ↦ h
]

-- a moment that is no later than the first that counts, and than a line's own, is no later than the least
least_low : (v from own : ℕ) (ms : List ℕ) → v ≤ own → v ≤ from → v ≤ least_from from own ms
least_low v from own [] low first = low
least_low v from own (m ∷ ms) low first = elim (leb_tells from m) [
  | inl h ↦ subst (λ b. v ≤ cond b (min m (least_from from own ms)) (least_from from own ms)) (sym h.0)
      (omega (arith, least_low v from own ms low first, h.1, first))
  | inr h ↦ subst (λ b. v ≤ cond b (min m (least_from from own ms)) (least_from from own ms)) (sym h.0) (least_low v from own ms low first)
]

-- L is no earlier than MTIME less END of a line
bounded : (ls : List Entry) (e : Entry) (k : ℕ) (d : Entry) → k < length ls → get_or ls k d ≡ e → lo_of e ≤ bound ls (at_of e)
bounded [] e k d within is = absurd (omega arith)
bounded (x ∷ xs) e zero d within is =
    let here : nat_le (at_of x) (at_of e) ≡ true = grind (arith, nat_tests, ap at_of is) in
    subst (λ b. lo_of e ≤ cond b (max (lo_of x) (bound xs (at_of e))) (bound xs (at_of e))) (sym here) (omega (arith, ap lo_of is))
bounded (x ∷ xs) e (suc k) d within is = more (nat_le (at_of x) (at_of e)) (bounded xs e k d (omega (arith, within)) is)
  where
    more : (b : Bool) → lo_of e ≤ bound xs (at_of e) → lo_of e ≤ cond b (max (lo_of x) (bound xs (at_of e))) (bound xs (at_of e))
    more true h = omega (arith, h)
    more false h = h

pub early : (ls : List Entry) (e : Entry) → Contains ls e → lo_of e ≤ m_of e → lo_of e ≤ begun ls e + 5 + tick_of ls
early ls e there order =
    let from : ℕ = max (bound ls (at_of e) - (5 + tick_of ls)) (nearest ls (m_of e)) in
    let low : lo_of e ≤ bound ls (at_of e) = bounded ls e there.0 e there.1 there.2 in
    let least : lo_of e - (5 + tick_of ls) ≤ begun ls e =
    least_low (lo_of e - (5 + tick_of ls)) from (m_of e) (map m_of ls) (omega (arith, order)) (omega (arith, low)) in
    omega (arith, least)

-- ---- behind the end

newer_still : (ls : List Entry) (e : Entry) (last : ℤ) → is_newer (tick_of ls) (ended (m_of e) e) (written last) ≡ true
    → is_newer (tick_of ls) (ended (begun ls e) e) (written last) ≡ true
newer_still ls e last is =
    let before : begun ls e ≤ m_of e = late ls e in
    grind (arith, nat_tests, is, before)

pub behind_newer : (ls : List Entry) (e : Entry) (time last : ℤ) → tells e ≡ true → int_lt e.mtime last ≡ true
    → is_newer (tick_of ls) (ended (m_of e) e) (written last) ≡ true → int_eq e.mtime (pos 0) ≡ false → doubt_by OfStart ls e time last ≡ Some Newer
behind_newer ls e time last tell behind newer some =
    (λ i. told (some i) (behind i) (doubt_behind OfStart ls e time last))
    ∙ ap (λ (b : Bool). cond b (doubt_from ls e time last) (Some Newer)) tell
    ∙ cond-true (is_newer (tick_of ls) (ended (begun ls e) e) (written last)) (Some Newer) _ (newer_still ls e last newer)

-- a time above 0 is one
pub timed : (z : ℤ) → int_lt (pos 0) z ≡ true → int_eq z (pos 0) ≡ false
timed (pos zero) is = absurd (cc is)
timed (pos (suc n)) is = grind (arith, nat_tests)
timed (negsuc n) is = absurd (cc is)
