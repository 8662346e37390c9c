-- What bytes become in the text of XML.
use Rattle.std.proofs.Common.{◌≡◌, ◌∙◌, take, ◌≢◌, ◌-◌, zero, suc, ℕ, ◌<◌, ◌≤◌, ◌==◌, ◌&&◌, cond, true, false, List, [], ◌∷◌, ◌++◌, length, min, refl, sym, ap, subst, arith, inl, inr, Bool}
use Rattle.std.specs.Prelude.{nat_le}
use Rattle.std.specs.List.{All}
use Rattle.std.specs.Str.{IsCharBoundary}
use Rattle.std.specs.Str.Lossy.{utf8_lossy}
use Rattle.std.proofs.lemmas.Bool.{cases_lt, cond-false, false_from_ne_true, lt-leb}
use Rattle.std.proofs.lemmas.Option.{slice_get-get_or, slice_get_past}
use Rattle.std.proofs.lemmas.Bool.Decides.{eqb_tells, leb_tells, nat_tests}
use Rattle.std.proofs.lemmas.List.Elements.{All-append, All-cons, All-nil}
use Rattle.nl_tool_texts.specs.Escape.{IsMadeOfPieces, IsPiece, IsPlain, IsQuiet, begins_character, cut_at, cut_name, cut_text, escaped, escaped_behind, last_begin, piece}

plain : (c : ℕ) → 63 ≤ c → IsPlain c
plain c high = ((omega (arith, high), ((λ e. omega (arith, high, e)), ((λ e. omega (arith, high, e)), (λ e. omega (arith, high, e))))), λ e. omega (arith, high, e))

replacement : All IsPlain (239 ∷ 191 ∷ 189 ∷ [])
replacement =
    All-cons IsPlain 239 (191 ∷ 189 ∷ []) (plain 239 (omega arith))
    (All-cons IsPlain 191 (189 ∷ []) (plain 191 (omega arith)) (All-cons IsPlain 189 [] (plain 189 (omega arith)) (All-nil IsPlain)))

-- a byte that is none of the four
plain_made : (a b c : ℕ) → (c ≢ 60) → (c ≢ 62) → (c ≢ 34) → (c ≢ 38)
    → All IsPlain (cond (nat_le c 31) (239 ∷ 191 ∷ 189 ∷ []) (cond (a == 239 && (b == 191 && nat_le 190 c)) (189 ∷ []) (c ∷ [])))
plain_made a b c less more quote and =
    elim (leb_tells c 31) [
      | inl h ↦ rw h.0 replacement
      | inr h ↦ rw h.0 (last (a == 239 && (b == 191 && nat_le 190 c)) h.1)
    ]
  where
    last : (t : Bool) → 31 < c → All IsPlain (cond t (189 ∷ []) (c ∷ []))
    last true high = All-cons IsPlain 189 [] (plain 189 (omega arith)) (All-nil IsPlain)
    last false high = All-cons IsPlain c [] ((omega (arith, high), (less, (more, quote))), and) (All-nil IsPlain)

pub piece_made : (a b c : ℕ) → IsPiece (piece a b c)
piece_made a b c =
    elim (eqb_tells c 60) [
      | inl h ↦ rw h.0 (inl refl)
      | inr less ↦
          rw less.0 (elim (eqb_tells c 62) [
            | inl h ↦ rw h.0 (inr (inl refl))
            | inr more ↦
                rw more.0 (elim (eqb_tells c 34) [
                  | inl h ↦ rw h.0 (inr (inr (inl refl)))
                  | inr quote ↦
                      rw quote.0 (elim (eqb_tells c 38) [
                        | inl h ↦ rw h.0 (inr (inr (inr (inl refl))))
                        | inr and ↦ rw and.0 (inr (inr (inr (inr (plain_made a b c less.1 more.1 quote.1 and.1)))))
                      ])
                ])
          ])
    ]

-- ---- all of a text

pub text_made : (a b : ℕ) (text : List ℕ) → IsMadeOfPieces (escaped_behind a b text)
text_made a b [] = record { pieces = []; is = refl; each = All-nil IsPiece }
text_made a b (c ∷ cs) =
    let rest = text_made b c cs in
    record {
      pieces = piece a b c ∷ rest.pieces;
      is = ap (λ (l : List ℕ). piece a b c ++ l) rest.is;
      each = All-cons IsPiece (piece a b c) rest.pieces (piece_made a b c) rest.each;
    }

-- ---- no piece has a byte that isn't quiet

quiet : (c : ℕ) → 35 ≤ c → c ≤ 59 → IsQuiet c
quiet c low high = (omega (arith, low), ((λ e. omega (arith, high, e)), ((λ e. omega (arith, high, e)), (λ e. omega (arith, low, e)))))

high_quiet : (c : ℕ) → 63 ≤ c → IsQuiet c
high_quiet c high = (plain c high).0

plain_quiet : (p : List ℕ) → All IsPlain p → All IsQuiet p
plain_quiet p all k d within = (all k d within).0

-- an entity by a number whose first digit is 3
number : (d : ℕ) → 35 ≤ d → d ≤ 59 → All IsQuiet (38 ∷ 35 ∷ 51 ∷ d ∷ 59 ∷ [])
number d low high =
    All-cons IsQuiet 38 (35 ∷ 51 ∷ d ∷ 59 ∷ []) (quiet 38 (omega arith) (omega arith))
    (All-cons IsQuiet 35 (51 ∷ d ∷ 59 ∷ []) (quiet 35 (omega arith) (omega arith))
    (All-cons IsQuiet 51 (d ∷ 59 ∷ []) (quiet 51 (omega arith) (omega arith))
    (All-cons IsQuiet d (59 ∷ []) (quiet d low high) (All-cons IsQuiet 59 [] (quiet 59 (omega arith) (omega arith)) (All-nil IsQuiet)))))

piece_quiet : (p : List ℕ) → IsPiece p → All IsQuiet p
piece_quiet p (inl h) =
    subst (All IsQuiet) (sym h) (All-cons IsQuiet 38 (108 ∷ 116 ∷ 59 ∷ []) (quiet 38 (omega arith) (omega arith))
    (All-cons IsQuiet 108 (116 ∷ 59 ∷ []) (high_quiet 108 (omega arith)) (All-cons IsQuiet 116 (59 ∷ []) (high_quiet 116 (omega arith))
    (All-cons IsQuiet 59 [] (quiet 59 (omega arith) (omega arith)) (All-nil IsQuiet)))))
piece_quiet p (inr (inl h)) =
    subst (All IsQuiet) (sym h) (All-cons IsQuiet 38 (103 ∷ 116 ∷ 59 ∷ []) (quiet 38 (omega arith) (omega arith))
    (All-cons IsQuiet 103 (116 ∷ 59 ∷ []) (high_quiet 103 (omega arith)) (All-cons IsQuiet 116 (59 ∷ []) (high_quiet 116 (omega arith))
    (All-cons IsQuiet 59 [] (quiet 59 (omega arith) (omega arith)) (All-nil IsQuiet)))))
piece_quiet p (inr (inr (inl h))) = subst (All IsQuiet) (sym h) (number 52 (omega arith) (omega arith))
piece_quiet p (inr (inr (inr (inl h)))) = subst (All IsQuiet) (sym h) (number 56 (omega arith) (omega arith))
piece_quiet p (inr (inr (inr (inr h)))) = plain_quiet p h

pub text_quiet : (a b : ℕ) (text : List ℕ) → All IsQuiet (escaped_behind a b text)
text_quiet a b [] = All-nil IsQuiet
text_quiet a b (c ∷ cs) =
    All-append IsQuiet (piece a b c) (escaped_behind b c cs) (piece_quiet (piece a b c) (piece_made a b c)) (text_quiet b c cs)

-- ---- where a character begins

-- the last place up to another at which one begins
last_begin_is : (k at : ℕ) (text : List ℕ) → at ≤ k → begins_character at text ≡ true
    → ((i : ℕ) → at < i → i ≤ k → begins_character i text ≡ false) → last_begin k text ≡ at
unfolding last_begin
last_begin_is zero at text low here none = omega (arith, low)
last_begin_is (suc k) at text low here none =
    elim (cases_lt k at) [
      | inl h ↦
          let is : suc k ≡ at = omega (arith, h, low) in
          rw (ap (λ (n : ℕ). begins_character n text) is ∙ here) is
      | inr h ↦
          rw (none (suc k) (omega (arith, h)) (omega arith)) (last_begin_is k at text h here (λ i more within. none i more (omega (arith, within))))
    ]

begins_boundary : (i : ℕ) (text : List ℕ) → IsCharBoundary text i → begins_character i text ≡ true
begins_boundary i text is = elim (cases_lt i (length text)) [
  | inl h ↦ let lead = is.1 h in rw (slice_get-get_or text i 0 h) (grind (arith, nat_tests))
  | inr h ↦ rw (slice_get_past text i h) refl
]

boundary_begins : (i : ℕ) (text : List ℕ) → i ≤ length text → begins_character i text ≡ true → IsCharBoundary text i
boundary_begins i text low is = (low, λ less high. let t = rw (slice_get-get_or text i 0 less) at is in grind (arith, nat_tests))

pub floor_cut : (most at : ℕ) (text : List ℕ) → at ≤ most → IsCharBoundary text at
    → ((i : ℕ) → at < i → i ≤ most → ¬ IsCharBoundary text i) → at ≡ cut_at most text
floor_cut most at text low here none =
    sym (last_begin_is (min most (length text)) at text (omega (arith, low, here.0)) (begins_boundary at text here)
    (λ i more within. false_from_ne_true (begins_character i text) (λ is. none i more (omega (arith, within)) (boundary_begins i text (omega (arith, within)) is))))

pub name_cut : (most at : ℕ) (name text : List ℕ) → text ≡ utf8_lossy name → most < length text → at ≡ cut_at (most - 1) text
    → escaped (take at text) ++ 226 ∷ 128 ∷ 166 ∷ [] ≡ cut_name most name
name_cut most at name text is long cut =
    ap (λ (n : ℕ). escaped (take n text) ++ 226 ∷ 128 ∷ 166 ∷ []) cut
    ∙ sym (cond-false (nat_le (length text) most) (escaped text) _ (lt-leb (length text) most long)) ∙ ap (cut_text most) is

-- ---- where names are cut

last_within : (k : ℕ) (text : List ℕ) → last_begin k text ≤ k
unfolding last_begin
last_within zero text = omega arith
last_within (suc k) text = here (begins_character (suc k) text) (last_within k text)
  where
    here : (t : Bool) → last_begin k text ≤ k → cond t (suc k) (last_begin k text) ≤ suc k
    here true low = omega arith
    here false low = omega (arith, low)

pub cut_within : (most : ℕ) (text : List ℕ) → cut_at most text ≤ most
cut_within most text = omega (arith, last_within (min most (length text)) text)

last_whole : (k : ℕ) (text : List ℕ) → 0 < last_begin k text → begins_character (last_begin k text) text ≡ true
unfolding last_begin
last_whole zero text some = absurd (omega (arith, some))
last_whole (suc k) text some = here (begins_character (suc k) text) refl (last_whole k text) some
  where
    here : (t : Bool) → begins_character (suc k) text ≡ t
        → (0 < last_begin k text → begins_character (last_begin k text) text ≡ true) → 0 < cond t (suc k) (last_begin k text)
        → begins_character (cond t (suc k) (last_begin k text)) text ≡ true
    here true is later there = is
    here false is later there = later there

pub cut_whole : (most : ℕ) (text : List ℕ) → 0 < cut_at most text → begins_character (cut_at most text) text ≡ true
cut_whole most text some = last_whole (min most (length text)) text some
