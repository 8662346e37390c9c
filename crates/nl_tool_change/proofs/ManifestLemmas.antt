-- The line of a target: what stands before its last space.
use Rattle.std.proofs.Common.{◌≡◌, ◌∙◌, ◌++◌, ◌∷◌, ◌&&◌, not, [], ℕ, List, Bool, true, false, Option, None, Some, refl, sym, ap, true≢false, append_assoc}
use Rattle.std.proofs.Common.{Bor, ◌+◌, ◌-◌, ◌<◌, suc, arith, drop, get_or, inl, inr, length, option_map, take}
use Rattle.std.specs.Prelude.{◌==◌, ◌≢◌, MatchOption}
use Rattle.std.proofs.lemmas.Bool.{cases_Bool, eqb-true}
use Rattle.std.proofs.lemmas.List.{get_or-drop, length-drop, take_all}
use Rattle.memchr.specs.Find.{IsLastByte, is_byte}
use Rattle.nl_fields.proofs.SearchLemmas.{split_there}
use Rattle.nl_tool_texts.specs.Files.{OfBytes}
use Rattle.nl_tool_change.specs.Files.{BadAt, Says, before_rule, begins_rule, cut_behind, has_no_space, manifest_of, said_by, some_said, target_on}

and_false : (a b : Bool) → b ≡ false → (a && b) ≡ false
and_false true b e = e
and_false false b e = refl

second : (a b : Bool) → (a && b) ≡ true → b ≡ true
second true b e = e
second false b e = absurd (true≢false (sym e))

-- where there is no space no rule begins
not_begun : (bs : List ℕ) → has_no_space bs ≡ true → begins_rule bs ≡ false
not_begun [] e = refl
not_begun (b ∷ bs) e = go (b == 32) e
  where
    go : (is : Bool) → (not is && has_no_space bs) ≡ true → (is && has_no_space bs) ≡ false
    go true e = absurd (true≢false (sym e))
    go false e = refl

-- a byte before which no rule begins
passed : (b : ℕ) (bs : List ℕ) (o : Option (List ℕ)) → o ≡ None → begins_rule bs ≡ false → cut_behind b bs o ≡ None
passed b bs o e free = rw e rw (and_false (b == 58) (begins_rule bs) free) refl

no_rule : (bs : List ℕ) → has_no_space bs ≡ true → before_rule bs ≡ None
no_rule [] e = refl
no_rule (b ∷ bs) e =
    let rest = second (not (b == 32)) (has_no_space bs) e in
    passed b bs (before_rule bs) (no_rule bs rest) (not_begun bs rest)

-- the last space stands alone
space_none : (rest : List ℕ) → has_no_space rest ≡ true → before_rule (32 ∷ rest) ≡ None
space_none rest e = passed 32 rest (before_rule rest) (no_rule rest e) (not_begun rest e)

pub rule_cut : (target rest : List ℕ) → has_no_space rest ≡ true → before_rule (target ++ 58 ∷ 32 ∷ rest) ≡ Some target
rule_cut [] rest e = rw (space_none rest e) rw e refl
rule_cut (b ∷ target) rest e = rw (rule_cut target rest e) refl

spaced : (front rest : List ℕ) → has_no_space (front ++ 32 ∷ rest) ≡ false
spaced [] rest = refl
spaced (b ∷ front) rest = and_false (not (b == 32)) (has_no_space (front ++ 32 ∷ rest)) (spaced front rest)

not_colon : (b : ℕ) (bs : List ℕ) → (b ≡ 58 → ⊥) → cut_behind b bs None ≡ None
not_colon b bs other = go (b == 58) refl
  where
    go : (is : Bool) → (b == 58) ≡ is → cut_behind b bs None ≡ None
    go true same = absurd (other (eqb-true b 58 same))
    go false same = rw same refl

pub no_colon : (front rest : List ℕ) → has_no_space rest ≡ true → ((target : List ℕ) → front ≡ target ++ 58 ∷ [] → ⊥)
    → before_rule (front ++ 32 ∷ rest) ≡ None
no_colon [] rest e only = space_none rest e
no_colon (b ∷ []) rest e only =
    rw (space_none rest e) (not_colon b (32 ∷ rest) (λ same. only [] (ap (λ (n : ℕ). n ∷ []) same)))
no_colon (b ∷ c ∷ front) rest e only =
    passed b (c ∷ (front ++ 32 ∷ rest)) _ (no_colon (c ∷ front) rest e (λ target is. only (b ∷ target) (ap (λ (n : List ℕ). b ∷ n) is)))
    (and_false (c == 32) (has_no_space (front ++ 32 ∷ rest)) (spaced front rest))

-- ---- what the search finds

no_space : (bytes : List ℕ) → ((k : ℕ) → k < length bytes → (get_or bytes k 0 == 32) ≡ true → ⊥) → has_no_space bytes ≡ true
no_space [] none = refl
no_space (b ∷ bytes) none = elim (cases_Bool (b == 32)) [
  | inl space ↦ absurd (none 0 (omega arith) space)
  | inr other ↦ rw other (no_space bytes (λ k within. none (suc k) (omega (arith, within))))
]

-- the last space, and what stands before it ends in a colon or doesn't
pub cut_at : (line : List ℕ) (at : ℕ) (o : Option (Bor (List ℕ))) → IsLastByte (is_byte 32) line (Some at)
    → MatchOption o ((t : List ℕ) → take at line ≢ t ++ 58 ∷ []) (λ t. take at line ≡ t.now ++ 58 ∷ [])
    → option_map (λ (t : Bor (List ℕ)). t.now) o ≡ before_rule line
cut_at line at o last ends = go o ends
  where
    tail : List ℕ
    tail = drop (at + 1) line

    free : has_no_space tail ≡ true
    free = no_space tail (λ k within space. last.0.after (at + 1 + k) (omega arith) (omega (arith, within, length-drop (at + 1) line))
        (ap (λ (b : ℕ). b == 32) (sym (get_or-drop (at + 1) line k 0)) ∙ space))

    spaced_line : line ≡ take at line ++ 32 ∷ tail
    spaced_line = split_there line at 32 last.0.high (eqb-true (get_or line at 0) 32 last.1)
        ∙ ap (λ (t : List ℕ). take at line ++ 32 ∷ t) (take_all (length line - (at + 1)) tail (omega (arith, length-drop (at + 1) line)))

    go : (o : Option (Bor (List ℕ))) → MatchOption o ((t : List ℕ) → take at line ≢ t ++ 58 ∷ []) (λ t. take at line ≡ t.now ++ 58 ∷ [])
        → option_map (λ (t : Bor (List ℕ)). t.now) o ≡ before_rule line
    go (Some t) found =
        let colon : take at line ++ 32 ∷ tail ≡ t.now ++ 58 ∷ 32 ∷ tail =
        ap (λ (n : List ℕ). n ++ 32 ∷ tail) found ∙ append_assoc t.now (58 ∷ []) (32 ∷ tail) in
        sym (ap before_rule (spaced_line ∙ colon) ∙ rule_cut t.now tail free)
    go None none = sym (ap before_rule spaced_line ∙ no_colon (take at line) tail free none)

-- there is no space at all
pub uncut : (line : List ℕ) → IsLastByte (is_byte 32) line None → None ≡ before_rule line
uncut line none = sym (no_rule line (no_space line (λ k within. none k (omega arith) within)))

-- ---- the file

pub bad_manifest : {known : Option (List ℕ)} (number : ℕ) → OfBytes known (λ bytes. said_by target_on bytes ≡ BadAt number)
    → OfBytes known (λ bytes. manifest_of bytes ≡ BadAt number)
bad_manifest number told = record { bytes = told.bytes; given = told.given; holds = ap some_said told.holds }

pub no_manifest : {known : Option (List ℕ)} (targets : List (List ℕ)) → targets ≡ [] → OfBytes known (λ bytes. said_by target_on bytes ≡ Says targets)
    → OfBytes known (λ bytes. manifest_of bytes ≡ BadAt 1)
no_manifest targets none told =
    record { bytes = told.bytes; given = told.given; holds = ap some_said told.holds ∙ ap (λ (n : List (List ℕ)). some_said (Says n)) none }

pub whole_manifest : {known : Option (List ℕ)} (targets names : List (List ℕ)) → (targets ≡ [] → ⊥) → names ≡ targets
    → OfBytes known (λ bytes. said_by target_on bytes ≡ Says targets) → OfBytes known (λ bytes. manifest_of bytes ≡ Says names)
whole_manifest targets names some same told =
    record { bytes = told.bytes; given = told.given; holds = ap some_said told.holds ∙ kept targets some ∙ ap Says (sym same) }
  where
    kept : (targets : List (List ℕ)) → (targets ≡ [] → ⊥) → some_said (Says targets) ≡ Says targets
    kept [] some = absurd (some refl)
    kept (name ∷ rest) some = refl
