-- What stands where so many commands were written anew.
use Rattle.std.proofs.Common.{◌≡◌, ◌∙◌, ◌+◌, ◌-◌, ◌<◌, ◌≤◌, ℕ, Bool, false, List, [], ◌∷◌, ap, arith, cond, drop, get_or, inl, inr, length, min, subst, suc, sym, take, true, zero}
use Rattle.std.proofs.lemmas.Bool.{cases_lt, cond-true, le-leb, leb-true}
use Rattle.std.proofs.lemmas.Grind.{common_steps}
use Rattle.std.specs.Borrow.{Bor}
use Rattle.std.specs.Option.{MatchOption, option_copied, option_zip}
use Rattle.std.specs.List.Sorted.{IsPartitionPoint, IsPartitionedBy}
use Rattle.std.specs.Prelude.{nat_le, nat_lt, slice_get, Option, None, Some}
use Rattle.nl_fields.specs.declared.entry.Entry.{Entry}
use Rattle.nl_builds.specs.Builds.{again, as_written, counts_names, entries_of, entries_to, falls_at, falls_by, is_before, new_commands, told_at, told_with, whole_commands}
use Rattle.nl_builds.specs.Laws.{ShareEntries}
use Rattle.nl_builds.specs.declared.command.Command.{Command}
use Rattle.nl_builds.specs.declared.command.Row.{Row}
use Rattle.nl_versions.specs.declared.entries.Stamps.{Stamps}
use Rattle.nl_builds.specs.declared.seen.Seen.{Seen}

pub both_parts : {A : Type 0} (xs : List A) (n k : ℕ) → n ≡ min k (length xs) → (take n xs ≡ take k xs) × (drop n xs ≡ drop k xs)
both_parts xs n k is = elim (cases_lt (length xs) k) [
  | inl past ↦ (ap (λ (m : ℕ). take m xs) is ∙ grind (arith, common_steps, past), ap (λ (m : ℕ). drop m xs) is ∙ grind (arith, common_steps, past))
  | inr within ↦ (ap (λ (m : ℕ). take m xs) is ∙ grind (arith, common_steps, within), ap (λ (m : ℕ). drop m xs) is ∙ grind (arith, common_steps, within))
]

pub entries_told : (cs : List Command) (count k : ℕ) (last : Option (Bor Command)) → option_copied last ≡ slice_get cs (count - 1)
    → MatchOption last (k ≡ 0) (λ it. k ≡ it.now.to) → k ≡ entries_of count cs
entries_told cs count k None is told = told ∙ ap entries_to is
entries_told cs count k (Some it) is told = told ∙ ap entries_to is

abbrev Falls : Bool → Option (Bor Command × Bor Command) → Type 0
Falls test both = MatchOption both (test ≡ false) (λ c. test ≡ nat_lt c.1.now.ended c.0.now.ended)

pub falls_told : (cs : List Command) (count : ℕ) (a b : Option (Bor Command)) (both : Option (Bor Command × Bor Command)) (test : Bool)
    → option_copied a ≡ slice_get cs (count - 1) → option_copied b ≡ slice_get cs count → both ≡ option_zip a b → Falls test both
    → test ≡ falls_at count cs
falls_told cs count a b both test a_is b_is is told = go a b a_is b_is (subst (Falls test) is told)
  where
    go : (a b : Option (Bor Command)) → option_copied a ≡ slice_get cs (count - 1) → option_copied b ≡ slice_get cs count → Falls test (option_zip a b)
        → test ≡ falls_at count cs
    go None b a_is b_is told = told ∙ (λ i. falls_by (a_is i) (b_is i))
    go (Some x) None a_is b_is told = told ∙ (λ i. falls_by (a_is i) (b_is i))
    go (Some x) (Some y) a_is b_is told = told ∙ (λ i. falls_by (a_is i) (b_is i))

-- ---- how many commands are whole

share_above : (from : ℕ) (cs : List Command) (end : ℕ) → ShareEntries from cs end → (j : ℕ) (d : Command) → j < length cs → from < (get_or cs j d).to
share_above from [] end held j d within = absurd (omega (arith, within))
share_above from (c ∷ cs) end held zero d within = held.0
share_above from (c ∷ cs) end held (suc j) d within =
    let rest = share_above c.to cs end held.1 j d (omega (arith, within)) in
    omega (arith, held.0, rest)

share_rises : (from : ℕ) (cs : List Command) (end : ℕ) → ShareEntries from cs end → (i j : ℕ) (d : Command) → i ≤ j → j < length cs
    → (get_or cs i d).to ≤ (get_or cs j d).to
share_rises from [] end held i j d le within = absurd (omega (arith, within))
share_rises from (c ∷ cs) end held zero zero d le within = omega arith
share_rises from (c ∷ cs) end held zero (suc j) d le within =
    let rest = share_above c.to cs end held.1 j d (omega (arith, within)) in
    omega (arith, rest)
share_rises from (c ∷ cs) end held (suc i) zero d le within = absurd (omega (arith, le))
share_rises from (c ∷ cs) end held (suc i) (suc j) d le within = share_rises c.to cs end held.1 i j d (omega (arith, le)) (omega (arith, within))

abbrev pub is_whole : ℕ → Command → Bool
is_whole count c = nat_le c.to count

pub whole_first : (count : ℕ) (cs : List Command) (end : ℕ) → ShareEntries 0 cs end → IsPartitionedBy (is_whole count) cs
whole_first count cs end held i j d le within test =
    le-leb (get_or cs i d).to count (omega (arith, share_rises 0 cs end held i j d le within, leb-true (get_or cs j d).to count test))

pub whole_point : (count : ℕ) (cs : List Command) (at : ℕ) → at ≤ length cs
    → IsPartitionPoint (λ c. is_whole count c ≡ true) (λ c. is_whole count c ≡ false) cs at → at ≡ whole_commands count cs
whole_point count [] at within point = omega (arith, within)
whole_point count (c ∷ cs) zero within point =
    sym (ap (λ (b : Bool). cond b (1 + whole_commands count cs) 0) (point.1 0 c (omega arith) (omega arith)))
whole_point count (c ∷ cs) (suc at) within point =
    let rest = whole_point count cs at (omega (arith, within))
    (λ k d low high. point.0 (suc k) d (omega arith) (omega (arith, high)), λ k d low high. point.1 (suc k) d (omega (arith, low)) (omega (arith, high))) in
    let more : suc at ≡ 1 + whole_commands count cs = omega (arith, rest) in
    more ∙ sym (ap (λ (b : Bool). cond b (1 + whole_commands count cs) 0) (point.0 0 c (omega arith) (omega arith)))

-- ---- whether they were written anew

pub before_told : (back : Option ℕ) (count : ℕ) (test : Bool) → MatchOption back (test ≡ false) (λ place. test ≡ nat_lt place count) → test ≡ is_before back count
before_told None count test told = told
before_told (Some place) count test told = told

pub told_again : (stamps : Stamps) (es : List Entry) (cs : List Command) (rs : List Row) (seen : List Seen) (back : Option ℕ) (count : ℕ)
    → count ≡ new_commands (counts_names stamps back seen) es cs → is_before back count ≡ true
    → again stamps count es cs rs ≡ told_with stamps es cs rs seen back
told_again stamps es cs rs seen None count is before = absurd (cc before)
told_again stamps es cs rs seen (Some place) count is before =
    sym (ap (λ (n : ℕ). told_at stamps n es cs rs seen (Some place)) (sym is)
    ∙ cond-true (is_before (Some place) count) (again stamps count es cs rs) (as_written stamps count es cs seen) before)
