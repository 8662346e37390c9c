-- The builds of commands, one behind another.
use Rattle.std.proofs.Common.{◌≡◌, ◌∙◌, ◌+◌, ◌++◌, ◌<◌, ◌==◌, ◌&&◌, ◌||◌, ℕ, Bool, true, false, List, [], ◌∷◌, append_assoc, arith, ap, cond, drop, inl, inr, zero, suc, refl, sym}
use Rattle.std.specs.Prelude.{slice_get}
use Rattle.std.specs.Option.{unwrap_or}
use Rattle.std.proofs.lemmas.Bool.{cond-false, cond-true}
use Rattle.std.proofs.lemmas.Bool.Decides.{eqb_tells}
use Rattle.nl_builds.specs.Builds.{past_in, walk, walk_from}
use Rattle.nl_builds.specs.Commands.{is_same, row_or, row_with}
use Rattle.nl_builds.specs.Seen.{begun, empty, is_behind, is_border, is_doubtful, is_sure, mark, told, with_command}
use Rattle.nl_builds.specs.declared.command.Command.{Command}
use Rattle.nl_builds.specs.declared.command.Row.{Row}
use Rattle.nl_builds.specs.declared.seen.Mark.{Mark}
use Rattle.nl_builds.specs.declared.seen.Mark.TheVariants.{Inside, Doubtful, Unsure, Sure}
use Rattle.nl_builds.specs.declared.seen.Order.{Order}
use Rattle.nl_builds.specs.declared.seen.Order.TheVariants.{Written, ByMoment}
use Rattle.nl_builds.specs.declared.seen.Seen.{Seen}
use Rattle.nl_versions.specs.declared.entries.Stamps.{Stamps}
use Rattle.nl_builds.proofs.LawLemmas.{same_sure}

pub row_at : (c : Command) (rs : List Row) (at : ℕ) → unwrap_or (slice_get rs at) (row_with c false) ≡ row_or c (drop at rs)
row_at c [] zero = refl
row_at c [] (suc at) = refl
row_at c (r ∷ rs) zero = refl
row_at c (r ∷ rs) (suc at) = row_at c rs at

-- ---- the first command is in a build, whatever stands before it

same_number : (n : ℕ) → (n == n) ≡ true
same_number n = elim (eqb_tells n n) [ inl h ↦ h.0 | inr h ↦ absurd (h.1 refl) ]

same_self : (c : Command) → is_same c c ≡ true
same_self c = λ i. same_number c.began i && same_number c.ended i && same_number c.hash i

inside : (b : Bool) → is_doubtful (cond b Unsure Inside) ≡ false
inside true = refl
inside false = refl

first_plain : (order : Order) (stamps : Stamps) (sure : Bool) (c : Command) (r : Row) → is_doubtful (mark order stamps (empty sure 0 c) c r) ≡ false
first_plain Written stamps sure c r = ap is_doubtful (same_sure stamps (empty sure 0 c) c r (same_self c))
first_plain ByMoment stamps sure c r = inside (c.is_manifest || c.is_manifest || is_behind (empty sure 0 c) (told stamps 0 c r))

border_plain : (m : Mark) → is_border m ≡ true → is_doubtful m ≡ false
border_plain Inside is = absurd (cc is)
border_plain Doubtful is = absurd (cc is)
border_plain Unsure is = refl
border_plain Sure is = refl

-- ---- behind so many commands

abbrev pub walk_on : ℕ → Order → Stamps → ℕ → Bool → Seen → List Command → List Row → List Seen
walk_on zero order stamps place sure s cs rs = walk order stamps place sure cs rs
walk_on (suc at) order stamps place sure s cs rs = walk_from order stamps (place + suc at) s cs rs

-- before the first one there is no build
abbrev pub IsFirst : ℕ → Bool → Seen → List Command → Type 0
IsFirst (suc at) sure s cs = Unit {0}
IsFirst zero sure s [] = Unit {0}
IsFirst zero sure s (c ∷ cs) = s ≡ empty sure 0 c

module _ (order : Order) (stamps : Stamps) (place : ℕ) (sure : Bool) (all : List Seen) where
  pub goes_on : (at : ℕ) (found : List Seen) (s t : Seen) (c : Command) (cs : List Command) (rs : List Row) (m : Mark) → IsFirst at sure s (c ∷ cs)
      → m ≡ mark order stamps s c (row_or c rs) → (0 < at → is_border m ≡ false) → t ≡ with_command s stamps (place + suc at) (is_doubtful m) c (row_or c rs)
      → found ++ walk_on at order stamps place sure s (c ∷ cs) rs ≡ all → found ++ walk_from order stamps (place + suc at) t cs (drop 1 rs) ≡ all
  goes_on zero found s t c cs rs m first m_is inside is told =
      let r = row_or c rs in
      let plain : is_doubtful m ≡ false =
      ap is_doubtful (m_is ∙ ap (λ (s : Seen). mark order stamps s c r) first) ∙ first_plain order stamps sure c r in
      ap (λ (t : Seen). found ++ walk_from order stamps (place + 1) t cs (drop 1 rs))
      (is ∙ (λ i. with_command (first i) stamps (place + 1) (plain i) c r)) ∙ told
  goes_on (suc at) found s t c cs rs m first m_is inside is told =
      let r = row_or c rs in
      let place_is : place + suc at + 1 ≡ place + suc (suc at) = omega arith in
      let test : is_border (mark order stamps s c r) ≡ false = ap is_border (sym m_is) ∙ inside (omega arith) in
      ap (λ (t : Seen). found ++ walk_from order stamps (place + suc (suc at)) t cs (drop 1 rs))
      (is ∙ ap (λ (m : Mark). with_command s stamps (place + suc (suc at)) (is_doubtful m) c r) m_is)
      ∙ ap (λ (p : ℕ). found ++ walk_from order stamps p (with_command s stamps p (is_doubtful (mark order stamps s c r)) c r) cs (drop 1 rs)) (sym place_is)
      ∙ ap (λ (l : List Seen). found ++ l) (sym (cond-false _ _ _ test)) ∙ told

  pub begins : (at : ℕ) (found new : List Seen) (s t : Seen) (c : Command) (cs : List Command) (rs : List Row) (m : Mark)
      → m ≡ mark order stamps s c (row_or c rs) → 0 < at → is_border m ≡ true → new ≡ found ++ s ∷ []
      → t ≡ with_command (empty (is_sure m) (past_in order s) c) stamps (place + suc at) (is_doubtful m) c (row_or c rs)
      → found ++ walk_on at order stamps place sure s (c ∷ cs) rs ≡ all → new ++ walk_from order stamps (place + suc at) t cs (drop 1 rs) ≡ all
  begins zero found new s t c cs rs m m_is some border new_is is told = absurd (omega (arith, some))
  begins (suc at) found new s t c cs rs m m_is some border new_is is told =
      let r = row_or c rs in
      let place_is : place + suc at + 1 ≡ place + suc (suc at) = omega arith in
      let test : is_border (mark order stamps s c r) ≡ true = ap is_border (sym m_is) ∙ border in
      ap (λ (l : List Seen). l ++ walk_from order stamps (place + suc (suc at)) t cs (drop 1 rs)) new_is
      ∙ append_assoc found (s ∷ []) (walk_from order stamps (place + suc (suc at)) t cs (drop 1 rs))
      ∙ ap (λ (t : Seen). found ++ s ∷ walk_from order stamps (place + suc (suc at)) t cs (drop 1 rs))
      (is ∙ ap (λ (b : Bool). with_command (empty (is_sure m) (past_in order s) c) stamps (place + suc (suc at)) b c r) (border_plain m border)
      ∙ ap (λ (m : Mark). begun stamps (place + suc (suc at)) (is_sure m) (past_in order s) c r) m_is)
      ∙ ap (λ (p : ℕ). found ++ s ∷ walk_from order stamps p (begun stamps p (is_sure (mark order stamps s c r)) (past_in order s) c r) cs (drop 1 rs)) (sym place_is)
      ∙ ap (λ (l : List Seen). found ++ l) (sym (cond-true _ _ _ test)) ∙ told
