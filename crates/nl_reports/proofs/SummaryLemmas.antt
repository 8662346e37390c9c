-- The text of `summary`.
use Rattle.std.proofs.Common.{◌≡◌, ◌∙◌, ℕ, List, [], ◌∷◌, ◌++◌, ap, append_assoc, length, map, option_map, refl, suc, take, zero, ◌<◌, arith}
use Rattle.std.specs.Prelude.{slice_get}
use Rattle.nl_builds.specs.Builds.{Told as BuildsTold}
use Rattle.nl_builds.specs.declared.build.Build.{Build}
use Rattle.nl_reports.specs.Rows.{Told, told_row}
use Rattle.nl_reports.specs.Summary.{again_in, builds_told, first_of, no_totals, rows_from, text_of, title, totals_from, unfinished_line}
use Rattle.nl_reports.specs.declared.choice.Scope.{Scope}
use Rattle.nl_reports.specs.declared.rows.Lists.{Lists}
use Rattle.nl_reports.specs.declared.rows.Row.{Row}
use Rattle.nl_tool_texts.specs.Falling.{falling}
use Rattle.nl_tool_texts.proofs.FallingLemmas.{map-falling}
use Rattle.nl_tool_texts.proofs.ListedLemmas.{map-take}

-- of builds of which there is one
pub some_told : (scope : Scope) (lists : Lists) (unfinished : ℕ) (t : BuildsTold) (number : ℕ) (bs : List Build) → (length bs ≡ 0 → ⊥)
    → builds_told scope lists unfinished t number bs
    ≡ text_of (title lists.screen scope number (length t.builds)) lists unfinished (totals_from no_totals t number bs) (rows_from t number bs) (again_in scope bs)
some_told scope lists unfinished t number [] some = absurd (some refl)
some_told scope lists unfinished t number (b ∷ bs) some = refl

-- of none
pub none_told : (scope : Scope) (lists : Lists) (unfinished : ℕ) (t : BuildsTold) (number : ℕ) (bs : List Build) → length bs ≡ 0
    → builds_told scope lists unfinished t number bs ≡ unfinished_line lists.screen unfinished
none_told scope lists unfinished t number [] none = refl
none_told scope lists unfinished t number (b ∷ bs) none = absurd (omega (arith, none))

-- six parts, of which two come at once
pub parts_in_order : (h n s a u l : List ℕ) → (((h ++ (n ++ s)) ++ a) ++ u) ++ l ≡ h ++ (n ++ (s ++ (a ++ (u ++ l))))
parts_in_order h n s a u l = simp append_assoc

-- those that rank highest, as they are told
pub highest_are : (rank : Told → ℕ) (n : ℕ) (rows kept : List Row) → kept ≡ take n (falling (λ r. rank (told_row r)) rows)
    → map told_row kept ≡ take n (falling rank (map told_row rows))
highest_are rank n rows kept is =
    ap (map told_row) is ∙ map-take told_row n (falling (λ r. rank (told_row r)) rows) ∙ ap (take n) (map-falling told_row rank rows)

-- the first of them
pub first_told : (n : ℕ) (kept : List Row) (ts : List Told) → 0 < n → map told_row kept ≡ take n ts
    → option_map told_row (slice_get kept 0) ≡ first_of ts
first_told n kept ts some is = first_mapped kept ∙ ap first_of is ∙ first_taken n ts some
  where
    first_mapped : (cs : List Row) → option_map told_row (slice_get cs 0) ≡ first_of (map told_row cs)
    first_mapped [] = refl
    first_mapped (c ∷ cs) = refl

    first_taken : (n : ℕ) (ts : List Told) → 0 < n → first_of (take n ts) ≡ first_of ts
    first_taken zero ts some = absurd (omega (arith, some))
    first_taken (suc n) [] some = refl
    first_taken (suc n) (t ∷ ts) some = refl
