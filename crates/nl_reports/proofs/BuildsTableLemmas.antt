-- The rows of builds at a terminal.
use Rattle.std.proofs.Common.{◌≡◌, ◌+◌, ◌++◌, ℕ, suc, List, arith, get_or, subst}
use Rattle.jiff_tz.specs.declared.timezone.TimeZone.{TimeZone}
use Rattle.nl_builds.specs.Builds.{Told}
use Rattle.nl_builds.specs.declared.build.Build.{Build}
use Rattle.nl_reports.specs.BuildsTable.{AreRows, IsBegun, IsRow, no_build, row_text}
use Rattle.nl_reports.specs.Numbers.{numbers_of}
use Rattle.nl_reports.specs.declared.job.Numbers.{Numbers}

-- a row by its parts
pub row_is : (zone : TimeZone) (t : Told) (place : ℕ) (b : Build) (began : List ℕ) (n : Numbers) (old new : List ℕ)
    → b ≡ get_or t.builds place no_build → IsBegun zone b.began began → n ≡ numbers_of t (place + 1)
    → new ≡ old ++ row_text (place + 1) began n b → (row : List ℕ) × (IsRow zone t place row × (new ≡ old ++ row))
row_is zone t place b began n old new is begun numbers whole =
    (row_text (place + 1) began n b, ((began, subst (λ (x : Build). IsBegun zone x.began began) is begun, (λ i. row_text (place + 1) began (numbers i) (is i))), whole))

-- a row more
pub rows_more : (zone : TimeZone) (t : Told) (k : ℕ) (before row new : List ℕ) → AreRows zone t k before → IsRow zone t k row → new ≡ before ++ row
    → AreRows zone t (k + 1) new
rows_more zone t k before row new are is whole =
    subst (λ n. AreRows zone t n new) {x = suc k} {y = k + 1} (omega arith) (before, row, are, is, whole)
