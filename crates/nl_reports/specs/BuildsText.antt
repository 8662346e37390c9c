-- The text of `builds` (docs/CLI.md, "builds").
use Rattle.std.specs.Prelude.{ℕ, ◌+◌, Bool, List, [], ◌∷◌, ◌++◌, codes, decimal, if◌then◌else◌}
use Rattle.nl_builds.specs.Builds.{Told}
use Rattle.nl_builds.specs.declared.build.Build.{Build}
use Rattle.nl_builds.specs.declared.build.How.{How}
use Rattle.nl_builds.specs.declared.build.How.TheVariants.{AsWritten, FoundAgain}
use Rattle.nl_reports.specs.Numbers.{numbers_of}
use Rattle.nl_reports.specs.declared.job.Numbers.{Numbers}

-- whether both borders of a build are sure; of one that was found again neither is
abbrev pub border_word : How → Bool → List ℕ
border_word AsWritten sure = if sure then codes "sure" else codes "unsure"
border_word (FoundAgain taken) sure = codes "again"

-- how many of its outputs later builds may have taken
abbrev pub taken_text : How → List ℕ
taken_text AsWritten = []
taken_text (FoundAgain taken) = codes "\t" ++ decimal taken

-- the fields of a line
abbrev pub told_line : ℕ → ℕ → ℕ → ℕ → ℕ → List ℕ → List ℕ → List ℕ
told_line number commands outputs wall total word taken = decimal number ++ codes "\t" ++ decimal commands ++ codes "\t" ++ decimal outputs
    ++ codes "\t" ++ decimal wall ++ codes "\t" ++ decimal total ++ codes "\t" ++ word ++ taken ++ codes "\n"

abbrev pub numbers_line : ℕ → Numbers → Build → List ℕ
numbers_line number n b = told_line number n.commands n.outputs n.wall n.total (border_word b.how b.is_sure) (taken_text b.how)

abbrev pub build_line : Told → ℕ → Build → List ℕ
build_line t number b = numbers_line number (numbers_of t number) b

-- a line for each of these, of which the first has this number
abbrev pub lines_from : Told → ℕ → List Build → List ℕ
lines_from t number [] = []
lines_from t number (b ∷ bs) = build_line t number b ++ lines_from t (number + 1) bs

abbrev pub builds_text : Told → List ℕ
builds_text t = lines_from t 1 t.builds
