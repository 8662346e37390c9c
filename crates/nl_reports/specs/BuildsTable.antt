-- What `builds` tells at a terminal (docs/CLI.md, "At a terminal").
use Rattle.std.specs.Prelude.{◌≡◌, ℕ, zero, suc, ◌+◌, ◌/◌, ◌%◌, ℤ, pos, ◌+ℤ◌, ◌-ℤ◌, unsigned_abs, false, List, [], ◌∷◌, ◌++◌, Option, None, Some, length, get_or, codes, decimal}
use Rattle.jiff_core.specs.DateTime.{civil_nanos}
use Rattle.jiff_core.specs.Timestamp.{nanos_of_seconds}
use Rattle.jiff_core.specs.declared.civil.datetime.DateTime.{DateTime}
use Rattle.jiff_tz.specs.Zone.{offset_at}
use Rattle.jiff_tz.specs.declared.timezone.TimeZone.{TimeZone}
use Rattle.jiff_tz.specs.declared.timezone.TimeZone.TheVariants.{UTC, Unknown}
use Rattle.nl_builds.specs.Builds.{Told}
use Rattle.nl_builds.specs.declared.build.Build.{Build}
use Rattle.nl_builds.specs.declared.build.How.TheVariants.{AsWritten}
use Rattle.nl_reports.specs.BuildsText.{border_word}
use Rattle.nl_reports.specs.Numbers.{numbers_of}
use Rattle.nl_tool_texts.specs.Texts.{joined, line, time_text}
use Rattle.nl_reports.specs.declared.job.Numbers.{Numbers}

-- ---- when a build began

-- in nanoseconds from 1970 on
abbrev pub moment_of : ℕ → ℤ
moment_of began = pos began -ℤ pos 2_147_483_648_000_000

-- with two digits each but the year
abbrev pub date_text : DateTime → List ℕ
date_text d = joined (decimal (unsigned_abs d.date.year) ∷ codes "-" ∷ decimal (d.date.month / 10) ∷ decimal (d.date.month % 10) ∷ codes "-"
    ∷ decimal (d.date.day / 10) ∷ decimal (d.date.day % 10) ∷ codes " " ∷ decimal (d.time.hour / 10) ∷ decimal (d.time.hour % 10) ∷ codes ":"
    ∷ decimal (d.time.minute / 10) ∷ decimal (d.time.minute % 10) ∷ codes ":" ∷ decimal (d.time.second / 10) ∷ decimal (d.time.second % 10) ∷ [])

-- what a clock of this time zone shows at a moment
abbrev pub IsShownBy : TimeZone → ℤ → DateTime → Type 0
IsShownBy zone moment d = civil_nanos d ≡ moment +ℤ nanos_of_seconds (offset_at zone moment)

abbrev pub IsBegun : TimeZone → Option ℕ → List ℕ → Type 0
IsBegun zone None text = text ≡ codes "unknown"
IsBegun zone (Some began) text = (d : DateTime) × IsShownBy zone (moment_of began) d × (text ≡ date_text d)

-- ---- a build

abbrev pub row_text : ℕ → List ℕ → Numbers → Build → List ℕ
row_text number began n b = line (decimal number ∷ began ∷ time_text n.wall ∷ decimal n.commands ∷ decimal n.outputs ∷ border_word b.how b.is_sure ∷ [])

abbrev pub no_build : Build
no_build = record { to = 0; began = None; how = AsWritten; is_sure = false }

-- the build at a place
abbrev pub IsRow : TimeZone → Told → ℕ → List ℕ → Type 0
IsRow zone t place row = (began : List ℕ) × IsBegun zone (get_or t.builds place no_build).began began
    × (row ≡ row_text (place + 1) began (numbers_of t (place + 1)) (get_or t.builds place no_build))

-- so many of the first
abbrev pub AreRows : TimeZone → Told → ℕ → List ℕ → Type 0
AreRows zone t zero rows = rows ≡ []
AreRows zone t (suc k) rows = (before row : List ℕ) × AreRows zone t k before × IsRow zone t k row × (rows ≡ before ++ row)

-- ---- the text

abbrev pub heading_for : TimeZone → List ℕ
heading_for UTC = codes "Build\tBegan (UTC)\tElapsed\tCommands\tOutputs\tKnown\n"
heading_for Unknown = codes "Build\tBegan (UTC)\tElapsed\tCommands\tOutputs\tKnown\n"
heading_for zone = codes "Build\tBegan\tElapsed\tCommands\tOutputs\tKnown\n"

abbrev pub IsBuildsScreen : TimeZone → Told → List ℕ → Type 0
IsBuildsScreen zone t text = (rows : List ℕ) × AreRows zone t (length t.builds) rows × (text ≡ heading_for zone ++ rows)
