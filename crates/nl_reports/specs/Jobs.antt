-- The commands of builds, with the entries of their outputs.
use Rattle.std.specs.Prelude.{ℕ, zero, suc, ◌-◌, ◌==◌, Bool, false, List, [], ◌∷◌, length, slice_get, Option, None, Some, if◌then◌else◌}
use Rattle.nl_fields.specs.declared.entry.Entry.{Entry}
use Rattle.nl_builds.specs.Builds.{Told}
use Rattle.nl_builds.specs.declared.build.Build.{Build}
use Rattle.nl_builds.specs.declared.build.Builds.{Builds}
use Rattle.nl_builds.specs.declared.command.Command.{Command}
use Rattle.nl_tool_texts.specs.Lists.{between}
use Rattle.nl_reports.specs.Spans.{span_of}
use Rattle.nl_reports.specs.declared.job.Job.{Job as HeldJob}
use Rattle.nl_reports.specs.declared.moments.Span.{Span}

-- a command: when it ran, its hash, and the entries of its outputs
pub record Job : Type 0 where
  pub span : Span
  pub hash : ℕ
  pub outputs : List Entry

-- the name of the first of some outputs
abbrev pub first_name : List Entry → List ℕ
first_name [] = []
first_name (e ∷ es) = e.name

-- how many commands the first builds have, and how many entries the first commands
abbrev pub build_end : Option Build → ℕ
build_end None = 0
build_end (Some b) = b.to

abbrev pub commands_to : ℕ → List Build → ℕ
commands_to zero bs = 0
commands_to (suc k) bs = build_end (slice_get bs k)

abbrev pub command_end : Option Command → ℕ
command_end None = 0
command_end (Some c) = c.to

abbrev pub entries_to : ℕ → List Command → ℕ
entries_to zero cs = 0
entries_to (suc k) cs = command_end (slice_get cs k)

-- these commands, of which the first has the entries from a place on
abbrev pub job_of : List Entry → ℕ → Command → Job
job_of es place c = record { span = span_of c; hash = c.hash; outputs = between place c.to es }

abbrev pub jobs_from : List Entry → ℕ → List Command → List Job
jobs_from es place [] = []
jobs_from es place (c ∷ cs) = job_of es place c ∷ jobs_from es c.to cs

-- the commands of the builds from a number, which counts from 1, to another; and of one
abbrev pub commands_between : Told → ℕ → ℕ → List Command
commands_between t first last = between (commands_to (first - 1) t.builds) (commands_to last t.builds) t.commands

abbrev pub build_commands : Told → ℕ → List Command
build_commands t number = commands_between t number number

-- with their outputs

abbrev pub jobs_between : Told → ℕ → ℕ → List Job
jobs_between t first last =
    jobs_from t.entries (entries_to (commands_to (first - 1) t.builds) t.commands) (commands_between t first last)

abbrev pub build_jobs : Told → ℕ → List Job
build_jobs t number = jobs_between t number number

-- the manifest alone
abbrev pub is_manifest_alone : List Command → Bool
is_manifest_alone [] = false
is_manifest_alone (c ∷ []) = c.is_manifest
is_manifest_alone (c ∷ d ∷ cs) = false

-- the number of the last of so many builds that isn't the manifest's alone; 0 if there is none
abbrev pub last_of : Told → ℕ → ℕ
last_of t zero = 0
last_of t (suc k) = if is_manifest_alone (build_commands t (suc k)) then last_of t k else suc k

-- the number of the build that reports take: that one, or else the last; 0 if there is none
abbrev pub or_last : ℕ → ℕ → ℕ
or_last count number = if number == 0 then count else number

abbrev pub last_number : Told → ℕ
last_number t = or_last (length t.builds) (last_of t (length t.builds))

-- as they are held
abbrev pub told : Builds → Told
told b = record { entries = b.entries.items; commands = b.commands.items; builds = b.builds.items }

abbrev pub seen : HeldJob → Job
seen j = record { span = j.span; hash = j.hash; outputs = j.outputs.now }
