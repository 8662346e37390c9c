-- The status with which the program ends (docs/CLI.md, "Statuses").
use Rattle.std.specs.Prelude.{if◌then◌else◌, ◌≡◌, ◌⊎◌, ℕ, Bool, List, [], ◌∷◌, Option, None, Some, Result, Ok, Err, IfOk, codes}
use Rattle.clap.specs.Words.{IsAmong, Kinds, Row, Text}
use Rattle.clap.specs.declared.error.kind.ErrorKind.{ErrorKind}
use Rattle.clap.specs.declared.error.kind.ErrorKind.TheVariants as kind
use Rattle.nl_tool_texts.specs.declared.fault.ToolFault.{ToolFault}
use Rattle.nl_tool_words.specs.declared.words.Words.{Words}
use Rattle.nl_tool.specs.Faults.{CanBeDone, CanFind}
use Rattle.nl_tool.specs.declared.program.Verdict.{Verdict}
use Rattle.nl_tool.specs.declared.program.Verdict.TheVariants.{Done, Found}

-- the status after a command
abbrev pub status_after : Result Verdict ToolFault → ℕ
status_after (Ok Done) = 0
status_after (Ok Found) = 3
status_after (Err fault) = 1

abbrev pub verdict_of : Bool → Verdict
verdict_of found = if found then Found else Done

-- the status is that of an answer, which these words may give
abbrev pub EndsWords : Words → ℕ → Type 0
EndsWords words status = (answer : Result Verdict ToolFault) × (status ≡ status_after answer)
    × IfOk answer (λ outcome. CanBeDone words × (outcome ≡ Found → CanFind words))

-- done or refused
abbrev pub IsDoneOrRefused : ℕ → Type 0
IsDoneOrRefused status = (status ≡ 0) ⊎ (status ≡ 1)

-- what was entered is a word that looks for damage, or doubt
abbrev pub NamesFinding : Option (Text × List Row) → Type 0
NamesFinding None = ⊥
NamesFinding (Some p) = (p.0 ≡ codes "damage") ⊎ ((p.0 ≡ codes "doubt") ⊎ ((p.0 ≡ codes "mend") ⊎ ((p.0 ≡ codes "prune") ⊎ (p.0 ≡ codes "retime"))))

-- done or refused, or 3 after these
abbrev pub IsEnded : Option (Text × List Row) → ℕ → Type 0
IsEnded entered status = IsDoneOrRefused status ⊎ ((status ≡ 3) × NamesFinding entered)

-- the status after words that name no command, by the kind of what is said of them: help and the version may fail to be written
abbrev pub IsStatusOfKind : ErrorKind → ℕ → Type 0
IsStatusOfKind kind.DisplayHelp status = IsDoneOrRefused status
IsStatusOfKind kind.DisplayVersion status = IsDoneOrRefused status
IsStatusOfKind kind.OutOfMemory status = status ≡ 1
IsStatusOfKind _ status = status ≡ 2

-- the status after a command line, by the kinds of error that its words may give, and by the subcommand that it enters: 2 only for wrong words, and for those never 0; 3 only for those that look for damage, or doubt
abbrev pub IsStatusBy : Kinds → Option (Text × List Row) → ℕ → Type 0
IsStatusBy [] entered status = IsEnded entered status
IsStatusBy (k ∷ ks) entered status = (status ≡ 1) ⊎ ((met : ErrorKind) × IsAmong met (k ∷ ks) × IsStatusOfKind met status)
