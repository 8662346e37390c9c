-- What a command that reads a log, a script or a command has to print (docs/CLI.md).
use Rattle.std.specs.Prelude.{⊤, ◌≡◌, ◌↔◌, ◌<◌, ℕ, List, Option, Result, Ok, Err, length, unwrap_or}
use Rattle.std.specs.Io.KnownBytes.{Appends}
use Rattle.nl_versions.specs.declared.version.LogVersion.{LogVersion}
use Rattle.nl_versions.specs.declared.version.LogVersion.TheVariants.{Five}
use Rattle.nl_tool_print.specs.Output.{IsTextAsRead}
use Rattle.nl_tool_print.specs.Streams.{IsSoFar, damage_text_of, entries_text_of}
use Rattle.nl_tool_print.specs.Versions.{IsFileHashAs, IsReportFor, hash_text_as, show_text_for}
use Rattle.nl_versions.specs.LogAs.{log_for}
use Rattle.nl_versions.specs.VersionOf.{as_five}
use Rattle.nl_tool_change.specs.Replay.{IsReplayText}
use Rattle.nl_table.specs.Log.{LogReading, log_of}
use Rattle.nl_tool_texts.specs.Output.{Prints}
use Rattle.nl_tool_texts.specs.declared.fault.ToolFault.{ToolFault}
use Rattle.nl_tool.specs.declared.printing.Printing.{Printing}
use Rattle.nl_tool.specs.declared.printing.Printing.TheVariants.{Show, Check, Hash, HashFile, Replay, Entries, Damage}
use Rattle.nl_tool.specs.declared.program.Verdict.{Verdict}
use Rattle.nl_tool.specs.declared.program.Verdict.TheVariants.{Found}

-- `hash` and `hash-file` have no log, so their version is 5 if none is asked for
abbrev pub IsAnswer : Option LogVersion → Printing → Option (List ℕ) → List ℕ → Type 0
IsAnswer asked Show known text = IsTextAsRead (show_text_for asked) known text
IsAnswer asked Check known text = IsReportFor asked known text
IsAnswer asked (Hash command) known text = text ≡ hash_text_as (unwrap_or asked Five) command.now
IsAnswer asked HashFile known text = IsFileHashAs (unwrap_or asked Five) known text
IsAnswer asked Replay known text = IsReplayText known text
IsAnswer asked Entries known text = IsTextAsRead (λ bytes. entries_text_of (as_five bytes)) known text
IsAnswer asked Damage known text = IsTextAsRead (λ bytes. damage_text_of (as_five bytes)) known text

-- `entries` and `damage` go by the version that the log names
abbrev pub reading_by : Printing → Option LogVersion → List ℕ → LogReading
reading_by Entries asked bytes = log_of (as_five bytes)
reading_by Damage asked bytes = log_of (as_five bytes)
reading_by printing asked bytes = log_for asked bytes

-- one of them tells damage
abbrev pub TellsDamage : Printing → Type 0
TellsDamage Damage = ⊤
TellsDamage _ = ⊥

-- what is printed while it is read: after a refusal a part of the text of what was read so far
abbrev pub PrintsAsRead : Printing → Option (List ℕ) → Option (List ℕ) → Option (List ℕ) → (List ℕ → Option (List ℕ)) → Result Verdict ToolFault → Type 0
PrintsAsRead printing known old new text_of (Ok outcome) = (text : List ℕ) × IsTextAsRead text_of known text × Appends old new text
    × (TellsDamage printing → (outcome ≡ Found) ↔ (0 < length text))
PrintsAsRead printing known old new text_of (Err fault) = IsSoFar text_of known old new

-- what a command prints that answers so
abbrev pub without_answer : Result Verdict ToolFault → Result (Unit {0}) ToolFault
without_answer (Ok outcome) = Ok tt
without_answer (Err fault) = Err fault

abbrev pub PrintsBy : Printing → Option LogVersion → Option (List ℕ) → Option (List ℕ) → Option (List ℕ) → Result Verdict ToolFault → Type 0
PrintsBy Entries asked known old new result = PrintsAsRead Entries known old new (λ bytes. entries_text_of (as_five bytes)) result
PrintsBy Damage asked known old new result = PrintsAsRead Damage known old new (λ bytes. damage_text_of (as_five bytes)) result
PrintsBy printing asked known old new result = Prints (IsAnswer asked printing known) old new (without_answer result)
