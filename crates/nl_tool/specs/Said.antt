-- What standard error gets once a command has ended (docs/CLI.md, "Why something was refused").
use Rattle.std.specs.Prelude.{◌≡◌, ◌&&◌, ◌++◌, ℕ, false, List, Option, None, Some, IfSome, Result, Ok, Err}
use Rattle.std.specs.Io.KnownBytes.{Appends}
use Rattle.nl_os.specs.declared.failed_call.FileRole.TheVariants.{Log, Folder}
use Rattle.nl_tool_texts.specs.declared.fault.ToolFault.{ToolFault}
use Rattle.nl_tool_words.specs.declared.command_line.CommandLine.{CommandLine}
use Rattle.nl_tool.specs.Reasons.{IsNote, IsUnsynced, log_place, note_text, refusal_text, words_heard}
use Rattle.nl_tool.specs.World.{said_line}
use Rattle.nl_tool.specs.declared.notes.Notes.{Notes}
use Rattle.nl_tool.specs.declared.program.Verdict.{Verdict}
use Rattle.nl_tool.specs.declared.reason.Why.{Why}
use Rattle.nl_tool.specs.declared.reason.Reason.TheVariants.{Again, Missing, Masked}

-- whatever status follows: that builds were found again; and where that is asked for, that the log was missing, that its folder can't be
-- synced, and that it may have lost an access control list
pub record SaysNotes (line : CommandLine) (notes : Notes) (from to : Option (List ℕ)) : Type 0 where
  pub again : Option Why
  pub again_is : IsNote notes.is_again (log_place line.words Log) Again again
  pub missing : Option Why
  pub missing_is : IsNote (line.verbose && notes.is_missing) (log_place (words_heard line.words notes.is_second) Log) Missing missing
  pub unsynced : Option Why
  pub unsynced_is : IfSome unsynced (λ why. (log_place line.words Folder ≡ Some why.place) × IsUnsynced why.reason)
  pub synced : (notes.unsynced ≡ None) → unsynced ≡ None
  pub masked : Option Why
  pub masked_is : IsNote (line.verbose && notes.is_masked) (log_place line.words Log) Masked masked
  pub appends : Appends from to (note_text again ++ (note_text missing ++ (note_text unsynced ++ note_text masked)))

-- the text of the fault, and maybe its reason, where that is asked for or a person reads
abbrev pub Says : CommandLine → Notes → Result Verdict ToolFault → Option (List ℕ) → Option (List ℕ) → Type 0
Says line notes (Ok verdict) from to = SaysNotes line notes from to
Says line notes (Err fault) from to = (why : Option Why) × (line.verbose ≡ false → notes.screen.errors ≡ false → why ≡ None)
    × Appends from to (said_line (refusal_text (record { fault = fault; why = why })))
