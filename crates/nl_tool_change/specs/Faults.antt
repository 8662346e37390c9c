-- Which faults `replay` and each command that changes a log may answer (docs/CLI.md, "Messages").
use Rattle.std.specs.Prelude.{◌≡◌, ◌⊎◌, ◌<◌, List, ℕ, Option, ⊤, Result, Ok, Err}
use Rattle.nl_session.specs.declared.fault.LogFault.{LogFault}
use Rattle.nl_session.specs.declared.fault.LogFault.TheVariants as refusal
use Rattle.nl_tool_change.specs.RecordWords.{GiveEntry, IsWordFault}
use Rattle.nl_tool_change.specs.declared.line_fault.WrongNumber.{WrongNumber}
use Rattle.nl_tool_texts.specs.declared.fault.ToolFault.{ToolFault}
use Rattle.nl_tool_texts.specs.declared.fault.ToolFault.TheVariants.{NotALog, OtherVersion, Read, Memory, Write, Folder, NegativeTime, BadLine}

-- an open log refuses so, or the opening of a closed one
abbrev pub IsOpenOrChangeRefusal : LogFault → Type 0
IsOpenOrChangeRefusal refusal.NotOpen = ⊥
IsOpenOrChangeRefusal refusal.AlreadyOpen = ⊥
IsOpenOrChangeRefusal refusal.Broken = ⊥
IsOpenOrChangeRefusal _ = ⊤

abbrev pub IsChangeRefusal : LogFault → Type 0
IsChangeRefusal (refusal.NegativeTime index) = ⊤
IsChangeRefusal refusal.OutOfMemory = ⊤
IsChangeRefusal refusal.Fault = ⊤
IsChangeRefusal _ = ⊥

-- refusals that tell the state of the log alone don't come here
abbrev pub of_log_fault : LogFault → ToolFault
of_log_fault (refusal.NegativeTime index) = NegativeTime index
of_log_fault refusal.NotALog = NotALog
of_log_fault refusal.OtherVersion = OtherVersion
of_log_fault refusal.OutOfMemory = Memory
of_log_fault _ = Folder

abbrev pub of_log_answer : Result (Unit {0}) LogFault → Result (Unit {0}) ToolFault
of_log_answer (Ok done) = Ok done
of_log_answer (Err why) = Err (of_log_fault why)

-- the file is read line by line
abbrev pub IsFileFault : ToolFault → Type 0
IsFileFault Read = ⊤
IsFileFault Memory = ⊤
IsFileFault (BadLine number) = ⊤
IsFileFault _ = ⊥

abbrev pub IsRecordFault : ToolFault → Type 0
IsRecordFault NotALog = ⊤
IsRecordFault OtherVersion = ⊤
IsRecordFault Memory = ⊤
IsRecordFault Folder = ⊤
IsRecordFault _ = ⊥

-- the fault is that of a record, or an mtime is negative
abbrev pub IsChangeFault : ToolFault → Type 0
IsChangeFault (NegativeTime index) = ⊤
IsChangeFault fault = IsRecordFault fault

abbrev pub IsRecompactFault : ToolFault → Type 0
IsRecompactFault Read = ⊤
IsRecompactFault (BadLine number) = ⊤
IsRecompactFault fault = IsRecordFault fault

abbrev pub IsRestatFault : ToolFault → Type 0
IsRestatFault (NegativeTime index) = ⊤
IsRestatFault fault = IsRecompactFault fault

abbrev pub IsLinesFault : ToolFault → Type 0
IsLinesFault Read = ⊤
IsLinesFault Memory = ⊤
IsLinesFault Write = ⊤
IsLinesFault _ = ⊥

-- what was recorded may fail to be synced at the end
abbrev pub IsApplyFault : ToolFault → Type 0
IsApplyFault Folder = ⊤
IsApplyFault fault = IsLinesFault fault

abbrev pub IsNoLogFault : ToolFault → Type 0
IsNoLogFault NotALog = ⊤
IsNoLogFault OtherVersion = ⊤
IsNoLogFault _ = ⊥

-- the words are at fault, or they give an entry and adding it is
abbrev pub IsEntryFault : List ℕ → List ℕ → List ℕ → List ℕ → Option WrongNumber → ToolFault → Type 0
IsEntryFault start end mtime name told fault = IsWordFault start end mtime name told fault ⊎ (GiveEntry start end mtime name × IsRecordFault fault)

abbrev pub IsBadLine : ToolFault → Type 0
IsBadLine (BadLine number) = ⊤
IsBadLine _ = ⊥

-- lines are numbered from 1
abbrev pub IsScriptFault : ToolFault → Type 0
IsScriptFault Read = ⊤
IsScriptFault Memory = ⊤
IsScriptFault (BadLine number) = 0 < number
IsScriptFault _ = ⊥

abbrev pub IsFaultOfLine : ℕ → ToolFault → Type 0
IsFaultOfLine number Memory = ⊤
IsFaultOfLine number (BadLine n) = n ≡ number
IsFaultOfLine number _ = ⊥

abbrev pub IsReplayFault : ToolFault → Type 0
IsReplayFault Write = ⊤
IsReplayFault fault = IsScriptFault fault
