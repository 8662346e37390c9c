-- What `replay` prints, and the words of a script (docs/CLI.md, "`replay`").
use Rattle.std.specs.Prelude.{◌≡◌, ◌⊎◌, ◌<◌, ◌++◌, ◌∷◌, [], List, ℕ, ℤ, Bool, Option, None, Some, codes, decimal, length, map, true, false}
use Rattle.std.specs.Prelude.{zip, ⊤}
use Rattle.std.specs.Borrow.{Bor}
use Rattle.std.specs.List.{All as Each, filter, flat_map}
use Rattle.nl_fields.specs.Digits.{decimal_of}
use Rattle.nl_fields.specs.EntryLine.{line_of}
use Rattle.nl_table.specs.declared.log_user.KeepList.{KeepList}
use Rattle.nl_table.specs.declared.log_user.KeepList.TheVariants.{All, Only}
use Rattle.nl_table.specs.History.{Began}
use Rattle.nl_folder.specs.declared.choices.Call.{Call}
use Rattle.nl_folder.specs.declared.choices.Call.TheVariants.{ReadLog, AppendLog, CutLog, SyncLog, StartScratch, AppendScratch, SyncScratch}
use Rattle.nl_folder.specs.declared.choices.Call.TheVariants.{Replace, Any}
use Rattle.nl_folder.specs.DiskState.{Disk}
use Rattle.nl_session.specs.declared.events.Event.{Event}
use Rattle.nl_session.specs.declared.events.Event.TheVariants.{Open as OpenLog, Record, Sync, Recompact, Restat, Stop, Crash}
use Rattle.nl_session.specs.declared.events.Reply.{Reply}
use Rattle.nl_session.specs.declared.events.Reply.TheVariants.{Done, Refused}
use Rattle.nl_session.specs.declared.fault.LogFault.TheVariants.{NotOpen, AlreadyOpen, Broken, NegativeTime, NotALog, OtherVersion}
use Rattle.nl_session.specs.declared.fault.LogFault.TheVariants.{OutOfMemory, Fault}
use Rattle.nl_session.specs.Headline.{Headline}
use Rattle.nl_session.specs.Runs.{HadMemory, Ran}
use Rattle.nl_tool_texts.specs.Files.{OfBytes, file_lines}
use Rattle.nl_folder.specs.declared.choices.Choices.{Choices}
use Rattle.nl_tool_change.specs.declared.script.Script.{Script}
use Rattle.nl_tool_change.specs.declared.script.Word.{Word}
use Rattle.nl_tool_change.specs.declared.script.Word.TheVariants as word

abbrev pub word_of : Call → List ℕ
word_of ReadLog = codes "read_log"
word_of AppendLog = codes "append_log"
word_of CutLog = codes "cut_log"
word_of SyncLog = codes "sync_log"
word_of StartScratch = codes "start_scratch"
word_of AppendScratch = codes "append_scratch"
word_of SyncScratch = codes "sync_scratch"
word_of Replace = codes "replace"
word_of Any = codes "any"

abbrev pub text_of_word : Word → List ℕ
text_of_word word.Writes = codes "writes"
text_of_word word.Fates = codes "fates"
text_of_word word.Tails = codes "tails"
text_of_word word.Fuse = codes "fuse"
text_of_word word.Open = codes "open"
text_of_word word.Recompact = codes "recompact"
text_of_word word.Record = codes "record"
text_of_word word.Restat = codes "restat"
text_of_word word.Sync = codes "sync"
text_of_word word.Stop = codes "stop"
text_of_word word.Crash = codes "crash"

-- what follows a word: nothing, or a tab and the rest
abbrev pub behind_tab : Option (Bor (List ℕ)) → List ℕ
behind_tab None = []
behind_tab (Some rest) = 9 ∷ rest.now

-- a tab comes before each name and each mtime
abbrev pub name_field : List ℕ → List ℕ
name_field name = 9 ∷ name

abbrev pub time_fields : List ℕ × ℤ → List ℕ
time_fields pair = 9 ∷ decimal_of pair.1 ++ 9 ∷ pair.0

-- nothing, if all are kept
abbrev pub keep_fields : KeepList → List ℕ
keep_fields All = []
keep_fields (Only names) = flat_map name_field names.items

-- a line without names keeps all
abbrev pub NamesSome : KeepList → Type 0
NamesSome All = ⊤
NamesSome (Only names) = 0 < length names.items

abbrev pub KeepsSome : Event → Type 0
KeepsSome (OpenLog keep) = NamesSome keep
KeepsSome (Recompact keep) = NamesSome keep
KeepsSome _ = ⊤

abbrev pub event_line : Event → List ℕ
event_line (OpenLog keep) = codes "open" ++ keep_fields keep
event_line (Record e) = codes "record" ++ 9 ∷ line_of e
event_line Sync = codes "sync"
event_line (Recompact keep) = codes "recompact" ++ keep_fields keep
event_line (Restat times) = codes "restat" ++ flat_map time_fields times.items
event_line Stop = codes "stop"
event_line Crash = codes "crash"

abbrev pub IsSetting : List ℕ → Type 0
IsSetting line = (rest : List ℕ) × ((line ≡ codes "writes" ++ 9 ∷ rest) ⊎ (line ≡ codes "fates" ++ 9 ∷ rest)
    ⊎ (line ≡ codes "tails" ++ 9 ∷ rest) ⊎ (line ≡ codes "fuse" ++ 9 ∷ rest))

abbrev pub is_filled : List ℕ → Bool
is_filled [] = false
is_filled (b ∷ line) = true

-- empty lines aside, settings come first, and then a line for each event
pub record IsScript (lines : List (List ℕ)) (events : List Event) : Type 0 where
  pub settings : List (List ℕ)
  pub set : Each IsSetting settings
  pub is : filter is_filled lines ≡ settings ++ map event_line events
  pub some : Each KeepsSome events

-- a setting, if no event was there yet, or the next event
abbrev pub SaysMore : List Event → List Event → List ℕ → Type 0
SaysMore old new line =
    (IsSetting line × (old ≡ []) × (new ≡ [])) ⊎ ((event : Event) × (line ≡ event_line event) × KeepsSome event × (new ≡ old ++ event ∷ []))

-- an empty line says nothing
abbrev pub TakesScriptLine : List Event → List Event → List ℕ → Type 0
TakesScriptLine old new [] = new ≡ old
TakesScriptLine old new (b ∷ line) = SaysMore old new (b ∷ line)

abbrev pub told_by : Script → Choices
told_by script = record {
  writes = script.writes.items;
  fates = script.fates.items;
  tails = script.tails.items;
  fuse = script.fuse;
  other_was_scratch = false;
}

-- a reply as it is printed: `ok`, or the number and the name of the refusal
abbrev pub reply_words : Reply → List ℕ
reply_words Done = codes "ok"
reply_words (Refused NotOpen) = codes "S1 NotOpen"
reply_words (Refused AlreadyOpen) = codes "S2 AlreadyOpen"
reply_words (Refused Broken) = codes "S3 Broken"
reply_words (Refused (NegativeTime index)) = codes "S4 NegativeTime " ++ decimal index
reply_words (Refused NotALog) = codes "S5 NotALog"
reply_words (Refused OtherVersion) = codes "S6 OtherVersion"
reply_words (Refused OutOfMemory) = codes "S7 OutOfMemory"
reply_words (Refused Fault) = codes "S8 Fault"

abbrev pub reply_line : Reply → List ℕ
reply_line reply = reply_words reply ++ 10 ∷ []

abbrev pub log_line : List ℕ → List ℕ
log_line bytes = codes "log " ++ decimal (length bytes) ++ 10 ∷ []

-- a line for each reply, a line with the log's length, and the log
abbrev pub printed : List Reply → List ℕ → List ℕ
printed replies log = flat_map reply_line replies ++ log_line log ++ log

-- the folder's log was empty, the machine may answer so, and the headline holds of the disk
pub record IsReplayOf (events : List Event) (text : List ℕ) : Type 0 where
  pub replies : List Reply
  pub disk : Disk
  pub settled : Bool
  pub one_each : length replies ≡ length events
  pub had_memory : HadMemory replies
  pub ran : Ran (Began 5) events replies (Some disk) settled
  pub headline : Headline (Began 5) (zip events replies) disk
  pub is : text ≡ printed replies disk.visible

-- the script is in the bytes that a reader gave
abbrev pub IsReplayText : Option (List ℕ) → List ℕ → Type 0
IsReplayText known text = OfBytes known (λ bytes. (events : List Event) × IsScript (file_lines bytes) events × IsReplayOf events text)
