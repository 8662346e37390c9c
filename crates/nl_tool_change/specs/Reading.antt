-- Which lines of a script are those of an event: docs/CLI.md, "`replay`".
use Rattle.std.specs.Prelude.{◌≡◌, ◌⊎◌, ◌++◌, ◌∷◌, [], List, ℕ, ℤ, FitsSigned, codes, ⊤}
use Rattle.std.specs.Int.{w64}
use Rattle.std.specs.List.{All as Each, flat_map}
use Rattle.nl_fields.specs.EntryLine.{IsEntry, line_of}
use Rattle.nl_fields.specs.Name.{IsName}
use Rattle.nl_table.specs.declared.log_user.KeepList.{KeepList}
use Rattle.nl_table.specs.declared.log_user.KeepList.TheVariants.{All, Only}
use Rattle.nl_session.specs.declared.events.Event.{Event}
use Rattle.nl_session.specs.declared.events.Event.TheVariants.{Open as OpenLog, Record, Sync, Recompact, Restat, Stop, Crash}
use Rattle.nl_tool_change.specs.Replay.{KeepsSome, event_line, keep_fields, name_field, time_fields}
use Rattle.nl_tool_change.specs.declared.script.LineRefusal.{LineRefusal}
use Rattle.nl_tool_change.specs.declared.script.LineRefusal.TheVariants.{OutOfMemory}
use Rattle.nl_tool_change.specs.declared.script.Word.{Word}
use Rattle.nl_tool_change.specs.declared.script.Word.TheVariants as word

-- memory was refused
abbrev pub LacksMemory : LineRefusal → Type 0
LacksMemory refusal = refusal ≡ OutOfMemory

abbrev pub AreNames : KeepList → Type 0
AreNames All = ⊤
AreNames (Only names) = Each IsName names.items

abbrev pub IsTime : List ℕ × ℤ → Type 0
IsTime pair = IsName pair.0 × FitsSigned w64 pair.1

-- its names are names, and its numbers are in their ranges
abbrev pub IsReadable : Event → Type 0
IsReadable (OpenLog keep) = AreNames keep
IsReadable (Record e) = IsEntry e
IsReadable (Recompact keep) = AreNames keep
IsReadable (Restat times) = Each IsTime times.items
IsReadable _ = ⊤

-- an event that keeps names keeps all, or some
pub record IsLineOf (event : Event) (line : List ℕ) : Type 0 where
  pub readable : IsReadable event
  pub some : KeepsSome event
  pub is : line ≡ event_line event

abbrev pub word_of_event : Event → Word
word_of_event (OpenLog keep) = word.Open
word_of_event (Record e) = word.Record
word_of_event Sync = word.Sync
word_of_event (Recompact keep) = word.Recompact
word_of_event (Restat times) = word.Restat
word_of_event Stop = word.Stop
word_of_event Crash = word.Crash

abbrev pub fields_of_event : Event → List ℕ
fields_of_event (OpenLog keep) = keep_fields keep
fields_of_event (Record e) = 9 ∷ line_of e
fields_of_event (Recompact keep) = keep_fields keep
fields_of_event (Restat times) = flat_map time_fields times.items
fields_of_event _ = []

abbrev pub SaysNames : List ℕ → Type 0
SaysNames text = (names : List (List ℕ)) × Each IsName names × (text ≡ flat_map name_field names)

abbrev pub SaysTimes : List ℕ → Type 0
SaysTimes text = (times : List (List ℕ × ℤ)) × Each IsTime times × (text ≡ flat_map time_fields times)

-- to read such a line takes memory
abbrev pub HoldsNames : List ℕ → Type 0
HoldsNames line = (rest : List ℕ) × ((line ≡ codes "open" ++ 9 ∷ rest) ⊎ (line ≡ codes "record" ++ 9 ∷ rest)
    ⊎ (line ≡ codes "recompact" ++ 9 ∷ rest) ⊎ (line ≡ codes "restat" ++ 9 ∷ rest))
