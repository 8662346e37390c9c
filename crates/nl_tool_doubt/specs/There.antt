-- What is learned of the files of outputs (docs/CLI.md, "recompact", "restat").
use Rattle.std.specs.Prelude.{if◌then◌else◌, ◌≡◌, ◌++◌, ◌∷◌, ◌<◌, ◌≤◌, ◌*◌, [], ℕ, ℤ, Bool, FitsSigned, List, length, Option, None, Some}
use Rattle.std.specs.Int.{w64}
use Rattle.std.specs.List.{All, count_by, flat_map}
use Rattle.nl_fields.specs.declared.entry.Entry.{Entry}
use Rattle.nl_fields.specs.Intent.{is_intent}
use Rattle.nl_table.specs.History.{holds, logged, table}
use Rattle.nl_table.specs.Log.{LogReading, Log, NotALog, OtherVersion}
use Rattle.nl_tool_doubt.specs.Doubts.{AreLooked}
use Rattle.nl_tool_doubt.specs.declared.files.FileState.{FileState}
use Rattle.nl_tool_doubt.specs.declared.files.FileState.TheVariants.{Missing, Written}
use Rattle.nl_tool_doubt.specs.declared.files.Looked.{Looked}

-- the outputs stand in the order of first appearance; none if there is no log
abbrev pub table_in : LogReading → Option (List Entry)
table_in (Log version entries) = Some (table (logged version entries))
table_in OtherVersion = None
table_in NotALog = None

-- none if its file is missing
abbrev pub name_by : Entry → FileState → List (List ℕ)
name_by e Missing = []
name_by e file = e.name ∷ []

-- none if its file has no time, or if the entry is an intent: with a time stamp a command passes for it
abbrev pub pair_by : Entry → FileState → List (List ℕ × ℤ)
pair_by e (Written t) = if is_intent e then [] else (e.name, t.written) ∷ []
pair_by e file = []

-- the time of each is one that an entry can have
abbrev pub FitEntries : List (List ℕ × ℤ) → Type 0
FitEntries pairs = All (λ (pair : List ℕ × ℤ). FitsSigned w64 pair.1) pairs

abbrev pub learned : {X : Type 0} → (Entry → FileState → List X) → Looked → List X
learned by l = by l.entry l.file

-- what is learned of the file of each output of a table was added
pub record AddsFor {X : Type 0} (by : Entry → FileState → List X) (table : List Entry) (states : Option (List ℕ → FileState))
    (old new : List X) : Type 0 where
  pub looked : List Looked
  pub looks : AreLooked table states looked
  pub items : new ≡ old ++ flat_map (learned by) looked

-- ---- what is kept of a log: the targets of a build, and each output whose file isn't missing

abbrev pub is_kept : List (List ℕ) → Looked → Bool
is_kept set it = holds set it.entry.name

pub record IsKept (table : List Entry) (states : Option (List ℕ → FileState)) (targets set : List (List ℕ)) : Type 0 where
  pub names : List (List ℕ)
  pub adds : AddsFor name_by table states targets names
  pub same : (name : List ℕ) → holds set name ≡ holds names name

-- no more outputs go than stay
pub record KeepsMost (table : List Entry) (states : Option (List ℕ → FileState)) (targets set : List (List ℕ)) : Type 0 where
  pub is : IsKept table states targets set
  pub most : length is.adds.looked ≤ 2 * count_by (is_kept set) is.adds.looked

pub record LosesMost (table : List Entry) (states : Option (List ℕ → FileState)) (targets set : List (List ℕ)) : Type 0 where
  pub is : IsKept table states targets set
  pub most : 2 * count_by (is_kept set) is.adds.looked < length is.adds.looked
