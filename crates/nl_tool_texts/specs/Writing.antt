-- A text that is written piece by piece, as it is made (docs/CLI.md, "trace").
use Rattle.std.specs.Prelude.{⊤, ◌≡◌, ◌⊎◌, ◌++◌, ℕ, List, Option, None, Some, Result, Ok, Err}
use Rattle.std.specs.Io.KnownBytes.{Appends, Keeps}
use Rattle.nl_tool_texts.specs.Output.{AppendsPrefixOf, Prints}
use Rattle.nl_tool_texts.specs.declared.fault.ToolFault.{ToolFault}
use Rattle.nl_tool_texts.specs.declared.fault.ToolFault.TheVariants.{Memory, Write, OtherGraph}

-- known bytes grew by a prefix of the text, and the rest is held
pub record HoldsAllBut (old new : Option (List ℕ)) (text held : List ℕ) : Type 0 where
  pub written : List ℕ
  pub is : text ≡ written ++ held
  pub appended : Appends old new written

-- known bytes grew by a prefix of the text, maybe by all of it
abbrev pub AppendsSomeOf : Option (List ℕ) → Option (List ℕ) → List ℕ → Type 0
AppendsSomeOf old new text = (left : List ℕ) × HoldsAllBut old new text left

-- on Ok all of the text is written but what is held, after a refusal some of it, maybe none or all
abbrev pub Moves : Option (List ℕ) → Option (List ℕ) → List ℕ → List ℕ → Result (Unit {0}) ToolFault → Type 0
Moves old new text held (Ok done) = HoldsAllBut old new text held
Moves old new text held (Err fault) = AppendsSomeOf old new text

-- on Ok the writer holds all of the text, else a part of it, maybe none, and some is missing
abbrev pub Writes : Option (List ℕ) → Option (List ℕ) → List ℕ → Result (Unit {0}) ToolFault → Type 0
Writes old new text (Ok done) = Appends old new text
Writes old new text (Err fault) = AppendsPrefixOf old new text

abbrev pub IsWriteFault : ToolFault → Type 0
IsWriteFault Memory = ⊤
IsWriteFault Write = ⊤
IsWriteFault _ = ⊥

-- by a graph, also that it isn't that of the builds
abbrev pub IsFoundFault : {A : Type 0} → Option A → ToolFault → Type 0
IsFoundFault None fault = IsWriteFault fault
IsFoundFault (Some graph) fault = IsWriteFault fault ⊎ (fault ≡ OtherGraph)

-- one of these texts piece by piece: where memory is refused, nothing more was written, or a part of it; all else as `Prints`
abbrev pub PrintsInPieces : (List ℕ → Type 0) → Option (List ℕ) → Option (List ℕ) → Result (Unit {0}) ToolFault → Type 0
PrintsInPieces IsText old new (Err Memory) = Keeps old new ⊎ ((text : List ℕ) × IsText text × AppendsPrefixOf old new text)
PrintsInPieces IsText old new result = Prints IsText old new result
