-- What a writer holds after a command that writes a text (docs/CLI.md).
use Rattle.std.specs.Prelude.{◌≡◌, ◌++◌, ◌<◌, ℕ, List, Option, Result, Ok, Err, length}
use Rattle.std.specs.Io.KnownBytes.{Appends, Keeps}
use Rattle.nl_tool_texts.specs.declared.fault.ToolFault.{ToolFault}
use Rattle.nl_tool_texts.specs.declared.fault.ToolFault.TheVariants.{Write}

-- known bytes grew by a prefix of the text, maybe an empty one, and the rest, which isn't empty, is missing
pub record AppendsPrefixOf (old new : Option (List ℕ)) (text : List ℕ) : Type 0 where
  pub prefix : List ℕ
  pub rest : List ℕ
  pub is : text ≡ prefix ++ rest
  pub missing : 0 < length rest
  pub appended : Appends old new prefix

-- on Ok the writer holds all of the text, after a failed write a part of it, else nothing more
abbrev pub Prints : (List ℕ → Type 0) → Option (List ℕ) → Option (List ℕ) → Result (Unit {0}) ToolFault → Type 0
Prints IsText old new (Ok done) = (text : List ℕ) × IsText text × Appends old new text
Prints IsText old new (Err Write) = (text : List ℕ) × IsText text × AppendsPrefixOf old new text
Prints IsText old new (Err fault) = Keeps old new
