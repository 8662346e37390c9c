-- Which faults each command that prints may answer (docs/CLI.md, "Messages").
use Rattle.std.specs.Prelude.{◌≡◌, ⊤, ℕ, List, Option, IfSome, IsErrOf, Result}
use Rattle.nl_table.specs.Log.{LogReading}
use Rattle.nl_table.specs.Log as log
use Rattle.nl_tool_texts.specs.declared.fault.ToolFault.{ToolFault}
use Rattle.nl_tool_texts.specs.declared.fault.ToolFault.TheVariants.{NotALog, OtherVersion, Read, Memory, Write}

abbrev pub IsLogFault : ToolFault → Type 0
IsLogFault NotALog = ⊤
IsLogFault OtherVersion = ⊤
IsLogFault Read = ⊤
IsLogFault Memory = ⊤
IsLogFault Write = ⊤
IsLogFault _ = ⊥

abbrev pub IsHashFault : ToolFault → Type 0
IsHashFault Memory = ⊤
IsHashFault Write = ⊤
IsHashFault _ = ⊥

abbrev pub IsHashFileFault : ToolFault → Type 0
IsHashFileFault Read = ⊤
IsHashFileFault fault = IsHashFault fault

-- a log is refused for what its bytes are, where they are known
pub record RefusesLog {A : Type 0} (reading : List ℕ → LogReading) (known : Option (List ℕ)) (result : Result A ToolFault) : Type 0 where
  pub not_a_log : IsErrOf result NotALog → IfSome known (λ bytes. reading bytes ≡ log.NotALog)
  pub other_version : IsErrOf result OtherVersion → IfSome known (λ bytes. reading bytes ≡ log.OtherVersion)
