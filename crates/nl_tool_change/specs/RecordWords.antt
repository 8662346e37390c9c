-- What the words of `record` say: docs/CLI.md, "`record`".
use Rattle.std.specs.Prelude.{◌≡◌, ◌≢◌, ◌⊎◌, ℕ, ℤ, List, Option, FitsSigned, IsSomeAnd}
use Rattle.std.specs.Int.{Width, w32, w64}
use Rattle.nl_fields.specs.declared.entry.Entry.{Entry}
use Rattle.nl_fields.specs.declared.name.NameFault.{NameFault}
use Rattle.nl_fields.specs.declared.name.NameFault.TheVariants as name
use Rattle.nl_fields.specs.Digits.{IsDecimal}
use Rattle.nl_fields.specs.Name.{HasFault, IsName}
use Rattle.nl_tool_change.specs.declared.line_fault.WrongNumber.{WrongNumber}
use Rattle.nl_tool_change.specs.declared.line_fault.NumberOf.{NumberOf}
use Rattle.nl_tool_change.specs.declared.line_fault.NumberOf.TheVariants.{Start, End, Mtime}
use Rattle.nl_tool_texts.specs.declared.fault.ToolFault.{ToolFault}
use Rattle.nl_tool_texts.specs.declared.fault.ToolFault.TheVariants.{Memory, BadNumber, EmptyName, BadByte, LongName}

-- a text that spells a number of the width
pub record IsNumber (w : Width) (text : List ℕ) : Type 0 where
  pub number : ℤ
  pub fits : FitsSigned w number
  pub is : IsDecimal number text

-- each is in its range
pub record AreNumbers (start end mtime : List ℕ) : Type 0 where
  pub start_is : IsNumber w32 start
  pub end_is : IsNumber w32 end
  pub mtime_is : IsNumber w64 mtime

pub record GiveEntry (start end mtime name : List ℕ) : Type 0 where
  pub numbers : AreNumbers start end mtime
  pub named : IsName name

pub record IsEntryOf (start end mtime name : List ℕ) (e : Entry) : Type 0 where
  pub start_is : IsDecimal e.start_ms start
  pub end_is : IsDecimal e.end_ms end
  pub mtime_is : IsDecimal e.mtime mtime
  pub name_is : e.name ≡ name

abbrev pub of_name_fault : NameFault → ToolFault
of_name_fault name.Empty = EmptyName
of_name_fault (name.BadByte at) = BadByte at
of_name_fault name.TooLong = LongName
of_name_fault name.OutOfMemory = Memory

pub record IsNoName (bytes : List ℕ) (fault : ToolFault) : Type 0 where
  pub why : NameFault
  pub has : HasFault bytes why
  pub refused : why ≢ name.OutOfMemory
  pub is : fault ≡ of_name_fault why

-- a number is refused, and it is told which
abbrev pub IsToldOf : NumberOf → Option WrongNumber → ToolFault → Type 0
IsToldOf which told fault = (fault ≡ BadNumber) × IsSomeAnd told (λ bad. bad.which ≡ which)

abbrev pub IsNoNumber : Width → List ℕ → NumberOf → Option WrongNumber → ToolFault → Type 0
IsNoNumber w text which told fault = IsToldOf which told fault × ¬ IsNumber w text

-- the first of these texts that is no number
abbrev pub IsFirstBad : List ℕ → List ℕ → List ℕ → Option WrongNumber → ToolFault → Type 0
IsFirstBad start end mtime told fault = IsNoNumber w32 start Start told fault
    ⊎ ((IsNumber w32 start × IsNoNumber w32 end End told fault)
    ⊎ (IsNumber w32 start × IsNumber w32 end × IsNoNumber w64 mtime Mtime told fault))

-- a text is no number, and it is told which, or the numbers are right and the name is no name
abbrev pub IsWordFault : List ℕ → List ℕ → List ℕ → List ℕ → Option WrongNumber → ToolFault → Type 0
IsWordFault start end mtime name told fault = IsFirstBad start end mtime told fault ⊎ (AreNumbers start end mtime × IsNoName name fault)
