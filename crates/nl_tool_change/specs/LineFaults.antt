-- What is said of a number and of a line: docs/CLI.md, "Why something was refused".
use Rattle.std.specs.Prelude.{ℕ, List, ◌++◌, codes}
use Rattle.nl_tool_change.specs.declared.line_fault.NumberFault.{NumberFault}
use Rattle.nl_tool_change.specs.declared.line_fault.NumberFault.TheVariants.{NoNumber, Spelling, Below, BelowOne, Past32, Past64}
use Rattle.nl_tool_change.specs.declared.line_fault.NumberOf.{NumberOf}
use Rattle.nl_tool_change.specs.declared.line_fault.NumberOf.TheVariants.{Start, End, Mtime, Lines, Build, Jobs, Least}
use Rattle.nl_tool_change.specs.declared.line_fault.LineFault.{LineFault}
use Rattle.nl_tool_change.specs.declared.line_fault.LineFault.TheVariants.{NoTab, Tab, Number, NoName, NoRule, NoTarget, Zero, LongName, LongLine, NoEvent, Values, Fields, Torn}

-- a number of a command line, by its name on the page
abbrev pub number_name : NumberOf → List ℕ
number_name Start = codes "START"
number_name End = codes "END"
number_name Mtime = codes "MTIME"
number_name Lines = codes "N"
number_name Build = codes "BUILD"
number_name Jobs = codes "N"
number_name Least = codes "MS"

abbrev pub number_fault_text : NumberFault → List ℕ
number_fault_text NoNumber = codes "it isn't a number"
number_fault_text Spelling = codes "a number has no zero in front"
number_fault_text Below = codes "it is less than 0"
number_fault_text BelowOne = codes "it is less than 1"
number_fault_text Past32 = codes "it isn't from -2147483648 to 2147483647"
number_fault_text Past64 = codes "it isn't a number of 64 bits"

abbrev pub line_fault_text : LineFault → List ℕ
line_fault_text NoTab = codes "there is no tab"
line_fault_text Tab = codes "a name has no tab"
line_fault_text (Number fault) = codes "before the tab, " ++ number_fault_text fault
line_fault_text NoName = codes "the name is empty"
line_fault_text Zero = codes "a name has no zero byte"
line_fault_text LongName = codes "a name has at most 65536 bytes"
line_fault_text LongLine = codes "a line has at most 262143 bytes"
line_fault_text NoTarget = codes "there is no target"
line_fault_text NoRule = codes "no target, colon, space and rule"
line_fault_text NoEvent = codes "no event begins so"
line_fault_text Values = codes "the values are wrong, or the line stands where it must not"
line_fault_text Fields = codes "the values are wrong"
line_fault_text Torn = codes "no newline ends it"
