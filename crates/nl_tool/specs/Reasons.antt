-- What is said after a refusal where `--verbose` asks for it: docs/CLI.md, "Why something was refused".
use Rattle.std.specs.Prelude.{⊤, ◌≡◌, ◌≢◌, pos, ◌⊎◌, ◌++◌, IsSome, IsSomeAnd, [], List, ℕ, Option, None, Some, IfSome, codes, decimal, string_bytes, ◌||◌, Bool, true, false, length, flat_map, ◌∷◌, if◌then◌else◌}
use Rattle.std.specs.Borrow.{Bor}
use Rattle.std.specs.IoError.{error_kind, raw_os_error}
use Rattle.std.specs.declared.io.Error.{Error}
use Rattle.std.specs.declared.io.ErrorKind.TheVariants.{WouldBlock}
use Rattle.nl_os.specs.Paths.{folder_path_of}
use Rattle.nl_os.specs.declared.failed_call.FileRole.{FileRole}
use Rattle.nl_os.specs.declared.failed_call.FileRole.TheVariants as file
use Rattle.nl_tool_texts.specs.Faults.{fault_text}
use Rattle.nl_tool_texts.specs.declared.fault.ToolFault.{ToolFault}
use Rattle.nl_tool_texts.specs.declared.fault.ToolFault.TheVariants as fault
use Rattle.nl_tool_words.specs.declared.words.Changing.{Changing}
use Rattle.nl_tool_words.specs.declared.words.Changing.TheVariants.{Prune, Retime, Repair, Apply}
use Rattle.nl_tool_words.specs.declared.words.Words.{Words}
use Rattle.nl_tool_words.specs.declared.words.Words.TheVariants.{Show, Check, Hash, HashFile, Read, Compare, Record, Recompact, Restat, Change, Mend, Replay}
use Rattle.nl_versions.specs.Version.{is_version_read}
use Rattle.nl_tool.specs.World.{graph_file, said_line}
use Rattle.nl_tool.specs.declared.reason.Place.{Place}
use Rattle.nl_tool.specs.declared.reason.Place.TheVariants as at
use Rattle.nl_tool.specs.declared.reason.Reason.{Reason}
use Rattle.nl_tool.specs.declared.reason.Reason.TheVariants.{System, Full, Locked, Unsynced, Masked, Missing, Again, Line, Negative, Early, Version, Looks, Begins, Number, OtherBuild, NoBytes, Tab, Newline, Long}
use Rattle.nl_tool.specs.declared.notes.Notes.{Notes}
use Rattle.nl_os.specs.Looks.{escaped, look_of, look_text, start_text}
use Rattle.nl_tool_change.specs.LineFaults.{line_fault_text, number_fault_text, number_name}
use Rattle.nl_tool_change.specs.declared.line_fault.NumberOf.{NumberOf}
use Rattle.nl_tool_change.specs.declared.line_fault.NumberOf.TheVariants as numbered
use Rattle.nl_tool_change.specs.declared.line_fault.WrongNumber.{WrongNumber}
use Rattle.nl_tool.specs.declared.reason.Why.{Why}
use Rattle.nl_tool.specs.declared.reason.Refusal.{Refusal}

-- ---- what is said

-- a file by its name on the page and its path, or a stream
abbrev pub place_text : Place → List ℕ
place_text (at.OfLog file.Log path) = codes "LOG " ++ path.now
place_text (at.OfLog file.Scratch log) = codes "scratch " ++ (log.now ++ codes ".recompact")
place_text (at.OfLog file.Folder log) = codes "folder " ++ folder_path_of log.now
place_text (at.OfBuild None file.Log) = codes "LOG .ninja_log"
place_text (at.OfBuild None file.Scratch) = codes "scratch .ninja_log.recompact"
place_text (at.OfBuild None file.Folder) = codes "folder ."
place_text (at.OfBuild (Some folder) file.Log) = codes "LOG " ++ (folder.now ++ codes "/.ninja_log")
place_text (at.OfBuild (Some folder) file.Scratch) = codes "scratch " ++ (folder.now ++ codes "/.ninja_log.recompact")
place_text (at.OfBuild (Some folder) file.Folder) = codes "folder " ++ folder.now
place_text (at.Keep path) = codes "KEEP " ++ path.now
place_text (at.Times path) = codes "TIMES " ++ path.now
place_text (at.Targets path) = codes "TARGETS " ++ path.now
place_text (at.Script path) = codes "SCRIPT " ++ path.now
place_text (at.Command path) = codes "FILE " ++ path.now
place_text at.Input = codes "standard input"
place_text at.Output = codes "standard output"
place_text at.Name = codes "NAME"
place_text (at.Number which text) = number_name which ++ (codes " " ++ text.now)

abbrev pub reason_text : Reason → List ℕ
reason_text (System text) = string_bytes text
reason_text (Full text) = string_bytes text ++ codes "; LOG keeps its entries"
reason_text (Locked text) = string_bytes text ++ codes ": an nlog, or a tool that keeps LOG"
reason_text (Unsynced text) = codes "it can't be synced, so a power cut may undo a rename: " ++ string_bytes text
reason_text Masked = codes "it keeps no access control list; if it had one, its group has the rights of the mask"
reason_text Missing = codes "it is missing, and was read as empty"
reason_text Again = codes "it was written anew, so builds were found again by their time stamps"
reason_text (Line number None) = codes "line " ++ decimal number
reason_text (Line number (Some fault)) = codes "line " ++ (decimal number ++ (codes ": " ++ line_fault_text fault))
reason_text (Negative number) = codes "line " ++ (decimal number ++ codes ": the time stamp is negative")
reason_text (Early text) = codes "the file of output \"" ++ (string_bytes text ++ codes "\" is from before 1970")
reason_text (Version version) =
    codes "version " ++ (string_bytes version ++ (if is_version_read (string_bytes version) then codes "; add --log-version auto" else []))
reason_text (Looks look) = look_text look
reason_text (Begins text) = codes "it begins with \"" ++ (string_bytes text ++ codes "\"")
reason_text (Number None fault) = number_fault_text fault
reason_text (Number (Some number) fault) = codes "number " ++ (decimal number ++ (codes ": " ++ number_fault_text fault))
reason_text OtherBuild = codes "no output of the build is in it, or one needs itself"
reason_text NoBytes = codes "it has no byte"
reason_text (Tab at) = codes "byte " ++ (decimal at ++ codes " is a tab")
reason_text (Newline at) = codes "byte " ++ (decimal at ++ codes " is a newline")
reason_text (Long length) = codes "it has " ++ (decimal length ++ codes " bytes, and a name at most 65536")

abbrev pub why_text : Why → List ℕ
why_text why = place_text why.place ++ (codes ": " ++ reason_text why.reason)

-- nothing, or a line of its own after another
abbrev pub behind : Option Why → List ℕ
behind None = []
behind (Some why) = codes "\nnlog: " ++ why_text why

-- the text of the fault, and after it the text of the reason, where there is one
abbrev pub refusal_text : Refusal → List ℕ
refusal_text refusal = fault_text refusal.fault ++ behind refusal.why

-- a note is a line of its own
abbrev pub note_text : Option Why → List ℕ
note_text None = []
note_text (Some why) = said_line (why_text why)

-- ---- which file a reason is of

-- a file of the log that is mended: the one that is named, or else that of the build in the folder
abbrev pub mended_place : Option (Bor (List ℕ)) → Option (Bor (List ℕ)) → FileRole → Place
mended_place (Some log) folder role = at.OfLog role log
mended_place None folder role = at.OfBuild folder role

-- the file that the words have read or looked for, or standard input
abbrev pub given_or_input : (Bor (List ℕ) → Place) → Option (Bor (List ℕ)) → Place
given_or_input place None = at.Input
given_or_input place (Some path) = place path

-- the file beside the log that a word changes, or that log
abbrev pub change_place : Changing → Bor (List ℕ) → Option (Bor (List ℕ)) → Place
change_place Prune log beside = given_or_input at.Targets beside
change_place Apply log beside = given_or_input at.Script beside
change_place Retime log beside = at.OfLog file.Log log
change_place Repair log beside = at.OfLog file.Log log

abbrev pub read_place : Words → Option Place
read_place (Show log) = Some (given_or_input (at.OfLog file.Log) log)
read_place (Check log) = Some (given_or_input (at.OfLog file.Log) log)
read_place (Hash command) = None
read_place (HashFile file) = Some (given_or_input at.Command file)
read_place (Read what log choices) = Some (given_or_input (at.OfLog file.Log) log)
read_place (Compare old new choices) = None
read_place (Record entry) = None
read_place (Recompact log keep) = Some (at.Keep keep)
read_place (Restat log times) = Some (at.Times times)
read_place (Change what log file) = Some (change_place what log file)
read_place (Mend log choices) = Some (mended_place log choices.folder file.Log)
read_place (Replay script) = Some (given_or_input at.Script script)

-- a file of the log that the words change, or what they read a log from
abbrev pub log_place : Words → FileRole → Option Place
log_place (Show log) file = read_place (Show log)
log_place (Check log) file = read_place (Check log)
log_place (Hash command) file = None
log_place (HashFile path) file = None
log_place (Read what log choices) file = read_place (Read what log choices)
log_place (Compare old new choices) file = None
log_place (Record entry) file = Some (at.OfLog file entry.log)
log_place (Recompact log keep) file = Some (at.OfLog file log)
log_place (Restat log times) file = Some (at.OfLog file log)
log_place (Change what log beside) file = Some (at.OfLog file log)
log_place (Mend log choices) file = Some (mended_place log choices.folder file)
log_place (Replay script) file = None

-- a folder can't be synced
abbrev pub IsUnsynced : Reason → Type 0
IsUnsynced (Unsynced text) = ⊤
IsUnsynced _ = ⊥

-- with two logs, the words that read the second of them, or the first; with a log and a graph, the words that read the log, or a file; else
-- the words as they are
abbrev pub with_graph : Option (Bor (List ℕ)) → Bool → Words → Words
with_graph (Some graph) true words = HashFile (graph_file graph)
with_graph _ _ words = words

abbrev pub words_heard : Words → Bool → Words
words_heard (Compare old new choices) is_second = Show (Some (if is_second then new else old))
words_heard (Read what log choices) is_second = with_graph choices.graph is_second (Read what log choices)
words_heard words is_second = words

-- one of the files that words read is standard input
abbrev pub is_input : Option Place → Bool
is_input (Some at.Input) = true
is_input place = false

abbrev pub reads_input : Words → Bool
reads_input words = is_input (read_place (words_heard words false)) || is_input (read_place (words_heard words true))

-- those that give the reason of a fault: where a number is bad, the words as they are
abbrev pub words_for : ToolFault → Words → Bool → Words
words_for fault.BadNumber words is_second = words
words_for fault.OtherGraph words is_second = words_heard words true
words_for fault words is_second = words_heard words is_second

-- the reason is what the system said
abbrev pub IsSystem : Reason → Type 0
IsSystem (System text) = ⊤
IsSystem _ = ⊥

-- what is said of a folder's error: the disk has no room, another holds the lock, or else what the system says
abbrev pub IsSaidOf : Error → Reason → Type 0
IsSaidOf error (Full text) = raw_os_error error ≡ Some (pos 28)
IsSaidOf error (Locked text) = error_kind error ≡ WouldBlock
IsSaidOf error (System text) = (raw_os_error error ≢ Some (pos 28)) × (error_kind error ≢ WouldBlock)
IsSaidOf error _ = ⊥

-- how the file begins that was read last
abbrev pub heard_of : Notes → List ℕ
heard_of notes = notes.heard.beginning.items

-- the first line names the version of these digits, and ends behind them
abbrev pub NamesVersion : List ℕ → List ℕ → Type 0
NamesVersion bytes digits = (more : List ℕ) × (bytes ≡ codes "# ninja log v" ++ (digits ++ 10 ∷ more))

abbrev pub IsVersion : List ℕ → Reason → Type 0
IsVersion bytes (Version version) = NamesVersion bytes (string_bytes version)
IsVersion bytes _ = ⊥

-- the reason is what a file looks like that begins so, or else its first bytes
abbrev pub IsLookAt : List ℕ → Reason → Type 0
IsLookAt bytes (Looks look) = look_of bytes ≡ Some look
IsLookAt bytes (Begins text) = (look_of bytes ≡ None) × (string_bytes text ≡ start_text bytes)
IsLookAt bytes _ = ⊥

-- the text of a number of these words, where they have one
abbrev pub number_text : Words → NumberOf → Option (Bor (List ℕ))
number_text (Record entry) numbered.Start = Some entry.start
number_text (Record entry) numbered.End = Some entry.end
number_text (Record entry) numbered.Mtime = Some entry.mtime
number_text (Read what log choices) numbered.Lines = choices.lines
number_text (Read what log choices) numbered.Build = choices.build
number_text (Read what log choices) numbered.Jobs = choices.jobs
number_text (Compare old new choices) numbered.Lines = choices.lines
number_text (Compare old new choices) numbered.Least = choices.least
number_text _ _ = None

-- of the number that was refused the words have the text
abbrev pub HasText : Words → Option WrongNumber → Type 0
HasText words told = IsSomeAnd told (λ bad. IsSome (number_text words bad.which))

-- the number is told that was refused, by its text in the words, and what is wrong with it
abbrev pub TellsNumber : Words → WrongNumber → Why → Type 0
TellsNumber words bad why =
    IsSomeAnd (number_text words bad.which) (λ text. why.place ≡ at.Number bad.which text) × (why.reason ≡ Number bad.nth bad.why)

-- the reason is this byte
abbrev pub IsByteAt : ℕ → Reason → Type 0
IsByteAt place (Tab at) = at ≡ place
IsByteAt place (Newline at) = at ≡ place
IsByteAt place _ = ⊥

abbrev pub IsLongNameOf : Words → Why → Type 0
IsLongNameOf (Record entry) why = (why.place ≡ at.Name) × (why.reason ≡ Long (length entry.name.now))
IsLongNameOf _ why = ⊥

-- the reason is this line, and what its reader says of it
abbrev pub IsLine : ℕ → Notes → Reason → Type 0
IsLine number notes (Line at fault) = (at ≡ number) × (fault ≡ notes.told.why)
IsLine number notes _ = ⊥

-- it is the output whose file is noted, or else the line
abbrev pub IsNegative : Notes → Reason → Type 0
IsNegative notes (Negative number) = (notes.early.items ≡ []) × (notes.told.negative ≡ Some number)
IsNegative notes (Early text) = string_bytes text ≡ flat_map escaped notes.early.items
IsNegative notes _ = ⊥

-- what may be said of a fault of these words, by what is noted: the folder's last failure, how the file begins that was read last, and the
-- number that was refused; what couldn't be read is the file that the words read, or the log beside it, where that failure is noted
abbrev pub IsReasonFor : Words → ToolFault → Notes → Why → Type 0
IsReasonFor words fault.Read notes why =
    ((read_place words ≡ Some why.place) ⊎ IsSomeAnd notes.folder (λ failure. log_place words failure.file ≡ Some why.place)) × IsSystem why.reason
IsReasonFor words fault.Write notes why = (why.place ≡ at.Output) × IsSystem why.reason
IsReasonFor words fault.Folder notes why =
    IfSome notes.folder (λ failure. (log_place words failure.file ≡ Some why.place) × IsSaidOf failure.error why.reason)
IsReasonFor words (fault.BadLine number) notes why = (read_place words ≡ Some why.place) × IsLine number notes why.reason
IsReasonFor words (fault.NegativeTime place) notes why = (read_place words ≡ Some why.place) × IsNegative notes why.reason
IsReasonFor words fault.OtherVersion notes why = (log_place words file.Log ≡ Some why.place) × IsVersion (heard_of notes) why.reason
IsReasonFor words fault.NotALog notes why = (log_place words file.Log ≡ Some why.place) × IsLookAt (heard_of notes) why.reason
IsReasonFor words fault.BadNumber notes why = IsSomeAnd notes.told.number (λ bad. TellsNumber words bad why)
IsReasonFor words fault.EmptyName notes why = (why.place ≡ at.Name) × (why.reason ≡ NoBytes)
IsReasonFor words (fault.BadByte place) notes why = (why.place ≡ at.Name) × IsByteAt place why.reason
IsReasonFor words fault.LongName notes why = IsLongNameOf words why
IsReasonFor words fault.Memory notes why = ⊥
IsReasonFor words fault.OtherGraph notes why = (read_place words ≡ Some why.place) × (why.reason ≡ OtherBuild)
IsReasonFor words fault.Elsewhere notes why = ⊥

-- a note of this file, by this reason: it is said only if that holds, and always if the words have such a file, too
pub record IsNote (holds : Bool) (place : Option Place) (reason : Reason) (note : Option Why) : Type 0 where
  pub none : holds ≡ false → note ≡ None
  pub said : IfSome note (λ why. (place ≡ Some why.place) × (why.reason ≡ reason))
  pub whenever : holds ≡ true → IsSome place → IsSome note
