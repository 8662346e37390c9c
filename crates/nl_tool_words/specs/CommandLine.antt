-- What a command line says: the word that it enters with its values, and which words are wrong (docs/CLI.md).
use Rattle.std.specs.Prelude.{◌≡◌, ⊤, List, [], ◌∷◌, Bool, true, false, Option, Some, None, codes, is_some, option_and_then, option_map, not}
use Rattle.std.specs.Prelude.{nat_eq, ◌&&◌, ◌||◌, if◌then◌else◌}
use Rattle.std.specs.Borrow.{Bor}
use Rattle.std.specs.List.{list_any}
use Rattle.std.specs.Option.{option_map_or}
use Rattle.std.specs.Str.{bytes_eq}
use Rattle.clap.specs.Words.{Kinds, Row, Rule, Text, fault_of, first_of, subcommand_of}
use Rattle.clap.specs.Kinds.{or_else}
use Rattle.clap.specs.declared.error.kind.ErrorKind.TheVariants.{ArgumentConflict, InvalidValue, MissingRequiredArgument}
use Rattle.nl_tool_words.specs.Rows.{nlog, word_rows}
use Rattle.nl_tool_words.specs.declared.command_line.AskedVersion.{AskedVersion}
use Rattle.nl_tool_words.specs.declared.command_line.AskedVersion.TheVariants.{Auto, Five, Six, Seven}
use Rattle.nl_tool_words.specs.declared.words.Changing.{Changing}
use Rattle.nl_tool_words.specs.declared.words.Changing.TheVariants.{Prune, Retime, Repair, Apply}
use Rattle.nl_tool_words.specs.declared.words.Choices.{Choices}
use Rattle.nl_tool_words.specs.declared.words.NewEntry.{NewEntry}
use Rattle.nl_tool_words.specs.declared.words.Reading.{Reading}
use Rattle.nl_tool_words.specs.declared.words.Reading.TheVariants.{Entries, Damage, Doubt, Builds, Summary, Trace, Picture}
use Rattle.nl_tool_words.specs.declared.words.Words.{Words}
use Rattle.nl_tool_words.specs.declared.words.Words.TheVariants.{Show, Check, Hash, HashFile, Read, Compare, Record, Recompact, Restat, Change, Mend, Replay}

-- what a command line enters
abbrev pub entered_of : List Text → Option (Text × List Row)
entered_of words = subcommand_of nlog words

-- ---- the word, and what it can't be without

abbrev pub IsName : Text → Type 0
IsName name = list_any (λ word. bytes_eq word.0 name) word_rows ≡ true

-- the values that a word can't be without, by its rules
abbrev pub required_ids : List Rule → List Text
required_ids [] = []
required_ids (a ∷ rules) = if a.required then a.id ∷ required_ids rules else required_ids rules

-- those of the first of these words that has the name
abbrev pub required_in : List (Text × List Rule) → Text → List Text
required_in [] name = []
required_in (word ∷ words) name = if bytes_eq word.0 name then required_ids word.1 else required_in words name

abbrev pub required_of : Text → List Text
required_of name = required_in word_rows name

-- each of the values is there
abbrev pub HasEach : List Text → List Row → Type 0
HasEach [] rows = ⊤
HasEach (id ∷ ids) rows = (is_some (first_of id rows) ≡ true) × HasEach ids rows

-- what is entered is a word of the program, and has what that can't be without
abbrev pub IsComplete : Option (Text × List Row) → Type 0
IsComplete None = ⊤
IsComplete (Some p) = IsName p.0 × HasEach (required_of p.0) p.1

-- ---- what is said

-- a value that may be left out
abbrev pub IsGiven : Text → List Row → Option (Bor Text) → Type 0
IsGiven id rows text = option_map (λ s. s.now) text ≡ first_of id rows

-- a value that is there
abbrev pub IsThere : Text → List Row → Bor Text → Type 0
IsThere id rows text = first_of id rows ≡ Some text.now

-- a flag that is given or not
abbrev pub is_set_in : Text → List Row → Bool
is_set_in id rows = option_map_or (λ text. bytes_eq text (codes "true")) (first_of id rows) false

abbrev pub reading_name : Reading → Text
reading_name Entries = codes "entries"
reading_name Damage = codes "damage"
reading_name Doubt = codes "doubt"
reading_name Builds = codes "builds"
reading_name Summary = codes "summary"
reading_name Trace = codes "trace"
reading_name Picture = codes "picture"

abbrev pub is_reading : Text → Bool
is_reading name = bytes_eq name (codes "entries") || (bytes_eq name (codes "damage") || (bytes_eq name (codes "doubt")
    || (bytes_eq name (codes "builds") || (bytes_eq name (codes "summary") || (bytes_eq name (codes "trace") || bytes_eq name (codes "picture"))))))

abbrev pub changing_name : Changing → Text
changing_name Prune = codes "prune"
changing_name Retime = codes "retime"
changing_name Repair = codes "repair"
changing_name Apply = codes "apply"

abbrev pub name_of : Words → Text
name_of (Show log) = codes "show"
name_of (Check log) = codes "check"
name_of (Hash command) = codes "hash"
name_of (HashFile file) = codes "hash-file"
name_of (Read what log choices) = reading_name what
name_of (Compare old new choices) = codes "compare"
name_of (Record entry) = codes "record"
name_of (Recompact log keep) = codes "recompact"
name_of (Restat log times) = codes "restat"
name_of (Change what log file) = changing_name what
name_of (Mend log choices) = codes "mend"
name_of (Replay script) = codes "replay"

-- what is chosen: nothing by an option that the word doesn't have
abbrev pub IsChosen : Choices → List Row → Type 0
IsChosen choices rows = IsGiven (codes "build") rows choices.build × (choices.all ≡ is_set_in (codes "all") rows)
    × IsGiven (codes "kind") rows choices.kind × IsGiven (codes "lines") rows choices.lines
    × IsGiven (codes "graph") rows choices.graph × IsGiven (codes "jobs") rows choices.jobs × IsGiven (codes "at-least") rows choices.least
    × IsGiven (codes "folder") rows choices.folder × (choices.dry_run ≡ is_set_in (codes "dry-run") rows)

-- what `record` adds to a log
abbrev pub IsNewEntry : NewEntry → List Row → Type 0
IsNewEntry entry rows = IsThere (codes "LOG") rows entry.log × IsThere (codes "START") rows entry.start
    × IsThere (codes "END") rows entry.end × IsThere (codes "MTIME") rows entry.mtime × IsThere (codes "NAME") rows entry.name
    × IsThere (codes "COMMAND") rows entry.command

-- the file beside the log
abbrev pub IsBeside : Changing → List Row → Option (Bor Text) → Type 0
IsBeside Prune rows file = IsGiven (codes "TARGETS") rows file
IsBeside Apply rows file = IsGiven (codes "SCRIPT") rows file
IsBeside _ rows file = file ≡ None

-- the values are those of what was entered
abbrev pub HasValues : Words → List Row → Type 0
HasValues (Show log) rows = IsGiven (codes "LOG") rows log
HasValues (Check log) rows = IsGiven (codes "LOG") rows log
HasValues (Hash command) rows = IsThere (codes "COMMAND") rows command
HasValues (HashFile file) rows = IsGiven (codes "FILE") rows file
HasValues (Read what log choices) rows = IsGiven (codes "LOG") rows log × IsChosen choices rows
HasValues (Compare old new choices) rows = IsThere (codes "OLD") rows old × IsThere (codes "NEW") rows new × IsChosen choices rows
HasValues (Record entry) rows = IsNewEntry entry rows
HasValues (Recompact log keep) rows = IsThere (codes "LOG") rows log × IsThere (codes "KEEP") rows keep
HasValues (Restat log times) rows = IsThere (codes "LOG") rows log × IsThere (codes "TIMES") rows times
HasValues (Change what log file) rows = IsThere (codes "LOG") rows log × IsBeside what rows file
HasValues (Mend log choices) rows = IsGiven (codes "LOG") rows log × IsChosen choices rows
HasValues (Replay script) rows = IsGiven (codes "SCRIPT") rows script

-- the word and its values are those of what was entered: `show` where nothing is
abbrev pub IsSaid : Words → Option (Text × List Row) → Type 0
IsSaid words None = words ≡ Show None
IsSaid words (Some p) = (name_of words ≡ p.0) × HasValues words p.1

-- the value of this name that the word which was entered was given
abbrev pub given_in : Text → Option (Text × List Row) → Option Text
given_in id entered = option_and_then (λ p. first_of id p.1) entered

-- whether it was given the flag of this name
abbrev pub is_flagged : Text → Option (Text × List Row) → Bool
is_flagged id entered = option_map_or (λ text. bytes_eq text (codes "true")) (given_in id entered) false

-- ---- the version

abbrev pub version_id : Text
version_id = codes "log-version"

-- how each version is written
abbrev pub version_text : AskedVersion → Text
version_text Five = codes "5"
version_text Six = codes "6"
version_text Seven = codes "7"
version_text Auto = codes "auto"

abbrev pub is_version_text : Text → Bool
is_version_text text =
    bytes_eq text (codes "5") || (bytes_eq text (codes "6") || (bytes_eq text (codes "7") || bytes_eq text (codes "auto")))

-- the words that have no version but the one that their log names
abbrev pub tells_version : Text → Bool
tells_version name = is_reading name || bytes_eq name (codes "compare")

-- whether the word of this name takes a version that is written so
abbrev pub is_version_for : Text → Text → Bool
is_version_for name text = if tells_version name then bytes_eq text (codes "auto") else is_version_text text

-- the version is the one that is asked for by this value, and none is where there is no value
abbrev pub IsAsked : Option AskedVersion → Option Text → Type 0
IsAsked None None = ⊤
IsAsked (Some version) (Some text) = text ≡ version_text version
IsAsked _ _ = ⊥

-- ---- wrong words

abbrev pub is_path : Text → Bool
is_path word = list_any (λ byte. nat_eq byte 46) word || list_any (λ byte. nat_eq byte 47) word

-- the path that stands in the place of a command: no command has a dot or a slash
abbrev pub path_in_place : List Text → Option Text
path_in_place (program ∷ word ∷ words) = if is_path word then Some word else None
path_in_place _ = None

-- the kind of error of a version that the word which was entered doesn't take
abbrev pub version_fault : Option (Text × List Row) → Kinds
version_fault None = []
version_fault (Some p) = if option_map_or (is_version_for p.0) (first_of version_id p.1) true then [] else InvalidValue ∷ []

-- both a build and all of them are asked for
abbrev pub asks_both : Option (Text × List Row) → Bool
asks_both entered = is_flagged (codes "all") entered && is_some (given_in (codes "build") entered)

abbrev pub scope_fault : Option (Text × List Row) → Kinds
scope_fault entered = if asks_both entered then ArgumentConflict ∷ [] else []

-- the rules for kinds
abbrev pub is_kind_text : Text → Bool
is_kind_text text = bytes_eq text (codes "extension") || (bytes_eq text (codes "folder") || (bytes_eq text (codes "top") || bytes_eq text (codes "work")))

abbrev pub kind_fault : Option (Text × List Row) → Kinds
kind_fault entered = if option_map_or is_kind_text (given_in (codes "kind") entered) true then [] else InvalidValue ∷ []

-- a graph and a log are both to be read from standard input
abbrev pub asks_twice : Option (Text × List Row) → Bool
asks_twice entered = option_map_or (λ text. bytes_eq text (codes "-")) (given_in (codes "graph") entered) false
    && not (is_some (given_in (codes "LOG") entered))

abbrev pub input_fault : Option (Text × List Row) → Kinds
input_fault entered = if asks_twice entered then ArgumentConflict ∷ [] else []

-- how many commands at a time is asked for, and no graph is given that tells which waits for which
abbrev pub lacks_graph : Option (Text × List Row) → Bool
lacks_graph entered = is_some (given_in (codes "jobs") entered) && not (is_some (given_in (codes "graph") entered))

abbrev pub jobs_fault : Option (Text × List Row) → Kinds
jobs_fault entered = if lacks_graph entered then MissingRequiredArgument ∷ [] else []

-- of choices: of two that don't go together, then of a rule, then of standard input, and then of a graph that is lacking
abbrev pub choice_fault : Option (Text × List Row) → Kinds
choice_fault entered = or_else (or_else (scope_fault entered) (kind_fault entered)) (or_else (input_fault entered) (jobs_fault entered))

-- the kinds of error that the words may give: those of clap's definition, and where these are none, that of the version, and then that of
-- the choices
abbrev pub fault_in : List Text → Kinds
fault_in words = or_else (or_else (fault_of nlog words) (version_fault (entered_of words))) (choice_fault (entered_of words))
