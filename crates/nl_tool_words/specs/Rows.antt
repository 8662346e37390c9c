-- The words of the program and what each takes, in the order of docs/HELP.md, as a simple command of `clap`.
use Rattle.std.specs.Prelude.{List, [], ◌∷◌, ◌++◌, Bool, true, false, Some, codes, map}
use Rattle.clap.specs.Words.{App, Rule, Text, new_app, new_rule, with_rule, with_subcommand}
use Rattle.clap.specs.declared.builder.action.ArgAction.TheVariants.{SetTrue}
use Rattle.nl_tool_words.specs.declared.shape.Given.{Given}
use Rattle.nl_tool_words.specs.declared.shape.Given.TheVariants as how
use Rattle.nl_tool_words.specs.declared.shape.Value.{Value}
use Rattle.nl_tool_words.specs.declared.shape.WordRow.{WordRow}

-- a value that stands by its place, and may be left out or not
abbrev pub positional : Text → Bool → Rule
positional id required = record (new_rule id) { required = required }

abbrev pub place : Text → Rule
place id = positional id false

-- one that can't be left out
abbrev pub needed : Text → Rule
needed id = positional id true

-- an option that has a value, and a flag
abbrev pub option_rule : Text → Rule
option_rule id = record (new_rule id) { long = Some id; value_names = 1 }

abbrev pub flag_rule : Text → Rule
flag_rule id = record (new_rule id) { long = Some id; action = Some SetTrue }

abbrev pub version_rule : Rule
version_rule = option_rule (codes "log-version")

abbrev pub missing_rule : Rule
missing_rule = flag_rule (codes "missing-ok")

-- the option `-n`, `--lines`
abbrev pub lines_rule : Rule
lines_rule = record (option_rule (codes "lines")) { short = Some 110 }

-- the option `-C`, as Ninja's
abbrev pub folder_rule : Rule
folder_rule = record (new_rule (codes "folder")) { short = Some 67; value_names = 1 }

-- the flag `-v`, `--verbose`, which each word takes last
abbrev pub verbose_rule : Rule
verbose_rule = record (flag_rule (codes "verbose")) { short = Some 118 }

-- a log that tells its version itself, and which has to be there
abbrev pub with_log : List Rule → List Rule
with_log more = place (codes "LOG") ∷ version_rule ∷ missing_rule ∷ more

-- the words that look and change nothing
abbrev pub looking : List (Text × List Rule)
looking =
    (codes "show", place (codes "LOG") ∷ version_rule ∷ [])
    ∷ (codes "check", place (codes "LOG") ∷ version_rule ∷ [])
    ∷ (codes "hash", needed (codes "COMMAND") ∷ version_rule ∷ [])
    ∷ (codes "entries", with_log [])
    ∷ (codes "damage", with_log [])
    ∷ (codes "doubt", place (codes "LOG") ∷ version_rule ∷ [])
    ∷ (codes "builds", with_log (flag_rule (codes "tabs") ∷ []))
    ∷ (
      codes "summary",
      with_log (option_rule (codes "build") ∷ flag_rule (codes "all") ∷ option_rule (codes "kind") ∷ lines_rule
          ∷ option_rule (codes "graph") ∷ option_rule (codes "jobs") ∷ flag_rule (codes "tabs") ∷ []),
    )
    ∷ (
      codes "compare",
      needed (codes "OLD") ∷ needed (codes "NEW") ∷ version_rule ∷ missing_rule ∷ lines_rule
          ∷ option_rule (codes "at-least") ∷ flag_rule (codes "tabs") ∷ [],
    )
    ∷ (codes "trace", with_log (option_rule (codes "build") ∷ flag_rule (codes "all") ∷ []))
    ∷ (codes "picture", with_log (option_rule (codes "build") ∷ flag_rule (codes "all") ∷ option_rule (codes "graph") ∷ []))
    ∷ (codes "hash-file", place (codes "FILE") ∷ version_rule ∷ [])
    ∷ []

-- those that change a log, and `replay`
abbrev pub changing : List (Text × List Rule)
changing =
    (codes "mend", place (codes "LOG") ∷ folder_rule ∷ flag_rule (codes "dry-run") ∷ flag_rule (codes "all") ∷ [])
    ∷ (
      codes "record",
      needed (codes "LOG") ∷ needed (codes "START") ∷ needed (codes "END") ∷ needed (codes "MTIME")
          ∷ needed (codes "NAME") ∷ needed (codes "COMMAND") ∷ version_rule ∷ [],
    )
    ∷ (codes "recompact", needed (codes "LOG") ∷ needed (codes "KEEP") ∷ version_rule ∷ [])
    ∷ (codes "restat", needed (codes "LOG") ∷ needed (codes "TIMES") ∷ version_rule ∷ [])
    ∷ (codes "prune", needed (codes "LOG") ∷ place (codes "TARGETS") ∷ version_rule ∷ [])
    ∷ (codes "retime", needed (codes "LOG") ∷ version_rule ∷ [])
    ∷ (codes "repair", needed (codes "LOG") ∷ version_rule ∷ missing_rule ∷ [])
    ∷ (codes "replay", place (codes "SCRIPT") ∷ [])
    ∷ (codes "apply", needed (codes "LOG") ∷ place (codes "SCRIPT") ∷ version_rule ∷ [])
    ∷ []

abbrev pub word_rows : List (Text × List Rule)
word_rows = looking ++ changing

-- a command with these rules behind its own
abbrev pub with_rules : App → List Rule → App
with_rules a [] = a
with_rules a (r ∷ rules) = with_rules (with_rule a r) rules

-- the command of a word
abbrev pub app_by : Text × List Rule → App
app_by word = with_rule (with_rules (new_app word.0) word.1) verbose_rule

-- a program with the commands of these words behind its own
abbrev pub with_words : App → List (Text × List Rule) → App
with_words a [] = a
with_words a (word ∷ words) = with_words (with_subcommand a (app_by word).top) words

-- the program by its name: it has a version, and clap adds the subcommand `help`
abbrev pub named : App
named =
    let a = new_app (codes "nlog") in
    record a { top = record a.top { has_version = true } }

-- the program, with its commands in the order of its help
abbrev pub nlog : App
nlog = with_words (with_words named looking) changing

-- ---- what a row of the code says

abbrev pub rule_as : Given → Text → Rule
rule_as how.Place id = place id
rule_as how.Required id = needed id
rule_as (how.Long name) id = option_rule id
rule_as (how.Letter letter name) id = record (new_rule id) { short = Some letter; value_names = 1 }
rule_as (how.LetterLong letter name) id = record (option_rule id) { short = Some letter }
rule_as how.Flag id = flag_rule id
rule_as (how.LetterFlag letter) id = record (flag_rule id) { short = Some letter }

abbrev pub rule_by : Value → Rule
rule_by value = rule_as value.given value.id.now

abbrev pub word_by : WordRow → Text × List Rule
word_by row = (row.name.now, map rule_by row.takes.now)
