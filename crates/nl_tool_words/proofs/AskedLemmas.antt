-- The version that a command line asks for, and the kinds of error that its words may give.
use Rattle.std.proofs.Common.{◌≡◌, ◌∙◌, true, false, List, [], ◌∷◌, Option, Some, None, ap, option_map, refl, inl, inr, sym, subst, Bor}
use Rattle.std.proofs.Common.{Result, Ok, Err, IsErrAnd}
use Rattle.clap.specs.Kinds.{or_else}
use Rattle.clap.specs.Words.{App, FailsBy, HasKind, HasMatchesOf, Kinds, Row, Text, fault_of, first_of, is_simple, is_simple_and_free, kind_of}
use Rattle.clap.specs.Words.{subcommand_name_of, subcommand_of, subcommand_rows, subcommand_rows_of}
use Rattle.clap.specs.declared.error.Error.{Error}
use Rattle.clap.specs.declared.error.kind.ErrorKind.TheVariants.{InvalidValue}
use Rattle.clap.specs.declared.parser.matches.ArgMatches.{ArgMatches}
use Rattle.clap.specs.declared.parser.matches.ArgMatches.TheViews.{out-ArgMatches}
use Rattle.nl_tool_words.proofs.DefinitionLemmas.{nlog_is_free, nlog_is_simple}
use Rattle.nl_tool_words.proofs.ValueLemmas.{entered_is}
use Rattle.nl_tool_words.specs.CommandLine.{IsAsked, IsGiven, entered_of, given_in, is_version_for, version_fault, version_id, version_text}
use Rattle.nl_tool_words.specs.Rows.{nlog}
use Rattle.nl_tool_words.specs.declared.command_line.AskedVersion.{AskedVersion}

-- the option's value in the command that was entered
pub asked_from : (m : ArgMatches) (name : Text) (rows : List Row) (text : Option (Bor Text)) → Some name ≡ subcommand_name_of m
    → Some rows ≡ option_map (λ p. p.1) (subcommand_rows (out-ArgMatches m).subcommand)
    → IsGiven version_id rows text → given_in version_id (subcommand_rows_of m) ≡ option_map (λ (s : Bor Text). s.now) text
asked_from m name rows text e f given = ap (given_in version_id) (entered_is m name rows e f) ∙ sym given

-- where no version is asked for
pub none_asked : (asked : Option Text) → asked ≡ None → IsAsked None asked
none_asked asked e = subst (IsAsked None) (sym e) tt

pub none_wrong : (entered : Option (Text × List Row)) (name : Text) (rows : List Row) → entered ≡ Some (name, rows)
    → first_of version_id rows ≡ None → version_fault entered ≡ []
none_wrong entered name rows e f = ap version_fault e ∙ rw f refl

-- where one is
pub some_asked : (asked : Option Text) (text : Text) (version : AskedVersion) → asked ≡ Some text → text ≡ version_text version
    → IsAsked (Some version) asked
some_asked asked text version e is = subst (IsAsked (Some version)) (sym e) is

pub some_right : (entered : Option (Text × List Row)) (name : Text) (rows : List Row) (text : Text) → entered ≡ Some (name, rows)
    → first_of version_id rows ≡ Some text → true ≡ is_version_for name text → version_fault entered ≡ []
some_right entered name rows text e f right = ap version_fault e ∙ rw f rw (← right) refl

pub some_wrong : (entered : Option (Text × List Row)) (name : Text) (rows : List Row) (text : Text) (error : Error)
    → entered ≡ Some (name, rows) → first_of version_id rows ≡ Some text → false ≡ is_version_for name text
    → kind_of error ≡ InvalidValue → HasKind (version_fault entered) error
some_wrong entered name rows text error e f wrong kind = rw e rw f rw (← wrong) (inr (inl kind))

-- the option's value, where it is this
pub given_text : (rows : List Row) (text : Option (Bor Text)) (is : Option (Bor Text)) → IsGiven version_id rows text → text ≡ is
    → first_of version_id rows ≡ option_map (λ (s : Bor Text). s.now) is
given_text rows text is given e = sym given ∙ ap (option_map (λ (s : Bor Text). s.now)) e

-- the kinds of the first step that fails
pub first_kind : (a b : Kinds) (error : Error) → HasKind a error → HasKind (or_else a b) error
first_kind [] b error (inl memory) = inl memory
first_kind [] b error (inr among) = absurd among
first_kind (k ∷ ks) b error h = h

pub second_kind : (a b : Kinds) (error : Error) → a ≡ [] → HasKind b error → HasKind (or_else a b) error
second_kind a b error none h = rw none h

pub no_kind : (a b : Kinds) → a ≡ [] → b ≡ [] → or_else a b ≡ []
no_kind a b e f = rw e f

-- what was entered, and that clap found no fault, by the program's definition
pub entered_by : (app : App) (words : List Text) (m : ArgMatches) → app ≡ nlog → HasMatchesOf app words m
    → subcommand_rows_of m ≡ entered_of words
entered_by app words m is h = (h (ap is_simple is ∙ nlog_is_simple)).1 ∙ ap (λ (a : App). subcommand_of a words) is

pub free_by : (app : App) (words : List Text) → app ≡ nlog → (is_simple_and_free app ≡ true → fault_of app words ≡ []) → fault_of nlog words ≡ []
free_by app words is h = sym (ap (λ (a : App). fault_of a words) is) ∙ h (ap is_simple_and_free is ∙ nlog_is_free)

-- an error that is passed on has the kind that it had
pub fails_on : {T : Type 0} (r : Result T Error) (e : Error) (kinds : Kinds) → IsErrAnd r (λ x. x ≡ e)
    → HasKind kinds e → FailsBy kinds r
fails_on (Ok x) e kinds h k = absurd h
fails_on (Err x) e kinds h k = subst (HasKind kinds) (sym h) k
