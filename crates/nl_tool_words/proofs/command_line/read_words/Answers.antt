use Rattle.std.proofs.Common.{◌∙◌, List, Option, ap, codes, map, string_bytes, subst, sym}
use Rattle.clap.specs.Words.{App, HasKind, Row, Text, fault_of, is_simple_and_free}
use Rattle.nl_tool_words.proofs.DefinitionLemmas.{nlog_is_free, words_complete}
use Rattle.nl_tool_words.proofs.AskedLemmas.{entered_by, fails_on, first_kind, free_by, no_kind, second_kind}
use Rattle.nl_tool_words.specs.CommandLine.{IsAsked, IsComplete, IsSaid, choice_fault, entered_of, fault_in, given_in, is_flagged, version_fault, version_id}
use Rattle.nl_tool_words.specs.Rows.{nlog}
use Rattle.nl_tool_words.proofs.command_line.read_words.Goals as goal

pub words_in-requires : goal.words_in-requires
words_in-requires c =
    let words = map string_bytes c.args.words.now in
    let is = c.in_ok-nlog_command.ensures in
    subst IsComplete (sym (entered_by _ words _ is c.in_ok-matches.ensures.matches)) (words_complete words (free_by _ words is c.in_ok-matches.ensures.kinds))

pub returns-in_err-matches-clause-accepts : goal.returns-in_err-matches-clause-accepts
returns-in_err-matches-clause-accepts c =
    let words = map string_bytes c.args.words.now in
    let is = c.in_ok-nlog_command.ensures in
    let error = c.in_err-matches.field-0.0 in
    let k = c.in_err-matches.ensures.kinds (ap is_simple_and_free is ∙ nlog_is_free) in
    let first : HasKind (fault_in words) error = first_kind _ (choice_fault (entered_of words)) error (first_kind (fault_of nlog words)
    (version_fault (entered_of words)) error (subst (λ (a : App). HasKind (fault_of a words) error) is k)) in
    fails_on _ error (fault_in words) c.from_residual-in_err-matches.ensures.1 first

pub returns-in_err-version-clause-accepts : goal.returns-in_err-version-clause-accepts
returns-in_err-version-clause-accepts c =
    let words = map string_bytes c.args.words.now in
    let is = c.in_ok-nlog_command.ensures in
    let e = entered_by _ words _ is c.in_ok-matches.ensures.matches in
    let free = free_by _ words is c.in_ok-matches.ensures.kinds in
    let error = c.in_err-version.field-0.0 in
    let second : HasKind (fault_in words) error = first_kind _ (choice_fault (entered_of words)) error (second_kind (fault_of nlog words)
    (version_fault (entered_of words)) error free
    (subst (λ (entered : Option (Text × List Row)). HasKind (version_fault entered) error) e
    c.in_err-version.ensures.accepts)) in
    fails_on _ error (fault_in words) c.from_residual-in_err-version.ensures.1 second

pub returns-in_err-known_choices-clause-accepts : goal.returns-in_err-known_choices-clause-accepts
returns-in_err-known_choices-clause-accepts c =
    let words = map string_bytes c.args.words.now in
    let is = c.in_ok-nlog_command.ensures in
    let e = entered_by _ words _ is c.in_ok-matches.ensures.matches in
    let right = no_kind (fault_of nlog words) (version_fault (entered_of words)) (free_by _ words is c.in_ok-matches.ensures.kinds)
    (sym (ap (λ (entered : Option (Text × List Row)). version_fault entered) e) ∙ c.in_ok-version.ensures.accepts) in
    let error = c.in_err-known_choices.field-0.0 in
    let third : HasKind (fault_in words) error = second_kind _ (choice_fault (entered_of words)) error right
    (subst (λ (entered : Option (Text × List Row)). HasKind (choice_fault entered) error) e
    c.in_err-known_choices.ensures.accepts) in
    fails_on _ error (fault_in words) c.from_residual-in_err-known_choices.ensures.1 third

pub returns-clause-value : goal.returns-clause-value
returns-clause-value c =
    let words = map string_bytes c.args.words.now in
    subst (IsSaid c.words_in.result) (entered_by _ words _ c.in_ok-nlog_command.ensures c.in_ok-matches.ensures.matches) c.words_in.ensures.value

pub returns-clause-version : goal.returns-clause-version
returns-clause-version c =
    let words = map string_bytes c.args.words.now in
    subst (λ (entered : Option (Text × List Row)). IsAsked c.in_ok-version.version (given_in version_id entered))
    (entered_by _ words _ c.in_ok-nlog_command.ensures c.in_ok-matches.ensures.matches) c.in_ok-version.ensures.value

pub returns-clause-accepts : goal.returns-clause-accepts
returns-clause-accepts c =
    let words = map string_bytes c.args.words.now in
    let is = c.in_ok-nlog_command.ensures in
    let e = entered_by _ words _ is c.in_ok-matches.ensures.matches in
    no_kind _ (choice_fault (entered_of words)) (no_kind (fault_of nlog words) (version_fault (entered_of words))
    (free_by _ words is c.in_ok-matches.ensures.kinds)
    (sym (ap (λ (entered : Option (Text × List Row)). version_fault entered) e) ∙ c.in_ok-version.ensures.accepts))
    (sym (ap (λ (entered : Option (Text × List Row)). choice_fault entered) e) ∙ c.in_ok-known_choices.ensures.accepts)

pub returns-clause-verbose : goal.returns-clause-verbose
returns-clause-verbose c =
    let words = map string_bytes c.args.words.now in
    c.is_flagged.ensures ∙ ap (is_flagged (codes "verbose")) (entered_by _ words _ c.in_ok-nlog_command.ensures c.in_ok-matches.ensures.matches)

pub returns-clause-missing_ok : goal.returns-clause-missing_ok
returns-clause-missing_ok c =
    let words = map string_bytes c.args.words.now in
    c.is_flagged-2.ensures ∙ ap (is_flagged (codes "missing-ok")) (entered_by _ words _ c.in_ok-nlog_command.ensures c.in_ok-matches.ensures.matches)

pub returns-clause-tabs : goal.returns-clause-tabs
returns-clause-tabs c =
    let words = map string_bytes c.args.words.now in
    c.is_flagged-3.ensures ∙ ap (is_flagged (codes "tabs")) (entered_by _ words _ c.in_ok-nlog_command.ensures c.in_ok-matches.ensures.matches)
