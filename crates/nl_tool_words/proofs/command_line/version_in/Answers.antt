use Rattle.std.proofs.Common.{◌∙◌, ap, option_map, Bor}
use Rattle.clap.specs.Words.{Text, found_of, rows_of}
use Rattle.nl_tool_words.proofs.AskedLemmas.{asked_from, given_text, none_asked, none_wrong, some_asked, some_right, some_wrong}
use Rattle.nl_tool_words.proofs.ValueLemmas.{entered_is}
use Rattle.nl_tool_words.proofs.command_line.version_in.Goals as goal

pub returns-in_default-optional-clause-value : goal.returns-in_default-optional-clause-value
returns-in_default-optional-clause-value c =
    let met = c.in-Some in
    let e = asked_from c.args.matches.now met.name.now
    (rows_of (found_of met.inner.now)) c.optional.result met.ensures.name met.ensures.rows c.optional.ensures in
    none_asked _ (e ∙ ap (option_map (λ (s : Bor Text). s.now)) c.in_default-optional.is)

pub returns-in_default-optional-clause-accepts : goal.returns-in_default-optional-clause-accepts
returns-in_default-optional-clause-accepts c =
    let met = c.in-Some in
    let rows = rows_of (found_of met.inner.now) in
    let e = entered_is c.args.matches.now met.name.now rows met.ensures.name met.ensures.rows in
    none_wrong _ met.name.now rows e (given_text rows _ _ c.optional.ensures c.in_default-optional.is)

pub returns-in-Some-version_for-clause-value : goal.returns-in-Some-version_for-clause-value
returns-in-Some-version_for-clause-value c =
    let met = c.in-Some in
    let e = asked_from c.args.matches.now met.name.now
    (rows_of (found_of met.inner.now)) c.optional.result met.ensures.name met.ensures.rows c.optional.ensures in
    let is = e ∙ ap (option_map (λ (s : Bor Text). s.now)) c.in-Some-optional.is in
    some_asked _ c.in-Some-optional.text.now c.in-Some-version_for.version is c.in-Some-version_for.ensures.value

pub returns-in-Some-version_for-clause-accepts : goal.returns-in-Some-version_for-clause-accepts
returns-in-Some-version_for-clause-accepts c =
    let met = c.in-Some in
    let rows = rows_of (found_of met.inner.now) in
    let e = entered_is c.args.matches.now met.name.now rows met.ensures.name met.ensures.rows in
    let is = given_text rows _ _ c.optional.ensures c.in-Some-optional.is in
    some_right _ met.name.now rows c.in-Some-optional.text.now e is c.in-Some-version_for.ensures.accepts

pub returns-clause-accepts : goal.returns-clause-accepts
returns-clause-accepts c =
    let met = c.in-Some in
    let rows = rows_of (found_of met.inner.now) in
    let e = entered_is c.args.matches.now met.name.now rows met.ensures.name met.ensures.rows in
    let is = given_text rows _ _ c.optional.ensures c.in-Some-optional.is in
    some_wrong _ met.name.now rows c.in-Some-optional.text.now c.in_ok-refusal.field-0 e is c.in_default-version_for.ensures.accepts
    c.in_ok-refusal.ensures.value
