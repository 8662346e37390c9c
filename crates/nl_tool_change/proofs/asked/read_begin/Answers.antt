use Rattle.std.proofs.Common.{◌<◌, ◌^◌, ◌∙◌, ◌++◌, List, ℕ, ℤ, Bor, FitsSigned, w32, ap, sym, subst, rules}
use Rattle.std.specs.Prelude.{Option}
use Rattle.std.proofs.lemmas.Int.{to_z-of_z}
use Rattle.std.proofs.lemmas.Option.{none-some}
use Rattle.nl_tool_change.specs.Replay.{behind_tab}
use Rattle.nl_tool_change.proofs.ReadingLemmas.{tab_is_there}
use Rattle.nl_tool_change.specs.Applying.{BeginsBy}
use Rattle.nl_tool_change.proofs.BeginLemmas.{begins_by, behind_is, hash_next, moment_first, names_there, no_bad_line}
use Rattle.nl_tool_change.proofs.asked.read_begin.Goals as goal
use Rattle.nl_tool_change.proofs.asked.read_begin.Goals.{in_default-via-in-Some+in_default, in_default-via-in_default}
use Rattle.nl_tool_change.proofs.asked.read_begin.Goals.{in_default-2-via-in-Some+in_default, in_default-2-via-in_default}

pub returns-in_default-clause-bad_line : goal.returns-in_default-clause-bad_line
returns-in_default-clause-bad_line c = λ is moment hash names begins.
    let first = moment_first c.args.fields.now c.split_tab.result.0.now c.split_tab.result.1 c.split_tab.ensures.line
    c.split_tab.ensures.no_tab moment hash names begins in
    elim c.in_default.branch [
      | in_default-via-in-Some+in_default w ↦ absurd (tab_is_there c.split_tab.result.1 _ first.1 w.in_default.is-1)
      | in_default-via-in_default w ↦
          absurd (none-some _ (sym w.in_default.is-0 ∙ c.read_i32.ensures.accepts moment begins.moment_fits first.0))
    ]

pub returns-in_default-2-clause-bad_line : goal.returns-in_default-2-clause-bad_line
returns-in_default-2-clause-bad_line c = λ is moment hash names begins.
    let first = moment_first c.args.fields.now c.split_tab.result.0.now c.split_tab.result.1 c.split_tab.ensures.line
    c.split_tab.ensures.no_tab moment hash names begins in
    let next = hash_next c.in-Some-Some.rest.now c.split_tab-2.result.0.now c.split_tab-2.result.1 c.split_tab-2.ensures.line
    c.split_tab-2.ensures.no_tab hash names begins.hash_fits
    (behind_is c.split_tab.result.1 c.in-Some-Some.rest _ c.in-Some-Some.is-1 first.1) in
    elim c.in_default-2.branch [
      | in_default-2-via-in-Some+in_default w ↦
          absurd (names_there c.split_tab-2.result.1 names begins.some next.1 w.in_default-2.is-1)
      | in_default-2-via-in_default w ↦
          absurd (none-some _ (sym w.in_default-2.is-0 ∙ c.read_hex64.ensures.accepts hash begins.hash_fits next.0))
    ]

pub returns-in_err-read_names-clause-bad_line : goal.returns-in_err-read_names-clause-bad_line
returns-in_err-read_names-clause-bad_line c = λ is moment hash names begins.
    let first = moment_first c.args.fields.now c.split_tab.result.0.now c.split_tab.result.1 c.split_tab.ensures.line
    c.split_tab.ensures.no_tab moment hash names begins in
    let next = hash_next c.in-Some-Some.rest.now c.split_tab-2.result.0.now c.split_tab-2.result.1 c.split_tab-2.ensures.line
    c.split_tab-2.ensures.no_tab hash names begins.hash_fits
    (behind_is c.split_tab.result.1 c.in-Some-Some.rest _ c.in-Some-Some.is-1 first.1) in
    no_bad_line c.from_residual.result c.in_err-read_names.field-0.0 c.from_residual.ensures.1
    (c.in_err-read_names.ensures.accepts (names, begins.are_names, sym (ap behind_tab c.in-Some-Some-2.is-1) ∙ next.1)) is

pub returns-clause-value : goal.returns-clause-value
returns-clause-value c =
    let moment = c.in-Some-Some.moment_ms in
    let hash = c.in-Some-Some-2.hash in
    let first = c.split_tab.result.0.now in
    let second = c.split_tab-2.result.0.now in
    let names = c.in_ok-read_names.field-0.items in
    let fits : FitsSigned w32 moment = search rules in
    let below : hash < 2 ^ 64 = search rules in
    subst (λ (m : ℤ). BeginsBy m hash names c.args.fields.now) (sym (to_z-of_z w32 moment fits))
    (begins_by c.args.fields.now first second c.in-Some-Some.rest.now c.in-Some-Some-2.names.now moment hash names fits
    c.in-Some-Some.ensures.value below c.in-Some-Some-2.ensures.value
    (c.split_tab.ensures.line ∙ ap (λ (r : Option (Bor (List ℕ))). first ++ behind_tab r) c.in-Some-Some.is-1)
    (c.split_tab-2.ensures.line ∙ ap (λ (r : Option (Bor (List ℕ))). second ++ behind_tab r) c.in-Some-Some-2.is-1)
    c.in_ok-read_names.ensures.line c.in_ok-read_names.ensures.names)
