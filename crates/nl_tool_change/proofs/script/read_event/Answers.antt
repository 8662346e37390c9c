use Rattle.std.proofs.Common.{◌∙◌, ◌≡◌, ◌∷◌, ◌++◌, List, ℕ, ap, codes, refl, sym}
use Rattle.std.specs.Prelude.{is_some}
use Rattle.std.proofs.lemmas.Option.{none-some}
use Rattle.nl_fields.specs.EntryLine.{line_of}
use Rattle.nl_fields.proofs.LineOfLemmas.{line_is_line_of}
use Rattle.nl_tool_change.specs.Replay.{behind_tab, text_of_word}
use Rattle.nl_tool_change.proofs.ReadingLemmas.{open_holds, recompact_holds, record_holds, record_said, restat_holds}
use Rattle.nl_tool_change.proofs.script.read_event.Goals as goal

pub returns-in_err-read_kept-in-Open-default-clause-memory : goal.returns-in_err-read_kept-in-Open-default-clause-memory
returns-in_err-read_kept-in-Open-default-clause-memory c =
    λ _. open_holds c.args.word c.args.rest c.in-Open-default.is-0 (c.in_err-read_kept-in-Open-default.ensures.memory refl)

pub returns-in_err-read_kept-in-Recompact-default-clause-memory : goal.returns-in_err-read_kept-in-Recompact-default-clause-memory
returns-in_err-read_kept-in-Recompact-default-clause-memory c =
    λ _. recompact_holds c.args.word c.args.rest c.in-Recompact-default.is-0 (c.in_err-read_kept-in-Recompact-default.ensures.memory refl)

pub returns-in_err-of-in-Some-clause-memory : goal.returns-in_err-of-in-Some-clause-memory
returns-in_err-of-in-Some-clause-memory c = λ _. record_holds c.args.word c.args.rest c.in-Record-Some.is-0 (ap is_some c.in-Record-Some.is-1)

pub returns-in_ok-of-in-Some-clause-line : goal.returns-in_ok-of-in-Some-clause-line
returns-in_ok-of-in-Some-clause-line c =
    let word = ap text_of_word c.in-Record-Some.is-0 in
    let behind = ap behind_tab c.in-Record-Some.is-1 in
    ap (λ (l : List ℕ). codes "record" ++ 9 ∷ l)
    (ap line_of c.in_ok-of-in-Some.ensures.value ∙ sym (line_is_line_of c.in-Record-Some.line.now c.in-Some.ensures.line))
    ∙ sym (λ i. word i ++ behind i)

pub returns-in-None-clause-accepts : goal.returns-in-None-clause-accepts
returns-in-None-clause-accepts c = λ event is fields readable keeps.
    let behind : 9 ∷ c.in-Record-Some.line.now ≡ behind_tab c.args.rest = sym (ap behind_tab c.in-Record-Some.is-1) in
    let said = record_said event c.args.word c.in-Record-Some.line.now c.in-Record-Some.is-0 is (behind ∙ fields) readable in
    absurd (none-some _ (sym c.in-None.is ∙ c.read_entry.ensures.accepts said.0 said.1))

pub returns-in_err-read_times-in-Restat-default-clause-memory : goal.returns-in_err-read_times-in-Restat-default-clause-memory
returns-in_err-read_times-in-Restat-default-clause-memory c =
    λ _. restat_holds c.args.word c.args.rest c.in-Restat-default.is-0 (c.in_err-read_times-in-Restat-default.ensures.memory refl)
