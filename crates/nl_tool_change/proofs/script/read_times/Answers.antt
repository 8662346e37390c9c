use Rattle.std.proofs.Common.{◌≡◌, ◌∙◌, ◌++◌, ◌∷◌, List, ℕ, Bor, FitsSigned, w64, ℤ, [], ap, sym, subst, rules}
use Rattle.std.specs.Prelude.{Option, is_some}
use Rattle.std.specs.List.{flat_map}
use Rattle.std.proofs.lemmas.Int.{to_z-of_z}
use Rattle.std.proofs.lemmas.Option.{none-some}
use Rattle.nl_fields.specs.Digits.{decimal_of}
use Rattle.nl_fields.proofs.DigitLemmas.{same_decimal_spelling}
use Rattle.nl_fields.proofs.NumberLemmas.{IsDecimal-decimal_of}
use Rattle.nl_tool_change.specs.Replay.{behind_tab, time_fields}
use Rattle.nl_tool_change.specs.Reading.{SaysTimes}
use Rattle.nl_tool_change.proofs.ReadingLemmas.{memory_alone, tab_is_there, time_first, times_more}
use Rattle.nl_tool_change.proofs.ScriptLemmas.{pairs_more}
use Rattle.nl_tool_change.proofs.script.read_times.Goals as goal
use Rattle.nl_tool_change.proofs.script.read_times.Goals.{in_default-2-via-in-Some+in_default, in_default-2-via-in_default}

pub pairs-preserved : goal.pairs-preserved
pairs-preserved c =
    let mtime = c.in-Some-Some.mtime in
    let time = c.split_tab.result.0.now in
    let name = c.split_tab-in-Some.result.0.now in
    let left = behind_tab c.split_tab-in-Some.result.1 in
    let fields = flat_map time_fields c.pairs.pairs.items in
    let fits : FitsSigned w64 mtime = search rules in
    let spelled : time ≡ decimal_of mtime = same_decimal_spelling mtime c.in-Some-Some.ensures.value (IsDecimal-decimal_of mtime fits) in
    let text : c.in-Some.text.now ≡ time ++ 9 ∷ (name ++ left)
    = c.split_tab.ensures.line ∙ ap (λ (r : Option (Bor (List ℕ))). time ++ behind_tab r) c.in-Some-Some.is-1
    ∙ ap (λ (l : List ℕ). time ++ 9 ∷ l) c.split_tab-in-Some.ensures.line in
    let whole : fields ++ 9 ∷ (time ++ 9 ∷ (name ++ left)) ≡ behind_tab c.args.text
    = ap (λ (l : List ℕ). fields ++ 9 ∷ l) (sym text) ∙ ap (λ (r : Option (Bor (List ℕ))). fields ++ behind_tab r) (sym c.in-Some.is)
    ∙ c.pairs.invariant.line in
    let pushed = c.in_ok-push.ensures.items ∙ ap (λ (pair : List ℕ × ℤ). c.pairs.pairs.items ++ pair ∷ [])
    (rw c.in_ok-read.ensures.value.0 (ap (λ (time : ℤ). (name, time)) (to_z-of_z w64 mtime fits))) in
    record {
      line = subst (λ (pairs : List (List ℕ × ℤ)). flat_map time_fields pairs ++ left ≡ behind_tab c.args.text) (sym pushed)
          (pairs_more c.pairs.pairs.items time name left (behind_tab c.args.text) mtime spelled whole);
      says = λ says. (times_more c.in-Some.text.now time c.in-Some-Some.rest.now name c.split_tab.result.1 c.split_tab-in-Some.result.1
          c.split_tab.ensures.line c.split_tab.ensures.no_tab (ap behind_tab c.in-Some-Some.is-1)
          c.split_tab-in-Some.ensures.line c.split_tab-in-Some.ensures.no_tab
          (subst (λ (r : Option (Bor (List ℕ))). SaysTimes (behind_tab r)) c.in-Some.is (c.pairs.invariant.says says))).1;
      there = λ _. c.pairs.invariant.there (ap is_some c.in-Some.is);
    }

pub returns-in_default-2-clause-accepts : goal.returns-in_default-2-clause-accepts
returns-in_default-2-clause-accepts c = λ says.
    let first =
    time_first c.in-Some.text.now c.split_tab.result.0.now c.split_tab.result.1 c.split_tab.ensures.line c.split_tab.ensures.no_tab
    (subst (λ (r : Option (Bor (List ℕ))). SaysTimes (behind_tab r)) c.in-Some.is (c.pairs.invariant.says says)) in
    elim c.in_default-2.branch [
      | in_default-2-via-in-Some+in_default w ↦ absurd (tab_is_there c.split_tab.result.1 _ first.3.4 w.in_default-2.is-1)
      | in_default-2-via-in_default w ↦ absurd (none-some _ (sym w.in_default-2.is-0 ∙ c.read_i64.ensures.accepts first.0 first.1 first.2))
    ]

pub returns-in_err-read-clause-accepts : goal.returns-in_err-read-clause-accepts
returns-in_err-read-clause-accepts c = λ says.
    let more = times_more c.in-Some.text.now c.split_tab.result.0.now c.in-Some-Some.rest.now
    c.split_tab-in-Some.result.0.now c.split_tab.result.1 c.split_tab-in-Some.result.1 c.split_tab.ensures.line c.split_tab.ensures.no_tab
    (ap behind_tab c.in-Some-Some.is-1) c.split_tab-in-Some.ensures.line c.split_tab-in-Some.ensures.no_tab
    (subst (λ (r : Option (Bor (List ℕ))). SaysTimes (behind_tab r)) c.in-Some.is (c.pairs.invariant.says says)) in
    memory_alone c.from_residual.result c.split_tab-in-Some.result.0.now _ c.from_residual.ensures.1 c.in_err-read.ensures.fault more.0
