use Rattle.std.proofs.Common.{Bor, List, ℕ, subst, arith}
use Rattle.std.specs.Prelude.{Option}
use Rattle.std.proofs.lemmas.Grind.{common_steps}
use Rattle.std.proofs.lemmas.List.Elements.{All-push}
use Rattle.nl_fields.specs.Name.{IsName}
use Rattle.nl_tool_change.specs.Replay.{behind_tab}
use Rattle.nl_tool_change.specs.Reading.{SaysNames}
use Rattle.nl_tool_change.proofs.ReadingLemmas.{memory_alone, names_more}
use Rattle.nl_tool_change.proofs.script.read_names.Goals as goal

pub returns-in_err-read-clause-accepts : goal.returns-in_err-read-clause-accepts
returns-in_err-read-clause-accepts c = λ says.
    let left = subst (λ (r : Option (Bor (List ℕ))). SaysNames (behind_tab r)) c.in-Some.is (c.names.invariant.says says) in
    let more = names_more c.in-Some.text.now c.split_tab.result.0.now c.split_tab.result.1 c.split_tab.ensures.line
    c.split_tab.ensures.no_tab left in
    memory_alone c.from_residual.result c.split_tab.result.0.now _ c.from_residual.ensures.1 c.in_err-read.ensures.fault more.0

pub names-preserved : goal.names-preserved
names-preserved c = record {
  line = grind (arith, common_steps);
  named = rw c.in_ok-push.ensures.items (All-push IsName _ _ c.names.invariant.named (rw c.in_ok-read.ensures.value.0 c.in_ok-read.ensures.value.1));
  says = λ says.
      let left = subst (λ (r : Option (Bor (List ℕ))). SaysNames (behind_tab r)) c.in-Some.is (c.names.invariant.says says) in
      (names_more c.in-Some.text.now c.split_tab.result.0.now c.split_tab.result.1 c.split_tab.ensures.line
      c.split_tab.ensures.no_tab left).1;
}
