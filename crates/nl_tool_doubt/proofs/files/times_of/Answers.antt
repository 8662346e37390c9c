use Rattle.std.proofs.Common.{arith, ℕ, List, w64, sym, subst, ℤ}
use Rattle.std.proofs.lemmas.Grind.{common_steps}
use Rattle.std.proofs.lemmas.List.Elements.{All-push}
use Rattle.std.specs.Prelude.{FitsSigned}
use Rattle.nl_fields.specs.declared.name.Name.{Name}
use Rattle.nl_tool_doubt.specs.There.{FitEntries}
use Rattle.nl_tool_doubt.proofs.files.times_of.Goals as goal
use Rattle.nl_tool_doubt.proofs.files.times_of.Goals.{then-not-is_intent+in_ok-of+in_ok-push, else-not-is_intent}

fit : (c : goal.Joined-not-is_intent) → FitEntries c.if-not-is_intent.times.items
fit c = elim c.if-not-is_intent.branch [
  | then-not-is_intent+in_ok-of+in_ok-push w ↦
      let fits : FitsSigned w64 w.timed.result.1 = subst (λ (p : Name × ℤ). FitsSigned w64 p.1) (sym w.timed.ensures.value) w.timed.ensures.fits in
      let pushed : FitEntries w.push.new.self.items = subst FitEntries (sym w.in_ok-push.ensures.items)
      (All-push (λ (pair : List ℕ × ℤ). FitsSigned w64 pair.1) c.loop-it.times.items _ c.loop-it.invariant.fit fits) in
      subst (λ times. FitEntries times.items) (sym w.times-is) pushed
  | else-not-is_intent w ↦ subst (λ times. FitEntries times.items) (sym w.times-is) c.loop-it.invariant.fit
]

pub loop-it-preserved : goal.loop-it-preserved
loop-it-preserved c = record { items = grind (arith, common_steps); fit = fit c }
