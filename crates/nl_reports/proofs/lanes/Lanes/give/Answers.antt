use Rattle.std.proofs.Common.{◌≡◌, ◌∙◌, ◌<◌, ◌++◌, ◌∷◌, [], ℕ, List, ap, arith, length, set}
use Rattle.nl_reports.specs.declared.lanes.Lanes.{Lanes}
use Rattle.nl_reports.proofs.LaneLemmas.{given_new, given_old}
use Rattle.nl_reports.proofs.lanes.Lanes.give.Goals as goal
use Rattle.nl_reports.proofs.lanes.Lanes.give.Goals.{then-block-len+in_ok-push, else-block-len, then-lane-len+in_ok-push-2, else-lane-len}

pub returns-clause-ends : goal.returns-clause-ends
returns-clause-ends c =
    let ends = c.args.self.now.ends.items in
    let lane = c.args.lane in
    let end = c.args.end in
    let same : c.if-block-len.self.ends.items ≡ ends = elim c.if-block-len.branch [
      | then-block-len+in_ok-push w ↦ ap (λ (l : Lanes). l.ends.items) w.self-is
      | else-block-len w ↦ ap (λ (l : Lanes). l.ends.items) w.self-is
    ] in
    elim c.if-lane-len.branch [
      | then-lane-len+in_ok-push-2 w ↦
          let new : lane ≡ length ends = omega (arith, w.if-lane-len.true, c.len-2.ensures, ap length same) in
          ap (λ (l : Lanes). set l.ends.items lane end) w.self-is
          ∙ ap (λ (l : List ℕ). set l lane end) (w.in_ok-push-2.ensures.items ∙ ap (λ (l : List ℕ). l ++ end ∷ []) same) ∙ given_new ends lane end new
      | else-lane-len w ↦
          let within : lane < length ends = omega (arith, w.if-lane-len.false, c.len-2.ensures, ap length same, c.requires.lane) in
          ap (λ (l : Lanes). set l.ends.items lane end) w.self-is ∙ ap (λ (l : List ℕ). set l lane end) same ∙ given_old ends lane end within
    ]
