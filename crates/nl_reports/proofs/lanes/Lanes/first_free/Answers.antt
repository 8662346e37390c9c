use Rattle.std.proofs.Common.{◌≡◌, ◌∙◌, ◌*◌, ◌≤◌, ◌<◌, ℕ, List, ap, arith, length, refl, rules}
use Rattle.std.specs.Prelude.{slice_index}
use Rattle.std.proofs.lemmas.List.{get_or_default}
use Rattle.nl_reports.specs.Lanes.{first_free}
use Rattle.nl_reports.proofs.LaneLemmas.{free_behind, none_behind}
use Rattle.nl_reports.proofs.lanes.Lanes.first_free.Goals as goal

pub returns-then-index-at-2-clause-value : goal.returns-then-index-at-2-clause-value
returns-then-index-at-2-clause-value c =
    let now = c.loop-block.self.ends.items in
    let lane = c.loop-lane.lane in
    let there : lane < length now = search rules in
    let free : slice_index now lane ≤ c.args.at = omega (
      arith,
      c.if-index-at-2.true,
      c.index-in-loop-lane.ensures,
      get_or_default now lane c.index-in-loop-lane.result.now 0 there,
    ) in
    free_behind c.args.at c.saturating_mul-from.result lane now now refl
    (λ i from to within. c.loop-block.invariant.busy i from (omega (arith, to, c.saturating_mul-from.ensures)) within) c.loop-lane.invariant.busy free there
    ∙ ap (λ (l : List ℕ). first_free c.args.at l) (λ i. (c.loop-block.invariant.ends i).items)

pub returns-clause-value : goal.returns-clause-value
returns-clause-value c =
    let now = c.loop-block.self.ends.items in
    let count : c.len-2.result ≡ length now = omega (arith, c.len-2.ensures) in
    count ∙ none_behind c.args.at (c.loop-block.block * 1024) now c.loop-block.invariant.busy
    (omega (arith, c.loop-block-test.false, c.loop-block.auto.block-end, c.len-block-end.ensures, c.loop-block.invariant.low.covered, c.loop-block.invariant.blocks))
    ∙ ap (λ (l : List ℕ). first_free c.args.at l) (λ i. (c.loop-block.invariant.ends i).items)
