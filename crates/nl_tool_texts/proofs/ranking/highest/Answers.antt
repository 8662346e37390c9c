use Rattle.std.proofs.Common.{◌≡◌, ◌∙◌, ◌+◌, ◌<◌, ◌≤◌, ◌++◌, ◌∷◌, [], ℕ, ap, arith, get_or, length, of_calls, rules, sym, take}
use Rattle.std.specs.Prelude.{nat_le}
use Rattle.std.specs.List.{insert}
use Rattle.std.proofs.lemmas.Bool.{leb-false, leb-true}
use Rattle.std.proofs.lemmas.Fn.{always_returns_same}
use Rattle.std.proofs.lemmas.List.{take_more}
use Rattle.std.proofs.lemmas.List.Sorted.{IsPartitionPoint-from_clause}
use Rattle.nl_tool_texts.specs.Falling.{falling}
use Rattle.nl_tool_texts.proofs.FallingLemmas.{falling_from_sort, ranks_down}
use Rattle.nl_tool_texts.proofs.RankingLemmas.{none_more, one_more, partitioned}
use Rattle.nl_tool_texts.proofs.ranking.highest.Goals as goal
use Rattle.nl_tool_texts.proofs.ranking.highest.Goals.{then-at-most+in_ok-insert, else-at-most}

pub returns-then-most-gt-FEW : goal.returns-then-most-gt-FEW
returns-then-most-gt-FEW g c =
    let rank = g.R.Ranking.rank c.args.by.now in
    let answers = always_returns_same _ _ _ (λ a r f called. search (rules, of_calls)) in
    let sorted = falling_from_sort rank _ _ (c.in_ok-sort_by.ensures.sorted _ (ranks_down rank) answers)
    (c.in_ok-sort_by.ensures.stable _ (ranks_down rank) answers) in
    record { value = c.truncate.ensures.items ∙ ap (take c.args.most) (sorted ∙ ap (falling rank) c.in_ok-sorted.ensures.items) }

pub loop-item-preserved : goal.loop-item-preserved
loop-item-preserved g c =
    let rank = g.R.Ranking.rank c.args.by.now in
    let most = c.args.most in
    let held = c.deref.ensures.value in
    let ks = c.deref.result.now in
    let xs = take c.loop-item.item-index c.args.items.now in
    let x = c.item-item.result in
    let at = c.partition_point-at.result in
    let within : c.loop-item.item-index < length c.args.items.now = omega (arith, c.loop-item-test.true, c.loop-item.auto.item-index-end) in
    let point = IsPartitionPoint-from_clause (λ y. nat_le c.rank-rank.result (rank y)) ks at
    c.partition_point-at.ensures.partitioned (partitioned rank most c.rank-rank.result xs ks (held ∙ c.loop-item.invariant)) (λ a r next called. search (rules, of_calls)) in
    let bound : at ≤ length ks = c.partition_point-at.ensures.bound in
    let higher : (k : ℕ) (d : _) → k + 1 ≡ at → rank x ≤ rank (get_or ks k d) =
    λ k d is. omega (arith, c.rank-rank.ensures, leb-true c.rank-rank.result (rank (get_or ks k d)) (point.0 k d (omega arith) (omega (arith, is)))) in
    let lower : (k : ℕ) (d : _) → at ≤ k → k < length ks → rank (get_or ks k d) < rank x =
    λ k d le there. omega (arith, c.rank-rank.ensures, leb-false c.rank-rank.result (rank (get_or ks k d)) (point.1 k d le there)) in
    let item : get_or c.args.items.now c.loop-item.item-index x ≡ x = sym c.item-item.is in
    let more = take_more c.args.items.now c.loop-item.item-index x within ∙ ap (λ y. xs ++ y ∷ []) item in
    elim c.if-at-most.branch [
      | then-at-most+in_ok-insert w ↦
          ap (λ l. l.items) w.kept-is ∙ w.truncate-then-at-most.ensures.items
          ∙ ap (take most) (w.in_ok-insert.ensures.items ∙ ap (λ l. insert l at x) (sym held))
          ∙ one_more rank most at x xs ks (held ∙ c.loop-item.invariant) bound higher lower ∙ ap (λ l. take most (falling rank l)) (sym more)
      | else-at-most w ↦
          ap (λ l. l.items) w.kept-is ∙ sym held
          ∙ none_more rank most at x xs ks (omega (arith, w.if-at-most.false)) (held ∙ c.loop-item.invariant) bound higher lower
          ∙ ap (λ l. take most (falling rank l)) (sym more)
    ]
