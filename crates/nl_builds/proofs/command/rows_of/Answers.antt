use Rattle.std.proofs.Common.{◌≡◌, ◌∙◌, ◌+◌, ◌-◌, ℕ, List, [], ap, arith, cond, drop, false, get_or, length, of_calls, pos, rules, subst, sym}
use Rattle.std.specs.Prelude.{slice_get}
use Rattle.std.specs.List.Sorted.{IsNonDecreasing}
use Rattle.std.proofs.lemmas.Fn.{always_returns_same}
use Rattle.std.proofs.lemmas.List.{drop_more}
use Rattle.nl_builds.specs.Commands.{row_with, waited}
use Rattle.nl_builds.proofs.RowLemmas.{cut_rises, early_first, got, is_early, last_tells, rises_more, waited_tells, waits_more, weaker}
use Rattle.nl_builds.proofs.command.rows_of.Goals as goal

pub loop-command-preserved : goal.loop-command-preserved
loop-command-preserved c =
    let row = c.loop-command.row.items in
    let cs = c.args.commands.now in
    let at = c.loop-command.command-index in
    let it = get_or cs at (record { began = 0; ended = 0; mtime = pos 0; hash = 0; to = 0; is_manifest = false }) in
    let tells = last_tells it.ended row c.last.result c.is_some_and.result c.loop-command.invariant.rises
    (c.last.ensures.value ∙ ap (λ (l : List ℕ). slice_get l (length l - 1)) c.deref.ensures.value) (weaker _ _ _ c.last.result (λ x k. search rules) c.is_some_and.ensures) in
    let cut : c.if-is_some_and.row.items ≡ cond c.is_some_and.result [] row = search rules in
    let now = cut ∙ ap (λ b. cond b [] row) tells in
    let held : List ℕ = c.deref-in-loop-command.result.now in
    let rises = subst IsNonDecreasing (sym (c.deref-in-loop-command.ensures.value ∙ now)) (cut_rises it.ended row c.loop-command.invariant.rises) in
    let point = c.partition_point-at.ensures.partitioned (is_early it.began) (always_returns_same _ _ _ (λ a r f k. search (rules, of_calls)))
    (early_first it held rises) in
    let first = got c.deref-in-loop-command-2.result.now c.partition_point-at.result c.get.result c.get.ensures.lookup.0 c.get.ensures.lookup.1
    ∙ ap (λ (l : List ℕ). slice_get l c.partition_point-at.result) (c.deref-in-loop-command-2.ensures.value ∙ sym c.deref-in-loop-command.ensures.value) in
    let waits = waited_tells it held rises c.partition_point-at.result point c.get.result c.is_some_and-has_waited.result first
    (weaker _ _ _ c.get.result (λ x k. search rules) c.is_some_and-has_waited.ensures) in
    record {
      told = waits_more c.loop-command.rows.items _ row c.if-is_some_and.row.items _ it (drop at cs) (drop (at + 1) cs) _ _ c.loop-command.invariant.told
          (drop_more cs at _ (omega (arith, c.loop-command-test.true))) now
          (c.of.ensures.value ∙ ap (row_with it) (waits ∙ ap (λ (l : List ℕ). waited l it) c.deref-in-loop-command.ensures.value))
          c.in_ok-push.ensures.items c.in_ok-push-2.ensures.items;
      rises = rises_more it.ended row _ _ c.loop-command.invariant.rises now c.in_ok-push-2.ensures.items;
    }
