use Rattle.std.proofs.Common.{◌≡◌, ◌∙◌, ◌+◌, ap, arith, drop, false, get_or, max, pos, rules, sym}
use Rattle.std.specs.Option.{unwrap_or}
use Rattle.std.proofs.lemmas.Bool.{cond-false, cond-true}
use Rattle.std.proofs.lemmas.List.{drop_more}
use Rattle.nl_builds.specs.Commands.{lo_or_none, next_top, top_row}
use Rattle.nl_builds.specs.declared.command.Row.{Row}
use Rattle.nl_builds.proofs.RowLemmas.{tops_more}
use Rattle.nl_builds.proofs.command.moved_rows.Goals as goal

pub loop-command-preserved : goal.loop-command-preserved
loop-command-preserved c =
    let cs = c.args.commands.now in
    let at = c.loop-command.command-index in
    let it = get_or cs at (record { began = 0; ended = 0; mtime = pos 0; hash = 0; to = 0; is_manifest = false }) in
    let own : c.unwrap_or-own.result ≡ lo_or_none it = c.unwrap_or-own.ensures ∙ ap (λ o. unwrap_or o 0) c.earliest.ensures.value in
    let top : c.max-top.result ≡ max c.loop-command.top c.unwrap_or-own.result = search rules in
    let now = top ∙ ap (max c.loop-command.top) own ∙ sym (cond-false it.is_manifest _ _ c.if-command.false) in
    record {
      told = tops_more c.loop-command.found.items _ c.loop-command.top _ it (drop at cs) (drop (at + 1) cs) _ _ c.loop-command.invariant.told
          (drop_more cs at _ (omega (arith, c.loop-command-test.true))) now
          ((λ i. record { ended = (c.of-row.ensures.value i).ended; alone = c.written-alone.ensures i; up = c.max-top.result; wait = c.saturating_sub-wait.ensures i })
          ∙ sym (cond-false it.is_manifest _ _ c.if-command.false))
          c.in_ok-push-2.ensures.items;
    }
