use Rattle.std.proofs.Common.{List, ℕ, Err, ap, subst}
use Rattle.std.specs.Prelude.{MatchOption}
use Rattle.nl_tool_doubt.specs.Settling.{FindsKept, IsWholeLog, TellsDamage}
use Rattle.nl_tool_doubt.proofs.SettleLemmas.{few_kept}
use Rattle.nl_tool_doubt.proofs.settling.PruneFinds.find.Goals as goal

pub returns : goal.returns
returns g c =
    let asked = c.args.self.now.asked in
    let log = c.args.log.now in
    let from = g.W.Write.contents c.args.writer.now in
    let to = g.W.Write.contents c.whole_table.new.writer in
    let found : IsWholeLog asked log c.in-Some.table from to =
    subst (λ o. MatchOption o (TellsDamage asked log from to) (λ table. IsWholeLog asked log table from to)) c.in-Some.is c.in_ok-table.ensures.whole in
    record {
      finds = subst (λ (targets : List (List ℕ)). FindsKept asked targets (g.F.OutputFiles.states c.args.files.now) from to log (Err c.in-Err.fault))
          (ap (λ v. v.items) c.replace-targets.ensures.value)
          (few_kept found c.in-Err.fault c.in-Err.ensures.faults (λ is. c.in-Err.ensures.elsewhere (ap Err is)));
    }
