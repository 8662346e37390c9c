use Rattle.std.proofs.Common.{arith, length-set}
use Rattle.nl_builds.specs.declared.command.Row.{Row}
use Rattle.nl_builds.proofs.RowLemmas.{rows_onto_all, rows_onto_back}
use Rattle.nl_builds.proofs.command.with_rows.Goals as goal

pub commands-init : goal.commands-init
commands-init c = record {
  told = rows_onto_all c.args.order c.args.rows.items _ (omega (arith, c.len-at.ensures, c.args.rows.ok.0));
  within = omega (arith, c.len-at.ensures, c.args.rows.ok.0);
}

pub commands-preserved : goal.commands-preserved
commands-preserved c = record {
  told = rows_onto_back c.args.order c.commands.rows.items _ c.commands.at c.index_mut.result.now c.index-next.result.now _ c.commands-test.true
      c.commands.invariant.within c.index_mut.ensures.value c.index-next.ensures c.join.ensures.value c.commands.invariant.told;
  within = omega (arith, c.commands.invariant.within, length-set {A = Row});
}
