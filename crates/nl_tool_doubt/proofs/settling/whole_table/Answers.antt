use Rattle.nl_tool_doubt.proofs.SettleLemmas.{damage_told}
use Rattle.nl_tool_doubt.proofs.settling.whole_table.Goals as goal

pub returns-in-Ok-clause-whole : goal.returns-in-Ok-clause-whole
returns-in-Ok-clause-whole g c =
    let told = c.in-Ok.ensures.finds in
    damage_told c.args.asked c.args.log.now told.1.bytes told.0 (g.W.Write.contents c.args.writer.now) (g.W.Write.contents c.damage_to.new.writer)
    c.in-Ok.damaged c.in_ok-table.table c.in_ok-check_version.ensures.accepts c.in_ok-table.ensures.reads told.1.given told.1.is told.2
    told.3 c.then_some.result c.then_some.ensures
