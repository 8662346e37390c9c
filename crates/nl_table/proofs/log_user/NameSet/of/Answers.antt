use Rattle.std.proofs.Common.{arith}
use Rattle.nl_table.proofs.NameSetLemmas.{held_more}
use Rattle.nl_table.proofs.log_user.NameSet.of.Goals as goal

pub loop-name-preserved : goal.loop-name-preserved
loop-name-preserved c =
    let keys = rw c.unwrap.ensures at c.insert.ensures.keys in
    record {
      holds = held_more _ _ _ _ keys c.loop-name.invariant.holds;
      room = omega (arith, c.in-Some.ensures.steps, c.insert.ensures.spare, c.loop-name.invariant.room);
    }
