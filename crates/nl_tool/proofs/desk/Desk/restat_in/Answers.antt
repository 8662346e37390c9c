use Rattle.std.proofs.Common.{inr, sym}
use Rattle.nl_tool_change.specs.Calls.{touching}
use Rattle.nl_tool_change.specs.Files.{times_of}
use Rattle.nl_tool.proofs.AnswerLemmas.{reads_at}
use Rattle.nl_tool.proofs.desk.Desk.restat_in.Goals as goal

pub returns-clause-call : goal.returns-clause-call
returns-clause-call g c =
    rw (c.close.ensures.left, c.close.ensures.value, sym c.in_ok-at.ensures.state, sym c.in_ok-at.ensures.asked) (inr (record {
      known = _;
      gives = c.in_ok-pairs.ensures.text;
      call = reads_at g.L.Folder times_of _ touching _ c.in_ok-at.at c.restat_telling-at.result.0 (rw (sym c.new-pairs.ensures.remaining) c.restat_telling-at.ensures.call);
    }))
