use Rattle.std.proofs.Common.{inr, sym}
use Rattle.nl_tool_change.specs.Calls.{keeping}
use Rattle.nl_tool_change.specs.Files.{keep_of}
use Rattle.nl_tool.proofs.AnswerLemmas.{reads_at}
use Rattle.nl_tool.proofs.desk.Desk.recompact_in.Goals as goal

pub returns-clause-call : goal.returns-clause-call
returns-clause-call g c =
    rw (c.close.ensures.left, c.close.ensures.value, sym c.in_ok-at.ensures.state, sym c.in_ok-at.ensures.asked) (inr (record {
      known = _;
      gives = c.in_ok-names.ensures.text;
      call = reads_at g.L.Folder keep_of _ keeping _ c.in_ok-at.at c.recompact_telling-at.result.0 (rw (sym c.new-names.ensures.remaining) c.recompact_telling-at.ensures.call);
    }))
