use Rattle.nl_tool_print.proofs.EntryLemmas.{all_listed, some_listed, streams_refused}
use Rattle.nl_tool_print.proofs.damage.entries_to.Goals as goal

pub returns-clause-streams : goal.returns-clause-streams
returns-clause-streams g c = all_listed _ _ _ _ c.in_ok-stream_named.ensures.finds

pub returns-in_err-stream_named-clause-streams : goal.returns-in_err-stream_named-clause-streams
returns-in_err-stream_named-clause-streams g c =
    streams_refused _ _ _ _ c.from_residual.result _ c.from_residual.ensures.1 (some_listed _ _ _ c.in_err-stream_named.ensures.finds)
