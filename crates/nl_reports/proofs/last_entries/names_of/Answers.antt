use Rattle.nl_reports.proofs.LastingLemmas.{name_more}
use Rattle.nl_reports.proofs.last_entries.names_of.Goals as goal

pub loop-name-preserved : goal.loop-name-preserved
loop-name-preserved c = λ name.
    name_more c.args.names.now c.loop-name.name-index _ name _ _ c.loop-name-test.true
    (c.in_ok-insert.ensures.updates.0 (record { bytes = record { ref_ptr = (0, 0); now = name } })) (c.loop-name.invariant name)
