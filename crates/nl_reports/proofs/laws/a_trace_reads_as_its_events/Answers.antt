use Rattle.nl_reports.proofs.ReadLemmas.{reads_as}
use Rattle.nl_reports.specs.Trace.{trace_events}
use Rattle.nl_reports.proofs.FitLemmas.{trace_fits}
use Rattle.nl_reports.proofs.laws.a_trace_reads_as_its_events.Goals as goal

pub returns-clause-events : goal.returns-clause-events
returns-clause-events c = reads_as

pub returns-clause-trace : goal.returns-clause-trace
returns-clause-trace c = λ scope t few low taken. reads_as (trace_events scope t) (trace_fits scope t few low taken)
