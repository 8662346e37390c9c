use Rattle.nl_tool.proofs.AnswerLemmas.{at_ok, summary_fault}
use Rattle.nl_tool.proofs.ReportLemmas.{path_fault_by}
use Rattle.nl_tool.proofs.desk.Desk.summary_in.Goals as goal

pub returns-clause-scope : goal.returns-clause-scope
returns-clause-scope g c = at_ok c.report_in-2.result (c.in_ok-scope.scope, c.in_ok-scope.ensures.value)

pub returns-clause-accepts : goal.returns-clause-accepts
returns-clause-accepts g c = at_ok c.report_in-2.result (c.in_ok-most.most, c.in_ok-most.ensures.value)

pub returns-clause-counts : goal.returns-clause-counts
returns-clause-counts g c = at_ok c.report_in-2.result (c.in_ok-counts.counts.items, c.in_ok-counts.ensures.value)

pub returns-clause-faults : goal.returns-clause-faults
returns-clause-faults g c =
    summary_fault c.report_in-2.result c.args.choices _ c.in-Some.path c.in-Some.is (path_fault_by c.report_in-2.result c.report_in-2.ensures.faults)
