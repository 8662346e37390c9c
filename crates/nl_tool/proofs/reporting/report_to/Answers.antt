use Rattle.std.proofs.Common.{rules}
use Rattle.nl_tool.specs.Reports.{IsReport, IsReportOf, waiting}
use Rattle.nl_reports.specs.Jobs.{told}
use Rattle.nl_tool.proofs.ReportLemmas.{not_refused, read_fault_by, report_as, report_fault_by, report_of, told_is}
use Rattle.nl_tool.proofs.reporting.report_to.Goals as goal

pub returns-in_err-log-clause-faults : goal.returns-in_err-log-clause-faults
returns-in_err-log-clause-faults g c = read_fault_by c.args.report c.from_residual.result (search rules)

pub returns-clause-prints : goal.returns-clause-prints
returns-clause-prints g c =
    let held = c.in_ok-log.ensures.value in
    let log = c.in_ok-log.log in
    report_as c.args.means.columns c.args.report (IsReport c.args.report (waiting log) (told log.told)) (IsReportOf c.args.report c.args.text.now)
    (λ text is. record {
      version = held.0;
      entries = held.1;
      is_log = held.2;
      is_told = report_of c.args.report _ _ _ _ text held.4 (told_is log.told _ held.3) is;
    }) _ _ c.tell.result c.tell.ensures.prints

pub returns-clause-refused : goal.returns-clause-refused
returns-clause-refused g c = not_refused c.args.report _ _ c.tell.result c.tell.ensures.faults

pub returns-clause-faults : goal.returns-clause-faults
returns-clause-faults g c = report_fault_by c.args.report c.tell.result c.tell.ensures.faults
