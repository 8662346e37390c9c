use Rattle.std.proofs.Common.{rules, ◌∙◌, ap, length, map, sym}
use Rattle.std.proofs.lemmas.List.{length-map}
use Rattle.nl_reports.specs.Jobs.{told}
use Rattle.nl_tool.specs.Reports.{asked_told}
use Rattle.nl_tool.proofs.ReportLemmas.{picture_told, summary_told, told_fault_by, trace_told}
use Rattle.nl_tool.proofs.reporting.tell.Goals as goal

pub returns-in_err-asked-in-Summary-clause-faults : goal.returns-in_err-asked-in-Summary-clause-faults
returns-in_err-asked-in-Summary-clause-faults g c = told_fault_by c.args.report c.from_residual-in_err-asked-in-Summary.result (search rules)

pub returns-in_ok-asked-in-Summary-clause-prints : goal.returns-in_ok-asked-in-Summary-clause-prints
returns-in_ok-asked-in-Summary-clause-prints g c =
    summary_told c.args.means.columns c.args.report c.in-Summary.scope c.in-Summary.lists c.in-Summary.graph c.in-Summary.is _ _ _ _ _ _
    c.tell_summary.result
    (c.in_ok-asked-in-Summary.ensures.value ∙ ap (λ names. asked_told c.in-Summary.scope (map (λ n. n.now) names) (told c.args.log.told)) c.as_slice-names.ensures.value)
    (ap length c.as_slice-names.ensures.value ∙ sym (length-map _ _)) c.tell_summary.ensures.prints

pub returns-in_err-asked-in-Trace-clause-faults : goal.returns-in_err-asked-in-Trace-clause-faults
returns-in_err-asked-in-Trace-clause-faults g c = told_fault_by c.args.report c.from_residual-in_err-asked-in-Trace.result (search rules)

pub returns-in_ok-asked-in-Trace-clause-prints : goal.returns-in_ok-asked-in-Trace-clause-prints
returns-in_ok-asked-in-Trace-clause-prints g c =
    trace_told c.args.means.columns c.args.report c.in-Trace.scope c.in-Trace.is _ _ _ _ _ c.trace_builds.result
    (c.in_ok-asked-in-Trace.ensures.value ∙ ap (λ names. asked_told c.in-Trace.scope (map (λ n. n.now) names) (told c.args.log.told)) c.as_slice-names.ensures.value)
    c.trace_builds.ensures.writes c.trace_builds.ensures.faults

pub returns-in_err-asked-in-Picture-clause-faults : goal.returns-in_err-asked-in-Picture-clause-faults
returns-in_err-asked-in-Picture-clause-faults g c = told_fault_by c.args.report c.from_residual-in_err-asked-in-Picture.result (search rules)

pub returns-in_ok-asked-in-Picture-clause-prints : goal.returns-in_ok-asked-in-Picture-clause-prints
returns-in_ok-asked-in-Picture-clause-prints g c =
    picture_told c.args.means.columns c.args.report c.in-Picture.scope c.in-Picture.graph c.in-Picture.is _ _ _ _ _ c.draw_builds.result
    (c.in_ok-asked-in-Picture.ensures.value ∙ ap (λ names. asked_told c.in-Picture.scope (map (λ n. n.now) names) (told c.args.log.told)) c.as_slice-names.ensures.value)
    c.draw_builds.ensures.prints
