use Rattle.std.proofs.Common.{◌∙◌, length, ap, sym, subst}
use Rattle.nl_tool_print.specs.Output.{report, report_lines, yes_or_no}
use Rattle.nl_tool_print.specs.Versions.{IsReportFor}
use Rattle.nl_tool_print.proofs.OutputLemmas.{report_joined}
use Rattle.nl_tool_print.proofs.VersionLemmas.{checked_text, prints_text}
use Rattle.nl_tool_print.proofs.show.check_log.Goals as goal

pub returns-clause-prints : goal.returns-clause-prints
returns-clause-prints g c =
    let known = g.R.Read.remaining c.args.reader in
    let loaded = c.in_ok-version.loaded in
    let due = c.yes_or_no-due.ensures ∙ ap yes_or_no c.is_due.ensures.value in
    let text = c.as_bytes.ensures.value ∙ c.in_ok-report.ensures.ok ∙ report_joined c.number.result loaded.total c.len.result loaded.skipped loaded.torn _
    ∙ ap (report_lines c.number.result loaded.total c.len.result loaded.skipped loaded.torn) due
    ∙ ap (λ unique. report c.number.result loaded.total unique loaded.skipped loaded.torn) c.len.ensures.count
    ∙ ap (λ version. report version loaded.total (length loaded.table) loaded.skipped loaded.torn) c.number.ensures in
    prints_text (IsReportFor c.args.asked known) c.as_bytes.result.now _ _ c.write_out.result
    (subst (IsReportFor c.args.asked known) (sym text) (checked_text c.args.asked known _ _ c.in_ok-version.ensures.loaded))
    c.write_out.ensures.ok c.write_out.ensures.prefix c.write_out.ensures.faults
