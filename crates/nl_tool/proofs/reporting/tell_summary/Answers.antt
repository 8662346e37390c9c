use Rattle.std.proofs.Common.{rules, ◌≡◌, ◌∙◌, ap, map}
use Rattle.nl_reports.specs.Choice.{chosen_jobs}
use Rattle.nl_reports.specs.Jobs.{seen, told}
use Rattle.nl_tool.specs.Reports.{IsSummary}
use Rattle.nl_tool.proofs.ReportLemmas.{found_by, laid_of, summary_by, summary_plain}
use Rattle.nl_tool.proofs.reporting.tell_summary.Goals as goal

pub returns-in_default-clause-prints : goal.returns-in_default-clause-prints
returns-in_default-clause-prints g c =
    laid_of c.args.means.columns (IsSummary c.args.scope c.args.lists c.args.graph c.args.unfinished (told c.args.from.now)) c.in_ok-lines.lines.items
    (summary_plain _ _ _ _ _ _ c.in_default.not-Some c.in_ok-lines.ensures.value) _ _ c.write_lines.result c.write_lines.ensures.prints

pub returns-in_default-clause-faults : goal.returns-in_default-clause-faults
returns-in_default-clause-faults g c = found_by c.args.graph c.write_lines.result c.write_lines.ensures.faults

pub returns-clause-prints : goal.returns-clause-prints
returns-clause-prints g c =
    let jobs : map seen c.as_slice.result.now ≡ chosen_jobs c.args.scope (told c.args.from.now) =
    ap (map seen) c.as_slice.ensures.value ∙ c.in_ok-jobs.ensures.value in
    laid_of c.args.means.columns (IsSummary c.args.scope c.args.lists c.args.graph c.args.unfinished (told c.args.from.now)) _
    (summary_by _ _ _ _ _ _ _ _ _ _ _ c.in-Some.is c.in_ok-told.ensures.value c.in-Some-told.is jobs c.in_ok-lines.ensures.value (search rules))
    _ _ c.write_lines-2.result c.write_lines-2.ensures.prints

pub returns-clause-faults : goal.returns-clause-faults
returns-clause-faults g c = found_by c.args.graph c.write_lines-2.result c.write_lines-2.ensures.faults
