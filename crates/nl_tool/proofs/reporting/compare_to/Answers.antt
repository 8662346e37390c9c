use Rattle.std.proofs.Common.{◌∙◌, ap}
use Rattle.nl_reports.specs.Compare.{are_comparable, compare_text, side_of}
use Rattle.nl_tool.proofs.ReportLemmas.{printed_so}
use Rattle.nl_tool.proofs.reporting.compare_to.Goals as goal

pub returns-clause-prints : goal.returns-clause-prints
returns-clause-prints g c =
    printed_so c.args.means.columns c.in_ok-lines.lines.items _ _ _ c.write_lines.result
    (c.in_ok-lines.ensures.value ∙ ap (λ s. compare_text s c.args.most c.args.least (are_comparable c.args.old.now.version c.args.new.now.version)
    (side_of c.args.old.now) (side_of c.args.new.now)) c.is_some-screen.ensures) c.write_lines.ensures.prints
