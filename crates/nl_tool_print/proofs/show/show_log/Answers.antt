use Rattle.nl_tool_print.specs.Output.{IsTextAsRead}
use Rattle.nl_tool_print.specs.Versions.{show_text_for}
use Rattle.nl_tool_print.proofs.VersionLemmas.{shown_text, prints_text}
use Rattle.nl_tool_print.proofs.show.show_log.Goals as goal

pub returns-clause-prints : goal.returns-clause-prints
returns-clause-prints g c =
    let known = g.R.Read.remaining c.args.reader in
    prints_text (IsTextAsRead (show_text_for c.args.asked) known) _ _ _ c.write_lines.result
    (shown_text c.args.asked known _ _ c.in_ok-loaded.ensures.loaded) c.write_lines.ensures.ok c.write_lines.ensures.prefix
    c.write_lines.ensures.faults
