use Rattle.std.proofs.Common.{◌≡◌, ap, Err}
use Rattle.nl_tool_texts.specs.declared.fault.ToolFault.TheVariants.{BadLine}
use Rattle.nl_tool_change.proofs.KeepLemmas.{is_err}
use Rattle.nl_tool_change.proofs.ManifestLemmas.{bad_manifest}
use Rattle.nl_tool_change.proofs.files.read_manifest.Goals as goal

pub returns-in_err-targets-clause-bad_line : goal.returns-in_err-targets-clause-bad_line
returns-in_err-targets-clause-bad_line g c number is =
    let same : c.in_err-targets.field-0.0 ≡ BadLine number = cc (is_err c.from_residual.result _ c.from_residual.ensures.1, is) in
    bad_manifest number (c.in_err-targets.ensures.bad_line number (ap Err same))
