use Rattle.std.proofs.Common.{Err, Ok, Some, ◌≡◌, ◌∙◌, ap, subst, sym}
use Rattle.nl_versions.specs.declared.version.LogVersion.{LogVersion}
use Rattle.nl_versions.specs.declared.version.LogVersion.TheVariants.{Five}
use Rattle.nl_folder.specs.FolderView.{folder_view}
use Rattle.nl_session.specs.declared.fault.LogFault.TheVariants.{OtherVersion}
use Rattle.nl_tool_change.specs.Calls.{Looks}
use Rattle.nl_tool_change.proofs.SeenLogLemmas.{looks_four, looks_named, looks_past}
use Rattle.nl_tool_change.proofs.reading.look_for.Goals as goal

pub returns-in-Ok-None : goal.returns-in-Ok-None
returns-in-Ok-None g c =
    let looked = c.first_line_in-folder.ensures in
    let view = folder_view g.F.Folder in
    record {
      looks = subst (λ asked. Looks asked (view c.args.folder) (view c.first_line_in-folder.result.0) (Ok c.in-Ok-None.line.version))
          (sym c.in-Ok-None.is-1) (looks_named _ _ c.first_line_in-folder.result.1 looked.unchanged looked.rises looked.steady looked.version
          c.in-Ok-None.line c.in-Ok-None.is-0);
    }

pub returns-in-Ok-Some : goal.returns-in-Ok-Some
returns-in-Ok-Some g c =
    let looked = c.first_line_in-folder.ensures in
    let view = folder_view g.F.Folder in
    let version = c.in-Ok-Some.field-0-1 in
    let other = λ (five : version ≡ Five).
    let clash = rw (c.in-Ok-Some.is-1 ∙ ap (λ (v : LogVersion). Some v) five) at (sym c.if-eq.false ∙ c.eq.ensures) in absurd (cc clash) in
    record {
      looks = subst (λ asked. Looks asked (view c.args.folder) (view c.first_line_in-folder.result.0) (Err OtherVersion))
          (sym c.in-Ok-Some.is-1) (looks_four _ _ c.first_line_in-folder.result.1 looked.unchanged looked.rises looked.steady version other
          looked.four c.in-Ok-Some.line c.in-Ok-Some.is-0 c.if-line.true);
    }

pub returns-in-Ok-Some-2 : goal.returns-in-Ok-Some-2
returns-in-Ok-Some-2 g c =
    let looked = c.first_line_in-folder.ensures in
    let view = folder_view g.F.Folder in
    let version = c.in-Ok-Some.field-0-1 in
    let other = λ (five : version ≡ Five).
    let clash = rw (c.in-Ok-Some.is-1 ∙ ap (λ (v : LogVersion). Some v) five) at (sym c.if-eq.false ∙ c.eq.ensures) in absurd (cc clash) in
    record {
      looks = subst (λ asked. Looks asked (view c.args.folder) (view c.first_line_in-folder.result.0) (Ok version))
          (sym c.in-Ok-Some.is-1) (looks_past _ _ c.first_line_in-folder.result.1 looked.unchanged looked.rises looked.steady version other
          looked.four c.in-Ok-Some.line c.in-Ok-Some.is-0 c.if-line.false);
    }
