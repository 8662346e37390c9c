use Rattle.std.proofs.Common.{◌∙◌, ap, cond, refl, sym}
use Rattle.std.specs.Prelude.{Bool}
use Rattle.nl_versions.specs.VersionOf.{version_of}
use Rattle.nl_versions.specs.declared.version.LogVersion.{LogVersion}
use Rattle.nl_tool_doubt.specs.declared.settling.Due.TheVariants.{Mend, Nothing}
use Rattle.nl_tool_doubt.proofs.mending.MendingFinds.find.Goals as goal

pub returns-then-is_elsewhere : goal.returns-then-is_elsewhere
returns-then-is_elsewhere g c =
    record { finds = (refl, c.in_ok-doubts.doubts, c.in_ok-doubts.ensures.value, sym c.is_elsewhere.ensures ∙ c.if-is_elsewhere.true) }

pub returns-then-said : goal.returns-then-said
returns-then-said g c =
    let said = c.in_ok-said.said in
    record {
      finds = (
        refl,
        c.in_ok-doubts.doubts,
        c.in_ok-doubts.ensures.value,
        record {
          said = said;
          is = c.in_ok-said.ensures.value;
          here = sym c.is_elsewhere.ensures ∙ c.if-is_elsewhere.false;
          text = refl;
          told = refl;
          outputs = (refl, refl);
          due = ap (λ (v : LogVersion). Mend v said.names) c.version_of.ensures
              ∙ sym (ap (λ (b : Bool). cond b (Mend (version_of c.args.log.now) said.names) Nothing) c.if-said.true);
        },
      );
    }

pub returns : goal.returns
returns g c =
    let said = c.in_ok-said.said in
    record {
      finds = (
        refl,
        c.in_ok-doubts.doubts,
        c.in_ok-doubts.ensures.value,
        record {
          said = said;
          is = c.in_ok-said.ensures.value;
          here = sym c.is_elsewhere.ensures ∙ c.if-is_elsewhere.false;
          text = refl;
          told = refl;
          outputs = (refl, refl);
          due = sym (ap (λ (b : Bool). cond b (Mend (version_of c.args.log.now) said.names) Nothing) c.if-said.false);
        },
      );
    }
