use Rattle.std.proofs.Common.{◌∙◌, [], subst, sym}
use Rattle.std.proofs.lemmas.Bool.{eqb-true, ne_eqb}
use Rattle.std.proofs.lemmas.List.{take_rest}
use Rattle.memchr.specs.Find.{IsLastByte, is_byte2}
use Rattle.nl_tool_texts.proofs.LastByteLemmas.{last_is_dot, last_is_slash, other, plain}
use Rattle.nl_tool_texts.proofs.kind.extension_of.Goals.{in_default-via-in-Some+else-name-at-eq46, in_default-via-in_default}
use Rattle.nl_tool_texts.proofs.kind.extension_of.Goals as goal

pub returns-in-Some : goal.returns-in-Some
returns-in-Some c =
    let name = c.args.name.now in
    let found = subst (IsLastByte (is_byte2 46 47) name) c.in-Some.is c.memrchr2.ensures in
    record { value = take_rest name c.in-Some.at ∙ sym (last_is_dot name c.in-Some.at [] found.0.high c.if-name-at-eq46.true found.0.after) }

pub returns-in_default : goal.returns-in_default
returns-in_default c =
    let name = c.args.name.now in
    elim c.in_default.branch [
      | in_default-via-in-Some+else-name-at-eq46 w ↦
          let found = subst (IsLastByte (is_byte2 46 47) name) w.in-Some.is c.memrchr2.ensures in
          let slash = eqb-true _ 47 (other _ _ found.1 (ne_eqb _ 46 w.if-name-at-eq46.false)) in
          record { value = sym (last_is_slash name w.in-Some.at [] found.0.high slash found.0.after) }
      | in_default-via-in_default w ↦
          record { value = sym (plain name [] (subst (IsLastByte (is_byte2 46 47) name) w.in_default.is c.memrchr2.ensures)) }
    ]
