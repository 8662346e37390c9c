use Rattle.std.proofs.Common.{◌≡◌, ◌∙◌, ◌&&◌, Bool, true, inl, inr, ap, sym, rules, tests}
use Rattle.std.specs.Prelude.{not}
use Rattle.std.specs.List.{list_all}
use Rattle.std.specs.Str.{IsUtf8, chars, is_utf8}
use Rattle.std.proofs.lemmas.Bool.{cases_Bool}
use Rattle.std.proofs.lemmas.Iterator.{YieldsList-from_chars}
use Rattle.std.proofs.lemmas.Iterator.Search.{all_from_yields_List}
use Rattle.std.proofs.lemmas.Str.{IsUtf8-from_is_utf8, is_utf8-from_IsUtf8}
use Rattle.nl_tool_texts.specs.Columns.{is_obeyed}
use Rattle.nl_tool_texts.proofs.terminal.is_quiet.Goals as goal

pub returns-in-Ok : goal.returns-in-Ok
returns-in-Ok c =
    let bytes = c.args.bytes.now in
    let utf : IsUtf8 bytes = c.in-Ok.ensures.cases.1 in
    let text : is_utf8 bytes ≡ true = is_utf8-from_IsUtf8 bytes utf in
    record {
      value = all_from_yields_List (λ x. not (is_obeyed x)) _ _ c.all.result c.all.ensures.ran
          (YieldsList-from_chars bytes utf (c.chars.ensures.rest ∙ c.in-Ok.ensures.cases.0)) (λ x b q k. search (rules, tests))
          ∙ sym (ap (λ (t : Bool). t && list_all (λ x. not (is_obeyed x)) (chars bytes)) text);
    }

pub returns-in-Err : goal.returns-in-Err
returns-in-Err c =
    let bytes = c.args.bytes.now in
    record {
      value = elim (cases_Bool (is_utf8 bytes)) [
        | inl is ↦ absurd (c.in-Err.ensures.cases.0 (IsUtf8-from_is_utf8 bytes is))
        | inr isn ↦ sym (ap (λ (t : Bool). t && list_all (λ x. not (is_obeyed x)) (chars bytes)) isn)
      ];
    }
