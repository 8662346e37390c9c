use Rattle.std.proofs.Common.{rules, ◌≡◌, ◌∙◌, ◌++◌, codes}
use Rattle.std.proofs.lemmas.Result.{on_ok_weaker}
use Rattle.std.specs.Prelude.{decimal}
use Rattle.nl_tool_print.specs.Streams.{named_first, named_last}
use Rattle.nl_tool_print.proofs.DamageLemmas.{fields_told}
use Rattle.nl_tool_print.proofs.damage.append_damage.Goals as goal

pub returns-clause-items : goal.returns-clause-items
returns-clause-items c =
    let number : c.as_bytes.result.now ≡ decimal c.args.number = c.as_bytes.ensures.value ∙ c.format.ensures.text in
    let len : c.as_bytes-3.result.now ≡ decimal c.args.len = c.as_bytes-3.ensures.value ∙ c.format-2.ensures.text in
    let last : c.map_or-last.result.now ≡ named_last c.args.version c.args.lent.now = search rules in
    let first : c.unwrap_or-first.result.now ≡ named_first c.args.lent.now = search rules in
    on_ok_weaker c.append_field-5.result (λ h. fields_told _ _ _ _ _ _ _ _ _ _ _ c.in_ok-append_field.ensures.items
    c.in_ok-append_field-2.ensures.items c.in_ok-append_field-3.ensures.items c.in_ok-append_field-4.ensures.items h
    ∙ (λ i. c.args.out.now.items ++ (number i ++ codes "\t" ++ c.as_bytes-2.ensures.value i ++ codes "\t" ++ len i ++ codes "\t" ++ last i
    ++ codes "\t" ++ first i ++ codes "\n"))) c.append_field-5.ensures.items
