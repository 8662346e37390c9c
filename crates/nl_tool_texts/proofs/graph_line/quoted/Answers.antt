use Rattle.std.proofs.Common.{◌∙◌, ◌≡◌, ap, option_map, rules}
use Rattle.nl_tool_texts.specs.GraphLine.{both_now, quoted, to_quote}
use Rattle.nl_tool_texts.proofs.GraphLineLemmas.{to_quote_found, to_quote_none}
use Rattle.nl_tool_texts.proofs.graph_line.quoted.Goals as goal

pub returns-in_err-at : goal.returns-in_err-at
returns-in_err-at c =
    let behind : to_quote c.in_ok-tail.tail.now ≡ quoted c.args.bytes.now = search rules in
    record { value = ap (option_map both_now) c.from_residual-in_err-at.ensures ∙ to_quote_none c.in_ok-tail.tail.now c.in_err-at.ensures ∙ behind }

pub returns : goal.returns
returns c =
    let behind : to_quote c.in_ok-tail.tail.now ≡ quoted c.args.bytes.now = search rules in
    record { value = to_quote_found c.in_ok-tail.tail.now c.in_ok-at.at c.in_ok-at.ensures ∙ behind }
