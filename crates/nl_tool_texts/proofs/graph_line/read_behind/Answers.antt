use Rattle.std.proofs.Common.{◌≡◌, rules, tests}
use Rattle.nl_tool_texts.specs.GraphLine.{are_attributes}
use Rattle.nl_tool_texts.proofs.graph_line.read_behind.Goals as goal
use Rattle.nl_tool_texts.proofs.graph_line.read_behind.Goals.{then-is_empty, else-is_empty+then-is_some, else-is_empty+else-is_some}

pub returns : goal.returns
returns c =
    let is : c.if-is_empty.is_edge ≡ are_attributes c.in_ok-to.more.now = elim c.if-is_empty.branch [
      | then-is_empty w ↦ search (rules, tests)
      | else-is_empty+then-is_some w ↦ search (rules, tests)
      | else-is_empty+else-is_some w ↦ search (rules, tests)
    ] in
    record { value = search (rules, tests) }
