use Rattle.std.proofs.Common.{arith, map, string_bytes}
use Rattle.std.proofs.lemmas.Result.{IfOk-weaker}
use Rattle.nl_tool_words.specs.CommandLine.{entered_of, fault_in}
use Rattle.nl_tool.proofs.EndingLemmas.{IsStatusBy_kind, command_ended}
use Rattle.nl_tool.proofs.program.run_line.Goals as goal

pub returns-after-line-clause-status : goal.returns-after-line-clause-status
returns-after-line-clause-status g c =
    let line = map string_bytes c.args.line.now in
    let ends = c.run_over.ensures.status in
    command_ended (fault_in line) c.in-Ok.said.words (entered_of line) ends.0 c.run_over.result
    c.in-Ok.ensures.accepts c.in-Ok.ensures.value
    (IfOk-weaker ends.0 _ _ (λ outcome may is. c.meant-words.ensures.can_find (may.1 is)) ends.2)
    ends.1

pub returns-in-Err : goal.returns-in-Err
returns-in-Err g c =
    let line = map string_bytes c.args.line.now in
    record {
      status = IsStatusBy_kind (fault_in line) (entered_of line) c.in-Err.error c.explain.result c.in-Err.ensures.accepts c.explain.ensures.status;
      bound = omega (arith, c.explain.ensures.bound);
    }
