use Rattle.std.proofs.Common.{codes, map}
use Rattle.nl_fields.specs.EntryLine.{line_of}
use Rattle.nl_lines.specs.Split.{joined}
use Rattle.nl_tool_change.proofs.AnswerLemmas.{says_more}
use Rattle.nl_tool_change.proofs.answers.say_entries.Goals as goal

pub returns-clause-says : goal.returns-clause-says
returns-clause-says g c =
    let w = g.W.Write in
    says_more (w.contents c.args.writer.now)
    (w.contents c.write_lines.new.writer) (w.contents c.say.new.writer) (joined (map line_of c.args.table.now)) (codes "end\n") c.say.result
    c.in_ok-write_lines.ensures.ok c.say.ensures.says
