use Rattle.std.proofs.Common.{rules, ◌≡◌, ◌∙◌, ap}
use Rattle.clap.specs.Words.{app_of, with_rule}
use Rattle.nl_tool_words.specs.Rows.{rule_by}
use Rattle.nl_tool_words.proofs.ValueLemmas.{or_false}
use Rattle.nl_tool_words.proofs.shape.command_of.Goals as goal

pub values-preserved : goal.values-preserved
values-preserved c =
    let adds = c.in_ok-command.ensures in
    let app : app_of c.in_ok-command.command ≡ with_rule (app_of c.values.command) (rule_by c.in-Some.value.now) =
    adds.shape c.arg_of.ensures.local ∙ ap (with_rule (app_of c.values.command)) c.arg_of.ensures.rule in
    (rw app (search rules), adds.globals ∙ or_false _ _ c.arg_of.ensures.local ∙ c.values.invariant.1)
