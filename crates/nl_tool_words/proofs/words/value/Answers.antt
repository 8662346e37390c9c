use Rattle.std.proofs.Common.{◌∙◌}
use Rattle.clap.specs.Words.{found_of}
use Rattle.clap.proofs.WalkLemmas.{first_value-rows}
use Rattle.nl_tool_words.proofs.ValueLemmas.{some_of, text_of_some}
use Rattle.nl_tool_words.proofs.words.value.Goals as goal

pub unwrap-requires : goal.unwrap-requires
unwrap-requires c =
    some_of c.get_str.result _ (c.get_str.ensures ∙ first_value-rows (found_of c.args.matches.now) c.args.id.now) c.requires

pub returns : goal.returns
returns c =
    text_of_some c.get_str.result c.unwrap.result _ c.unwrap.ensures
    (c.get_str.ensures ∙ first_value-rows (found_of c.args.matches.now) c.args.id.now)
