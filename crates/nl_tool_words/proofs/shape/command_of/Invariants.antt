use Rattle.std.proofs.Common.{◌≡◌, false, length, map}
use Rattle.clap.specs.Words.{app_of, new_app}
use Rattle.clap.specs.declared.builder.command.Command.TheViews.{out-Command}
use Rattle.nl_tool_words.specs.Rows.{rule_by, with_rules}
use Rattle.nl_tool_words.proofs.shape.command_of.Given as goal

-- the values that are left make of the command what all of them make of one that takes nothing
abbrev pub invariant-values : goal.invariant-values
invariant-values l = (with_rules (app_of l.command) (map rule_by l.rest) ≡ with_rules (new_app l.row.name.now) (map rule_by l.row.takes.now))
    × ((out-Command l.command).has_globals ≡ false)

abbrev pub decreases-values : goal.decreases-values
decreases-values l = length l.rest
