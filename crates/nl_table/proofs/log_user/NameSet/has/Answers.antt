use Rattle.std.proofs.Common.{ap, ◌∙◌}
use Rattle.nl_table.specs.History.{holds}
use Rattle.nl_table.proofs.NameSetLemmas.{found_in}
use Rattle.nl_table.proofs.log_user.NameSet.has.Goals as goal

pub returns : goal.returns
returns c =
    c.contains.ensures ∙ found_in c.self.inside.names.keys c.args.name.now ∙ ap (λ names. holds names c.args.name.now) c.self.view_is
