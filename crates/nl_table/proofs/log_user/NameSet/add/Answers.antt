use Rattle.std.proofs.Common.{◌∙◌, ap}
use Rattle.std.specs.Prelude.{not}
use Rattle.nl_table.specs.History.{holds}
use Rattle.nl_table.specs.Keys.{names_of_keys}
use Rattle.nl_table.specs.Table.{with_name}
use Rattle.nl_table.proofs.NameSetLemmas.{found_in, inserted}
use Rattle.nl_table.proofs.log_user.NameSet.add.Goals as goal

pub returns-clause-ok : goal.returns-clause-ok
returns-clause-ok c =
    let keys = c.self.inside.names.keys in
    ap names_of_keys c.in_ok-insert.ensures.keys ∙ inserted keys _ ∙ ap (with_name (names_of_keys keys)) c.in_ok-name.ensures.value
    ∙ ap (λ names. with_name names c.args.name.now) c.self.view_is

pub returns-clause-some : goal.returns-clause-some
returns-clause-some c =
    let keys = c.self.inside.names.keys in
    c.in_ok-insert.ensures.added ∙ ap not (found_in keys _) ∙ ap (λ name. not (holds (names_of_keys keys) name)) c.in_ok-name.ensures.value
    ∙ ap (λ names. not (holds names c.args.name.now)) c.self.view_is
