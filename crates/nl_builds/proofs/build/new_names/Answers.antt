use Rattle.std.proofs.Common.{◌≡◌, ◌∙◌, ap, arith, not}
use Rattle.std.proofs.lemmas.Grind.{common_steps}
use Rattle.nl_table.specs.History.{holds}
use Rattle.nl_table.specs.Table.{with_name}
use Rattle.nl_builds.proofs.CutLemmas.{held_as, named_more, names_of}
use Rattle.nl_builds.proofs.build.new_names.Goals as goal

pub returns-then-not-branch : goal.returns-then-not-branch
returns-then-not-branch c =
    let names = names_of c.loop-entry.names.keys in
    let e = c.entry-item.result in
    let held : c.in_ok-insert.field-0 ≡ not (holds names c.name.result.now) =
    c.in_ok-insert.ensures.added ∙ ap not (held_as c.loop-entry.names.keys c.name.result.now) in
    grind (arith, common_steps, held)

pub loop-entry-preserved : goal.loop-entry-preserved
loop-entry-preserved c =
    let names = names_of c.loop-entry.names.keys in
    let e = c.entry-item.result in
    let held : c.in_ok-insert.field-0 ≡ not (holds names c.name.result.now) =
    c.in_ok-insert.ensures.added ∙ ap not (held_as c.loop-entry.names.keys c.name.result.now) in
    let more : names_of c.insert.new.self.keys ≡ with_name names c.name.result.now =
    ap names_of c.in_ok-insert.ensures.keys ∙ named_more c.loop-entry.names.keys (record { bytes = c.name.result }) in
    grind (arith, common_steps, held, more)
