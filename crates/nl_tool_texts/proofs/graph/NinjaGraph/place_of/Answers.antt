use Rattle.std.proofs.Common.{◌≡◌, ◌∙◌, ◌++◌, ◌∷◌, [], None, subst, sym}
use Rattle.indexmap.proofs.CallerLemmas.{insert_entry-new}
use Rattle.nl_tool_texts.specs.GraphText.{IsPlaced}
use Rattle.nl_tool_texts.proofs.GraphLemmas.{holds_placed, none_is, placed_found, placed_new, same}
use Rattle.nl_tool_texts.proofs.graph.NinjaGraph.place_of.Goals as goal

pub returns-in-Some-clause-place : goal.returns-in-Some-clause-place
returns-in-Some-clause-place c = placed_found c.args.self.now.nodes.entries c.args.id c.in-Some.place (sym c.in-Some.ensures.index)

pub returns-clause-place : goal.returns-clause-place
returns-clause-place c =
    let old = c.args.self.now.nodes.entries in
    let new = c.insert.new.self.entries in
    let is : new ≡ old ++ (c.args.id, None) ∷ [] =
    c.in_ok-insert.ensures.entries ∙ insert_entry-new same c.args.self.now.nodes c.args.id None (none_is _ c.in_default.ensures.found) in
    subst (IsPlaced c.args.id.now old new) (sym c.len-place.ensures.len) (placed_new old new c.args.id is)

pub returns-clause-holds : goal.returns-clause-holds
returns-clause-holds c = λ ns es holds.
    let old = c.args.self.now.nodes.entries in
    let new = c.insert.new.self.entries in
    let none = none_is _ c.in_default.ensures.found in
    let is : new ≡ old ++ (c.args.id, None) ∷ [] =
    c.in_ok-insert.ensures.entries ∙ insert_entry-new same c.args.self.now.nodes c.args.id None none in
    holds_placed ns es old new c.args.self.now.edges.items holds c.args.id none
    (placed_new old new c.args.id is).kept c.in_ok-insert.ensures.updates.0
