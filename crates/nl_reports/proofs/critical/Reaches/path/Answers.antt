use Rattle.std.proofs.Common.{◌≡◌, ◌∙◌, [], ℕ, List, ap, arith, get_or, map, refl, subst, sym}
use Rattle.std.specs.List.{Contains}
use Rattle.nl_reports.specs.Critical.{Ran as Told}
use Rattle.nl_reports.specs.Reaches.{IsFarthest, far_at, ran_seen}
use Rattle.nl_reports.specs.declared.critical.Ran.{Ran}
use Rattle.nl_tool_texts.specs.declared.graph.Edge.{Edge}
use Rattle.nl_reports.proofs.ReachesLemmas.{SoFar, longest, path_begun, path_ended, path_more, so_far_as}
use Rattle.nl_reports.proofs.critical.Reaches.path.Goals as goal
use Rattle.nl_reports.proofs.critical.Reaches.path.Goals.{in-Some+then-edge-node+then-edge-self+then-far_at-from+in_ok-push_ran, in-Some+else-edge-node, in_default}

abbrev seen : List Ran → List Told
seen rs = map ran_seen rs

pub loop-place-init : goal.loop-place-init
loop-place-init c = λ js are is. so_far_as js c.args.self.now c.loop-node.start _ _ [] _ [] refl (ap seen c.new-commands.ensures.items)
    (path_begun js c.args.self.now c.loop-node.start [] are is)

pub loop-place-preserved : goal.loop-place-preserved
loop-place-preserved c = λ js are is.
    let r = c.args.self.now in
    let start = c.loop-node.start in
    let loop = c.loop-place in
    let so_far = loop.invariant js are is in
    let node = c.match-get.node in
    let rans = seen c.match-get.commands.items in
    elim c.match-get.branch [
      | in-Some+then-edge-node+then-edge-self+then-far_at-from+in_ok-push_ran w ↦
          let found = w.in-Some.ensures.lookup in
          let e = w.in-Some.edge.now in
          let new = seen w.push_ran.new.commands.items in
          let P : List Edge → Type 0 = λ l. Contains l e in
          let lent : Contains c.deref.result.now e = (_, found.3.0, sym found.1) in
          let same : c.deref.result.now ≡ r.graph.now.edges.items = c.deref.ensures.value in
          let more : SoFar js r start e.to [] new = path_more js r start loop.node [] (seen loop.commands.items) new so_far w.in_ok-push_ran.ensures.items e
          (subst P same lent) are w.if-edge-node.true w.if-edge-self.true
          (sym w.far_at-then-edge-self.ensures ∙ w.if-far_at-from.true ∙ w.from.ensures ∙ w.item_at.ensures ∙ ap (λ (l : List ℕ). get_or l loop.node 0) w.deref-then-edge-self.ensures.value) in
          so_far_as js r start node e.to [] rans new w.node-is (λ i. seen (w.commands-is i).items) more
      | in-Some+else-edge-node w ↦ so_far_as js r start node loop.node [] rans (seen loop.commands.items) w.node-is (λ i. seen (w.commands-is i).items) so_far
      | in_default w ↦ so_far_as js r start node loop.node [] rans (seen loop.commands.items) w.node-is (λ i. seen (w.commands-is i).items) so_far
    ]

pub returns : goal.returns
returns c = record {
  value = λ js are.
      let r = c.args.self.now in
      let ps = r.graph.now.nodes.entries in
      let is : IsFarthest r c.loop-node.start = record {
        within = λ some. omega (
          arith,
          c.loop-node-test.false,
          c.loop-node.auto.node-end,
          c.loop-node.invariant.within (omega (arith, some, c.loop-node-test.false)),
        );
        farthest = λ k inside. c.loop-node.invariant.farthest k (omega (arith, inside, c.loop-node-test.false));
      } in
      let followed = path_ended js r c.loop-node.start c.loop-place.node [] (seen c.loop-place.commands.items) (seen c.push_ran-2.new.commands.items)
      (c.loop-place.invariant js are is) c.in_ok-push_ran-2.ensures.items (sym (ap (λ (l : List ℕ). get_or l c.loop-place.node 0) c.deref-2.ensures.value) ∙ sym c.item_at-2.ensures ∙ c.if-item_at-ne0.false) in
      record {
        path = followed.path;
        longest = longest ps js r are.distinct are.ran r.graph.now.edges.items (far_at r c.loop-node.start)
            (c.if-not-are_tight.ensures.value refl)
            is.farthest followed.path followed.is_path followed.length_is;
        length_is = c.far_at-length.ensures ∙ sym followed.length_is;
        rans_are = followed.rans_are;
      };
}
