use Rattle.std.proofs.Common.{◌≡◌, ◌∙◌, ◌<◌, ◌≤◌, ◌+◌, ◌∷◌, ℕ, List, Option, [], None, ap, arith, cond, drop, length, map, not, subst, sym, take, refl}
use Rattle.std.specs.Borrow.{Bor}
use Rattle.std.specs.List.{sum_by}
use Rattle.std.specs.Global.{Vec}
use Rattle.std.proofs.lemmas.List.{length-map, take_all, at_drop_all, at_drop_more}
use Rattle.std.proofs.lemmas.List.Sums.{sum_by-cons}
use Rattle.nl_table.specs.declared.output_key.NameKey.{NameKey}
use Rattle.nl_reports.specs.Critical.{IsFoundPath, lacking}
use Rattle.nl_tool_texts.specs.GraphText.{HeldNode, ids_of, nodes_of, seen_graph}
use Rattle.nl_reports.specs.Jobs.{Job, seen}
use Rattle.nl_reports.specs.Reaches.{AreOf, ran_seen, HavePlaces, IsOver, place_at, place_named_in, places_seen}
use Rattle.nl_reports.specs.Spans.{time_of}
use Rattle.nl_tool_texts.specs.declared.graph.NinjaGraph.{NinjaGraph}
use Rattle.nl_reports.proofs.CriticalLemmas.{HoldNames, all_counted, any_held, hold_named, hold_unnamed, lacking_more}
use Rattle.nl_reports.proofs.FoundLemmas.{all_lacking, none_there, are_planned}
use Rattle.nl_reports.proofs.ReachesLemmas.{by_graph, place_more}
use Rattle.nl_reports.proofs.critical.critical_of.Goals as goal
use Rattle.nl_reports.proofs.critical.critical_of.Goals.{in-Some+in_ok-insert, in_default, then-not-any_named, else-not-any_named, else-lacking-jobs-via-then-lacking-jobs+else-not-is_empty, else-lacking-jobs-via-else-lacking-jobs}
use Rattle.nl_reports.specs.Numbers.{total_time}
use Rattle.nl_reports.specs.Rows.{spans}
use Rattle.nl_reports.specs.declared.job.Job.{Job as HeldJob}

pub loop-node-preserved : goal.loop-node-preserved
loop-node-preserved c =
    let ps = c.args.graph.now.nodes.entries in
    let js = map seen c.args.jobs.now in
    let i = c.loop-node.node in
    let inside : i < length ps = omega (arith, c.loop-node-test.true, c.len-node-end.ensures.len) in
    let n : Bor (List ℕ) = record { ref_ptr = c.args.graph.ref_ptr; now = [] } in
    let d : HeldNode = (n, None) in
    let es = c.loop-node.names.keys in
    let P : List NameKey → Type 0 = λ l. HoldNames (nodes_of (take (i + 1) ps)) l in
    let at = c.name_at-name.ensures.value d inside in
    record {
      names = elim c.match-name.branch [
        | in-Some+in_ok-insert w ↦
            let same : c.match-name.names.keys ≡ w.insert.new.self.keys = (λ j. (w.names-is j).keys) in
            subst P (sym same) (hold_named ps i d inside es w.insert.new.self.keys c.loop-node.invariant.names w.in-Some.name
            (sym w.in-Some.is ∙ at)
            (λ q. w.in_ok-insert.ensures.updates.0 (record { bytes = record { ref_ptr = (0, 0); now = q } })))
        | in_default w ↦
            let same : c.match-name.names.keys ≡ es = (λ j. (w.names-is j).keys) in
            subst P (sym same) (hold_unnamed ps i d inside es es c.loop-node.invariant.names (sym w.in_default.is ∙ at))
      ];
      places = ap places_seen c.in_ok-push.ensures.items ∙ place_more ps js c.loop-node.places.items c.place_of.result i d inside c.len-node-end.ensures.unique
          (c.place_of.ensures.value js c.in_ok-outputs.ensures.value ∙ ap (place_named_in js) at) c.loop-node.invariant.places;
    }

pub loop-job-preserved : goal.loop-job-preserved
loop-job-preserved c =
    let g = seen_graph c.args.graph.now in
    let jobs = c.args.jobs.now in
    let i = c.loop-job.job-index in
    let j = c.job-item.result in
    let inv = c.loop-job.invariant in
    let before = c.loop-job in
    let after = c.if-not-any_named in
    let all = lacking g (map seen (drop i jobs)) in
    let rest = lacking g (map seen (drop (i + 1) jobs)) in
    let f : Job → ℕ = λ x. time_of x.span in
    let ps = c.args.graph.now.nodes.entries in
    let names = c.loop-node.names.keys in
    let past : length ps ≤ c.loop-node.node = omega (arith, c.loop-node-test.false, c.len-node-end.ensures.len) in
    let hold : HoldNames g.nodes names = subst (λ l. HoldNames (nodes_of l) names) (take_all c.loop-node.node ps past) c.loop-node.invariant.names in
    let later = total_time (map seen (drop (i + 1) jobs)) in
    let sum : total_time (map seen (drop i jobs)) ≡ f (seen j) + later =
    at_drop_more (λ (l : List HeldJob). total_time (map seen l)) jobs i j c.loop-job-test.true
    ∙ ap (λ (x : HeldJob). total_time (seen x ∷ map seen (drop (i + 1) jobs))) (sym c.job-item.is) ∙ sum_by-cons f (seen j) (map seen (drop (i + 1) jobs)) in
    let took : c.from-time.result ≡ f (seen j) = c.from-time.ensures ∙ c.time.ensures.value in
    let more = lacking_more g jobs i j c.any_named.result c.loop-job-test.true c.job-item.is
    (c.any_named.ensures ∙ any_held g names hold j.outputs.now) in
    elim c.if-not-any_named.branch [
      | then-not-any_named w ↦
          let is : all ≡ seen j ∷ rest = more ∙ ap (λ b. cond (not b) (seen j ∷ rest) rest) w.if-not-any_named.true in
          let many : length all ≡ length (seen j ∷ rest) = ap (λ (l : List Job). length l) is in
          let long : sum_by f all ≡ f (seen j) + sum_by f rest = ap (sum_by f) is ∙ sum_by-cons f (seen j) rest in
          let count : after.lacking ≡ before.lacking + 1 = w.lacking-is in
          let time : after.lacking_time ≡ before.lacking_time + c.from-time.result = w.lacking_time-is in
          record {
            count = omega (arith, count, many, inv.count);
            time = omega (arith, time, long, inv.time, took);
            few = omega (arith, count, inv.few);
            short = omega (arith, time, inv.short, c.from-time.ensures, c.time.type_inv);
            total = omega (arith, sum, took, inv.total);
            small = omega (arith, inv.small, c.from-time.ensures, c.time.type_inv);
          }
      | else-not-any_named w ↦
          let is : all ≡ rest = more ∙ ap (λ b. cond (not b) (seen j ∷ rest) rest) w.if-not-any_named.false in
          let many : length all ≡ length rest = ap (λ (l : List Job). length l) is in
          let long : sum_by f all ≡ sum_by f rest = ap (sum_by f) is in
          let count : after.lacking ≡ before.lacking = w.lacking-is in
          let time : after.lacking_time ≡ before.lacking_time = w.lacking_time-is in
          record {
            count = omega (arith, count, many, inv.count);
            time = omega (arith, time, long, inv.time);
            few = omega (arith, count, inv.few);
            short = omega (arith, time, inv.short);
            total = omega (arith, sum, took, inv.total);
            small = omega (arith, inv.small, c.from-time.ensures, c.time.type_inv);
          }
    ]

pub returns : goal.returns
returns c =
    let js = map seen c.args.jobs.now in
    let path = c.in_ok-path.path in
    let ps = c.args.graph.now.nodes.entries in
    let i = c.loop-node.node in
    let all : length (ids_of ps) ≤ i = omega (arith, c.loop-node-test.false, c.len-node-end.ensures.len, length-map ps (λ (p : HeldNode). p.0.now)) in
    let have : HavePlaces c.args.graph.now js c.loop-node.places.items = record {
      distinct = c.len-node-end.ensures.unique;
      are = c.loop-node.invariant.places ∙ ap (map (place_at (nodes_of ps) js)) (take_all i (ids_of ps) all);
    } in
    let r = c.in_ok-of.field-0 in
    let over : IsOver c.args.graph.now c.loop-node.places.items (spans js) r = record {
      graph = c.in_ok-of.ensures.value.graph;
      places = c.in_ok-of.ensures.value.places ∙ c.as_slice.ensures.value;
      spans = c.in_ok-of.ensures.value.spans ∙ c.as_slice-2.ensures.value ∙ c.in_ok-spans.ensures.value;
    } in
    let are : AreOf c.args.graph.now js r = are_planned js js refl c.args.graph.now c.loop-node.places.items r have over in
    let past : length c.args.jobs.now ≤ c.loop-job.job-index = omega (arith, c.loop-job-test.false) in
    let none : total_time (map seen (drop c.loop-job.job-index c.args.jobs.now)) ≡ 0 =
    at_drop_all (λ (l : List HeldJob). total_time (map seen l)) c.args.jobs.now c.loop-job.job-index past in
    let counted = all_counted (seen_graph c.args.graph.now) c.args.jobs.now c.loop-job.job-index c.loop-job.lacking c.loop-job.lacking_time (omega (arith, c.loop-job-test.false))
    c.loop-job.invariant.count c.loop-job.invariant.time in
    record {
      value = record {
        graph = refl;
        are = have;
        is_path = by_graph c.args.graph.now js r are
            (λ (x : NinjaGraph). IsFoundPath (seen_graph x) js path.length (map ran_seen path.commands.items)) (λ there. c.in_ok-path.ensures.value js there);
        count = counted.0;
        time = counted.1;
        total = omega (arith, c.loop-job.invariant.total, none);
        small = omega (arith, c.loop-job.invariant.small, c.loop-job.auto.job-index-end, c.loop-job-test.false);
        some = λ e. elim c.else-lacking-jobs.branch [
          | else-lacking-jobs-via-then-lacking-jobs+else-not-is_empty w ↦ none_there js (search (arith, w.is_empty, w.if-not-is_empty.false, length-map c.args.jobs.now seen))
          | else-lacking-jobs-via-else-lacking-jobs w ↦ absurd (search (arith, w.if-lacking-jobs.false, e, counted.0, length-map c.args.jobs.now seen))
        ];
      };
    }

pub returns-then-not-is_empty : goal.returns-then-not-is_empty
returns-then-not-is_empty c =
    let count = length-map c.args.jobs.now seen in
    let counted = all_counted (seen_graph c.args.graph.now) c.args.jobs.now c.loop-job.job-index c.loop-job.lacking c.loop-job.lacking_time (omega (arith, c.loop-job-test.false))
    c.loop-job.invariant.count c.loop-job.invariant.time in
    record {
      value = all_lacking (seen_graph c.args.graph.now) (map seen c.args.jobs.now) (search (arith, count, c.is_empty, c.if-not-is_empty.true))
          (search (arith, counted.0, c.if-lacking-jobs.true, count));
    }
