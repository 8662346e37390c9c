use Rattle.std.proofs.Common.{◌≡◌, ◌∙◌, ◌++◌, ◌<◌, ◌≤◌, ℕ, List, ap, arith, length, map, refl, subst, sym, ◌+◌, ◌/◌, append-nil, drop, get_or, length-set, set, take}
use Rattle.std.proofs.lemmas.List.{at_drop_all, drop_all, take_all}
use Rattle.nl_reports.specs.Critical.{Ran as Told}
use Rattle.nl_reports.specs.Gains.{AreGains, IsGain, gain_line, longest_rans, IsHalfPath, half_span, halved}
use Rattle.nl_tool_texts.specs.GraphText.{seen_graph}
use Rattle.nl_reports.specs.Jobs.{seen}
use Rattle.nl_reports.specs.Reaches.{ran_seen, IsOver}
use Rattle.nl_reports.specs.declared.critical.Ran.{Ran}
use Rattle.nl_reports.proofs.GainLemmas.{gain_more, gains_of, longest_held, half_path, made_half, spans_half}
use Rattle.nl_reports.proofs.jobs.gain_lines.Goals as goal
use Rattle.nl_reports.specs.Numbers.{spans_of}
use Rattle.nl_tool_texts.specs.declared.graph.NinjaGraph.{NinjaGraph}
use Rattle.nl_reports.specs.declared.moments.Span.{Span}
use Rattle.nl_reports.proofs.FoundLemmas.{are_planned}
use Rattle.nl_reports.proofs.ReachesLemmas.{by_graph}

-- a list as long as one before, over that
written : (n : ℕ) (new old : List Span) → n ≡ length old → length new ≡ length old → take n (new ++ drop (length new) old) ≡ new
written n new old is same =
    ap (λ (l : List Span). take n (new ++ l)) (drop_all (length new) old (omega (arith, same))) ∙ ap (take n) (append-nil new)
    ∙ take_all n new (omega (arith, is, same))

pub loop-i-preserved : goal.loop-i-preserved
loop-i-preserved c = λ g is text rest.
    let js = map seen c.args.jobs.now in
    let long = c.args.found.now.path.length in
    let xs = c.in_ok-longest.longest.items in
    let i = c.loop-i.i in
    let x = c.index-ran.result.now in
    let within : i < length xs = omega (arith, c.loop-i-test.true, c.len-i-end.ensures) in
    let half = c.in_ok-half.half in
    let r = ran_seen x in
    let place : r.place ≡ 0 + r.place = omega arith in
    let d = x.span in
    let held : c.deref_mut.result.now ≡ spans_of js = c.deref_mut.ensures.value ∙ c.in_ok-spans.ensures.value in
    let span : c.item_at-span.result ≡ get_or (spans_of js) r.place d =
    c.item_at-span.ensures ∙ ap (λ (l : List Span). get_or l r.place d) (c.deref.ensures.value ∙ c.in_ok-spans.ensures.value) in
    let began = c.item_at-span.result.began in
    let same : length c.set_at.new.items ≡ length c.in_ok-spans.spans.items = ap (λ (l : List Span). length l) c.set_at.ensures
    ∙ length-set c.deref_mut.result.now r.place (record { began = began; ended = began + c.time.result / 2 })
    ∙ ap (λ (l : List Span). length l) c.deref_mut.ensures.value in
    let changed : c.as_slice-in-loop-i.result.now ≡ set (spans_of js) r.place (half_span (get_or (spans_of js) r.place d)) = c.as_slice-in-loop-i.ensures.value
    ∙ written c.in_ok-spans.spans.len c.set_at.new.items c.in_ok-spans.spans.items c.in_ok-spans.spans.ok.0 same ∙ c.set_at.ensures
    ∙ (λ k. set (held k) r.place (record { began = began; ended = began + c.time.ensures.value k / 2 }))
    ∙ ap (λ (s : Span). set (spans_of js) r.place (half_span s)) span in
    let moved : c.as_slice-in-loop-i.result.now ≡ spans_of (halved r.place js) = changed ∙ spans_half js 0 r.place r.place d place in
    let reaches = c.in_ok-of.field-0 in
    let over : IsOver g c.args.found.now.places.items (spans_of (halved r.place js)) reaches = record {
      graph = c.in_ok-of.ensures.value.graph ∙ is.graph;
      places = c.in_ok-of.ensures.value.places ∙ c.deref-in-loop-i.ensures.value;
      spans = c.in_ok-of.ensures.value.spans ∙ moved;
    } in
    let are = are_planned (halved r.place js) js (made_half 0 r.place js) g c.args.found.now.places.items reaches is.are over in
    let more : IsGain c.args.screen (seen_graph g) js long (ran_seen x) c.loop-i.lines.items c.append_keyed.new.lines.items = record {
      half = half.length;
      is_half = by_graph g (halved r.place js) reaches are
          (λ (y : NinjaGraph). IsHalfPath (seen_graph y) js r half.length)
          (λ there. half_path (seen_graph reaches.graph.now) js r _ _ (c.in_ok-half.ensures.value (halved r.place js) there));
      is = c.in_ok-append_keyed.ensures.items ∙ ap (λ (k : ℕ). c.loop-i.lines.items ++ gain_line c.args.screen k (ran_seen x)) c.saturating_sub.ensures;
    } in
    c.loop-i.invariant g is text
    (gain_more c.args.screen (seen_graph g) js long xs i x c.loop-i.lines.items c.append_keyed.new.lines.items text within c.index-ran.ensures more rest)

pub returns : goal.returns
returns c =
    let long = c.args.found.now.path.length in
    let xs = c.in_ok-longest.longest.items in
    let i = c.loop-i.i in
    let lines = c.loop-i.lines.items in
    let all : length xs ≤ i = omega (arith, c.loop-i-test.false, c.len-i-end.ensures) in
    let rans = map ran_seen c.args.found.now.path.commands.items in
    let kept : map ran_seen xs ≡ longest_rans c.args.most rans =
    longest_held c.args.most xs c.as_slice.result.now c.in_ok-longest.ensures.value
    ∙ ap (λ (l : List Ran). longest_rans c.args.most (map ran_seen l)) c.as_slice.ensures.value in
    record {
      value = λ g is. gains_of c.args.screen (seen_graph g) (map seen c.args.jobs.now) c.args.most long rans (map ran_seen xs) lines is.is_path kept
          (c.loop-i.invariant g is lines (subst (λ (l : List Told). AreGains c.args.screen (seen_graph g) (map seen c.args.jobs.now) long l lines lines) (sym (at_drop_all (map ran_seen) xs i all)) refl));
    }
