use Rattle.std.proofs.Common.{◌≡◌, ◌∙◌, ◌<◌, ◌≤◌, ◌+◌, ◌-◌, ◌++◌, ◌∷◌, ℕ, zero, suc, List, [], Result, Ok, Err, ap, append-nil, arith, codes, get_or, if◌then◌else◌, length, map, refl, replicate, rules, subst, sym, take, true≢false}
use Rattle.std.specs.Result.{is_ok, result_or}
use Rattle.nl_reports.specs.declared.frame.Short.{Short}
use Rattle.std.proofs.lemmas.List.{at_drop_all, get_or_default, length-map, replicate_more}
use Rattle.std.specs.List.{zip}
use Rattle.nl_reports.specs.Bars.{no_short, short_bars}
use Rattle.nl_reports.specs.Curve.{curve}
use Rattle.nl_reports.specs.Frame.{frame_of}
use Rattle.nl_reports.specs.Jobs.{seen, told}
use Rattle.nl_reports.specs.Lanes.{lanes}
use Rattle.nl_reports.specs.Picture.{bars, end, known_in, longest, outlined, start}
use Rattle.nl_reports.specs.Moments.{AreMoments}
use Rattle.nl_reports.specs.Reaches.{rans_of}
use Rattle.nl_reports.specs.Rows.{spans}
use Rattle.nl_reports.specs.declared.moments.Span.{Span}
use Rattle.nl_tool_texts.specs.Writing.{HoldsAllBut}
use Rattle.nl_reports.proofs.DrawLemmas.{bars_held, bars_over, end_absent, end_held, end_some, none_drawn, picture_is, shorts_held}
use Rattle.nl_reports.proofs.LaneLemmas.{lanes_length}
use Rattle.nl_tool_texts.proofs.TextLemmas.{two_parts}
use Rattle.nl_tool_texts.proofs.WritingLemmas.{all_held, err_writes, out_writes, part_on, rest_written, some_of, then_moved}
use Rattle.nl_reports.proofs.picture.write_jobs.Goals as goal

pub returns-in_err-spans-clause-writes : goal.returns-in_err-spans-clause-writes
returns-in_err-spans-clause-writes g c = none_drawn _ (known_in c.args.scope (told c.args.from.now)) (rans_of c.args.path) (map seen c.args.jobs.now) _ c.from_residual.ensures.0

pub returns-in_err-append_start-clause-writes : goal.returns-in_err-append_start-clause-writes
returns-in_err-append_start-clause-writes g c = none_drawn _ (known_in c.args.scope (told c.args.from.now)) (rans_of c.args.path) (map seen c.args.jobs.now) _ c.from_residual-in_err-append_start.ensures.0

pub returns-in_err-resize-clause-writes : goal.returns-in_err-resize-clause-writes
returns-in_err-resize-clause-writes g c = none_drawn _ (known_in c.args.scope (told c.args.from.now)) (rans_of c.args.path) (map seen c.args.jobs.now) _ c.from_residual-in_err-resize.ensures.0

pub returns-in_err-or-clause-writes : goal.returns-in_err-or-clause-writes
returns-in_err-or-clause-writes g c = none_drawn _ (known_in c.args.scope (told c.args.from.now)) (rans_of c.args.path) (map seen c.args.jobs.now) _ c.from_residual-in_err-or.ensures.0

is_none : (s : Short) → (s.pixel ≡ 0) × ((s.kind ≡ 0) × (s.count ≡ 0)) → s ≡ no_short
is_none s is = λ i. record { pixel = is.0 i; kind = is.1.0 i; count = is.1.1 i }

pushed : {T E D : Type 0} → (r : Result T E) (fault : D) (x : T) (old new : List Short) (s : Short) → result_or r (Err fault) ≡ Ok x
    → new ≡ (if is_ok r then old ++ s ∷ [] else old) → new ≡ old ++ s ∷ []
pushed (Ok y) fault x old new s is told = told
pushed (Err e) fault x old new s is told = absurd (true≢false (sym (ap is_ok is)))

take_none : (n : ℕ) → ◌≡◌ {A = List Short} (take n []) []
take_none zero = refl
take_none (suc n) = refl

all_short : (n len : ℕ) (old : List Short) (s : Short) → old ≡ [] → len ≡ 0 → take n old ++ replicate (n - len) s ≡ replicate n s
all_short n len old s is none =
    let all : n - len ≡ n = omega (arith, none) in
    (λ i. take n (is i) ++ replicate (all i) s) ∙ ap (λ (l : List Short). l ++ replicate n s) (take_none n)

pub loop-i-init : goal.loop-i-init
loop-i-init g c =
    let js = map seen c.args.jobs.now in
    let f = c.of-frame.result in
    let ls = c.as_slice-lanes.result.now in
    let path = rans_of c.args.path in
    let known = known_in c.args.scope (told c.args.from.now) in
    let first : c.append_start.new.out.items ≡ start f known js =
    c.in_ok-append_start.ensures.items ∙ ap (λ (l : List ℕ). l ++ start f known js) c.new-held.ensures.items in
    let ran = c.in_ok-spans.ensures.value in
    let shorts : c.push.new.self.items ≡ replicate (f.top + 1) no_short =
    pushed c.push.result _ _ _ _ _ (sym c.or.ensures ∙ c.in_ok-or.was) c.push.ensures.items
    ∙ (λ i. (c.in_ok-resize.ensures.items ∙ all_short f.top _ _ c.default.result c.new-shorts.ensures.items c.new-shorts.ensures.len
    ∙ ap (replicate f.top) (is_none c.default.result c.default.ensures)) i ++ is_none c.default-2.result c.default-2.ensures i ∷ []) ∙ replicate_more f.top no_short in
    record {
      text = c.append_start.new.out.items ++ bars f (zip js ls);
      holds = rw shorts (all_held _ _);
      is = picture_is js known path (spans js) ls f c.append_start.new.out.items (end f ls path (spans js) js) refl
          (c.as_slice-lanes.ensures.value ∙ c.in_ok-lanes.ensures.value ∙ ap lanes (c.as_slice.ensures.value ∙ ran))
          (c.of-frame.ensures.value ∙ (λ i. frame_of ((c.as_slice-3.ensures.value ∙ ran) i) ((c.as_slice-4.ensures.value ∙ sym c.as_slice-lanes.ensures.value) i)))
          first refl;
      lanes = omega (
        arith,
        ap length c.as_slice-lanes.ensures.value,
        ap length c.in_ok-lanes.ensures.value,
        lanes_length c.as_slice.result.now [],
        ap length c.as_slice.ensures.value,
        ap length c.in_ok-spans.ensures.value,
        length-map c.args.jobs.now seen,
        length-map (map seen c.args.jobs.now) (λ j. j.span),
      );
    }

pub loop-i-preserved : goal.loop-i-preserved
loop-i-preserved g c =
    let inv = c.loop-i.invariant in
    let i = c.loop-i.i in
    let js = c.args.jobs.now in
    let ls = c.as_slice-lanes.result.now in
    let within : i < length js = omega (arith, c.loop-i-test.true) in
    let there : i < length ls = omega (arith, within, inv.lanes) in
    record {
      text = inv.text;
      holds = then_moved _ _ _ _ _ _ _ (bars_held _ _ _ _ _ c.of-frame.result js ls i (get_or ls i 0) c.index-jobs-i.result _ _ within there
          c.index-jobs-i.is (get_or_default ls i 0 (get_or ls i 0) there) c.in_ok-append_bar.ensures.items c.in_ok-append_bar.ensures.shorts
          inv.holds)
          c.in_ok-write_full.ensures.moved;
      is = inv.is;
      lanes = inv.lanes;
    }

pub returns-in_err-append_bar-clause-writes : goal.returns-in_err-append_bar-clause-writes
returns-in_err-append_bar-clause-writes g c =
    let inv = c.loop-i.invariant in
    err_writes _ _ _ _ c.from_residual-in_err-append_bar.ensures.0 (end_absent _ _ _ _ _ (end_some c.of-frame.result c.as_slice-lanes.result.now (rans_of c.args.path) (spans (map seen c.args.jobs.now)) (map seen c.args.jobs.now)) inv.is (_, inv.holds))

pub returns-in_err-write_full-clause-writes : goal.returns-in_err-write_full-clause-writes
returns-in_err-write_full-clause-writes g c =
    let inv = c.loop-i.invariant in
    let i = c.loop-i.i in
    let js = c.args.jobs.now in
    let ls = c.as_slice-lanes.result.now in
    let within : i < length js = omega (arith, c.loop-i-test.true) in
    let there : i < length ls = omega (arith, within, inv.lanes) in
    err_writes _ _ _ _ c.from_residual-in_err-write_full.ensures.0 (end_absent _ _ _ _ _ (end_some c.of-frame.result c.as_slice-lanes.result.now (rans_of c.args.path) (spans (map seen c.args.jobs.now)) (map seen c.args.jobs.now)) inv.is (some_of _ _ _ (part_on _ _ _ _ _ _
    (bars_held _ _ _ _ _ c.of-frame.result js ls i (get_or ls i 0) c.index-jobs-i.result _ _ within there
    c.index-jobs-i.is (get_or_default ls i 0 (get_or ls i 0) there) c.in_ok-append_bar.ensures.items c.in_ok-append_bar.ensures.shorts
    inv.holds) c.in_err-write_full.ensures.prefix)))

pub loop-lane-init : goal.loop-lane-init
loop-lane-init g c =
    let inv = c.loop-i.invariant in
    let all : length c.args.jobs.now ≤ c.loop-i.i = omega (arith, c.loop-i-test.false) in
    record {
      text = inv.text;
      holds = bars_over _ _ _ _ c.of-frame.result c.args.jobs.now c.as_slice-lanes.result.now c.loop-i.i c.loop-i.shorts.items c.as_slice-shorts.result.now all
          c.as_slice-shorts.ensures.value inv.holds;
      is = inv.is;
    }

pub loop-lane-preserved : goal.loop-lane-preserved
loop-lane-preserved g c =
    let inv = c.loop-lane.invariant in
    let shorts = c.as_slice-shorts.result.now in
    let within : c.loop-lane.lane < length shorts = omega (arith, c.loop-lane-test.true) in
    record {
      text = inv.text;
      holds = then_moved _ _ _ _ _ _ _ (shorts_held _ _ _ _ _ c.of-frame.result shorts c.loop-lane.lane _ within c.in_ok-append_short.ensures.items inv.holds)
          c.in_ok-write_full-2.ensures.moved;
      is = inv.is;
    }

pub returns-in_err-append_short-clause-writes : goal.returns-in_err-append_short-clause-writes
returns-in_err-append_short-clause-writes g c =
    let inv = c.loop-lane.invariant in
    err_writes _ _ _ _ c.from_residual-in_err-append_short.ensures.0 (end_absent _ _ _ _ _ (end_some c.of-frame.result c.as_slice-lanes.result.now (rans_of c.args.path) (spans (map seen c.args.jobs.now)) (map seen c.args.jobs.now)) inv.is (_, inv.holds))

pub returns-in_err-write_full-2-clause-writes : goal.returns-in_err-write_full-2-clause-writes
returns-in_err-write_full-2-clause-writes g c =
    let inv = c.loop-lane.invariant in
    let shorts = c.as_slice-shorts.result.now in
    let within : c.loop-lane.lane < length shorts = omega (arith, c.loop-lane-test.true) in
    err_writes _ _ _ _ c.from_residual-in_err-write_full-2.ensures.0 (end_absent _ _ _ _ _ (end_some c.of-frame.result c.as_slice-lanes.result.now (rans_of c.args.path) (spans (map seen c.args.jobs.now)) (map seen c.args.jobs.now)) inv.is (some_of _ _ _ (part_on _ _ _ _ _ _
    (shorts_held _ _ _ _ _ c.of-frame.result shorts c.loop-lane.lane _ within c.in_ok-append_short.ensures.items inv.holds) c.in_err-write_full-2.ensures.prefix)))

pub returns-in_err-append-clause-writes : goal.returns-in_err-append-clause-writes
returns-in_err-append-clause-writes g c =
    let inv = c.loop-lane.invariant in
    err_writes _ _ _ _ c.from_residual-in_err-append.ensures.0 (end_absent _ _ _ _ _ (end_some c.of-frame.result c.as_slice-lanes.result.now (rans_of c.args.path) (spans (map seen c.args.jobs.now)) (map seen c.args.jobs.now)) inv.is (_, inv.holds))

pub returns-in_err-append_curve-clause-writes : goal.returns-in_err-append_curve-clause-writes
returns-in_err-append_curve-clause-writes g c =
    let inv = c.loop-lane.invariant in
    err_writes _ _ _ _ c.from_residual-in_err-append_curve.ensures.0 (end_absent _ _ _ _ _ (end_some c.of-frame.result c.as_slice-lanes.result.now (rans_of c.args.path) (spans (map seen c.args.jobs.now)) (map seen c.args.jobs.now)) inv.is (_, inv.holds))

pub returns-in_err-append_outlined-clause-writes : goal.returns-in_err-append_outlined-clause-writes
returns-in_err-append_outlined-clause-writes g c =
    let inv = c.loop-lane.invariant in
    err_writes _ _ _ _ c.from_residual-in_err-append_outlined.ensures.0 (end_absent _ _ _ _ _ (end_some c.of-frame.result c.as_slice-lanes.result.now (rans_of c.args.path) (spans (map seen c.args.jobs.now)) (map seen c.args.jobs.now)) inv.is (_, inv.holds))

pub returns-in_err-append_longest-clause-writes : goal.returns-in_err-append_longest-clause-writes
returns-in_err-append_longest-clause-writes g c =
    let inv = c.loop-lane.invariant in
    err_writes _ _ _ _ c.from_residual-in_err-append_longest.ensures.0 (end_absent _ _ _ _ _ (end_some c.of-frame.result c.as_slice-lanes.result.now (rans_of c.args.path) (spans (map seen c.args.jobs.now)) (map seen c.args.jobs.now)) inv.is (_, inv.holds))

pub returns-clause-writes : goal.returns-clause-writes
returns-clause-writes g c =
    let inv = c.loop-lane.invariant in
    let f = c.of-frame.result in
    let shorts = c.as_slice-shorts.result.now in
    let held = c.loop-lane.held.items in
    let lane = c.loop-lane.lane in
    let all : length shorts ≤ lane = omega (arith, c.loop-lane-test.false) in
    let over = subst (λ (l : List ℕ). HoldsAllBut (g.W.Write.contents c.args.writer.now) (g.W.Write.contents c.loop-lane.writer) inv.text l)
    (ap (λ (l : List ℕ). held ++ l) (at_drop_all (short_bars f lane) shorts lane all) ∙ append-nil held) inv.holds in
    let js = map seen c.args.jobs.now in
    let cs = spans js in
    let ls = c.as_slice-lanes.result.now in
    let path = rans_of c.args.path in
    let moments = subst (λ (l : List Span). AreMoments l c.in_ok-moments.moments) (c.as_slice-2.ensures.value ∙ c.in_ok-spans.ensures.value) c.in_ok-moments.ensures.value in
    let curved = two_parts held _ _ (codes "</g>\n") (curve f cs) c.in_ok-append.ensures.items (c.in_ok-append_curve.ensures.items cs moments) in
    let lined = two_parts held _ _ _ (outlined f ls path) curved c.in_ok-append_outlined.ensures.items in
    let last = two_parts held _ _ _ (longest f js) lined c.in_ok-append_longest.ensures.items in
    rest_written _ _ _ _ _ c.write_out.result (rw c.as_slice-5.ensures.value (end_held _ _ _ _ _ _ _ inv.is last over))
    (out_writes _ _ _ c.write_out.result c.write_out.ensures.ok c.write_out.ensures.prefix)

pub returns-in_err-write_full-clause-faults : goal.returns-in_err-write_full-clause-faults
returns-in_err-write_full-clause-faults g c = search rules
