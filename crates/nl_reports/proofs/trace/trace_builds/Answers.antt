use Rattle.std.proofs.Common.{◌≡◌, ◌∙◌, ◌<◌, ◌≤◌, ◌++◌, ◌∷◌, [], ℕ, List, None, Some, ap, arith, flat_map, get_or, length, map, subst, sym}
use Rattle.std.proofs.lemmas.List.{get_or_default, length-map}
use Rattle.nl_reports.specs.Events.{build_event, event_text}
use Rattle.nl_reports.specs.Jobs.{seen, told}
use Rattle.nl_reports.specs.Lanes.{lanes}
use Rattle.nl_reports.specs.Moments.{AreMoments}
use Rattle.nl_reports.specs.Rows.{spans}
use Rattle.nl_reports.specs.Sweep.{running}
use Rattle.nl_reports.specs.Trace.{behind_commas, commands_text, events_of, scoped_text}
use Rattle.nl_reports.specs.declared.moments.Span.{Span}
use Rattle.nl_reports.proofs.LaneLemmas.{lane_below, lanes_length}
use Rattle.nl_reports.proofs.PairLemmas.{pairs_done}
use Rattle.nl_reports.proofs.TraceLemmas.{all_told, asked, end_some, none_is, three_more, told_next}
use Rattle.nl_tool_texts.specs.Writing.{HoldsAllBut, Writes}
use Rattle.nl_tool_texts.proofs.WritingLemmas.{all_held, err_writes, is_part, more_held, out_writes, part_on, rest_written, then_moved}
use Rattle.nl_reports.proofs.trace.trace_builds.Goals as goal

pub returns-in_default-clause-writes : goal.returns-in_default-clause-writes
returns-in_default-clause-writes g c =
    let js = map seen c.as_slice-jobs.result.now in
    subst (λ (l : List ℕ). Writes (g.W.Write.contents c.args.writer.now) (g.W.Write.contents c.write_out.new.writer) l c.write_out.result)
    (none_is ∙ asked c.args.scope (told c.args.from.now) _ js None (sym c.in_default.is ∙ c.build_in.ensures) (c.as_slice-3.ensures.value ∙ c.in_ok-spans.ensures.value)
    (ap (map seen) c.as_slice-jobs.ensures.value ∙ c.in_ok-jobs.ensures.value))
    (out_writes _ _ _ c.write_out.result c.write_out.ensures.ok c.write_out.ensures.prefix)

pub loop-i-init : goal.loop-i-init
loop-i-init g c =
    let js = map seen c.as_slice-jobs.result.now in
    let b = c.in-Some.build in
    let held = c.append_build.new.out.items in
    let old = g.W.Write.contents c.args.writer.now in
    let ls = c.as_slice-lanes.result.now in
    subst (λ (l : List ℕ). HoldsAllBut old old l (held ++ commands_text b js ls))
    (sym (all_told b js ls held
    (c.as_slice-lanes.ensures.value ∙ c.in_ok-lanes.ensures.value ∙ ap lanes (c.as_slice.ensures.value ∙ c.in_ok-spans.ensures.value))
    (c.in_ok-append_build.ensures.items ∙ ap (λ (l : List ℕ). l ++ event_text (build_event b)) c.in_ok-held.ensures.items))
    ∙ asked c.args.scope (told c.args.from.now) _ js (Some b) (sym c.in-Some.is ∙ c.build_in.ensures) (c.as_slice-3.ensures.value ∙ c.in_ok-spans.ensures.value)
    (ap (map seen) c.as_slice-jobs.ensures.value ∙ c.in_ok-jobs.ensures.value))
    (all_held _ _)

pub append_command-requires-clause-lane : goal.append_command-requires-clause-lane
append_command-requires-clause-lane g c =
    let ran = spans (map seen c.as_slice-jobs.result.now) in
    let count : length ran ≡ length c.as_slice-jobs.result.now =
    omega (arith, length-map (map seen c.as_slice-jobs.result.now) (λ j. j.span), length-map c.as_slice-jobs.result.now seen) in
    let within : c.loop-i.i < length ran = omega (arith, c.loop-i-test.true, count) in
    omega (arith, lane_below ran [] c.loop-i.i within, c.item_at-lane.ensures, ap (λ (l : List ℕ). get_or l c.loop-i.i 0) (c.as_slice-lanes.ensures.value ∙ c.in_ok-lanes.ensures.value ∙ ap lanes (c.as_slice.ensures.value ∙ c.in_ok-spans.ensures.value)), c.loop-i-test.true)

pub loop-i-preserved : goal.loop-i-preserved
loop-i-preserved g c =
    let ks = c.as_slice-jobs.result.now in
    let ran = spans (map seen ks) in
    let i = c.loop-i.i in
    let ls = c.as_slice-lanes.result.now in
    let b = c.in-Some.build in
    let moments = subst (λ (cs : List Span). AreMoments cs c.in_ok-moments.moments) (c.as_slice-2.ensures.value ∙ c.in_ok-spans.ensures.value) c.in_ok-moments.ensures.value in
    let count : length ran ≡ length ks = omega (arith, length-map (map seen ks) (λ j. j.span), length-map ks seen) in
    let within : i < length ks = omega (arith, c.loop-i-test.true) in
    let there : i < length ls = omega (arith, within, count, ap length (c.as_slice-lanes.ensures.value ∙ c.in_ok-lanes.ensures.value ∙ ap lanes (c.as_slice.ensures.value ∙ c.in_ok-spans.ensures.value)), lanes_length ran []) in
    let more : c.append_running-in-loop-i.new.out.items ≡ c.loop-i.held.items ++ behind_commas (events_of b ran (seen c.index-jobs-i.result, c.item_at-lane.result)) =
    three_more c.loop-i.held.items c.append_command.new.out.items c.append_running.new.out.items c.append_running-in-loop-i.new.out.items _ _ _
    c.in_ok-append_command.ensures.items (c.in_ok-append_running.ensures.items ran (c.running_near-begun.ensures.value ran moments))
    (rw c.closed-in-loop-i.ensures.value at (c.in_ok-append_running-2.ensures.items ran
    (c.running_near-ended.ensures.value ran moments ∙ ap (running ran) (c.closed.ensures.value ∙ sym c.closed-in-loop-i.ensures.value)))) in
    then_moved _ _ _ _ _ _ _ (more_held _ _ _ _ _ _ _ _ (93 ∷ []) (told_next b ran ks ls i c.item_at-lane.result c.index-jobs-i.result within there
    c.index-jobs-i.is (c.item_at-lane.ensures ∙ get_or_default ls i 0 c.item_at-lane.result there)) more c.loop-i.invariant) c.in_ok-write_full.ensures.moved

pub returns-in_err-append_command-clause-writes : goal.returns-in_err-append_command-clause-writes
returns-in_err-append_command-clause-writes g c =
    err_writes _ _ _ _ c.from_residual-in_err-append_command.ensures.0 (is_part _ _ _ _ (end_some c.loop-i.held.items _) c.loop-i.invariant)

pub returns-in_err-append_running-clause-writes : goal.returns-in_err-append_running-clause-writes
returns-in_err-append_running-clause-writes g c =
    err_writes _ _ _ _ c.from_residual-in_err-append_running.ensures.0 (is_part _ _ _ _ (end_some c.loop-i.held.items _) c.loop-i.invariant)

pub returns-in_err-append_running-2-clause-writes : goal.returns-in_err-append_running-2-clause-writes
returns-in_err-append_running-2-clause-writes g c =
    err_writes _ _ _ _ c.from_residual-in_err-append_running-2.ensures.0 (is_part _ _ _ _ (end_some c.loop-i.held.items _) c.loop-i.invariant)

pub returns-in_err-write_full-clause-writes : goal.returns-in_err-write_full-clause-writes
returns-in_err-write_full-clause-writes g c =
    let ks = c.as_slice-jobs.result.now in
    let ran = spans (map seen ks) in
    let i = c.loop-i.i in
    let ls = c.as_slice-lanes.result.now in
    let b = c.in-Some.build in
    let moments = subst (λ (cs : List Span). AreMoments cs c.in_ok-moments.moments) (c.as_slice-2.ensures.value ∙ c.in_ok-spans.ensures.value) c.in_ok-moments.ensures.value in
    let count : length ran ≡ length ks = omega (arith, length-map (map seen ks) (λ j. j.span), length-map ks seen) in
    let within : i < length ks = omega (arith, c.loop-i-test.true) in
    let there : i < length ls = omega (arith, within, count, ap length (c.as_slice-lanes.ensures.value ∙ c.in_ok-lanes.ensures.value ∙ ap lanes (c.as_slice.ensures.value ∙ c.in_ok-spans.ensures.value)), lanes_length ran []) in
    let more : c.append_running-in-loop-i.new.out.items ≡ c.loop-i.held.items ++ behind_commas (events_of b ran (seen c.index-jobs-i.result, c.item_at-lane.result)) =
    three_more c.loop-i.held.items c.append_command.new.out.items c.append_running.new.out.items c.append_running-in-loop-i.new.out.items _ _ _
    c.in_ok-append_command.ensures.items (c.in_ok-append_running.ensures.items ran (c.running_near-begun.ensures.value ran moments))
    (rw c.closed-in-loop-i.ensures.value at (c.in_ok-append_running-2.ensures.items ran
    (c.running_near-ended.ensures.value ran moments ∙ ap (running ran) (c.closed.ensures.value ∙ sym c.closed-in-loop-i.ensures.value)))) in
    err_writes _ _ _ _ c.from_residual-in_err-write_full.ensures.0 (part_on _ _ _ _ _ _ (more_held _ _ _ _ _ _ _ _ (93 ∷ []) (told_next b ran ks ls i
    c.item_at-lane.result c.index-jobs-i.result within there c.index-jobs-i.is (c.item_at-lane.ensures ∙ get_or_default ls i 0 c.item_at-lane.result there)) more c.loop-i.invariant)
    c.in_err-write_full.ensures.prefix)

pub returns-in_err-append-clause-writes : goal.returns-in_err-append-clause-writes
returns-in_err-append-clause-writes g c =
    err_writes _ _ _ _ c.from_residual-in_err-append.ensures.0 (is_part _ _ _ _ (end_some c.loop-i.held.items _) c.loop-i.invariant)

pub returns-clause-writes : goal.returns-clause-writes
returns-clause-writes g c =
    let ks = c.as_slice-jobs.result.now in
    let js = map seen ks in
    let ls = c.as_slice-lanes.result.now in
    let b = c.in-Some.build in
    let all : length ks ≤ c.loop-i.i = omega (arith, c.loop-i-test.false) in
    let over = ap behind_commas (pairs_done (flat_map (events_of b (spans js))) ks ls c.loop-i.i all) in
    rest_written _ _ _ _ _ c.write_out-2.result (rw (c.as_slice-4.ensures.value, c.in_ok-append.ensures.items) (subst (λ (l : List ℕ). HoldsAllBut (g.W.Write.contents c.args.writer.now)
    (g.W.Write.contents c.loop-i.writer) (scoped_text c.args.scope (told c.args.from.now)) (c.loop-i.held.items ++ (l ++ 93 ∷ []))) over
    c.loop-i.invariant))
    (out_writes _ _ _ c.write_out-2.result c.write_out-2.ensures.ok c.write_out-2.ensures.prefix)
