use Rattle.std.proofs.Common.{◌<◌, ◌≤◌, ◌∙◌, ◌+◌, ◌++◌, List, ℕ, ap, arith, codes, length, map}
use Rattle.std.proofs.lemmas.Result.{on_ok_weaker}
use Rattle.nl_tool_texts.specs.Escape.{label}
use Rattle.nl_reports.specs.Frame.{line_at}
use Rattle.nl_reports.specs.Jobs.{first_name, seen}
use Rattle.nl_reports.specs.Picture.{long_head_text, long_lines, long_start}
use Rattle.nl_reports.specs.Spans.{time_of}
use Rattle.nl_tool_texts.proofs.TextLemmas.{three_parts}
use Rattle.nl_reports.proofs.DrawLemmas.{line_told, lines_told}
use Rattle.nl_reports.proofs.picture.append_longest.Goals as goal

pub loop-i-init : goal.loop-i-init
loop-i-init c =
    ap (λ (l : List ℕ). l ++ long_lines c.args.frame.now 1 (map seen c.in_ok-kept.kept.items))
    (c.in_ok-put.ensures.items ∙ (λ i. c.args.out.now.items ++ long_head_text (c.line_at.ensures.value i)))

pub loop-i-preserved : goal.loop-i-preserved
loop-i-preserved c =
    let kept = c.in_ok-kept.kept.items in
    let within : c.loop-i.i < length kept = omega (arith, c.loop-i-test.true, c.len-i-end.ensures) in
    let f = c.args.frame.now in
    let old = c.loop-i.out.items in
    let j = c.index-job.result.now in
    let told = three_parts old c.put-in-loop-i.new.out.items c.append_label.new.out.items c.append.new.out.items
    (long_start (line_at f (c.loop-i.i + 1)) (time_of j.span)) (label (first_name j.outputs.now)) (codes "</text>\n")
    (c.in_ok-put-2.ensures.items ∙ (λ i. old ++ long_start (c.line_at-y.ensures.value i) (c.time.ensures.value i)))
    (c.in_ok-append_label.ensures.items ∙ ap (λ (n : List ℕ). c.put-in-loop-i.new.out.items ++ label n) c.name.ensures) c.in_ok-append.ensures.items in
    line_told f kept c.loop-i.i j _ old c.append.new.out.items within c.index-job.ensures told c.loop-i.invariant

pub returns : goal.returns
returns c =
    let kept = c.in_ok-kept.kept.items in
    let all : length kept ≤ c.loop-i.i = omega (arith, c.loop-i-test.false, c.loop-i.auto.i-end, c.len-i-end.ensures) in
    record {
      items = on_ok_weaker c.append-2.result (λ h. lines_told c.args.frame.now c.args.jobs.now kept c.loop-i.i c.args.out.now.items c.loop-i.out.items
          c.append-2.new.out.items all c.in_ok-kept.ensures.value c.loop-i.invariant h) c.append-2.ensures.items;
    }
