use Rattle.std.proofs.Common.{◌∙◌, ◌≤◌, ◌++◌, ℕ, List, ap, arith, get_or, length, map, refl, subst, sym}
use Rattle.std.proofs.lemmas.List.{at_drop_all, get_or_default, length-map}
use Rattle.nl_tool_texts.specs.GraphText.{seen_graph}
use Rattle.nl_reports.specs.Jobs.{seen}
use Rattle.nl_reports.specs.Plans.{AreMore, estimate_line, floor_of}
use Rattle.nl_reports.specs.Reaches.{ran_seen}
use Rattle.nl_reports.proofs.PlanLemmas.{estimate_more}
use Rattle.nl_reports.proofs.jobs.estimate_lines.Goals as goal

pub loop-count-preserved : goal.loop-count-preserved
loop-count-preserved c = λ g is text rest.
    let jobs = c.args.jobs.now in
    let js = map seen jobs in
    let found = c.args.found.now.path in
    let counts = c.args.by.now.counts.now in
    let n = get_or counts c.loop-count.count-index 0 in
    c.loop-count.invariant g is text
    (estimate_more c.args.by.now.screen (seen_graph g) js counts c.loop-count.count-index n c.in_ok-wall.wall c.in-Some.wall c.max-floor.result found.length
    (map ran_seen found.commands.items) c.loop-count.lines.items c.append_keyed.new.lines.items text c.loop-count-test.true (get_or_default counts c.loop-count.count-index 0 n c.loop-count-test.true) c.in-Some.is
    (c.in_ok-wall.ensures.value g is) is.is_path (c.max-floor.ensures ∙ ap (λ (t : ℕ). floor_of found.length t n) is.total)
    (λ one. c.if-not-is_at_bounds.ensures.one refl one ∙ is.total)
    (λ fits. c.if-not-is_at_bounds.ensures.enough refl (omega (arith, fits, length-map jobs seen)))
    (c.in_ok-append_keyed.ensures.items ∙ ap (λ (w : ℕ). c.loop-count.lines.items ++ estimate_line c.args.by.now.screen n w c.max-floor.result) c.from.ensures) rest)

pub returns : goal.returns
returns c =
    let js = map seen c.args.jobs.now in
    let screen = c.args.by.now.screen in
    let counts = c.args.by.now.counts.now in
    let i = c.loop-count.count-index in
    let lines = c.loop-count.lines.items in
    let all : length counts ≤ i = omega (arith, c.loop-count-test.false) in
    record {
      value = λ g is. c.loop-count.invariant g is lines
          (subst (λ (l : List ℕ). AreMore screen (seen_graph g) js l lines lines) (sym (at_drop_all (λ (l : List ℕ). l) counts i all)) refl);
    }
