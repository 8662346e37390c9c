use Rattle.std.proofs.Common.{◌≡◌, ◌∙◌, ◌/◌, ◌++◌, ◌∷◌, [], List, None, Option, Some, ℕ, append-nil, append_assoc, ap, arith, codes, length, map, max, option_map, refl, rules, sym, true}
use Rattle.std.proofs.lemmas.Bool.{cond-false, cond-true}
use Rattle.std.proofs.lemmas.Result.{on_ok_weaker}
use Rattle.std.specs.Prelude.{Bool, decimal, slice_get}
use Rattle.std.proofs.lemmas.List.{length-map}
use Rattle.nl_tool_texts.specs.Fraction.{ratio}
use Rattle.nl_tool_texts.specs.Texts.{line}
use Rattle.nl_reports.specs.Rows.{Told, rank_told, told_row}
use Rattle.nl_reports.specs.Summary.{bound, facts, facts_of, first_of, slowest_line, slowest_time, told_lines, total_of}
use Rattle.nl_reports.specs.declared.rows.Rank.TheVariants.{Time}
use Rattle.nl_tool_texts.specs.Falling.{falling}
use Rattle.nl_reports.proofs.SummaryLemmas.{first_told, highest_are}
use Rattle.nl_reports.proofs.summary.Totals.append.Goals as goal

-- the slowest heads the list at a terminal
none_shown : (screen : Bool) (slowest : Option Told) → screen ≡ true → slowest_line screen slowest ≡ []
none_shown screen None is = refl
none_shown screen (Some t) is = cond-true screen [] (line (codes "slowest" ∷ decimal t.sums.time ∷ t.name ∷ [])) is

pub returns-then-screen : goal.returns-then-screen
returns-then-screen c =
    let t = c.args.self.now in
    let rows = c.args.rows.now in
    let us = map told_row rows in
    let old = c.args.lines.now.items in
    let slowest = first_of (falling (rank_told Time) us) in
    let total = c.requires.total in
    let count : length rows ≡ length us = sym (length-map rows told_row) in
    let parallel = c.as_bytes.ensures.value ∙ c.in_ok-parallel.ensures.value ∙ ap (λ (n : ℕ). ratio n t.wall) total in
    let most : c.max.result ≡ max 1 t.most = omega (arith, c.max.ensures, c.from-most.ensures) in
    let kept = c.as_slice.ensures.value ∙ c.in_ok-slowest.ensures.value in
    let first : option_map told_row (slice_get c.as_slice.result.now 0) ≡ slowest =
    first_told 1 c.as_slice.result.now _ (omega arith) (highest_are (rank_told Time) 1 rows c.as_slice.result.now kept) in
    let time : c.map_or.result ≡ slowest_time (option_map told_row (slice_get c.as_slice.result.now 0)) = search rules in
    let best : c.max-best.result ≡ bound t.most (total_of us) (slowest_time slowest) =
    c.max-best.ensures ∙ (λ i. max (total i / most i) ((time ∙ ap slowest_time first) i)) in
    let shown = facts_of t us in
    let other = told_lines (length us) t.outputs t.wall (total_of us) t.busy t.alone (ratio (total_of us) t.wall) in
    record {
      items = on_ok_weaker c.put.result (λ h. h
          ∙ (λ i. old ++ facts (record t { most = c.from-most.ensures i }) (count i) (total i) (best i) (c.saturating_sub-none.ensures i) (parallel i))
          ∙ ap (λ (l : List ℕ). old ++ l) (sym ((λ i. cond-true c.args.screen shown other c.if-screen.true i ++ none_shown c.args.screen slowest c.if-screen.true i) ∙ append-nil shown))) c.put.ensures.items;
    }

pub returns-in-Some : goal.returns-in-Some
returns-in-Some c =
    let t = c.args.self.now in
    let rows = c.args.rows.now in
    let us = map told_row rows in
    let old = c.args.lines.now.items in
    let screen = c.args.screen in
    let total = c.requires.total in
    let count : length rows ≡ length us = sym (length-map rows told_row) in
    let parallel = c.as_bytes.ensures.value ∙ c.in_ok-parallel.ensures.value ∙ ap (λ (n : ℕ). ratio n t.wall) total in
    let kept = c.as_slice.ensures.value ∙ c.in_ok-slowest.ensures.value in
    let first : Some (told_row c.in-Some.it.now) ≡ first_of (falling (rank_told Time) us) =
    ap (option_map told_row) c.in-Some.ensures.value
    ∙ first_told 1 c.as_slice.result.now _ (omega arith) (highest_are (rank_told Time) 1 rows c.as_slice.result.now kept) in
    let shown = told_lines (length us) t.outputs t.wall (total_of us) t.busy t.alone (ratio (total_of us) t.wall) in
    let slow = line (codes "slowest" ∷ decimal c.in-Some.it.now.time ∷ c.in-Some.it.now.name.now ∷ []) in
    record {
      items = on_ok_weaker c.put-in-Some.result (λ h. h
          ∙ (λ i. (c.in_ok-put.ensures.items ∙ (λ k. old ++ told_lines (count k) t.outputs t.wall (total k) t.busy t.alone (parallel k))) i ++ slow)
          ∙ append_assoc old shown slow
          ∙ sym (λ i. old ++ (cond-false screen (facts_of t us) shown c.if-screen.false i ++ (ap (slowest_line screen) (sym first) ∙ cond-false screen [] slow c.if-screen.false) i))) c.put-in-Some.ensures.items;
    }

pub returns : goal.returns
returns c =
    let t = c.args.self.now in
    let rows = c.args.rows.now in
    let us = map told_row rows in
    let old = c.args.lines.now.items in
    let screen = c.args.screen in
    let total = c.requires.total in
    let count : length rows ≡ length us = sym (length-map rows told_row) in
    let parallel = c.as_bytes.ensures.value ∙ c.in_ok-parallel.ensures.value ∙ ap (λ (n : ℕ). ratio n t.wall) total in
    let kept = c.as_slice.ensures.value ∙ c.in_ok-slowest.ensures.value in
    let first : None ≡ first_of (falling (rank_told Time) us) =
    ap (option_map told_row) c.in-None.ensures.value
    ∙ first_told 1 c.as_slice.result.now _ (omega arith) (highest_are (rank_told Time) 1 rows c.as_slice.result.now kept) in
    let shown = told_lines (length us) t.outputs t.wall (total_of us) t.busy t.alone (ratio (total_of us) t.wall) in
    record {
      items = c.in_ok-put.ensures.items ∙ (λ k. old ++ told_lines (count k) t.outputs t.wall (total k) t.busy t.alone (parallel k))
          ∙ sym (ap (λ (l : List ℕ). old ++ l) ((λ i. cond-false screen (facts_of t us) shown c.if-screen.false i ++ ap (slowest_line screen) (sym first) i) ∙ append-nil shown));
    }
