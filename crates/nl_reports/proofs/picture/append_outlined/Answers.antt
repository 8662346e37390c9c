use Rattle.std.proofs.Common.{◌≡◌, ◌∙◌, ◌-◌, ◌∷◌, [], ◌<◌, ◌≤◌, ◌++◌, ℕ, List, Option, Some, ap, append-nil, append_assoc, arith, codes, length, map, max, min, sym}
use Rattle.std.specs.Prelude.{decimal}
use Rattle.nl_reports.specs.Frame.{x_at, y_at}
use Rattle.nl_tool_texts.specs.Texts.{joined}
use Rattle.std.proofs.lemmas.List.{drop_all}
use Rattle.std.specs.Borrow.{Bor}
use Rattle.std.specs.List.{flat_map}
use Rattle.nl_reports.specs.Picture.{outline, outlined, outlined_style}
use Rattle.nl_reports.specs.Reaches.{ran_seen, rans_of}
use Rattle.nl_reports.specs.declared.critical.FoundPath.{FoundPath}
use Rattle.nl_reports.specs.declared.critical.Ran.{Ran}
use Rattle.nl_reports.proofs.DrawLemmas.{outlines_next}
use Rattle.nl_reports.proofs.picture.append_outlined.Goals as goal

max_swap : (n : ℕ) → max n 10 ≡ max 10 n
max_swap n = omega arith

pub loop-ran-init : goal.loop-ran-init
loop-ran-init c =
    let rest = flat_map (outline c.args.frame.now c.args.lanes.now) (map ran_seen c.as_slice-commands.result.now) in
    ap (λ (l : List ℕ). l ++ rest) c.in_ok-append.ensures.items ∙ append_assoc c.args.out.now.items outlined_style rest

pub loop-ran-preserved : goal.loop-ran-preserved
loop-ran-preserved c =
    let commands = c.as_slice-commands.result.now in
    let within : c.loop-ran.ran-index < length commands = omega (arith, c.loop-ran-test.true) in
    let f = c.args.frame.now in
    let x = c.x_at-x.ensures.value ∙ ap (x_at f) c.min.ensures in
    let until = c.x_at-end.ensures.value ∙ ap (x_at f) (c.min-in-loop-ran.ensures ∙ ap (λ (n : ℕ). min n 4294967295) c.closed.ensures.value) in
    let y = c.y_at.ensures.value ∙ ap (y_at f) c.item_at.ensures in
    let wide = c.max.ensures ∙ ap (λ (n : ℕ). max n 10) c.saturating_sub.ensures ∙ max_swap (c.x_at-end.result - c.x_at-x.result) ∙ (λ k. max 10 (until k - x k)) in
    outlines_next f c.args.lanes.now commands c.loop-ran.ran-index _ _ _ _ within (c.in_ok-put.ensures.items ∙ (λ k. c.loop-ran.out.items
    ++ joined (codes "<rect class=\"c\" x=\"" ∷ decimal (x k) ∷ codes "\" y=\"" ∷ decimal (y k) ∷ codes "\" width=\"" ∷ decimal (wide k)
    ∷ codes "\" height=\"" ∷ decimal (c.height.ensures.value k) ∷ codes "\"/>\n" ∷ []))) c.loop-ran.invariant

pub returns : goal.returns
returns c =
    let f = c.args.frame.now in
    let ls = c.args.lanes.now in
    let old = c.args.out.now.items in
    let now = c.loop-ran.out.items in
    let commands = c.as_slice-commands.result.now in
    let all : length commands ≤ c.loop-ran.ran-index = omega (arith, c.loop-ran-test.false) in
    record {
      items = sym (append-nil now)
          ∙ ap (λ (rest : List Ran). now ++ flat_map (outline f ls) (map ran_seen rest)) (sym (drop_all c.loop-ran.ran-index commands all)) ∙ c.loop-ran.invariant
          ∙ ap (λ (l : List Ran). old ++ outlined f ls (Some (map ran_seen l))) c.as_slice-commands.ensures.value
          ∙ ap (λ (p : Option (Bor FoundPath)). old ++ outlined f ls (rans_of p)) (sym c.in-Some.is);
    }
