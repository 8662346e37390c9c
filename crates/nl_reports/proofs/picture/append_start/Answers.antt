use Rattle.std.proofs.Common.{◌≡◌, ◌∙◌, ◌+◌, ◌*◌, ◌/◌, ◌%◌, ◌++◌, ◌∷◌, [], ℕ, List, ap, append-nil, append_assoc, arith, codes, inl, inr, length, map, max, min, refl}
use Rattle.std.specs.Borrow.{Bor}
use Rattle.std.specs.Prelude.{decimal}
use Rattle.std.proofs.lemmas.Bool.Decides.{eqb_tells}
use Rattle.std.proofs.lemmas.List.{length-map}
use Rattle.std.proofs.lemmas.Result.{on_ok_weaker}
use Rattle.nl_reports.specs.Frame.{line_at}
use Rattle.nl_reports.specs.Jobs.{seen, told}
use Rattle.nl_reports.specs.Picture.{known_in, legend, legend_kind, name, plural, root, start_with, style}
use Rattle.nl_reports.specs.Ticks.{ticks}
use Rattle.nl_reports.specs.Times.{total as total_of}
use Rattle.nl_tool_texts.specs.Texts.{joined, time_text}
use Rattle.nl_tool_texts.specs.declared.kind.Work.TheVariants.{Compile, Link, Archive, Generate, Test, Other}
use Rattle.nl_tool_texts.proofs.TextLemmas.{two_parts}
use Rattle.nl_reports.proofs.picture.append_start.Goals as goal
use Rattle.nl_reports.proofs.picture.append_start.Goals.{then-commands-eq1, else-commands-eq1}

opened : (a b c d e n s z : List ℕ) → joined (a ∷ b ∷ c ∷ d ∷ e ∷ n ∷ s ∷ n ∷ z ∷ []) ≡ joined (a ∷ b ∷ c ∷ d ∷ e ∷ []) ++ n ++ s ++ n ++ z
opened a b c d e n s z = simp (append_assoc, append-nil)

no_s : (n : ℕ) → n ≡ 1 → [] ≡ plural n
no_s n is = elim (eqb_tells n 1) [ inl h ↦ rw h.0 refl | inr h ↦ absurd (h.1 is) ]

with_s : (n : ℕ) → (n ≡ 1 → ⊥) → codes "s" ≡ plural n
with_s n is = elim (eqb_tells n 1) [ inl h ↦ absurd (is h.1) | inr h ↦ rw h.0 refl ]

pub returns : goal.returns
returns c =
    let old = c.args.out.now.items in
    let f = c.args.frame.now in
    let t = c.of-times.result in
    let n = length c.args.jobs.now in
    let total = c.total-total.ensures.value in
    let count : n ≡ length (map seen c.args.jobs.now) = omega (arith, length-map c.args.jobs.now seen) in
    let text = name f t n in
    let height = c.line_at-height.ensures.value ∙ ap (λ (k : ℕ). line_at f (k + 1)) c.min.ensures in
    let s : c.if-commands-eq1.s.now ≡ plural n = elim c.if-commands-eq1.branch [
      | then-commands-eq1 w ↦ ap (λ (b : Bor (List ℕ)). b.now) w.s-is ∙ no_s n w.if-commands-eq1.true
      | else-commands-eq1 w ↦ ap (λ (b : Bor (List ℕ)). b.now) w.s-is ∙ with_s n w.if-commands-eq1.false
    ] in
    let wide : c.from.result ≡ max 1 f.wall = omega (arith, c.from.ensures, c.max.ensures) in
    let tenths : c.total-total.result * 10 / c.from.result ≡ total_of t * 10 / max 1 f.wall = λ i. total i * 10 / wide i in
    let titled : c.as_slice.result.now ≡ text = c.as_slice.ensures.value ∙ c.in_ok-put.ensures.items
    ∙ (λ i. c.new-name.ensures.items i ++ joined (decimal n ∷ codes " command" ∷ s i ∷ codes " in " ∷ time_text f.wall ∷ codes ", " ∷ decimal (tenths i / 10) ∷ codes "." ∷ decimal (tenths i % 10) ∷ codes " at a time" ∷ [])) in
    let closed = c.in_ok-put-2.ensures.items ∙ (λ i. old ++ joined (codes "<svg xmlns=\"http://www.w3.org/2000/svg\" width=\"1600\" height=\"" ∷ decimal (height i / 10)
    ∷ codes "\" viewBox=\"0 0 16000 " ∷ decimal (height i) ∷ root ∷ titled i ∷ style ∷ titled i ∷ codes "</text>\n" ∷ []))
    ∙ ap (λ (l : List ℕ). old ++ l) (opened (codes "<svg xmlns=\"http://www.w3.org/2000/svg\" width=\"1600\" height=\"") (decimal (line_at f (min n 10 + 1) / 10)) (codes "\" viewBox=\"0 0 16000 ")
    (decimal (line_at f (min n 10 + 1))) root text style (codes "</text>\n")) in
    let known = known_in c.args.scope (told c.args.from.now) in
    let headed = two_parts old _ _ _ known closed c.in_ok-append_known.ensures.items in
    let before = c.append_known.new.out.items in
    let second = two_parts before _ _ (legend_kind t Compile) (legend_kind t Link) (rw total at c.in_ok-append_kind.ensures.items) (rw total at c.in_ok-append_kind-2.ensures.items) in
    let third = two_parts before _ _ _ (legend_kind t Archive) second (rw total at c.in_ok-append_kind-3.ensures.items) in
    let fourth = two_parts before _ _ _ (legend_kind t Generate) third (rw total at c.in_ok-append_kind-4.ensures.items) in
    let fifth = two_parts before _ _ _ (legend_kind t Test) fourth (rw total at c.in_ok-append_kind-5.ensures.items) in
    let last = two_parts before _ _ _ (legend_kind t Other) fifth (rw total at c.in_ok-append_kind-6.ensures.items) in
    let all = two_parts old _ _ _ (legend t) headed last in
    let ticked = two_parts old _ _ _ (ticks f) all c.in_ok-append_ticks.ensures.items in
    record {
      items = on_ok_weaker c.append.result (λ h. two_parts old _ _ _ (codes "<g class=\"t\" font-size=\"110\">\n") ticked h
          ∙ (λ i. old ++ start_with f known (c.of-times.ensures.value i) (count i))) c.append.ensures.items;
    }
