-- Commands of which one takes half its time, and the lines of gains.
use Rattle.std.proofs.Common.{◌≡◌, ◌∙◌, ◌<◌, ℕ, Bool, zero, suc, ◌+◌, drop, List, [], ◌∷◌, ap, arith, get_or, inl, inr, length, map, refl, set, subst, sym, take}
use Rattle.std.proofs.lemmas.Bool.Decides.{eqb_tells}
use Rattle.std.proofs.lemmas.List.{at_drop_more}
use Rattle.nl_reports.specs.Critical.{IsFoundPath, Ran, weight}
use Rattle.nl_reports.specs.Found.{made}
use Rattle.nl_reports.specs.Gains.{AreGains, AreGainsOf, IsGain, IsHalfPath, half_span, halved, halved_from, heading, longest_rans, span_if}
use Rattle.nl_reports.specs.Jobs.{Job}
use Rattle.nl_tool_texts.specs.Graphs.{Graph}
use Rattle.nl_reports.specs.Paths.{length_of}
use Rattle.nl_reports.specs.Reaches.{ran_seen}
use Rattle.nl_reports.specs.Rows.{spans}
use Rattle.nl_tool_texts.specs.Falling.{falling}
use Rattle.nl_reports.specs.Spans.{time_of}
use Rattle.nl_reports.specs.declared.critical.Ran.{Ran as HeldRan}
use Rattle.nl_reports.specs.declared.moments.Span.{Span}
use Rattle.nl_tool_texts.proofs.FallingLemmas.{map-falling}
use Rattle.nl_tool_texts.proofs.ListedLemmas.{map-take}

-- it keeps its outputs
pub made_half : (from place : ℕ) (js : List Job) → map made (halved_from from place js) ≡ map made js
made_half from place [] = refl
made_half from place (j ∷ js) = ap (λ l. made j ∷ l) (made_half (from + 1) place js)

-- and its span is half as long
spans_off : (js : List Job) (from place : ℕ) → place < from → spans (halved_from from place js) ≡ spans js
spans_off [] from place off = refl
spans_off (j ∷ js) from place off = elim (eqb_tells from place) [
  | inl h ↦ absurd (omega (arith, off, h.1))
  | inr h ↦ λ i. span_if (h.0 i) j.span ∷ spans_off js (from + 1) place (omega (arith, off)) i
]

pub spans_half : (js : List Job) (from place k : ℕ) (d : Span) → place ≡ from + k
    → set (spans js) k (half_span (get_or (spans js) k d)) ≡ spans (halved_from from place js)
spans_half [] from place k d is = refl
spans_half (j ∷ js) from place zero d is = elim (eqb_tells from place) [
  | inl h ↦ λ i. span_if (sym h.0 i) j.span ∷ sym (spans_off js (from + 1) place (omega (arith, is))) i
  | inr h ↦ absurd (h.1 (omega (arith, is)))
]
spans_half (j ∷ js) from place (suc k) d is = elim (eqb_tells from place) [
  | inl h ↦ absurd (omega (arith, is, h.1))
  | inr h ↦ λ i. span_if (sym h.0 i) j.span ∷ spans_half js (from + 1) place k d (omega (arith, is)) i
]

pub half_path : (g : Graph) (js : List Job) (r : Ran) (n : ℕ) (rans : List Ran) → IsFoundPath g (halved r.place js) n rans → IsHalfPath g js r n
half_path g js r n rans found = record { path = found.path; longest = found.longest; length_is = found.length_is }

-- the commands that took the longest
pub longest_held : (most : ℕ) (held xs : List HeldRan) → held ≡ take most (falling (λ (r : HeldRan). time_of r.span) xs)
    → map ran_seen held ≡ longest_rans most (map ran_seen xs)
longest_held most held xs is =
    ap (map ran_seen) is ∙ map-take ran_seen most (falling (λ (r : HeldRan). time_of r.span) xs)
    ∙ ap (take most) (map-falling ran_seen (λ (r : Ran). time_of r.span) xs)

-- the gains of a path that was found
pub gains_of : (screen : Bool) (g : Graph) (js : List Job) (most n : ℕ) (rans held : List Ran) (text : List ℕ) → IsFoundPath g js n rans → held ≡ longest_rans most rans
    → AreGains screen g js n held (heading screen most) text → AreGainsOf screen g js most text
gains_of screen g js most n rans held text found is are =
    let w = weight g.nodes js in
    let by_length = subst (λ k. AreGains screen g js k held (heading screen most) text) found.length_is are in
    record {
      path = found.path;
      longest = found.longest;
      are = subst (λ (rs : List Ran). AreGains screen g js (length_of w found.path) rs (heading screen most) text) (is ∙ ap (longest_rans most) found.rans_are) by_length;
    }

-- one more line
pub gain_more : (screen : Bool) (g : Graph) (js : List Job) (long : ℕ) (xs : List HeldRan) (i : ℕ) (x : HeldRan) (before line text : List ℕ)
    → i < length xs → x ≡ get_or xs i x → IsGain screen g js long (ran_seen x) before line
    → AreGains screen g js long (map ran_seen (drop (i + 1) xs)) line text → AreGains screen g js long (map ran_seen (drop i xs)) before text
gain_more screen g js long xs i x before line text inside at is rest =
    let later = map ran_seen (drop (i + 1) xs) in
    let split : map ran_seen (drop i xs) ≡ ran_seen x ∷ later =
    at_drop_more (map ran_seen) xs i x inside ∙ ap (λ (y : HeldRan). ran_seen y ∷ later) (sym at) in
    subst (λ (l : List Ran). AreGains screen g js long l before text) (sym split) (line, is, rest)
