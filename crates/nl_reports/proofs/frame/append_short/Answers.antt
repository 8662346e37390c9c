use Rattle.std.proofs.Common.{◌≡◌, ◌∙◌, ◌==◌, ◌++◌, ◌*◌, ◌∷◌, [], ℕ, List, ap, append-nil, append_assoc, codes, false, inl, inr}
use Rattle.std.specs.Prelude.{decimal}
use Rattle.std.proofs.lemmas.Bool.Decides.{eqb_tells}
use Rattle.std.proofs.lemmas.Result.{on_ok_weaker}
use Rattle.nl_tool_texts.specs.Texts.{joined}
use Rattle.nl_reports.proofs.frame.append_short.Goals as goal

abbrev told : ℕ → ℕ → ℕ → ℕ → ℕ → List ℕ
told kind x y height count = joined (codes "<rect class=\"k" ∷ decimal kind ∷ codes "\" x=\"" ∷ decimal x ∷ codes "\" y=\"" ∷ decimal y
    ∷ codes "\" width=\"" ∷ decimal 10 ∷ codes "\" height=\"" ∷ decimal height ∷ codes "\"><title>" ∷ decimal count ∷ codes " short</title></rect>\n" ∷ [])

abbrev split : ℕ → ℕ → ℕ → ℕ → ℕ → List ℕ
split kind x y height count = joined (codes "<rect class=\"k" ∷ decimal kind ∷ codes "\" x=\"" ∷ decimal x ∷ codes "\" y=\"" ∷ decimal y
    ∷ codes "\" width=\"" ∷ decimal 10 ∷ codes "\" height=\"" ∷ decimal height ∷ codes "\"><title>" ∷ []) ++ decimal count ++ codes " short</title></rect>\n"

same : (kind x y height count : ℕ) → told kind x y height count ≡ split kind x y height count
same kind x y height count = simp (append_assoc, append-nil)

pub returns : goal.returns
returns c =
    let old = c.args.out.now.items in
    let s = c.args.short in
    let some : (s.count == 0) ≡ false = elim (eqb_tells s.count 0) [ inl h ↦ absurd (c.if-short-eq0.false h.1) | inr h ↦ h.0 ] in
    record {
      items = on_ok_weaker c.put.result (λ h. rw some (h
          ∙ (λ i. old ++ told s.kind (c.from.ensures i * 10) (c.y_at.ensures.value i) (c.height.ensures.value i) s.count)
          ∙ ap (λ (l : List ℕ). old ++ l) (same s.kind (s.pixel * 10) _ _ s.count))) c.put.ensures.items;
    }
