use Rattle.std.proofs.Common.{◌≡◌, ◌∙◌, ◌+◌, ◌<◌, ◌++◌, ◌∷◌, [], ℕ, List, ap, append-nil, append_assoc, arith, codes, inl, inr, length, refl, subst, sym}
use Rattle.std.specs.Prelude.{decimal}
use Rattle.std.proofs.lemmas.List.{get_or_default}
use Rattle.nl_reports.specs.BuildsTable.{AreRows, heading_for, no_build}
use Rattle.nl_reports.specs.Jobs.{told}
use Rattle.nl_tool_texts.specs.Texts.{joined, line, time_text}
use Rattle.nl_reports.proofs.BuildsTableLemmas.{row_is, rows_more}
use Rattle.nl_reports.proofs.builds_table.builds_screen.Goals.{in-Fixed, in-UTC}
use Rattle.nl_reports.proofs.builds_table.builds_screen.Goals as goal

abbrev heading : List ℕ → List ℕ
heading utc = joined (codes "Build\tBegan" ∷ utc ∷ codes "\tElapsed\tCommands\tOutputs\tKnown\n" ∷ [])

abbrev rest : ℕ → ℕ → ℕ → List ℕ → List ℕ
rest wall commands outputs word =
    joined (codes "\t" ∷ time_text wall ∷ codes "\t" ∷ decimal commands ∷ codes "\t" ∷ decimal outputs ∷ codes "\t" ∷ word ∷ codes "\n" ∷ [])

whole : (number wall commands outputs : ℕ) (old began word : List ℕ)
    → ((old ++ joined (decimal number ∷ codes "\t" ∷ [])) ++ began) ++ rest wall commands outputs word
    ≡ old ++ line (decimal number ∷ began ∷ time_text wall ∷ decimal commands ∷ decimal outputs ∷ word ∷ [])
whole number wall commands outputs old began word = simp (append_assoc, append-nil)

pub loop-place-init : goal.loop-place-init
loop-place-init c =
    let head = heading_for c.args.zone.now in
    let utc : heading c.match-zone.utc.now ≡ head = elim c.match-zone.branch [
      | in-Fixed w ↦ ap (λ u. heading u.now) w.utc-is ∙ elim w.in-Fixed.is [
        | inl f ↦ ap heading_for (sym f.1)
        | inr g ↦ elim g [
          | inl p ↦ ap heading_for (sym p.1)
          | inr z ↦ ap heading_for (sym z.1)
        ]
      ]
      | in-UTC w ↦ ap (λ u. heading u.now) w.utc-is ∙ elim w.in-UTC.is [
        | inl u ↦ ap heading_for (sym u)
        | inr u ↦ ap heading_for (sym u)
      ]
    ] in
    let first : c.put.new.out.items ≡ head = c.in_ok-put.ensures.items ∙ ap (λ (l : List ℕ). l ++ heading c.match-zone.utc.now) c.new-lines.ensures.items ∙ utc in
    record { rows = []; are = refl; is = first ∙ sym (append-nil head) }

pub loop-place-preserved : goal.loop-place-preserved
loop-place-preserved c =
    let inv = c.loop-place.invariant in
    let place = c.loop-place.place in
    let t = told c.args.from.now in
    let old = c.loop-place.lines.items in
    let n = c.numbers_of-numbers.result in
    let build = c.index.result.now in
    let begun = c.in_ok-append_began.ensures.items in
    let within : place < length c.args.from.now.builds.items = omega (arith, c.loop-place-test.true, c.loop-place.auto.place-end, c.len-place-end.ensures, c.args.from.now.builds.ok.0) in
    let r = row_is c.args.zone.now t place build begun.0 n old c.put-in-loop-place-2.new.out.items
    (c.index.ensures ∙ get_or_default c.args.from.now.builds.items place _ no_build within)
    begun.1
    c.numbers_of-numbers.ensures.value
    (c.in_ok-put-3.ensures.items ∙ (λ i. (begun.2 ∙ ap (λ (l : List ℕ). l ++ begun.0) c.in_ok-put-2.ensures.items) i
    ++ rest n.wall n.commands n.outputs (c.border_word.ensures i))
    ∙ whole (place + 1) n.wall n.commands n.outputs old _ _) in
    record {
      rows = inv.rows ++ r.0;
      are = rows_more c.args.zone.now t place inv.rows r.0 (inv.rows ++ r.0) inv.are r.1.0 refl;
      is = r.1.1 ∙ ap (λ (l : List ℕ). l ++ r.0) inv.is ∙ append_assoc (heading_for c.args.zone.now) inv.rows r.0;
    }

pub returns : goal.returns
returns c =
    let inv = c.loop-place.invariant in
    record {
      value = (
        inv.rows,
        subst (λ n. AreRows c.args.zone.now (told c.args.from.now) n inv.rows)
            (omega (arith, c.loop-place-test.false, c.loop-place.auto.place-end, c.len-place-end.ensures)) inv.are,
        inv.is,
      );
    }
