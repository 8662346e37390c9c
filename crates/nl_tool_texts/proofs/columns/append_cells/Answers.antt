use Rattle.std.proofs.Common.{◌≡◌, ◌∙◌, ◌-◌, ◌++◌, List, ℕ, ap, append_assoc, arith, get_or, inl, inr, sym}
use Rattle.std.proofs.lemmas.Result.{on_ok_weaker}
use Rattle.nl_tool_texts.specs.Columns.{cell, cells_up_to, field_at, last_cell, spaces, width}
use Rattle.nl_tool_texts.proofs.CellLemmas.{cells-done, cells-more, last_cut, last_whole, room-more}
use Rattle.nl_tool_texts.proofs.TextLemmas.{three_parts, two_parts}
use Rattle.nl_tool_texts.proofs.columns.append_cells.Goals as goal
use Rattle.nl_tool_texts.proofs.columns.append_cells.Goals.{then-last-eq0-via-then-last-eq0, then-last-eq0-via-else-last-eq0+then-width-room}

pub loop-place-preserved : goal.loop-place-preserved
loop-place-preserved c =
    let k = c.loop-place.place in
    let ws = c.args.widths.now in
    let line = c.args.line.now in
    let out = c.args.out.now.items in
    let wide : c.spaces.counter ≡ get_or ws k 0 - width c.field_at-field.result.now =
    omega (arith, c.spaces-test.false, c.spaces.auto.counter-end, c.saturating_sub-end.ensures, c.width.ensures.value) in
    let before : c.spaces.out.items ≡ c.loop-place.out.items ++ spaces (get_or ws k 0 - width c.field_at-field.result.now) =
    c.spaces.invariant ∙ ap (λ (n : ℕ). c.loop-place.out.items ++ spaces n) wide in
    record {
      items = three_parts _ _ _ _ _ _ _ before c.in_ok-append.ensures.items c.in_ok-append-2.ensures.items
          ∙ (λ i. c.loop-place.invariant.items i ++ cell (get_or ws k 0) (c.field_at-field.ensures.value i))
          ∙ append_assoc out (cells_up_to k ws line) (cell (get_or ws k 0) (field_at line k)) ∙ ap (λ (l : List ℕ). out ++ l) (sym (cells-more k ws line));
      room = c.saturating_sub-room.ensures ∙ ap (λ (n : ℕ). n - 2) c.saturating_sub.ensures
          ∙ ap (λ (n : ℕ). n - get_or ws k 0 - 2) c.loop-place.invariant.room ∙ sym (room-more k c.args.most ws);
    }

pub returns-then-last-eq0 : goal.returns-then-last-eq0
returns-then-last-eq0 c =
    let there : c.loop-place.place ≡ c.saturating_sub-last.result = omega (arith, c.loop-place-test.false, c.loop-place.auto.place-end) in
    let field = c.field_at-field-2.result.now in
    let whole : field ≡ last_cell c.saturating_sub-last.result c.loop-place.room field =
    elim c.then-last-eq0.branch [
      | then-last-eq0-via-then-last-eq0 w ↦ last_whole _ _ field (inl w.if-last-eq0.true)
      | then-last-eq0-via-else-last-eq0+then-width-room w ↦ last_whole _ _ field (inr (omega (arith, w.if-width-room.true, w.width-else-last-eq0.ensures.value)))
    ] in
    record {
      items = on_ok_weaker c.append-then-last-eq0.result (λ h. cells-done _ _ _ _ _ _ _ _ _ _ there c.saturating_sub-last.ensures c.loop-place.invariant.items
          c.loop-place.invariant.room c.field_at-field-2.ensures.value (h ∙ ap (λ (l : List ℕ). c.loop-place.out.items ++ l) whole)) c.append-then-last-eq0.ensures.items;
    }

pub returns : goal.returns
returns c =
    let there : c.loop-place.place ≡ c.saturating_sub-last.result = omega (arith, c.loop-place-test.false, c.loop-place.auto.place-end) in
    let field = c.field_at-field-2.result.now in
    let cut = last_cut c.saturating_sub-last.result c.loop-place.room _ field c.if-last-eq0.false
    (omega (arith, c.if-width-room.false, c.width-else-last-eq0.ensures.value)) c.saturating_sub-2.ensures in
    record {
      items = on_ok_weaker c.append-3.result (λ h. cells-done _ _ _ _ _ _ _ _ _ _ there c.saturating_sub-last.ensures c.loop-place.invariant.items
          c.loop-place.invariant.room c.field_at-field-2.ensures.value
          (two_parts _ _ _ _ _ c.in_ok-append-3.ensures.items (h ∙ ap (λ (l : List ℕ). c.append-2.new.out.items ++ l) c.end_of.ensures.value)
          ∙ ap (λ (l : List ℕ). c.loop-place.out.items ++ l) cut)) c.append-3.ensures.items;
    }
