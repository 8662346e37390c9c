use Rattle.std.proofs.Common.{◌∙◌, ◌++◌, List, ℕ, ap, arith, sym}
use Rattle.std.proofs.lemmas.Result.{on_ok_weaker}
use Rattle.nl_tool_texts.specs.Escape.{cut_at}
use Rattle.nl_tool_texts.proofs.EscapeLemmas.{floor_cut, name_cut}
use Rattle.nl_tool_texts.proofs.TextLemmas.{two_parts}
use Rattle.nl_tool_texts.proofs.escape.append_cut_name.Goals as goal

pub returns : goal.returns
returns c =
    let floor = c.floor_char_boundary-at.ensures in
    let bytes = c.as_bytes-bytes.ensures.value in
    let at = floor_cut _ _ _ floor.bound floor.boundary floor.nearest ∙ (λ i. cut_at (c.saturating_sub.ensures i) ((c.deref.ensures ∙ sym bytes) i)) in
    let is = name_cut _ _ c.args.name.now _ (bytes ∙ c.in_ok-text.ensures.lossy) (omega (arith, c.if-bytes-most.false)) at in
    record {
      items = on_ok_weaker c.append.result (λ h. two_parts _ _ _ _ _ c.in_ok-append_escaped.ensures.items h ∙ ap (λ (l : List ℕ). c.args.out.now.items ++ l) is) c.append.ensures.items;
    }
