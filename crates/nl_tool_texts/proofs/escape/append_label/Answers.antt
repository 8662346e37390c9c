use Rattle.std.proofs.Common.{◌≡◌, ◌∙◌, ◌<◌, ◌++◌, ℕ, List, ap, arith, codes, length, refl, take}
use Rattle.std.specs.Str.Lossy.{utf8_lossy}
use Rattle.std.proofs.lemmas.Result.{on_ok_weaker}
use Rattle.nl_tool_texts.proofs.BareLemmas.{bare_shown}
use Rattle.nl_tool_texts.proofs.TextLemmas.{begins, label_cut, label_whole, two_parts}
use Rattle.nl_tool_texts.specs.Escape.{escaped, shown}
use Rattle.nl_tool_texts.proofs.escape.append_label.Goals as goal

pub returns-then-is_bare : goal.returns-then-is_bare
returns-then-is_bare c =
    let name = c.args.name.now in
    let whole = label_whole name name (bare_shown name (c.if-is_bare.ensures.bare refl)) (omega (arith, c.if-name-le-WHOLE.true)) in
    record { items = on_ok_weaker c.append.result (λ h. h ∙ ap (λ (l : List ℕ). c.args.out.now.items ++ l) whole) c.append.ensures.items }

pub returns : goal.returns
returns c =
    let old = c.args.out.now.items in
    let name = c.args.name.now in
    let start : escaped c.as_bytes-2.result.now ≡ shown (take 20 name) =
    ap escaped (c.as_bytes-2.ensures.value ∙ c.in_ok-start.ensures.lossy ∙ ap utf8_lossy (begins name c.min.result (omega (arith, c.min.ensures)))) in
    let whole : c.append_escaped.new.out.items ≡ shown name =
    c.in_ok-append_escaped.ensures.items ∙ (λ i. c.new-whole.ensures.items i ++ escaped ((c.as_bytes.ensures.value ∙ c.in_ok-from_utf8_lossy.ensures.lossy) i)) in
    let long : 100 < length c.append_escaped.new.out.items = omega (arith, c.if-len-le-WHOLE.false, c.len.ensures) in
    record {
      items = on_ok_weaker c.append-2.result (λ h. two_parts old c.append_escaped-2.new.out.items c.append-2.new.out.items (shown (take 20 name)) (codes "..")
          (c.in_ok-append_escaped-2.ensures.items ∙ ap (λ (l : List ℕ). old ++ l) start) h
          ∙ ap (λ (l : List ℕ). old ++ l) (label_cut name c.append_escaped.new.out.items _ whole long refl)) c.append-2.ensures.items;
    }
