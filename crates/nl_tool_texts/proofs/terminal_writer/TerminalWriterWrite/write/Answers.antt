use Rattle.std.proofs.Common.{◌≡◌, ◌∙◌, ◌++◌, ◌∷◌, ℕ, List, [], ap, append-nil, arith, drop, subst, sym, take}
use Rattle.std.specs.Io.KnownBytes.{Keeps, append_known}
use Rattle.std.proofs.lemmas.List.{drop_all, take-append-drop}
use Rattle.arrayvec.specs.ArrayVec.{ArrayVec}
use Rattle.nl_tool_texts.specs.Columns.{begun_by, begun_then, shown_now, shown_of}
use Rattle.nl_tool_texts.specs.Terminal.{showing_of}
use Rattle.nl_tool_texts.proofs.TerminalLemmas.{first_taken, nothing_begun, plain_shows, shows}
use Rattle.nl_tool_texts.proofs.terminal_writer.TerminalWriterWrite.write.Goals as goal

pub returns-then-plain-gt0-clause-shows : goal.returns-then-plain-gt0-clause-shows
returns-then-plain-gt0-clause-shows g c = λ on.
    let sent = c.in_ok-send.ensures in
    let self = c.send.new.self in
    let none : drop self.sent self.waiting.items ≡ [] = drop_all self.sent self.waiting.items (omega (arith, sent.ok)) in
    let keeps = subst (λ (l : List ℕ). Keeps (showing_of g.W.Write.contents c.args.self.now).shown (append_known (g.W.Write.contents self.writer) l)) none sent.same in
    let same : self.begun.items ≡ c.args.self.now.begun.items = ap (λ (v : ArrayVec ℕ). v.items) sent.kept.1 in
    plain_shows _ _ _ _ _ _ c.args.buf.now c.plain_len-plain.result c.write-then-plain-gt0.result
    (sym same ∙ nothing_begun self.begun.items c.if-is_empty.ensures) same none c.plain_len-plain.ensures.passes
    c.write-then-plain-gt0.ensures.bound keeps c.write-then-plain-gt0.ensures.bytes

pub returns-clause-shows : goal.returns-clause-shows
returns-clause-shows g c = λ on.
    let sent = c.in_ok-send.ensures in
    let self = c.send.new.self in
    let begun = c.args.self.now.begun.items in
    let byte = c.in-Some.byte.now in
    let count = c.in_ok-sent.sent in
    let shown = c.shown_now-shown.result.0.items in
    let none : drop self.sent self.waiting.items ≡ [] = drop_all self.sent self.waiting.items (omega (arith, sent.ok)) in
    let keeps = subst (λ (l : List ℕ). Keeps (showing_of g.W.Write.contents c.args.self.now).shown (append_known (g.W.Write.contents self.writer) l)) none sent.same in
    let same : c.as_slice.result.now ≡ begun = c.as_slice.ensures.value ∙ ap (λ (v : ArrayVec ℕ). v.items) sent.kept.1 in
    let one : take 1 c.args.buf.now ≡ byte ∷ [] = first_taken c.args.buf.now byte c.in-Some.ensures.value in
    let text : shown_of begun (take 1 c.args.buf.now) ≡ take count c.as_slice-2.result.now ++ drop count shown =
    ap (shown_of begun) one ∙ append-nil (shown_now begun byte) ∙ (λ i. shown_now (sym same i) byte) ∙ sym c.shown_now-shown.ensures.now
    ∙ sym (take-append-drop count shown) ∙ ap (λ (l : List ℕ). take count l ++ drop count shown) (sym c.as_slice-2.ensures.value) in (
      shows _ _ _ _ (drop count shown) _ text keeps c.in_ok-sent.ensures.bytes,
      c.shown_now-shown.ensures.next ∙ (λ i. begun_then (same i) byte) ∙ sym (ap (begun_by begun) one),
    )
