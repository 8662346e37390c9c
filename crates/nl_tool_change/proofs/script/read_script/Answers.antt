use Rattle.std.proofs.Common.{◌<◌, ◌∷◌, [], length, arith, inl, inr, refl, subst, length-append}
use Rattle.std.proofs.lemmas.Grind.{common_steps}
use Rattle.nl_tool_texts.specs.Files.{OfBytes, file_lines}
use Rattle.nl_tool_change.specs.Replay.{IsScript, TakesScriptLine}
use Rattle.nl_tool_change.proofs.ScriptLemmas.{Scripted_none, Scripted_more, Scripted_rest, Scripted_end, Scripted_reading, lent_whole}
use Rattle.nl_tool_change.proofs.script.read_script.Goals as goal

pub lines-init : goal.lines-init
lines-init g c = record {
  scripted = rw c.in_ok-lines.ensures.value
      (Scripted_none (g.R.Read.remaining c.new-source.result.reader) c.new-5.result.items c.new-5.ensures.items);
  reading = rw c.in_ok-lines.ensures.value refl;
  from_one = omega arith;
  counted = omega arith;
  fits = rw c.in_ok-lines.ensures.value (omega arith);
}

pub returns-in-Some-Torn-clause-value : goal.returns-in-Some-Torn-clause-value
returns-in-Some-Torn-clause-value g c =
    let h = rw (c.in_ok-line.was, c.in-Some-Torn.is, c.in-Some-Torn.field-0-is) at c.next.follows.holds-at-none in
    let bytes = c.in-Some-Torn.bytes.now in
    let events = c.take_line-in-Some-Torn.new.self.events.items in
    let some : 0 < length bytes = grind (arith, common_steps) in
    subst (λ a. OfBytes a (λ read. IsScript (file_lines read) events)) c.new-source.ensures.ahead
    (Scripted_rest _ _ _ _ c.lines.invariant.scripted _ _ h.0 events h.1
    (subst (TakesScriptLine c.lines.script.events.items events) (lent_whole h.0 bytes h.5 some) c.in_ok-take_line-in-Some-Torn.ensures.ok))

pub returns-in-None-clause-value : goal.returns-in-None-clause-value
returns-in-None-clause-value g c =
    let h = rw (c.in_ok-line.was, c.in-None.is) at c.next.follows.holds-at-none in
    subst (λ a. OfBytes a (λ read. IsScript (file_lines read) c.lines.script.events.items)) c.new-source.ensures.ahead
    (elim h [
      | inl takes ↦ Scripted_end _ _ _ _ c.lines.invariant.scripted _ _ takes
      | inr ended ↦ absurd (Scripted_reading _ _ _ _ c.lines.invariant.scripted ended.0)
    ])

pub lines-preserved : goal.lines-preserved
lines-preserved g c =
    let h = rw (c.in_ok-line.was, c.in-Some-Whole.is, c.in-Some-Whole.field-0-is) at c.next.follows.holds-at-none in
    record {
      scripted = Scripted_more _ _ _ _ c.lines.invariant.scripted _ _ c.in-Some-Whole.line.now c.take_line.new.self.events.items h.0
          c.in_ok-take_line-in-Some-Whole.ensures.ok;
      reading = h.0.is;
      from_one = omega arith;
      counted = omega (arith, c.lines.invariant.counted, h.0.position, length-append c.in-Some-Whole.line.now (10 ∷ []));
      fits = h.0.fits;
    }
