use Rattle.std.proofs.Common.{◌≡◌, arith, inl, inr}
use Rattle.nl_tool_change.proofs.FileLemmas.{Telling_none, Telling_more, Telling_rest, Telling_reading, Telling_end, lent_all, lent_is_short}
use Rattle.nl_tool_change.proofs.files.read_lines.Goals as goal

pub lines-init : goal.lines-init
lines-init g c = record {
  telling = rw c.in_ok-lines.ensures.value
      (Telling_none g.P.Part.part_of (g.S.Source.ahead c.args.source.now) c.new-2.result.items c.new-2.ensures.items);
}

pub take-requires-in-Some-Torn-2-clause-short : goal.take-requires-in-Some-Torn-2-clause-short
take-requires-in-Some-Torn-2-clause-short g c =
    let h = rw (c.in_ok-line.was, c.in-Some-Torn.is, c.in-Some-Torn.field-0-is) at c.next.follows.holds-at-none in
    lent_is_short h.0 _ h.5

pub lines-preserved-in-Continue-branch-5 : goal.lines-preserved-in-Continue-branch-5
lines-preserved-in-Continue-branch-5 g c =
    let h = rw (c.in_ok-line.was, c.in-Some-Whole.is, c.in-Some-Whole.field-0-is) at c.next.follows.holds-at-none in
    record {
      telling = Telling_more g.P.Part.part_of _ _ _ _ _ _ c.lines.invariant.telling _ _ _ _ _ _ h.0 c.in_ok-take-in-Some-Whole.ensures.ok
          c.take.ensures.count;
    }

pub lines-preserved : goal.lines-preserved
lines-preserved g c =
    let h = rw (c.in_ok-line.was, c.in-Some-TooLong.is, c.in-Some-TooLong.field-0-is) at c.next.follows.holds-at-none in
    record {
      telling = Telling_more g.P.Part.part_of _ _ _ _ _ _ c.lines.invariant.telling _ _ _ _ _ _ h.1
          (c.refuse.ensures.value h.0 h.2) c.refuse.ensures.count;
    }

pub returns-in-Some-Torn-clause-value : goal.returns-in-Some-Torn-clause-value
returns-in-Some-Torn-clause-value g c =
    let h = rw (c.in_ok-line.was, c.in-Some-Torn.is, c.in-Some-Torn.field-0-is) at c.next.follows.holds-at-none in
    Telling_rest g.P.Part.part_of _ _ _ _ _ _ c.lines.invariant.telling _ _ h.0 h.1 _ _ _
    (c.refuse-in-Some-Torn.ensures.value h.0 (omega (arith, h.4))) c.refuse-in-Some-Torn.ensures.count

pub returns-in-Some-Torn-2-clause-value : goal.returns-in-Some-Torn-2-clause-value
returns-in-Some-Torn-2-clause-value g c =
    let h = rw (c.in_ok-line.was, c.in-Some-Torn.is, c.in-Some-Torn.field-0-is) at c.next.follows.holds-at-none in
    let whole : c.in-Some-Torn.field-0-2.now ≡ h.0 = lent_all h.0 c.in-Some-Torn.field-0-2.now (omega (arith, h.4)) h.5 in
    Telling_rest g.P.Part.part_of _ _ _ _ _ _ c.lines.invariant.telling _ _ h.0 h.1 _ _ _
    (rw whole at c.in_ok-take-in-Some-Torn-2.ensures.ok) c.take-in-Some-Torn-2.ensures.count

pub returns-in-None-clause-value : goal.returns-in-None-clause-value
returns-in-None-clause-value g c =
    let h = rw (c.in_ok-line.was, c.in-None.is) at c.next.follows.holds-at-none in
    elim h [
      | inl takes ↦ Telling_end g.P.Part.part_of _ _ _ _ _ _ c.lines.invariant.telling _ _ takes
      | inr ended ↦ absurd (Telling_reading g.P.Part.part_of _ _ _ _ _ _ c.lines.invariant.telling ended.0)
    ]
