use Rattle.std.proofs.Common.{◌≡◌, ◌<◌, ◌∙◌, ◌++◌, ◌∷◌, [], ◌+◌, Vec, ℕ, Global, ap, arith, length, map, sym, take}
use Rattle.std.proofs.lemmas.Result.{on_err_weaker}
use Rattle.nl_fields.specs.EntryLine.{line_of}
use Rattle.nl_lines.specs.Split.{joined}
use Rattle.nl_lines.proofs.ResultLemmas.{on_err}
use Rattle.nl_tool_texts.proofs.WritingLemmas.{held_more, moved_on}
use Rattle.nl_tool_print.proofs.OutputLemmas.{entry_there, lines_more, lines_split, prefix_after}
use Rattle.nl_tool_print.proofs.show.write_lines.Goals as goal
use Rattle.nl_tool_print.proofs.show.write_lines.Goals.{in-Some+in_ok-write_full, in_default}

pub returns-in_err-write_full-clause-prefix : goal.returns-in_err-write_full-clause-prefix
returns-in_err-write_full-clause-prefix g c =
    on_err c.from_residual.result (
    prefix_after _ _ _ _ _ _ _ (lines_split c.args.table.now c.loop-place.place) c.loop-place.invariant.2 c.in_err-write_full.ensures.prefix
    )

pub loop-place-preserved : goal.loop-place-preserved
loop-place-preserved g c =
    let table = c.args.table.now in
    let place = c.loop-place.place in
    elim c.match-at.branch [
      | in-Some+in_ok-write_full w ↦
          let line = line_of w.in-Some.entry ++ 10 ∷ [] in
          let text : joined (map line_of (take (place + 1) table)) ≡ joined (map line_of (take place table)) ++ line =
          lines_more table place w.in-Some.entry (sym w.in-Some.ensures) in
          let held : c.match-at.piece.items ≡ w.write_full.new.held.items ++ line = ap (λ (v : Vec ℕ Global). v.items) w.piece-is
          ∙ (rw w.unwrap.ensures at w.append_entry.ensures.ok) in (
            rw w.piece-is (omega (arith, c.loop-place.invariant.0, w.write_full.ensures.capacity, w.append_entry.ensures.capacity)),
            rw w.piece-is (omega (arith, c.loop-place.invariant.1, w.write_full.ensures.capacity, w.append_entry.ensures.capacity)),
            rw (text, held, w.writer-is)
                (held_more _ _ _ _ line (moved_on _ _ _ _ _ _ c.loop-place.invariant.2 w.in_ok-write_full.ensures.moved)),
          )
      | in_default w ↦
          let there : place < length table = omega (arith, c.len-place-end.ensures.count) in
          absurd (entry_there table place there (sym w.in_default.ensures))
    ]

pub returns-clause-prefix : goal.returns-clause-prefix
returns-clause-prefix g c =
    on_err_weaker c.write_out.result
    (prefix_after _ _ _ _ _ _ _ (lines_split c.args.table.now c.loop-place.place) c.loop-place.invariant.2)
    (rw c.as_slice.ensures.value at c.write_out.ensures.prefix)
