use Rattle.std.proofs.Common.{◌++◌, List, ℕ, Option, subst, sym}
use Rattle.std.proofs.KnownBytes.{Appends-trans}
use Rattle.std.specs.Io.KnownBytes.{Appends}
use Rattle.nl_tool.specs.Said.{Says}
use Rattle.nl_tool.proofs.program.end.Goals as goal

four : (a b c d e : Option (List ℕ)) (s t u v : List ℕ) → Appends a b s → Appends b c t → Appends c d u → Appends d e v
    → Appends a e (s ++ (t ++ (u ++ v)))
four a b c d e s t u v p q r w =
    Appends-trans a b e s (t ++ (u ++ v)) p (Appends-trans b c e t (u ++ v) q (Appends-trans c d e u v r w))

pub returns-then-eq-clause-writes : goal.returns-then-eq-clause-writes
returns-then-eq-clause-writes g c =
    subst (λ a. Says c.args.line.now c.args.desk.now.notes a (g.E.Errors.said c.args.desk.now.errors) (g.E.Errors.said c.say_note-in-Ok-3.new.errors))
    (sym c.in-Ok.is) (record {
      again = c.notes_of-again.result.0;
      again_is = c.notes_of-again.ensures.again;
      missing = c.notes_of-again.result.1;
      missing_is = c.notes_of-again.ensures.empty;
      unsynced = c.unsynced_note.result;
      unsynced_is = c.unsynced_note.ensures.note;
      synced = c.unsynced_note.ensures.none;
      masked = c.notes_of-again.result.2;
      masked_is = c.notes_of-again.ensures.masked;
      appends = four _ _ _ _ _ _ _ _ _ c.say_note.ensures.writes c.say_note-in-Ok.ensures.writes c.say_note-in-Ok-2.ensures.writes c.say_note-in-Ok-3.ensures.writes;
    })

pub returns-else-eq-clause-writes : goal.returns-else-eq-clause-writes
returns-else-eq-clause-writes g c =
    subst (λ a. Says c.args.line.now c.args.desk.now.notes a (g.E.Errors.said c.args.desk.now.errors) (g.E.Errors.said c.say_note-in-Ok-3.new.errors))
    (sym c.in-Ok.is) (record {
      again = c.notes_of-again.result.0;
      again_is = c.notes_of-again.ensures.again;
      missing = c.notes_of-again.result.1;
      missing_is = c.notes_of-again.ensures.empty;
      unsynced = c.unsynced_note.result;
      unsynced_is = c.unsynced_note.ensures.note;
      synced = c.unsynced_note.ensures.none;
      masked = c.notes_of-again.result.2;
      masked_is = c.notes_of-again.ensures.masked;
      appends = four _ _ _ _ _ _ _ _ _ c.say_note.ensures.writes c.say_note-in-Ok.ensures.writes c.say_note-in-Ok-2.ensures.writes c.say_note-in-Ok-3.ensures.writes;
    })
