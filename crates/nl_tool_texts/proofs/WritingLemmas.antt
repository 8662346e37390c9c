-- A text that is written piece by piece, as it is made.
use Rattle.std.proofs.Common.{◌≡◌, ◌∙◌, ◌++◌, ◌<◌, [], List, ℕ, Option, Result, Ok, Err, length, ap, sym, subst, refl, arith, append_assoc, append-nil, inr, length-append, true≢false}
use Rattle.std.specs.Prelude.{IfErr, OnErr, OnOk}
use Rattle.std.specs.Io.KnownBytes.{Appends}
use Rattle.std.specs.Result.{IsErr}
use Rattle.std.proofs.KnownBytes.{Appends-nil, Appends-trans}
use Rattle.nl_tool_texts.specs.Output.{AppendsPrefixOf}
use Rattle.nl_tool_texts.specs.declared.fault.ToolFault.{ToolFault}
use Rattle.nl_tool_texts.specs.declared.fault.ToolFault.TheVariants.{NotALog as NoLog, OtherVersion as Other, Read, Memory, Write, Folder, NegativeTime, BadNumber, EmptyName, BadByte, LongName, BadLine, OtherGraph, Elsewhere}
use Rattle.nl_tool_texts.specs.Writing.{AppendsSomeOf, HoldsAllBut, IsWriteFault, Moves, PrintsInPieces, Writes}

-- nothing is written yet
pub all_held : (known : Option (List ℕ)) (text : List ℕ) → HoldsAllBut known known text text
all_held known text = record { written = []; is = refl; appended = Appends-nil known }

-- a part is missing that has a byte
pub is_part : (old new : Option (List ℕ)) (text left : List ℕ) → 0 < length left → HoldsAllBut old new text left → AppendsPrefixOf old new text
is_part old new text left some moves =
    record { prefix = moves.written; rest = left; is = moves.is; missing = some; appended = moves.appended }

pub none_written : (known : Option (List ℕ)) (text : List ℕ) → 0 < length text → AppendsPrefixOf known known text
none_written known text some = is_part known known text text some (all_held known text)

-- what is held is moved on
pub moved_on : (old mid new : Option (List ℕ)) (text held left : List ℕ) → HoldsAllBut old mid text held → HoldsAllBut mid new held left
    → HoldsAllBut old new text left
moved_on old mid new text held left first next = record {
  written = first.written ++ next.written;
  is = first.is ∙ ap (λ rest. first.written ++ rest) next.is ∙ sym (append_assoc first.written next.written left);
  appended = Appends-trans old mid new first.written next.written first.appended next.appended;
}

-- more of the text is held
pub held_more : (old new : Option (List ℕ)) (text held more : List ℕ) → HoldsAllBut old new text held
    → HoldsAllBut old new (text ++ more) (held ++ more)
held_more old new text held more moves = record {
  written = moves.written;
  is = ap (λ front. front ++ more) moves.is ∙ append_assoc moves.written held more;
  appended = moves.appended;
}

-- a part of what is held is written, and then of all
pub part_on : (old mid new : Option (List ℕ)) (whole held later : List ℕ) → HoldsAllBut old mid whole (held ++ later)
    → AppendsPrefixOf mid new held → AppendsPrefixOf old new whole
part_on old mid new whole held later moves part = record {
  prefix = moves.written ++ part.prefix;
  rest = part.rest ++ later;
  is = moves.is ∙ ap (λ (front : List ℕ). moves.written ++ (front ++ later)) part.is ∙ simp append_assoc;
  missing = omega (arith, part.missing, length-append part.rest later);
  appended = Appends-trans old mid new moves.written part.prefix moves.appended part.appended;
}

-- what is held of a text is a part of it
pub some_of : (old new : Option (List ℕ)) (text : List ℕ) → AppendsPrefixOf old new text → AppendsSomeOf old new text
some_of old new text part = (part.rest, record { written = part.prefix; is = part.is; appended = part.appended })

pub all_moved : (old mid new : Option (List ℕ)) (text held : List ℕ) → HoldsAllBut old mid text held → Appends mid new held → Appends old new text
all_moved old mid new text held moves appends = rw moves.is (Appends-trans old mid new moves.written held moves.appended appends)

-- the text that is held at the end is written, or a part of it
pub rest_written : (old mid new : Option (List ℕ)) (whole held : List ℕ) (result : Result (Unit {0}) ToolFault) → HoldsAllBut old mid whole held
    → Writes mid new held result → Writes old new whole result
rest_written old mid new whole held (Ok done) moves appends = all_moved old mid new whole held moves appends
rest_written old mid new whole held (Err fault) moves part = part_on old mid new whole held [] (rw (append-nil held) moves) part

-- some of what is held is moved on
pub some_moved : (old mid new : Option (List ℕ)) (text held : List ℕ) → HoldsAllBut old mid text held → AppendsSomeOf mid new held
    → AppendsSomeOf old new text
some_moved old mid new text held moves part = (part.0, moved_on old mid new text held part.0 moves part.1)

-- what is held then is moved on, and the later text follows
pub then_moved : (old mid new : Option (List ℕ)) (whole held left later : List ℕ) → HoldsAllBut old mid whole (held ++ later)
    → HoldsAllBut mid new held left → HoldsAllBut old new whole (left ++ later)
then_moved old mid new whole held left later first next =
    moved_on old mid new whole (held ++ later) (left ++ later) first (held_more mid new held left later next)

-- the next part of a text is held too
pub more_held : (old mid : Option (List ℕ)) (whole held more told later rest end : List ℕ) → later ≡ told ++ rest → more ≡ held ++ told
    → HoldsAllBut old mid whole (held ++ (later ++ end)) → HoldsAllBut old mid whole (more ++ (rest ++ end))
more_held old mid whole held more told later rest end splits is holds =
    subst (λ (l : List ℕ). HoldsAllBut old mid whole l)
    (ap (λ (l : List ℕ). held ++ (l ++ end)) splits ∙ ap (λ (l : List ℕ). held ++ l) (append_assoc told rest end)
    ∙ sym (append_assoc held told (rest ++ end)) ∙ ap (λ (l : List ℕ). l ++ (rest ++ end)) (sym is)) holds

-- the end of a text is missing
pub end_missing : (old new : Option (List ℕ)) (text end : List ℕ) → 0 < length end → AppendsSomeOf old new text
    → AppendsPrefixOf old new (text ++ end)
end_missing old new text end some part =
    is_part old new (text ++ end) (part.0 ++ end) (omega (arith, some, length-append part.0 end)) (held_more old new text part.0 end part.1)

-- what an error says of them
pub err_writes : (old new : Option (List ℕ)) (text : List ℕ) (result : Result (Unit {0}) ToolFault) → IsErr result → AppendsPrefixOf old new text
    → Writes old new text result
err_writes old new text (Ok done) is part = absurd (true≢false (sym is))
err_writes old new text (Err fault) is part = part

pub err_moves : (old new : Option (List ℕ)) (text held : List ℕ) (result : Result (Unit {0}) ToolFault) → IsErr result → AppendsSomeOf old new text
    → Moves old new text held result
err_moves old new text held (Ok done) is part = absurd (true≢false (sym is))
err_moves old new text held (Err fault) is part = part

pub out_writes : (old new : Option (List ℕ)) (text : List ℕ) (result : Result (Unit {0}) ToolFault) → OnOk result (Appends old new text)
    → OnErr result (AppendsPrefixOf old new text) → Writes old new text result
out_writes old new text (Ok done) ok part = ok
out_writes old new text (Err fault) ok part = part

-- what is written so is one of the texts
pub pieces_of : (IsText : List ℕ → Type 0) (text : List ℕ) → IsText text → (old new : Option (List ℕ)) (r : Result (Unit {0}) ToolFault)
    → Writes old new text r → IfErr r IsWriteFault → PrintsInPieces IsText old new r
pieces_of IsText text is old new (Ok done) w f = (text, is, w)
pieces_of IsText text is old new (Err Memory) w f = inr (text, is, w)
pieces_of IsText text is old new (Err Write) w f = (text, is, w)
pieces_of IsText text is old new (Err NoLog) w f = absurd f
pieces_of IsText text is old new (Err Other) w f = absurd f
pieces_of IsText text is old new (Err Read) w f = absurd f
pieces_of IsText text is old new (Err Folder) w f = absurd f
pieces_of IsText text is old new (Err (NegativeTime index)) w f = absurd f
pieces_of IsText text is old new (Err BadNumber) w f = absurd f
pieces_of IsText text is old new (Err EmptyName) w f = absurd f
pieces_of IsText text is old new (Err (BadByte at)) w f = absurd f
pieces_of IsText text is old new (Err LongName) w f = absurd f
pieces_of IsText text is old new (Err (BadLine number)) w f = absurd f
pieces_of IsText text is old new (Err OtherGraph) w f = absurd f
pieces_of IsText text is old new (Err Elsewhere) w f = absurd f
