-- A text that is written piece by piece, and a report.
use Rattle.std.proofs.Common.{◌≡◌, ◌++◌, ◌∷◌, [], ◌+◌, ◌<◌, ◌∙◌, codes, List, ℕ, zero, suc, Some, None, map, take, drop, length, add-one}
use Rattle.std.proofs.Common.{ap, sym, append-nil, append_assoc, length-append, refl, Option, arith}
use Rattle.std.specs.Prelude.{decimal, slice_get}
use Rattle.nl_fields.specs.declared.entry.Entry.{Entry}
use Rattle.nl_fields.specs.EntryLine.{line_of}
use Rattle.nl_lines.specs.Split.{joined}
use Rattle.std.proofs.KnownBytes.{Appends-nil, Appends-trans}
use Rattle.nl_tool_texts.specs.Output.{AppendsPrefixOf}
use Rattle.nl_tool_texts.specs.Writing.{HoldsAllBut}
use Rattle.nl_tool_print.specs.Output.{report_lines}

-- nothing is held of nothing
pub nothing_moved : (known : Option (List ℕ)) → HoldsAllBut known known [] []
nothing_moved known = record { written = []; is = refl; appended = Appends-nil known }

-- where a prefix of what was held is written, it ends a prefix of the text
pub prefix_after : (old mid new : Option (List ℕ)) (whole text later held : List ℕ) → whole ≡ text ++ later → HoldsAllBut old mid text held
    → AppendsPrefixOf mid new held → AppendsPrefixOf old new whole
prefix_after old mid new whole text later held is moves part = record {
  prefix = moves.written ++ part.prefix;
  rest = part.rest ++ later;
  is = is ∙ ap (λ front. front ++ later) (moves.is ∙ ap (λ rest. moves.written ++ rest) part.is) ∙ simp append_assoc;
  missing = omega (arith, part.missing, length-append part.rest later);
  appended = Appends-trans old mid new moves.written part.prefix moves.appended part.appended;
}

-- the lines of the entries before a place, and those of the others
pub lines_split : (es : List Entry) (i : ℕ) → joined (map line_of es) ≡ joined (map line_of (take i es)) ++ joined (map line_of (drop i es))
lines_split es zero = refl
lines_split [] (suc i) = refl
lines_split (x ∷ xs) (suc i) =
    ap (λ rest. (line_of x ++ 10 ∷ []) ++ rest) (lines_split xs i)
    ∙ sym (append_assoc (line_of x ++ 10 ∷ []) (joined (map line_of (take i xs))) (joined (map line_of (drop i xs))))

lines_next : (es : List Entry) (i : ℕ) (e : Entry) → slice_get es i ≡ Some e
    → joined (map line_of (take (suc i) es)) ≡ joined (map line_of (take i es)) ++ (line_of e ++ 10 ∷ [])
lines_next [] i e is = cc
lines_next (x ∷ xs) zero e is =
    let same : x ≡ e = cc in
    append-nil (line_of x ++ 10 ∷ []) ∙ ap (λ (y : Entry). line_of y ++ 10 ∷ []) same
lines_next (x ∷ xs) (suc i) e is =
    ap (λ rest. (line_of x ++ 10 ∷ []) ++ rest) (lines_next xs i e is)
    ∙ sym (append_assoc (line_of x ++ 10 ∷ []) (joined (map line_of (take i xs))) (line_of e ++ 10 ∷ []))

-- the line of one entry more
pub lines_more : (es : List Entry) (i : ℕ) (e : Entry) → slice_get es i ≡ Some e
    → joined (map line_of (take (i + 1) es)) ≡ joined (map line_of (take i es)) ++ (line_of e ++ 10 ∷ [])
lines_more es i e is = rw add-one (lines_next es i e is)

-- there is an entry at each place
pub entry_there : (es : List Entry) (i : ℕ) → i < length es → slice_get es i ≡ None → ⊥
entry_there [] i lt is = omega arith
entry_there (x ∷ xs) zero lt is = cc
entry_there (x ∷ xs) (suc i) lt is = entry_there xs i (omega arith) is

-- the pieces of a report as `format!` joins them
pub report_joined : (version total unique skipped torn : ℕ) (due : List ℕ)
    → (codes "version " ++ (decimal version ++ (codes "\ntotal " ++ (decimal total ++ (codes "\nunique "
    ++ (decimal unique ++ (codes "\nskipped " ++ (decimal skipped ++ (codes "\ntorn " ++ (decimal torn ++ (codes "\ndue " ++ due)))))))))))
    ++ codes "\n" ≡ report_lines version total unique skipped torn due
report_joined version total unique skipped torn due = simp append_assoc
