-- The entries of a log as they are listed line by line.
use Rattle.std.proofs.Common.{◌≡◌, ◌∙◌, ℕ, Bool, leb, ◌==◌, List, [], ◌∷◌, ◌++◌, length, refl, sym, ap, subst, ◌+◌}
use Rattle.std.specs.Prelude.{◌≤◌, Option, None, Some, Result, Ok, Err, drop, map}
use Rattle.std.specs.Result.{IsErrAnd}
use Rattle.nl_tool_texts.specs.declared.fault.ToolFault.{ToolFault}
use Rattle.std.specs.List.{cons_option}
use Rattle.std.proofs.lemmas.Bool.{cond-false, cond-true, le-leb, ne_eqb}
use Rattle.std.proofs.lemmas.List.{append-nil}
use Rattle.nl_fields.specs.declared.entry.Entry.{Entry}
use Rattle.nl_fields.specs.EntryLine.{entry_of, entry_of_four, line_of}
use Rattle.nl_fields.proofs.LineOfLemmas.{line_is_line_of, line_of_entry_of}
use Rattle.nl_fields.specs.Header.{header_line, header_of}
use Rattle.nl_lines.specs.Lines.{max_line, max_log}
use Rattle.nl_table.specs.History.{Began}
use Rattle.nl_table.proofs.LogTextLemmas.{log_of-text}
use Rattle.nl_table.proofs.TableLemmas.{table-plus}
use Rattle.nl_table.proofs.ValidLemmas.{log_valid}
use Rattle.nl_tool_print.specs.Output.{show_text_of, show_text}
use Rattle.nl_lines.specs.Split.{joined, lines_of, rest_of, with_newline}
use Rattle.nl_table.specs.Log.{LogReading, Log, NotALog, OtherVersion, entries_on, entry_by, entry_on, log_of}
use Rattle.nl_table.specs.LogText.{lines_of_entries}
use Rattle.nl_table.proofs.FirstLineLemmas.{log_of-lines}
use Rattle.nl_table.proofs.LogLemmas.{is_versioned, rest_is_header}
use Rattle.nl_tool_print.specs.Streams.{StreamsSome, IsSoFar, Streams, entry_text, entries_text_of, entries_text, texts_from}
use Rattle.nl_tool_print.specs.Streams.{text_by_lines, text_by_parts}
use Rattle.nl_versions.specs.VersionOf.{as_five}

-- what is told of a line, and of the rest
abbrev pub entry_line : ℕ → ℕ → List ℕ → List ℕ
entry_line version number line = entry_text (entry_on version line)

abbrev pub no_rest : ℕ → ℕ → List ℕ → List ℕ
no_rest version number rest = []

texts_are_lines : (v n : ℕ) (lines : List (List ℕ)) → texts_from (entry_line v) n lines ≡ lines_of_entries (entries_on v lines)
texts_are_lines v n [] = refl
texts_are_lines v n (line ∷ lines) = go (entry_on v line) (texts_are_lines v (n + 1) lines)
  where
    go : (o : Option Entry) → texts_from (entry_line v) (n + 1) lines ≡ lines_of_entries (entries_on v lines)
        → entry_text o ++ texts_from (entry_line v) (n + 1) lines ≡ lines_of_entries (cons_option o (entries_on v lines))
    go None later = later
    go (Some e) later = ap (λ (t : List ℕ). with_newline (line_of e) ++ t) later

told_listed : (bytes : List ℕ) → text_by_lines entry_line no_rest bytes ≡ entries_text_of bytes
told_listed bytes = go (log_of bytes) refl
  where
    by_lines : (v : ℕ) (es : List Entry) → log_of bytes ≡ Log v es → (lines : List (List ℕ)) → lines_of bytes ≡ lines
        → texts_from (entry_line v) 2 (drop 1 lines) ≡ lines_of_entries es
    by_lines v es reads [] none =
        let empty : [] ≡ es = cc ((rest_is_header bytes v es none reads).1) in
        ap lines_of_entries empty
    by_lines v es reads (first ∷ later) some =
        texts_are_lines v 2 later ∙ ap lines_of_entries
        (is_versioned (header_of first) (length bytes) v later es (sym (log_of-lines bytes first later some) ∙ reads)).entries

    go : (r : LogReading) → log_of bytes ≡ r → text_by_parts entry_line no_rest (lines_of bytes) (rest_of bytes) r ≡ entries_text r
    go (Log v es) reads = ap (λ (l : List ℕ). Some l)
        (append-nil (texts_from (entry_line v) 2 (drop 1 (lines_of bytes))) ∙ by_lines v es reads (lines_of bytes) refl)
    go OtherVersion reads = refl
    go NotALog reads = refl

same_text : text_by_lines entry_line no_rest ≡ entries_text_of
same_text = λ i bytes. told_listed bytes i

pub all_listed : (known w v : Option (List ℕ)) (any : Bool) → StreamsSome (λ bs. text_by_lines entry_line no_rest (as_five bs)) known w v (Ok any)
    → Streams (λ bs. entries_text_of (as_five bs)) known w v (Ok tt)
all_listed known w v any found = subst (λ (text_of : List ℕ → Option (List ℕ)). Streams (λ bs. text_of (as_five bs)) known w v (Ok tt))
    same_text (found.0, found.1, found.2)

pub some_listed : (known w v : Option (List ℕ)) → IsSoFar (λ bs. text_by_lines entry_line no_rest (as_five bs)) known w v
    → IsSoFar (λ bs. entries_text_of (as_five bs)) known w v
some_listed known w v so_far =
    subst (λ (text_of : List ℕ → Option (List ℕ)). IsSoFar (λ bs. text_of (as_five bs)) known w v) same_text so_far

pub streams_refused : (text_of : List ℕ → Option (List ℕ)) (known w v : Option (List ℕ)) (r : Result (Unit {0}) ToolFault)
    (P : ToolFault → Type 0) → IsErrAnd r P → IsSoFar text_of known w v → Streams text_of known w v r
streams_refused text_of known w v (Ok done) P is so_far = absurd is
streams_refused text_of known w v (Err e) P is so_far = so_far

-- the entries of a log, loaded again, are its table
pub entries_shown : (bytes text : List ℕ) → entries_text_of bytes ≡ Some text → length (header_line ++ text) ≤ max_log
    → show_text_of (header_line ++ text) ≡ show_text_of bytes
entries_shown bytes text is fits = go (log_of bytes) refl is
  where
    go : (r : LogReading) → log_of bytes ≡ r → entries_text r ≡ Some text → show_text_of (header_line ++ text) ≡ show_text r
    go OtherVersion reads none = absurd (cc none)
    go NotALog reads none = absurd (cc none)
    go (Log v es) reads some =
        let same : lines_of_entries es ≡ text = cc some in
        let again : log_of (header_line ++ text) ≡ Log 5 es =
        ap (λ (t : List ℕ). log_of (header_line ++ t)) (sym same)
        ∙ log_of-text es (log_valid bytes v es reads) (subst (λ (t : List ℕ). length (header_line ++ t) ≤ max_log) (sym same) fits) in
        ap show_text again
        ∙ ap (λ (l : List Entry). Some (joined (map line_of l))) (table-plus (Began 5) es ∙ sym (table-plus (Began v) es))

-- a line of version 5 is the one spelling of its entry
pub entry_whole : (v : ℕ) (line : List ℕ) (e : Entry) → (v ≡ 4 → ⊥) → length line ≤ max_line → entry_by v line ≡ Some e
    → entry_text (entry_on v line) ≡ with_newline line
entry_whole v line e five short found =
    let read : entry_of line ≡ Some e = sym (cond-false (v == 4) (entry_of_four line) (entry_of line) (ne_eqb v 4 five)) ∙ found in
    ap entry_text (cond-true (leb (length line) max_line) _ _ (le-leb (length line) max_line short) ∙ found)
    ∙ ap with_newline (sym (line_is_line_of line (line_of_entry_of line read)))
