-- What `damage` prints, what `check` counts and what a repair leaves say the same of a log.
use Rattle.std.proofs.Common.{◌≡◌, ◌≢◌, ◌∙◌, ◌≤◌, ◌<◌, ◌+◌, ◌-◌, ◌↔◌, ◌⊎◌, ℕ, suc, List, [], ◌∷◌, ◌++◌, length, drop, map, refl, sym, ap}
use Rattle.std.proofs.Common.{subst, arith, inl, inr, append-nil, length-append, Option, None, Some}
use Rattle.std.specs.Prelude.{All, codes, decimal, nat_le, option_map, true}
use Rattle.std.specs.List.{cons_option}
use Rattle.std.proofs.lemmas.Bool.{cond-true, cond-false}
use Rattle.std.proofs.lemmas.Bool.Decides.{leb_tells}
use Rattle.std.proofs.lemmas.List.Elements.{All-nil, All-cons, All-head, All-tail}
use Rattle.std.proofs.lemmas.List.{length-map}
use Rattle.nl_fields.specs.declared.entry.Entry.{Entry}
use Rattle.nl_fields.specs.EntryLine.{IsEntry, line_of}
use Rattle.nl_fields.specs.Header.{version_five}
use Rattle.nl_lines.specs.Lines.{lent_rest, max_line, max_log}
use Rattle.nl_lines.specs.Split.{NoNewline, lines_of, rest_of, torn_len}
use Rattle.nl_fields.proofs.HeaderLemmas.{version_five-plain}
use Rattle.nl_lines.proofs.SplitLemmas.{SplitsInto_unique}
use Rattle.nl_table.specs.History.{History, logged, table}
use Rattle.nl_table.specs.Log.{LogReading, Log, NotALog, OtherVersion, entries_on, entry_by, entry_on, history_of_log}
use Rattle.nl_table.specs.Log.{log_of, skipped_count}
use Rattle.nl_table.specs.LogText.{text_of}
use Rattle.nl_table.proofs.LogLemmas.{entry_on-line, log_fits, plain_line}
use Rattle.nl_table.proofs.LogTextLemmas.{log_of-text}
use Rattle.nl_table.proofs.ValidLemmas.{logged_valid}
use Rattle.nl_distrust.proofs.WholeLemmas.{skipped_lines}
use Rattle.nl_tool_print.specs.Streams.{damage_line, damage_on, damage_text_of, named_first, named_last, skipped_text, texts_from, text_by_parts, torn_on}
use Rattle.nl_tool_change.specs.Updates.{repaired_text}

-- the lines of entries
lines_plain : (es : List Entry) → All IsEntry es → All NoNewline (map line_of es)
lines_plain [] all = All-nil NoNewline
lines_plain (e ∷ es) all =
    All-cons NoNewline (line_of e) (map line_of es) (plain_line e (All-head IsEntry e es all)) (lines_plain es (All-tail IsEntry e es all))

entries_back : (es : List Entry) → All IsEntry es → entries_on 5 (map line_of es) ≡ es
entries_back [] all = refl
entries_back (e ∷ es) all =
    ap (λ (o : Option Entry). cons_option o (entries_on 5 (map line_of es))) (entry_on-line e (All-head IsEntry e es all))
    ∙ ap (λ (l : List Entry). e ∷ l) (entries_back es (All-tail IsEntry e es all))

text_split : (es : List Entry) → All IsEntry es → (lines_of (text_of es) ≡ version_five ∷ map line_of es) × (rest_of (text_of es) ≡ [])
text_split es all = SplitsInto_unique (text_of es) (version_five ∷ map line_of es) [] (record {
  whole = sym (append-nil (text_of es));
  plain_lines = All-cons NoNewline version_five (map line_of es) version_five-plain (lines_plain es all);
  plain_rest = All-nil (λ (b : ℕ). b ≢ 10);
})

-- a line that is told of has bytes
more_some : (xs ys : List ℕ) → 0 < length ys → 0 < length (xs ++ ys)
more_some xs ys some = omega (arith, some, length-append xs ys)

told_some : (number len : ℕ) (kind last first : List ℕ) → 0 < length (damage_line number kind len last first)
told_some number len kind last first =
    more_some (decimal number ++ codes "\t" ++ kind ++ codes "\t" ++ decimal len ++ codes "\t" ++ last ++ codes "\t" ++ first) (codes "\n")
    (omega arith)

-- of an entry nothing is told, and of each other line something
line_told : (version number : ℕ) (line : List ℕ) → ((damage_on version number line ≡ []) × ((e : Entry) × (entry_on version line ≡ Some e)))
    ⊎ ((0 < length (damage_on version number line)) × (entry_on version line ≡ None))
line_told version number line = elim (leb_tells (length line) max_line) [
  | inl short ↦ read short.0 (entry_by version line) refl
  | inr long ↦ inr (
    subst (λ (t : List ℕ). 0 < length t) (sym (cond-false (nat_le (length line) max_line) _ _ long.0))
        (told_some number (length line) (codes "long") (codes "-") (codes "-")),
    cond-false (nat_le (length line) max_line) _ _ long.0,
  )
]
  where
    read : nat_le (length line) max_line ≡ true → (o : Option Entry) → entry_by version line ≡ o
        → ((damage_on version number line ≡ []) × ((e : Entry) × (entry_on version line ≡ Some e)))
        ⊎ ((0 < length (damage_on version number line)) × (entry_on version line ≡ None))
    read short (Some e) is = inl (
      cond-true (nat_le (length line) max_line) _ _ short ∙ ap (skipped_text version number line) is,
      (e, cond-true (nat_le (length line) max_line) _ _ short ∙ is),
    )
    read short None is = inr (
      subst (λ (t : List ℕ). 0 < length t)
          (sym (cond-true (nat_le (length line) max_line) _ _ short ∙ ap (skipped_text version number line) is))
          (told_some number (length line) (codes "skipped") (named_last version line) (named_first line)),
      cond-true (nat_le (length line) max_line) _ _ short ∙ is,
    )

-- nothing is told of lines that are all entries, and of others something
abbrev Counted : ℕ → ℕ → List (List ℕ) → Type 0
Counted version number lines = ((texts_from (damage_on version) number lines ≡ []) × (length (entries_on version lines) ≡ length lines))
    ⊎ ((0 < length (texts_from (damage_on version) number lines)) × (length (entries_on version lines) < length lines))

counted : (version number : ℕ) (lines : List (List ℕ)) → Counted version number lines
counted version number [] = inl (refl, refl)
counted version number (line ∷ lines) = elim (line_told version number line) [
  | inl entry ↦
      let more = ap (λ (o : Option Entry). length (cons_option o (entries_on version lines))) entry.1.1 in
      elim (counted version (number + 1) lines) [
        | inl none ↦ inl ((λ i. entry.0 i ++ none.0 i), more ∙ ap suc none.1)
        | inr some ↦ inr (
          omega (arith, some.0, length-append (damage_on version number line) (texts_from (damage_on version) (number + 1) lines)),
          omega (arith, some.1, more),
        )
      ]
  | inr other ↦
      let same = ap (λ (o : Option Entry). length (cons_option o (entries_on version lines))) other.1 in
      let fewer : length (entries_on version lines) ≤ length lines = elim (counted version (number + 1) lines) [
        | inl none ↦ omega (arith, none.1)
        | inr some ↦ omega (arith, some.1)
      ] in
      inr (
        omega (arith, other.0, length-append (damage_on version number line) (texts_from (damage_on version) (number + 1) lines)),
        omega (arith, same, fewer),
      )
]

torn_told : (version number : ℕ) (rest : List ℕ)
    → ((torn_on version number rest ≡ []) × (length rest ≡ 0)) ⊎ ((0 < length (torn_on version number rest)) × (0 < length rest))
torn_told version number [] = inl (refl, refl)
torn_told version number (b ∷ rest) =
    inr (
      told_some number (length (b ∷ rest)) (codes "torn") (named_last version (lent_rest (b ∷ rest))) (named_first (lent_rest (b ∷ rest))),
      omega arith,
    )

-- the text of a log: nothing exactly where no line is skipped and nothing is torn
module _ (bytes : List ℕ) (v : ℕ) (es : List Entry) (reads : log_of bytes ≡ Log v es) where
  abbrev lines : List (List ℕ)
  lines = drop 1 (lines_of bytes)

  abbrev text_told : List ℕ
  text_told = texts_from (damage_on v) 2 lines ++ torn_on v (length (lines_of bytes) + 1) (rest_of bytes)

  skipped : skipped_count bytes ≡ length lines - length (entries_on v lines)
  skipped = skipped_lines bytes v es reads

  counts : (text_told ≡ []) ↔ ((skipped_count bytes ≡ 0) × (torn_len bytes ≡ 0))
  counts = elim (counted v 2 lines) [
    | inl none ↦ elim (torn_told v (length (lines_of bytes) + 1) (rest_of bytes)) [
      | inl whole ↦ ((λ _. (omega (arith, skipped, none.1), whole.1)), (λ _ i. none.0 i ++ whole.0 i))
      | inr torn ↦ (
        (λ is. absurd (omega (
          arith,
          ap length is,
          torn.0,
          length-append (texts_from (damage_on v) 2 lines) (torn_on v (length (lines_of bytes) + 1) (rest_of bytes)),
        ))),
        (λ both. absurd (omega (arith, both.1, torn.1))),
      )
    ]
    | inr some ↦ (
      (λ is. absurd (omega (
        arith,
        ap length is,
        some.0,
        length-append (texts_from (damage_on v) 2 lines) (torn_on v (length (lines_of bytes) + 1) (rest_of bytes)),
      ))),
      (λ both. absurd (omega (arith, both.0, skipped, some.1))),
    )
  ]

pub damage_counts : (bytes text : List ℕ) → damage_text_of bytes ≡ Some text
    → (text ≡ []) ↔ ((skipped_count bytes ≡ 0) × (torn_len bytes ≡ 0))
damage_counts bytes text is = go (log_of bytes) refl is
  where
    go : (r : LogReading) → log_of bytes ≡ r → text_by_parts damage_on torn_on (lines_of bytes) (rest_of bytes) r ≡ Some text
        → (text ≡ []) ↔ ((skipped_count bytes ≡ 0) × (torn_len bytes ≡ 0))
    go (Log v es) reads some =
        let same : text_told bytes v es reads ≡ text = cc some in
        subst (λ (t : List ℕ). (t ≡ []) ↔ ((skipped_count bytes ≡ 0) × (torn_len bytes ≡ 0))) same (counts bytes v es reads)
    go OtherVersion reads none = absurd (cc none)
    go NotALog reads none = absurd (cc none)

-- a text of entries has no other line, and nothing is torn
of_entries : (es : List Entry) → All IsEntry es → length (text_of es) ≤ max_log → damage_text_of (text_of es) ≡ Some []
of_entries es all fits =
    let split = text_split es all in
    let whole : texts_from (damage_on 5) 2 (map line_of es) ≡ [] = elim (counted 5 2 (map line_of es)) [
      | inl none ↦ none.0
      | inr some ↦ absurd (omega (arith, some.1, ap length (entries_back es all), length-map es line_of))
    ] in
    ap (text_by_parts damage_on torn_on (lines_of (text_of es)) (rest_of (text_of es))) (log_of-text es all fits)
    ∙ (λ i. Some (texts_from (damage_on 5) 2 (drop 1 (split.0 i)) ++ torn_on 5 (length (split.0 i) + 1) (split.1 i)))
    ∙ ap (λ (t : List ℕ). Some (t ++ [])) whole

pub repaired_whole : (bytes : List ℕ) → repaired_text bytes ≡ Some bytes → damage_text_of bytes ≡ Some []
repaired_whole bytes is = go (log_of bytes) refl is
  where
    go : (r : LogReading) → log_of bytes ≡ r → option_map (λ (h : History). text_of (table h)) (history_of_log r) ≡ Some bytes
        → damage_text_of bytes ≡ Some []
    go (Log v es) reads some =
        let held : List Entry = table (logged v es) in
        let same : text_of held ≡ bytes = cc some in
        let short : length (text_of held) ≤ max_log = omega (arith, log_fits bytes v es reads, ap length same) in
        subst (λ (bs : List ℕ). damage_text_of bs ≡ Some []) same (of_entries held (logged_valid bytes v es reads) short)
    go OtherVersion reads none = absurd (cc none)
    go NotALog reads none = absurd (cc none)
