-- What a file says, one line after another.
use Rattle.std.proofs.Common.{◌≡◌, ◌∙◌, ℕ, ◌+◌, ◌≤◌, nat_le, List, [], ◌∷◌, ◌++◌, length, refl, sym, ap, subst, inl, inr, arith}
use Rattle.std.proofs.Common.{length-append, leb-true}
use Rattle.std.specs.Prelude.{Option, None, Some}
use Rattle.std.proofs.lemmas.Bool.{cases_Bool, cond-true, cond-false, le-leb}
use Rattle.nl_lines.specs.Lines.{Reader, HasEnded, IsReading, TakesLine, TakesRest, TakesLines, TakesAll, fresh, lent_rest, max_line}
use Rattle.nl_lines.proofs.LinesLemmas.{TakesLines_none, TakesLines_more, TakesLines_rest}
use Rattle.nl_tool_texts.specs.Files.{OfBytes}
use Rattle.nl_tool_texts.proofs.FileLemmas.{all_lines}
use Rattle.nl_tool_change.specs.Files.{FileReading, Says, BadAt, part_on, said_before, said_from, said_after, said_of, said_by}

module _ {T : Type 0} (part_of : List ℕ → Option T) where
  -- a later line doesn't change what an earlier one says
  before_after : (o : Option T) (n m : ℕ) (line : List ℕ) (later : FileReading T)
      → said_before o n (said_after part_of m line later) ≡ said_after part_of m line (said_before o n later)
  before_after None n m line later = refl
  before_after (Some p) n m line (BadAt k) = refl
  before_after (Some p) n m [] (Says ps) = refl
  before_after (Some p) n m (b ∷ line) (Says ps) = by_part (part_on part_of (b ∷ line))
    where
      by_part : (o : Option T) → said_before (Some p) n (elim o [ None ↦ BadAt m | Some part ↦ Says (ps ++ part ∷ []) ])
          ≡ elim o [ None ↦ BadAt m | Some part ↦ Says ((p ∷ ps) ++ part ∷ []) ]
      by_part None = refl
      by_part (Some part) = refl

  first_said : (n : ℕ) (line : List ℕ) → said_from part_of n (line ∷ []) ≡ said_after part_of n line (Says [])
  first_said n [] = refl
  first_said n (b ∷ line) = by_part (part_on part_of (b ∷ line))
    where
      by_part : (o : Option T) → said_before o n (Says []) ≡ elim o [ None ↦ BadAt n | Some part ↦ Says ([] ++ part ∷ []) ]
      by_part None = refl
      by_part (Some part) = refl

  pub said_from-push : (n : ℕ) (lines : List (List ℕ)) (line : List ℕ)
      → said_from part_of n (lines ++ line ∷ []) ≡ said_after part_of (n + length lines) line (said_from part_of n lines)
  said_from-push n [] line =
      subst (λ (m : ℕ). said_from part_of n (line ∷ []) ≡ said_after part_of m line (Says [])) (omega arith) (first_said n line)
  said_from-push n ([] ∷ lines) line =
      said_from-push (n + 1) lines line ∙ ap (λ (m : ℕ). said_after part_of m line (said_from part_of (n + 1) lines)) (omega arith)
  said_from-push n ((b ∷ l) ∷ lines) line =
      ap (said_before (part_on part_of (b ∷ l)) n) (said_from-push (n + 1) lines line)
      ∙ before_after (part_on part_of (b ∷ l)) n (n + 1 + length lines) line (said_from part_of (n + 1) lines)
      ∙ ap (λ (m : ℕ). said_after part_of m line (said_before (part_on part_of (b ∷ l)) n (said_from part_of (n + 1) lines))) (omega arith)

  -- the lines so far said this
  pub record Telling (a : Option (List ℕ)) (now : Reader) (b : Option (List ℕ)) (parts : List T) (bad : Option ℕ) (count : ℕ) : Type 0 where
    pub lines : List (List ℕ)
    pub given : TakesLines fresh a now b lines
    pub said : said_of parts bad ≡ said_from part_of 1 lines
    pub counted : count ≡ length lines
    pub within : count ≤ now.position

  pub Telling_none : (a : Option (List ℕ)) (parts : List T) → parts ≡ [] → Telling a fresh a parts None 0
  Telling_none a parts none = record {
    lines = [];
    given = TakesLines_none fresh a (omega arith) refl;
    said = ap Says none;
    counted = refl;
    within = omega arith;
  }

  -- the reader has not ended
  pub Telling_reading : (a : Option (List ℕ)) (now : Reader) (b : Option (List ℕ)) (parts : List T) (bad : Option ℕ) (count : ℕ)
      → Telling a now b parts bad count → HasEnded now → ⊥
  Telling_reading a now b parts bad count telling ended = let reading : IsReading now = telling.given.is in cc

  module _ (a : Option (List ℕ)) (now : Reader) (b : Option (List ℕ)) (parts : List T) (bad : Option ℕ) (count : ℕ)
      (telling : Telling a now b parts bad count) (new : Reader) (c : Option (List ℕ)) where
    -- what they say with one line more
    said_more : (line : List ℕ) (new_parts : List T) (new_bad : Option ℕ) (new_count : ℕ)
        → said_of new_parts new_bad ≡ said_after part_of new_count line (said_of parts bad) → new_count ≡ count + 1
        → said_of new_parts new_bad ≡ said_from part_of 1 (telling.lines ++ line ∷ [])
    said_more line new_parts new_bad new_count said more =
        said ∙ ap (said_after part_of new_count line) telling.said
        ∙ ap (λ (m : ℕ). said_after part_of m line (said_from part_of 1 telling.lines)) (omega (arith, more, telling.counted))
        ∙ sym (said_from-push 1 telling.lines line)

    pub Telling_more : (line : List ℕ) (new_parts : List T) (new_bad : Option ℕ) (new_count : ℕ) → TakesLine now b new c line
        → said_of new_parts new_bad ≡ said_after part_of new_count line (said_of parts bad) → new_count ≡ count + 1
        → Telling a new c new_parts new_bad new_count
    Telling_more line new_parts new_bad new_count takes said more = record {
      lines = telling.lines ++ line ∷ [];
      given = TakesLines_more fresh a now b telling.lines telling.given new c line takes;
      said = said_more line new_parts new_bad new_count said more;
      counted = omega (arith, more, telling.counted, length-append telling.lines (line ∷ []));
      within = omega (arith, more, telling.within, takes.position, length-append line (10 ∷ []));
    }

    -- all of the file: what the lines and the rest say
    all_said : (rest : List ℕ) → TakesAll fresh a c telling.lines rest
        → (new_parts : List T) (new_bad : Option ℕ) → said_of new_parts new_bad ≡ said_from part_of 1 (telling.lines ++ rest ∷ [])
        → OfBytes a (λ bytes. said_by part_of bytes ≡ said_of new_parts new_bad)
    all_said rest all new_parts new_bad said =
        let file = all_lines a c telling.lines rest all in
        record { bytes = file.bytes; given = file.given; holds = ap (said_from part_of 1) file.holds ∙ sym said }

    pub Telling_rest : (rest : List ℕ) → TakesRest now b new c rest → (new_parts : List T) (new_bad : Option ℕ) (new_count : ℕ)
        → said_of new_parts new_bad ≡ said_after part_of new_count rest (said_of parts bad) → new_count ≡ count + 1
        → OfBytes a (λ bytes. said_by part_of bytes ≡ said_of new_parts new_bad)
    Telling_rest rest takes new_parts new_bad new_count said more =
        all_said rest (TakesLines_rest fresh a now b telling.lines telling.given new c rest takes) new_parts new_bad
        (said_more rest new_parts new_bad new_count said more)

    pub Telling_end : TakesRest now b new c [] → OfBytes a (λ bytes. said_by part_of bytes ≡ said_of parts bad)
    Telling_end takes =
        all_said [] (TakesLines_rest fresh a now b telling.lines telling.given new c [] takes) parts bad
        (said_more [] parts bad (count + 1) (nothing (said_of parts bad)) refl)
      where
        nothing : (reading : FileReading T) → reading ≡ said_after part_of (count + 1) [] reading
        nothing (Says ps) = refl
        nothing (BadAt n) = refl

-- the rest as it is lent fits in a line
pub lent_is_short : (rest lent : List ℕ) → lent ≡ lent_rest rest → length lent ≤ max_line
lent_is_short rest lent is = elim (cases_Bool (nat_le (length rest) max_line)) [
  | inl short ↦ omega (arith, ap length (is ∙ cond-true _ rest [] short), leb-true (length rest) max_line short)
  | inr long ↦ omega (arith, ap length (is ∙ cond-false _ rest [] long))
]

-- and is all of it, if it does
pub lent_all : (rest lent : List ℕ) → length rest ≤ max_line → lent ≡ lent_rest rest → lent ≡ rest
lent_all rest lent short is = is ∙ cond-true _ rest [] (le-leb (length rest) max_line short)
