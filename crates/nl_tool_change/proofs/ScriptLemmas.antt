-- The events of a script, one line after another.
use Rattle.std.proofs.Common.{◌≡◌, ◌∙◌, ℕ, ℤ, ◌<◌, nat_le, List, [], ◌∷◌, ◌++◌, length, map, refl, sym, ap, subst, inl, inr, arith}
use Rattle.std.specs.Prelude.{Option}
use Rattle.std.specs.List.{All as Each, filter, flat_map}
use Rattle.std.proofs.lemmas.Bool.{cases_Bool, cond-true, cond-false}
use Rattle.std.proofs.lemmas.List.{append-nil, append_assoc, map-append}
use Rattle.std.proofs.lemmas.List.Elements.{All-append, All-cons, All-nil, filter-append}
use Rattle.std.proofs.lemmas.Grind.{flat_map-append}
use Rattle.nl_fields.specs.Digits.{decimal_of}
use Rattle.nl_lines.specs.Lines.{Reader, HasEnded, IsReading, TakesLine, TakesRest, TakesLines, fresh, lent_rest, max_line}
use Rattle.nl_lines.proofs.LinesLemmas.{TakesLines_none, TakesLines_more, TakesLines_rest}
use Rattle.nl_session.specs.declared.events.Event.{Event}
use Rattle.nl_tool_texts.specs.Files.{OfBytes, file_lines}
use Rattle.nl_tool_change.specs.Replay.{IsScript, IsSetting, KeepsSome, TakesScriptLine, event_line, is_filled, time_fields}
use Rattle.nl_tool_texts.proofs.FileLemmas.{all_lines}

-- the events with one line more
IsScript_more : (lines : List (List ℕ)) (old new : List Event) (line : List ℕ) → IsScript lines old → TakesScriptLine old new line
    → IsScript (lines ++ line ∷ []) new
IsScript_more lines old new [] script same = record {
  settings = script.settings;
  set = script.set;
  is = filter-append is_filled lines ([] ∷ []) ∙ append-nil (filter is_filled lines) ∙ script.is
      ∙ ap (λ (events : List Event). script.settings ++ map event_line events) (sym same);
  some = subst (Each KeepsSome) (sym same) script.some;
}
IsScript_more lines old new (b ∷ line) script (inl setting) =
    let settings = script.settings ++ (b ∷ line) ∷ [] in
    record {
      settings = settings;
      set = All-append IsSetting script.settings ((b ∷ line) ∷ []) script.set
          (All-cons IsSetting (b ∷ line) [] setting.0 (All-nil IsSetting));
      is = filter-append is_filled lines ((b ∷ line) ∷ [])
          ∙ ap (λ (l : List (List ℕ)). l ++ (b ∷ line) ∷ [])
          (script.is ∙ ap (λ (events : List Event). script.settings ++ map event_line events) setting.1 ∙ append-nil script.settings)
          ∙ sym (append-nil settings) ∙ ap (λ (events : List Event). settings ++ map event_line events) (sym setting.2);
      some = subst (Each KeepsSome) (sym setting.2) (All-nil KeepsSome);
    }
IsScript_more lines old new (b ∷ line) script (inr (event, says, keeps, more)) = record {
  settings = script.settings;
  set = script.set;
  is = filter-append is_filled lines ((b ∷ line) ∷ []) ∙ ap (λ (l : List (List ℕ)). l ++ (b ∷ line) ∷ []) script.is
      ∙ append_assoc script.settings (map event_line old) ((b ∷ line) ∷ [])
      ∙ ap (λ (l : List (List ℕ)). script.settings ++ l)
      (ap (λ (l : List ℕ). map event_line old ++ l ∷ []) says ∙ sym (map-append event_line old (event ∷ [])))
      ∙ ap (λ (events : List Event). script.settings ++ map event_line events) (sym more);
  some = subst (Each KeepsSome) (sym more)
      (All-append KeepsSome old (event ∷ []) script.some (All-cons KeepsSome event [] keeps (All-nil KeepsSome)));
}

-- the lines so far are a script with these events
pub record Scripted (a : Option (List ℕ)) (now : Reader) (b : Option (List ℕ)) (events : List Event) : Type 0 where
  pub lines : List (List ℕ)
  pub given : TakesLines fresh a now b lines
  pub script : IsScript lines events

pub Scripted_none : (a : Option (List ℕ)) (events : List Event) → events ≡ [] → Scripted a fresh a events
Scripted_none a events none = record {
  lines = [];
  given = TakesLines_none fresh a (omega arith) refl;
  script = record {
    settings = [];
    set = All-nil IsSetting;
    is = ap (map event_line) (sym none);
    some = subst (Each KeepsSome) (sym none) (All-nil KeepsSome);
  };
}

-- the reader has not ended
pub Scripted_reading : (a : Option (List ℕ)) (now : Reader) (b : Option (List ℕ)) (events : List Event) → Scripted a now b events
    → HasEnded now → ⊥
Scripted_reading a now b events scripted ended = let reading : IsReading now = scripted.given.is in cc

module _ (a : Option (List ℕ)) (now : Reader) (b : Option (List ℕ)) (events : List Event) (scripted : Scripted a now b events)
    (new : Reader) (c : Option (List ℕ)) where
  pub Scripted_more : (line : List ℕ) (more : List Event) → TakesLine now b new c line → TakesScriptLine events more line
      → Scripted a new c more
  Scripted_more line more takes says = record {
    lines = scripted.lines ++ line ∷ [];
    given = TakesLines_more fresh a now b scripted.lines scripted.given new c line takes;
    script = IsScript_more scripted.lines events more line scripted.script says;
  }

  pub Scripted_rest : (rest : List ℕ) (more : List Event) → TakesRest now b new c rest → TakesScriptLine events more rest
      → OfBytes a (λ bytes. IsScript (file_lines bytes) more)
  Scripted_rest rest more takes says =
      let file = all_lines a c scripted.lines rest (TakesLines_rest fresh a now b scripted.lines scripted.given new c rest takes) in
      record {
        bytes = file.bytes;
        given = file.given;
        holds = subst (λ (lines : List (List ℕ)). IsScript lines more) (sym file.holds)
            (IsScript_more scripted.lines events more rest scripted.script says);
      }

  pub Scripted_end : TakesRest now b new c [] → OfBytes a (λ bytes. IsScript (file_lines bytes) events)
  Scripted_end takes = Scripted_rest [] events takes refl

-- a rest that is lent, and isn't empty, is all of it
pub lent_whole : (rest lent : List ℕ) → lent ≡ lent_rest rest → 0 < length lent → lent ≡ rest
lent_whole rest lent is some = elim (cases_Bool (nat_le (length rest) max_line)) [
  | inl short ↦ is ∙ cond-true _ rest [] short
  | inr long ↦ absurd (omega (arith, some, ap length (is ∙ cond-false _ rest [] long)))
]

-- an mtime and a name more, and what is left behind them
pub pairs_more : (pairs : List (List ℕ × ℤ)) (time name left text : List ℕ) (mtime : ℤ) → time ≡ decimal_of mtime
    → flat_map time_fields pairs ++ 9 ∷ (time ++ 9 ∷ (name ++ left)) ≡ text
    → flat_map time_fields (pairs ++ (name, mtime) ∷ []) ++ left ≡ text
pairs_more pairs time name left text mtime spelled whole =
    let fields = flat_map time_fields pairs in
    ap (λ (l : List ℕ). l ++ left)
    (flat_map-append time_fields pairs ((name, mtime) ∷ []) ∙ ap (λ (l : List ℕ). fields ++ l) (append-nil (time_fields (name, mtime))))
    ∙ append_assoc fields (time_fields (name, mtime)) left
    ∙ ap (λ (l : List ℕ). fields ++ 9 ∷ l)
    (append_assoc (decimal_of mtime) (9 ∷ name) left ∙ ap (λ (l : List ℕ). l ++ 9 ∷ (name ++ left)) (sym spelled))
    ∙ whole
