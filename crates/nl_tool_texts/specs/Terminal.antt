-- What the writer behind a `TerminalWriter` has, and what it has yet to get (docs/CLI.md, "At a terminal").
use Rattle.std.specs.Prelude.{◌≡◌, ℕ, List, [], drop, take, Option, MatchResult, OnOk, Result}
use Rattle.std.specs.Io.KnownBytes.{Appends, Keeps, append_known}
use Rattle.nl_tool_texts.specs.Columns.{begun_by, by_numbers, shown_of}
use Rattle.nl_tool_texts.specs.declared.terminal_writer.TerminalWriter.{TerminalWriter}

-- what the writer behind has, with what waits for it, and the bytes of a character that is begun
pub record Showing : Type 0 where
  pub shown : Option (List ℕ)
  pub begun : List ℕ

abbrev pub showing_of : {W : Type 0} → (W → Option (List ℕ)) → TerminalWriter W → Showing
showing_of contents w = record { shown = append_known (contents w.writer) (drop w.sent w.waiting.items); begun = w.begun.items }

-- after Ok of a write the bytes that it took are shown, and what they begin is kept; else all is as before
abbrev pub ShowsMore : {E : Type 0} → Showing → Showing → Result ℕ E → List ℕ → Type 0
ShowsMore old new result bytes = MatchResult result
    (λ n. Appends old.shown new.shown (shown_of old.begun (take n bytes)) × (new.begun ≡ begun_by old.begun (take n bytes)))
    (λ _. Keeps old.shown new.shown × (new.begun ≡ old.begun))

-- all of it, as it is if nothing comes behind
abbrev pub shown_whole : Showing → Option (List ℕ)
shown_whole showing = append_known showing.shown (by_numbers showing.begun)

-- nothing else is shown, and after Ok the writer behind has all of it
abbrev pub Ends : {A E : Type 0} → Showing → Showing → Option (List ℕ) → Result A E → Type 0
Ends old new has result = Keeps (shown_whole old) (shown_whole new) × OnOk result (Keeps (shown_whole old) has × (new.begun ≡ []))
