-- The lanes of commands, each of which begins where another is free (docs/CLI.md, "`trace`").
use Rattle.std.specs.Prelude.{ℕ, zero, suc, ◌*◌, ◌/◌, ◌<◌, ◌≤◌, nat_le, List, [], ◌∷◌, length, slice_index, slice_index_or, if◌then◌else◌}
use Rattle.nl_reports.specs.Spans.{closed_of}
use Rattle.nl_reports.specs.declared.moments.Span.{Span}
use Rattle.nl_reports.specs.declared.lanes.Lanes.{Lanes}

-- the first lane that is free at a moment, by the ends of the lanes' last commands; a new lane if none is free
abbrev pub first_free : ℕ → List ℕ → ℕ
first_free at [] = 0
first_free at (end ∷ ends) = if nat_le end at then 0 else suc (first_free at ends)

-- the lane's last command is then one that ends at this moment
abbrev pub given : ℕ → ℕ → List ℕ → List ℕ
given lane end [] = end ∷ []
given zero end (e ∷ ends) = end ∷ ends
given (suc lane) end (e ∷ ends) = e ∷ given lane end ends

-- the commands are in the order of START
abbrev pub lanes_from : List ℕ → List Span → List ℕ
lanes_from ends [] = []
lanes_from ends (c ∷ cs) = first_free c.began ends ∷ lanes_from (given (first_free c.began ends) (closed_of c) ends) cs

abbrev pub lanes : List Span → List ℕ
lanes cs = lanes_from [] cs

-- each begins no earlier than those before it
abbrev pub Begin : List Span → Type 0
Begin cs = (i j : ℕ) (d : Span) → i ≤ j → j < length cs → (slice_index_or cs i d).began ≤ (slice_index_or cs j d).began

-- no lane ends before the least end of its block
pub record AreLow (l : Lanes) : Type 0 where
  pub covered : length l.ends.items ≤ length l.least.items * 1024
  pub low : (i : ℕ) → i < length l.ends.items → slice_index l.least.items (i / 1024) ≤ slice_index l.ends.items i

-- at a moment the lanes from one on, up to another, are busy
abbrev pub AreBusy : ℕ → ℕ → ℕ → List ℕ → Type 0
AreBusy at from to ends = (i : ℕ) → from ≤ i → i < to → i < length ends → at < slice_index ends i
