-- What spans span together, each of which stands at a place: the first place, the least value and the greatest.
use Rattle.std.specs.Prelude.{◌≡◌, ℕ, ◌&&◌, nat_le, min, max, List, [], ◌∷◌, Option, None, Some, if◌then◌else◌}
use Rattle.std.specs.List.Sorted.{IsNonDecreasingBy}
use Rattle.nl_tool_doubt.specs.declared.spans.Span.{Span}

abbrev pub one : ℕ → ℕ → Span
one place value = record { first = place; least = value; greatest = value }

abbrev pub both : Option Span → Option Span → Option Span
both (Some x) (Some y) = Some (record { first = min x.first y.first; least = min x.least y.least; greatest = max x.greatest y.greatest })
both (Some x) None = Some x
both None y = y

abbrev pub if_within : ℕ → ℕ → Span → Option Span
if_within from to s = if nat_le from s.first && nat_le s.first to then Some s else None

abbrev pub within : ℕ → ℕ → List Span → Option Span
within from to [] = None
within from to (s ∷ ss) = both (if_within from to s) (within from to ss)

-- two lists span the same between any two places
abbrev pub Alike : List Span → List Span → Type 0
Alike ss ts = (from to : ℕ) → within from to ss ≡ within from to ts

abbrev pub Rises : List Span → Type 0
Rises ss = IsNonDecreasingBy (λ (s : Span). s.first) ss

-- each span gets the greatest value up to it
abbrev pub sums : ℕ → List Span → List Span
sums most [] = []
sums most (s ∷ ss) = record s { greatest = max most s.greatest } ∷ sums (max most s.greatest) ss

abbrev pub greatest_of : Option Span → ℕ
greatest_of None = 0
greatest_of (Some s) = s.greatest
