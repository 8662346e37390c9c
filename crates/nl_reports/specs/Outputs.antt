-- Which command has an output.
use Rattle.std.specs.Prelude.{◌≡◌, ℕ, ◌+◌, bytes_eq, List, [], ◌∷◌, ◌++◌, map}
use Rattle.std.specs.Borrow.{Bor}
use Rattle.std.specs.Map.{lookup}
use Rattle.nl_fields.specs.declared.entry.Entry.{Entry}
use Rattle.nl_tool_texts.specs.Lists.{last_at}
use Rattle.nl_reports.specs.Jobs.{Job}

-- each output has the place of its command; the first command stands at `place`
abbrev pub outputs_at : ℕ → List Entry → List (List ℕ × ℕ)
outputs_at place es = map (λ (e : Entry). (e.name, place)) es

abbrev pub places_from : ℕ → List Job → List (List ℕ × ℕ)
places_from place [] = []
places_from place (j ∷ js) = outputs_at place j.outputs ++ places_from (place + 1) js

abbrev pub places_of : List Job → List (List ℕ × ℕ)
places_of js = places_from 0 js

-- the map has for each name what the last of these pairs says
abbrev pub HoldPlaces : List (List ℕ × ℕ) → List (Bor (List ℕ) × ℕ) → Type 0
HoldPlaces ps es = (name : List ℕ) → lookup (λ k. bytes_eq name k.now) es ≡ last_at ps name
