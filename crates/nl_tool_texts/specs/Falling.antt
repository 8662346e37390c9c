-- Items by rank, the highest first.
use Rattle.std.specs.Prelude.{ℕ, ◌==◌, nat_le, List, [], ◌∷◌, if◌then◌else◌}
use Rattle.std.specs.List.{filter}

-- the element stands before the first that ranks no higher
abbrev pub put : {A : Type 0} → (A → ℕ) → A → List A → List A
put rank x [] = x ∷ []
put rank x (y ∷ ys) = if nat_le (rank y) (rank x) then x ∷ y ∷ ys else y ∷ put rank x ys

-- the highest rank comes first, and elements of one rank keep their order
abbrev pub falling : {A : Type 0} → (A → ℕ) → List A → List A
falling rank [] = []
falling rank (x ∷ xs) = put rank x (falling rank xs)

abbrev pub ranked : {A : Type 0} → (A → ℕ) → ℕ → List A → List A
ranked rank v xs = filter (λ x. rank x == v) xs
