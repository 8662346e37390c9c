-- What stands in lists: by places, and by keys.
use Rattle.std.specs.Prelude.{ℕ, bytes_eq, fold, List, drop, take, Option, None, Some, if◌then◌else◌}

-- what stands from one place to another
abbrev pub between : {A : Type 0} → ℕ → ℕ → List A → List A
between from to xs = drop from (take to xs)

-- the last pair of a key counts
abbrev pub later : {V : Type 0} → List ℕ → Option V → List ℕ × V → Option V
later key found p = if bytes_eq p.0 key then Some p.1 else found

abbrev pub last_at : {V : Type 0} → List (List ℕ × V) → List ℕ → Option V
last_at pairs key = fold (later key) None pairs
