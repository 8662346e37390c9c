-- What a new file in the place of a log lets anyone do (docs/SECURITY.md).
use Rattle.std.specs.Prelude.{ℕ, ◌≤◌}
use Rattle.std.specs.Int.{bit_at}

-- each bit of the one is a bit of the other
abbrev pub IsWithin : ℕ → ℕ → Type 0
IsWithin new old = (i : ℕ) → bit_at new i ≤ bit_at old i
