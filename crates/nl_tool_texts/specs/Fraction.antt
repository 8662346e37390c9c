-- Fractions as they are told.
use Rattle.std.specs.Prelude.{ℕ, ◌*◌, ◌/◌, ◌%◌, ◌==◌, nat_le, List, ◌++◌, codes, decimal, if◌then◌else◌}

-- two digits after the point, rounded down; 0.00 if the whole is 0
abbrev pub ratio : ℕ → ℕ → List ℕ
ratio n d = if d == 0 then codes "0.00" else
    decimal (n / d) ++ codes "." ++ decimal (n % d * 100 / d / 10) ++ decimal (n % d * 100 / d % 10)

-- the part in a hundred of a whole, rounded down, and a hundred at most
abbrev pub percent : ℕ → ℕ → ℕ
percent part whole = if whole == 0 then 0 else (if nat_le whole part then 100 else part * 100 / whole)
