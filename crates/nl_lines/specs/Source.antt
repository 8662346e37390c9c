-- When a device failed in a call, by the count of its failures before and after.
use Rattle.std.proofs.Common.{arith}
use Rattle.std.specs.Prelude.{ℕ, ◌+◌, ◌-◌, ◌^◌, ◌<◌, ◌≤◌, min}

-- the count stands still here
abbrev pub last_count : ℕ
last_count = 2 ^ 64 - 1

abbrev pub IsCount : ℕ → Type 0
IsCount count = count ≤ last_count

-- the count after one more failure: it rises by one, up to its last value
abbrev pub one_more : ℕ → ℕ
one_more count = count + min 1 (last_count - count)

-- its count rose, unless it stood at its last value already
abbrev pub FailedBetween : ℕ → ℕ → Type 0
FailedBetween before after = before < last_count → before < after

pub none_is_count : IsCount 0
none_is_count = omega arith

pub one_more_is_count : (count : ℕ) → IsCount count → IsCount (one_more count)
one_more_is_count count is = omega (arith, is)
