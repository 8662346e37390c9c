-- The round steps of an axis of time.
use Rattle.std.specs.Prelude.{◌≡◌, ◌⊎◌, ◌<◌, ◌^◌, ℕ, ◌*◌, nat_le, List, [], ◌∷◌, if◌then◌else◌}

-- milliseconds between lines: the first of these steps of which the build has at most twelve
abbrev pub steps : List ℕ
steps = 1 ∷ 2 ∷ 5 ∷ 10 ∷ 20 ∷ 50 ∷ 100 ∷ 200 ∷ 500 ∷ 1000 ∷ 2000 ∷ 5000 ∷ 10000 ∷ 15000 ∷ 30000 ∷ 60000 ∷ 120000 ∷ 300000 ∷ 900000 ∷ 1800000 ∷ 3600000
    ∷ 7200000 ∷ 18000000 ∷ 36000000 ∷ 72000000 ∷ 180000000 ∷ []

abbrev pub step_in : ℕ → List ℕ → ℕ
step_in wall [] = 360000000
step_in wall (s ∷ ss) = if nat_le wall (s * 12) then s else step_in wall ss

abbrev pub step_of : ℕ → ℕ
step_of wall = step_in wall steps

pub record IsStep (s : ℕ) : Type 0 where
  pub some : 0 < s
  pub early : s < 2 ^ 32

-- one, two or five times a power of ten units
pub record IsDecimal (unit s : ℕ) : Type 0 where
  pub digit : ℕ
  pub zeros : ℕ
  pub is : s ≡ digit * 10 ^ zeros * unit
  pub low : (digit ≡ 1) ⊎ ((digit ≡ 2) ⊎ (digit ≡ 5))

-- a round time is one of milliseconds, of hours, or 15 s, 30 s, 1, 2, 5, 15 and 30 min
abbrev pub IsOfMinutes : ℕ → Type 0
IsOfMinutes s = (s ≡ 15000) ⊎ ((s ≡ 30000) ⊎ ((s ≡ 60000) ⊎ ((s ≡ 120000) ⊎ ((s ≡ 300000) ⊎ ((s ≡ 900000) ⊎ (s ≡ 1800000))))))

abbrev pub IsRound : ℕ → Type 0
IsRound s = IsDecimal 1 s ⊎ (IsDecimal 3600000 s ⊎ IsOfMinutes s)
