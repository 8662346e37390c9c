-- The steps of a sweep.
use Rattle.std.specs.Prelude.{◌≡◌, ℕ, ◌-◌, ◌*◌, ◌<◌, ◌≤◌, ◌^◌, nat_le, List, length, map, take, count_by, slice_index}
use Rattle.nl_reports.specs.Sweep.{before, share_of, any_of, alone_of, parts}
use Rattle.nl_reports.specs.declared.moments.Sums.{Sums}

-- the moments are in order, and none is above 2 ^ 32
pub record Rises (moments : List ℕ) : Type 0 where
  pub order : (i j : ℕ) → i ≤ j → j < length moments → slice_index moments i ≤ slice_index moments j
  pub early : (i : ℕ) → i < length moments → slice_index moments i ≤ 2 ^ 32

-- these have begun at the moment and have not ended
abbrev pub running_by : List ℕ → List ℕ → ℕ → ℕ
running_by starts ends t = count_by (λ s. nat_le s t) starts - count_by (λ e. nat_le e t) ends

abbrev pub shares_before : List ℕ → List ℕ → ℕ → ℕ
shares_before starts ends t = before (λ u. share_of (running_by starts ends u)) t

-- the sums are over the moments before `at`, and `k` commands run at each
pub record AreSums (k : ℕ → ℕ) (s : Sums) : Type 0 where
  pub shares : s.shares ≡ before (λ t. share_of (k t)) s.at
  pub busy : s.busy ≡ before (λ t. any_of (k t)) s.at
  pub alone : s.alone ≡ before (λ t. alone_of (k t)) s.at

-- the sums fit their types
pub record IsLow (s : Sums) : Type 0 where
  pub at : s.at ≤ 2 ^ 32
  pub shares : s.shares ≤ s.at * parts
  pub busy : s.busy ≤ s.at
  pub alone : s.alone ≤ s.at

-- a sweep so far: its sums, and the shares before each start and each end that it has come to
pub record Swept : Type 0 where
  pub sums : Sums
  pub at_starts : List ℕ
  pub at_ends : List ℕ

-- the sweep has come to a moment: the first starts and ends aren't after it, the others aren't before it
pub record IsSwept (starts ends : List ℕ) (s : Swept) : Type 0 where
  pub low : IsLow s.sums
  pub begun : length s.at_starts ≤ length starts
  pub ended : length s.at_ends ≤ length ends
  pub began : (k : ℕ) → k < length s.at_starts → slice_index starts k ≤ s.sums.at
  pub begins : (k : ℕ) → length s.at_starts ≤ k → k < length starts → s.sums.at ≤ slice_index starts k
  pub has_ended : (k : ℕ) → k < length s.at_ends → slice_index ends k ≤ s.sums.at
  pub ends_later : (k : ℕ) → length s.at_ends ≤ k → k < length ends → s.sums.at ≤ slice_index ends k
  pub sums : AreSums (running_by starts ends) s.sums
  pub at_starts : s.at_starts ≡ map (shares_before starts ends) (take (length s.at_starts) starts)
  pub at_ends : s.at_ends ≡ map (shares_before starts ends) (take (length s.at_ends) ends)
