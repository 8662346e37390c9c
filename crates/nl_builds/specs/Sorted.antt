-- Entries by the moments at which their builds began.
use Rattle.std.specs.Prelude.{ℕ, ◌+◌, ◌-◌, ◌*◌, ◌^◌, ◌==◌, nat_le, List, [], ◌∷◌, Option, None, Some, if◌then◌else◌}
use Rattle.std.specs.List.{filter}
use Rattle.nl_fields.specs.declared.entry.Entry.{Entry}
use Rattle.nl_builds.specs.Commands.{latest, moment}
use Rattle.nl_versions.specs.declared.entries.Stamps.{Stamps}
use Rattle.nl_versions.specs.declared.entries.Stamps.TheVariants.{Unknown, OfEnd, OfStart}

-- before the first element that ranks no higher
abbrev pub put : {A : Type 0} → (A → ℕ) → A → List A → List A
put rank x [] = x ∷ []
put rank x (y ∷ ys) = if nat_le (rank y) (rank x) then x ∷ y ∷ ys else y ∷ put rank x ys

-- the highest rank first, and those of one rank in their order
abbrev pub falling : {A : Type 0} → (A → ℕ) → List A → List A
falling rank [] = []
falling rank (x ∷ xs) = put rank x (falling rank xs)

abbrev pub ranked : {A : Type 0} → (A → ℕ) → ℕ → List A → List A
ranked rank v xs = filter (λ x. rank x == v) xs

-- the earlier an entry's END, the higher, and then by its hash, so that the outputs of a command stand beside each other
abbrev pub span_rank : Entry → ℕ
span_rank e = 2 ^ 128 - 1 - (moment e.end_ms * 2 ^ 64 + e.hash)

-- the earlier, the higher, and the highest if it tells nothing
abbrev pub rank_by : Option ℕ → ℕ
rank_by None = 2 ^ 64 - 1
rank_by (Some m) = 2 ^ 64 - 1 - m

-- by MTIME less START; if MTIME is of the end, by MTIME, because a build that follows wrote its outputs later
abbrev pub moment_rank : Stamps → Entry → ℕ
moment_rank OfEnd e = rank_by (latest e.mtime (2 ^ 32 - 1))
moment_rank OfStart e = rank_by (latest e.mtime (moment e.start_ms))
moment_rank Unknown e = rank_by (latest e.mtime (moment e.start_ms))

abbrev pub by_moment : Stamps → List Entry → List Entry
by_moment stamps es = falling (moment_rank stamps) (falling span_rank es)
