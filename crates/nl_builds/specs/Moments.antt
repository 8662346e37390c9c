-- When a build began, in nanoseconds from before all that there can be, and how two such moments stand (docs/BUILDS.md, "When a build began").
use Rattle.std.specs.Prelude.{ℕ, ◌+◌, ◌*◌, ◌-◌, ◌^◌, Bool, nat_lt}

abbrev pub nanos : ℕ → ℕ
nanos ms = ms * 1000000

-- nanoseconds by which the clocks of a file system and of a build may differ, and two that tell of one moment by START and by END
abbrev pub slack : ℕ
slack = 20000000

abbrev pub agreement : ℕ
agreement = 6000000

abbrev pub one_moment : ℕ
one_moment = 10000000

-- when a build began, if MTIME is at `ms` of it
abbrev pub moment_at : ℕ → ℕ → ℕ
moment_at mtime ms = mtime + nanos (2 ^ 32 - ms)

-- by more than so much
abbrev pub is_past : ℕ → ℕ → ℕ → Bool
is_past much from to = nat_lt (from + much) to

-- the END of a build that began then, from as long before as START and END count
abbrev pub end_of : ℕ → ℕ → ℕ
end_of began ended = began + nanos ended

-- a moment and the slack reach it
abbrev pub reaches : ℕ → ℕ → Bool
reaches end moment = nat_lt end (moment + nanos (2 ^ 31) + slack)
