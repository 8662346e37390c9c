-- How many commands run at each moment, and what of it each one counts for.
use Rattle.std.specs.Prelude.{ℕ, zero, suc, ◌+◌, ◌/◌, ◌%◌, ◌==◌, ◌&&◌, Bool, nat_le, nat_lt, List, max, count_by, if◌then◌else◌}
use Rattle.std.specs.List.{fold}
use Rattle.nl_reports.specs.declared.moments.Span.{Span}

-- the sum of a function at each moment before this one
abbrev pub before : (ℕ → ℕ) → ℕ → ℕ
before f zero = 0
before f (suc t) = before f t + f t

-- a command runs at a moment
abbrev pub runs_at : ℕ → Span → Bool
runs_at t s = nat_le s.began t && nat_lt t s.ended

-- how many of the commands run at it
abbrev pub running : List Span → ℕ → ℕ
running cs t = count_by (runs_at t) cs

-- how many run at a time at most: as many as when one of them begins
abbrev pub most_at_once : List Span → ℕ
most_at_once cs = fold (λ most s. max most (running cs s.began)) 0 cs

-- a millisecond has so many parts: up to 22 commands share it with nothing left
abbrev pub parts : ℕ
parts = 232792560

-- in a millisecond in which so many run: what each of them counts for, what is left, and whether any runs, or one alone
abbrev pub share_of : ℕ → ℕ
share_of k = if k == 0 then 0 else parts / k

abbrev pub left_of : ℕ → ℕ
left_of k = if k == 0 then 0 else parts % k

abbrev pub any_of : ℕ → ℕ
any_of k = if k == 0 then 0 else 1

abbrev pub alone_of : ℕ → ℕ
alone_of k = if k == 1 then 1 else 0

-- the moment after which none of them runs
abbrev pub last_moment : List Span → ℕ
last_moment cs = fold (λ at s. max at s.ended) 0 cs

-- the milliseconds in which one at least runs, and those in which one alone does
abbrev pub busy_time : List Span → ℕ
busy_time cs = before (λ t. any_of (running cs t)) (last_moment cs)

abbrev pub alone_time : List Span → ℕ
alone_time cs = before (λ t. alone_of (running cs t)) (last_moment cs)

-- the weighted time of a command among others, in parts of a millisecond: its share of each millisecond in which it runs
abbrev pub weight : List Span → Span → ℕ
weight cs s = before (λ t. if runs_at t s then share_of (running cs t) else 0) (last_moment cs)

-- the parts that are left over where shares don't come out even
abbrev pub left_over : List Span → ℕ
left_over cs = before (λ t. left_of (running cs t)) (last_moment cs)
