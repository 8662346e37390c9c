-- When the build of a line began, in whole milliseconds (docs/NINJA_TIMES.md, "Which output was made since").
use Rattle.std.specs.Prelude.{ℕ, pos, ◌+◌, ◌-◌, ◌/◌, ◌%◌, ◌^◌, ◌==◌, ◌&&◌, ◌||◌, Bool, int_lt, nat_le, nat_lt, min, max, List, [], ◌∷◌, map, if◌then◌else◌}
use Rattle.std.specs.Int.RustNames.{unsigned_abs}
use Rattle.std.specs.List.{filter, list_all, list_any}
use Rattle.nl_fields.specs.declared.entry.Entry.{Entry}
use Rattle.nl_builds.specs.Commands.{moment}
use Rattle.nl_versions.specs.declared.entries.Stamps.{Stamps}
use Rattle.nl_versions.specs.declared.entries.Stamps.TheVariants.{Unknown, OfEnd, OfStart}

-- ---- what a line tells, where MTIME is when its command started, or its output's own time

-- an MTIME that isn't above 0 tells nothing
abbrev pub tells : Entry → Bool
tells e = int_lt (pos 0) e.mtime

-- a log of version 4 or 5 has none
abbrev pub lines_that_tell : Stamps → List Entry → List Entry
lines_that_tell OfStart es = filter tells es
lines_that_tell OfEnd es = []
lines_that_tell Unknown es = []

abbrev pub at_of : Entry → ℕ
at_of e = unsigned_abs e.mtime / 1000000

-- MTIME less START, from before all that there can be: its build began then, or before
abbrev pub m_of : Entry → ℕ
m_of e = at_of e + (2 ^ 32 - moment e.start_ms)

-- MTIME less END: its build began then, or later
abbrev pub lo_of : Entry → ℕ
lo_of e = at_of e + (2 ^ 32 - moment e.end_ms)

-- 0 if the command ended before it began
abbrev pub length_of : Entry → ℕ
length_of e = moment e.end_ms - moment e.start_ms

-- ---- what all lines tell of one

-- if each MTIME is of a whole second, the file system counts seconds, and a time may be a second early
abbrev pub is_whole : Entry → Bool
is_whole e = unsigned_abs e.mtime % 1000000000 == 0

abbrev pub tick_of : List Entry → ℕ
tick_of ls = if list_all is_whole ls then 1000 else 0

-- L: the greatest MTIME less END of the lines whose MTIME isn't later than this, because builds don't overlap
abbrev pub bound : List Entry → ℕ → ℕ
bound [] at = 0
bound (x ∷ xs) at = if nat_le (at_of x) at then max (lo_of x) (bound xs at) else bound xs at

-- the lengths of the commands whose MTIME less START is from one moment up to another
abbrev pub lengths_between : ℕ → ℕ → List Entry → List ℕ
lengths_between from to [] = []
lengths_between from to (x ∷ xs) =
    if nat_le from (m_of x) && nat_le (m_of x) to then length_of x ∷ lengths_between from to xs else lengths_between from to xs

-- one of two lengths is above what the other allows
abbrev pub differ : (ℕ → ℕ) → List ℕ → Bool
differ allows ns = list_any (λ a. list_any (λ b. nat_lt (allows a) b) ns) ns

-- the least moment from `from` on, and at most the line's own
abbrev pub least_from : ℕ → ℕ → List ℕ → ℕ
least_from from own [] = own
least_from from own (m ∷ ms) = if nat_le from m then min m (least_from from own ms) else least_from from own ms

-- commands within 8 ms of a line's own moment differ by more than 12 ms and a fifth, so its MTIME is when its command started
abbrev pub is_start : List Entry → ℕ → Bool
is_start ls own = differ (λ a. a + max 12 (a / 5)) (lengths_between (own - 8) (own + 8) ls)

-- then no moment counts for the line that is more than 8 ms before its own
abbrev pub nearest : List Entry → ℕ → ℕ
nearest ls own = if is_start ls own then own - 8 else 0

-- M: the least MTIME less START of any line from 5 ms before L on, and at most its own
abbrev pub begun_by : List Entry → ℕ → ℕ → ℕ
begun_by ls at own = least_from (max (bound ls at - (5 + tick_of ls)) (nearest ls own)) own (map m_of ls)

abbrev pub begun : List Entry → Entry → ℕ
begun ls e = begun_by ls (at_of e) (m_of e)

-- within 6 ms after M a command of at most 12 ms began, or two whose lengths differ by more
abbrev pub is_sure : List Entry → ℕ → Bool
is_sure ls m =
    let ns = lengths_between m (m + 6) ls in
    list_any (λ a. nat_le a 12) ns || differ (λ a. a + 12) ns
