-- Where another build begins (docs/BUILDS.md, "The rule").
use Rattle.std.specs.Prelude.{ℕ, ◌+◌, ◌-◌, ◌^◌, ◌==◌, ◌&&◌, ◌||◌, Bool, true, false, not, nat_le, max, min, Option, None, Some, option_map, if◌then◌else◌, nat_lt}
use Rattle.std.specs.Option.{unwrap_or}
use Rattle.nl_builds.specs.Moments.{agreement, is_past, one_moment, reaches, slack, end_of}
use Rattle.nl_builds.specs.Commands.{falls, hi, is_same, lo, never, tells}
use Rattle.nl_builds.specs.declared.command.Command.{Command}
use Rattle.nl_builds.specs.declared.command.Row.{Row}
use Rattle.nl_builds.specs.declared.seen.Mark.{Mark}
use Rattle.nl_builds.specs.declared.seen.Mark.TheVariants.{Inside, Doubtful, Unsure, Sure}
use Rattle.nl_builds.specs.declared.seen.Order.{Order}
use Rattle.nl_builds.specs.declared.seen.Order.TheVariants.{Written, ByMoment}
use Rattle.nl_builds.specs.declared.seen.Seen.{Seen}
use Rattle.nl_versions.specs.Stamps.{is_end, is_start}
use Rattle.nl_versions.specs.declared.entries.Stamps.{Stamps}
use Rattle.nl_versions.specs.declared.entries.Stamps.TheVariants.{Unknown, OfEnd, OfStart}

abbrev pub is_border : Mark → Bool
is_border Inside = false
is_border Doubtful = false
is_border Unsure = true
is_border Sure = true

abbrev pub is_sure : Mark → Bool
is_sure Inside = false
is_sure Doubtful = false
is_sure Unsure = false
is_sure Sure = true

abbrev pub is_doubtful : Mark → Bool
is_doubtful Inside = false
is_doubtful Doubtful = true
is_doubtful Unsure = false
is_doubtful Sure = false

-- ---- what a command tells

-- not before an end, which is 0 if none is known; or it isn't known
abbrev pub is_after : ℕ → Option ℕ → Bool
is_after end (Some m) = reaches end m
is_after end None = true

-- when its build began, as borders go by it: if MTIME is of the start, the earliest `hi` from it to where END next falls; if it is of the end,
-- `lo`, unless `hi` is before the end of the build before
abbrev pub told_by : Stamps → ℕ → Command → Row → Option ℕ
told_by Unknown past c r = None
told_by OfStart past c r = Some r.up
told_by OfEnd past c r = if is_after past (hi c) then lo c else None

abbrev pub told : Stamps → ℕ → Command → Row → Option ℕ
told stamps past c r = if tells c then told_by stamps past c r else None

-- of two such moments; the one that is known, if only one is
abbrev pub better : Stamps → Option ℕ → Option ℕ → Option ℕ
better stamps (Some a) (Some b) = Some (if is_start stamps then min a b else max a b)
better stamps (Some a) None = Some a
better stamps None b = b

-- what no command tells is 0
abbrev pub or_none : Option ℕ → ℕ
or_none m = unwrap_or m 0

-- ---- a build so far

-- before its first command
abbrev pub empty : Bool → ℕ → Command → Seen
empty sure past c = record {
  to = 0;
  is_sure = sure;
  is_doubtful = false;
  began = None;
  past = past;
  earliest = 0;
  latest = None;
  last = c;
  piece = 0;
  pieces = never;
  oldest = never;
}

-- it, or a command behind it in its row, waited, and began 1 ms after the command before it ended, or earlier
abbrev pub is_tied : Seen → Row → Bool
is_tied s r = nat_le r.wait (s.last.ended + 1)

-- a command that isn't tied begins a piece of the build, whose moment is its greatest `lo`; `pieces` is the least moment of those before
abbrev pub begins_piece : Seen → Row → Bool
begins_piece s r = nat_lt 0 s.piece && not (is_tied s r)

-- the command stands before a place, and `latest` is the least `hi` if MTIME is of the start, and else the greatest
abbrev pub with_command : Seen → Stamps → ℕ → Bool → Command → Row → Seen
with_command s stamps to doubtful c r = record {
  to = to;
  is_sure = s.is_sure;
  is_doubtful = s.is_doubtful || doubtful || not (tells c);
  began = better stamps s.began (told stamps s.past c r);
  past = s.past;
  earliest = max s.earliest (or_none (lo c));
  latest = better stamps s.latest (hi c);
  last = record c { ended = max s.last.ended c.ended };
  piece = max (if begins_piece s r then 0 else s.piece) (or_none (lo c));
  pieces = if begins_piece s r then min s.pieces s.piece else s.pieces;
  oldest = min s.oldest r.alone;
}

abbrev pub begun : Stamps → ℕ → Bool → ℕ → Command → Row → Seen
begun stamps to sure past c r = with_command (empty sure past c) stamps to false c r

-- its end, or that of the last build before of which that is known
abbrev pub past_by : Option ℕ → ℕ → ℕ → ℕ
past_by None ended past = past
past_by (Some began) ended past = end_of began ended

abbrev pub past_of : Seen → ℕ
past_of s = past_by s.began s.last.ended s.past

-- ---- whether another build begins

-- the second moment is behind the first by more than this, and both are known
abbrev pub differs_by : ℕ → Option ℕ → Option ℕ → Bool
differs_by much (Some x) (Some y) = is_past much x y
differs_by much (Some x) None = false
differs_by much None y = false

-- a moment tells of another build if it is behind the beginning of this one, and behind its end
abbrev pub is_behind : Seen → Option ℕ → Bool
is_behind s m = differs_by slack s.began m && is_after (past_by s.began s.last.ended 0) m

-- a border is sure only if MTIME is of the start, and `lo` tells of another build too; before a tied command only a sure one is taken
abbrev pub mark_behind : Stamps → Seen → Command → Row → Mark
mark_behind stamps s c r = if is_start stamps && is_behind s (lo c) then Sure else if is_tied s r then Doubtful else Unsure

-- a border may hide before a command of the hash of the one before it, which may be that one again, and if MTIME is of the start before one
-- whose moment is a little behind
abbrev pub mark_told : Stamps → Seen → Command → Row → Mark
mark_told stamps s c r =
    let moment = told stamps s.past c r in
    if is_behind s moment then mark_behind stamps s c r
    else if s.last.hash == c.hash || is_start stamps && differs_by agreement s.began moment then Doubtful else Inside

-- between lines as Ninja wrote them: a border stands where END falls, before a command that ran again, and behind the manifest
abbrev pub mark_written : Stamps → Seen → Command → Row → Mark
mark_written stamps s c r =
    if falls s.last c || is_same s.last c then Sure
    else if s.last.is_manifest then Unsure
    else mark_told stamps s c r

-- between commands by their moments: the manifest is a build
abbrev pub mark_by_moment : Stamps → Seen → Command → Row → Mark
mark_by_moment stamps s c r = if s.last.is_manifest || c.is_manifest || is_behind s (told stamps s.past c r) then Unsure else Inside

abbrev pub mark : Order → Stamps → Seen → Command → Row → Mark
mark Written stamps s c r = mark_written stamps s c r
mark ByMoment stamps s c r = mark_by_moment stamps s c r

-- ---- what can't be so

-- its commands have no moment in common, to so much
abbrev pub is_disjoint : ℕ → Seen → Bool
is_disjoint much s = is_past much (or_none s.latest) s.earliest

-- if MTIME is of the end: a piece doesn't tell the build's moment, or, if the lines may be in another order, a command that waited for none
-- has an MTIME of before it
abbrev pub is_mixed : Bool → Seen → Bool
is_mixed early s = is_past one_moment (min s.pieces s.piece) s.earliest || early && is_past one_moment s.oldest s.earliest

-- it began less than 10 ms behind the end of the last build before of which that is known, or before that: what was written anew may be lines
-- of one build in another order
abbrev pub is_close : Seen → Bool
is_close s = not (is_after s.past (option_map (λ m. m - 30000000) s.began))

-- a border may hide in it, or it may be a part of the build before
abbrev pub doubts : Stamps → Bool → Seen → Bool
doubts stamps early s = s.is_doubtful || early && is_close s || is_end stamps && is_mixed early s

-- at the earliest
abbrev pub ends : Option Seen → ℕ
ends None = 0
ends (Some s) = end_of s.earliest s.last.ended

-- that of the build before, which took 10 ms at the least
abbrev pub is_moment_of : Option Seen → ℕ → Bool
is_moment_of (Some s) m = nat_le (2 ^ 31 + 10) s.last.ended && not (is_past one_moment s.earliest m) && not (is_past one_moment m s.earliest)
is_moment_of None m = false

-- behind a build that tells when it began; if MTIME is of the end, a command may tell of before its build, but not all do, and no two builds
-- have one moment
abbrev pub is_back : Stamps → Option Seen → Seen → Bool
is_back Unknown before s = false
is_back OfEnd before s = not (is_after (ends before) s.latest) || nat_lt 0 s.earliest && is_moment_of before s.earliest
is_back OfStart before s = not (is_after (ends before) s.latest) || is_disjoint slack s

abbrev pub telling : Seen → Option Seen
telling s = if nat_lt 0 s.earliest then Some s else None
