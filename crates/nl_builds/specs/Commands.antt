-- The commands of a log, as its entries tell them (docs/FORMAT.md, "For a reporter: builds, commands and order").
use Rattle.std.specs.Prelude.{ℕ, ℤ, pos, negsuc, ◌-ℤ◌, ◌+◌, ◌-◌, ◌^◌, ◌==◌, ◌&&◌, ◌||◌, Bool, false, not, bytes_eq, codes, int_lt, max, min, nat_le, nat_lt, List, [], ◌∷◌, ◌++◌, Option, None, Some, if◌then◌else◌}
use Rattle.std.specs.Int.RustNames.{unsigned_abs}
use Rattle.std.specs.List.{list_any}
use Rattle.std.specs.Option.{unwrap_or}
use Rattle.std.specs.Ordering.{int_eq}
use Rattle.nl_fields.specs.declared.entry.Entry.{Entry}
use Rattle.nl_builds.specs.Moments.{moment_at, slack}
use Rattle.nl_builds.specs.declared.command.Command.{Command}
use Rattle.nl_builds.specs.declared.command.Row.{Row}
use Rattle.nl_builds.specs.declared.seen.Order.{Order}
use Rattle.nl_versions.specs.declared.entries.Stamps.{Stamps}
use Rattle.nl_versions.specs.Stamps.{is_end}
use Rattle.nl_builds.specs.declared.seen.Order.TheVariants.{Written, ByMoment}

-- milliseconds from the earliest START that an entry can have
abbrev pub moment : ℤ → ℕ
moment ms = unsigned_abs (ms -ℤ negsuc 2147483647)

-- when a build began, if MTIME is at `ms` of it; an MTIME that isn't above 0 tells nothing
abbrev pub latest : ℤ → ℕ → Option ℕ
latest mtime ms = if int_lt (pos 0) mtime then Some (moment_at (unsigned_abs mtime) ms) else None

-- the build of a command began at `hi` or before, and at `lo` or behind
abbrev pub hi : Command → Option ℕ
hi c = latest c.mtime c.began

abbrev pub lo : Command → Option ℕ
lo c = latest c.mtime c.ended

abbrev pub tells : Command → Bool
tells c = int_lt (pos 0) c.mtime

-- behind each moment
abbrev pub never : ℕ
never = 2 ^ 64 - 1

-- Ninja begins anew once it made the manifest
abbrev pub is_manifest_name : List ℕ → Bool
is_manifest_name name = bytes_eq name (codes "build.ninja")

-- the entry stands before a place
abbrev pub one : ℕ → Entry → Command
one to e = record {
  began = moment e.start_ms;
  ended = moment e.end_ms;
  mtime = e.mtime;
  hash = e.hash;
  to = to;
  is_manifest = is_manifest_name e.name;
}

-- START, END and hash are those of the command, and the name is neither that of its first output nor of its last
abbrev pub is_more : Command → List ℕ → List ℕ → Entry → Bool
is_more c first last e = c.began == moment e.start_ms && c.ended == moment e.end_ms && c.hash == e.hash && not (bytes_eq e.name first || bytes_eq e.name last)

-- entries whose MTIMEs differ tell nothing, because they may be of two runs
abbrev pub agreed : ℤ → ℤ → ℤ
agreed a b = if int_eq a b then a else pos 0

abbrev pub longer : Command → ℕ → Entry → Command
longer c to e = record c {
  mtime = agreed c.mtime e.mtime;
  to = to;
  is_manifest = c.is_manifest || is_manifest_name e.name;
}

-- those of entries behind a place, of which the first ones are of the command so far
abbrev pub commands_from : ℕ → Command → List ℕ → List ℕ → List Entry → List Command
commands_from place c first last [] = c ∷ []
commands_from place c first last (e ∷ es) =
    if is_more c first last e then commands_from (place + 1) (longer c (place + 1) e) first e.name es
    else c ∷ commands_from (place + 1) (one (place + 1) e) e.name e.name es

-- each of neighbours
abbrev pub commands : List Entry → List Command
commands [] = []
commands (e ∷ es) = commands_from 1 (one 1 e) e.name e.name es

abbrev pub falls : Command → Command → Bool
falls a b = nat_lt b.ended a.ended

abbrev pub is_same : Command → Command → Bool
is_same a b = a.began == b.began && a.ended == b.ended && a.hash == b.hash

-- a command that begins as another ended, or a millisecond later, waited for it
abbrev pub is_at_once : ℕ → ℕ → Bool
is_at_once began ended = nat_le ended began && nat_le began (ended + 1)

-- a command waited for one of a row with these ENDs
abbrev pub waited : List ℕ → Command → Bool
waited row c = list_any (is_at_once c.began) row

-- a row goes on up to where END falls
abbrev pub row_to : List ℕ → ℕ → List ℕ
row_to row ended = if list_any (nat_lt ended) row then [] else row

-- what a command tells alone, with its START if it waited
abbrev pub row_with : Command → Bool → Row
row_with c waits = record {
  ended = c.ended;
  alone = if waits then never else unwrap_or (hi c) never;
  up = unwrap_or (hi c) never;
  wait = if waits then c.began else never;
}

-- each may have waited for one before it in its row
abbrev pub waits_from : List ℕ → List Command → List Row
waits_from row [] = []
waits_from row (c ∷ cs) =
    let before = row_to row c.ended in
    row_with c (waited before c) ∷ waits_from (before ++ c.ended ∷ []) cs

-- of it and of those behind it in its row the least `hi`, and the least START of one that waited; in the order of MTIME, the moment of the build
-- of the next one, unless its own MTIME is of before that
abbrev pub with_next : Order → Row → Option Row → Row
with_next order r None = r
with_next Written r (Some s) = if nat_lt s.ended r.ended then r else record r { up = min r.up s.up; wait = min r.wait s.wait }
with_next ByMoment r (Some s) = if nat_lt r.alone s.wait then r else record r { up = s.up; wait = s.wait }

abbrev pub first_of : List Row → Option Row
first_of [] = None
first_of (r ∷ rs) = Some r

abbrev pub with_rows : Order → List Row → List Row
with_rows order [] = []
with_rows order (r ∷ rs) = with_next order r (first_of (with_rows order rs)) ∷ with_rows order rs

-- what each tells with those beside it in its row
abbrev pub rows : List Command → List Row
rows cs = with_rows Written (waits_from [] cs)

abbrev pub written : Command → ℕ
written c = unwrap_or (latest c.mtime (2 ^ 31)) 0

abbrev pub lo_or_none : Command → ℕ
lo_or_none c = unwrap_or (lo c) 0

-- the manifest is a build of its own, and parts those before it from those behind
abbrev pub top_row : Command → ℕ → Row
top_row c top =
    if c.is_manifest then record { ended = c.ended; alone = 0; up = lo_or_none c; wait = never }
    else record { ended = c.ended; alone = written c; up = top; wait = top - slack }

abbrev pub next_top : Command → ℕ → ℕ
next_top c top = if c.is_manifest then 0 else max top (lo_or_none c)

-- the greatest `lo` of each and of those before it, and its MTIME
abbrev pub tops : ℕ → List Command → List Row
tops top [] = []
tops top (c ∷ cs) = top_row c (next_top c top) ∷ tops (next_top c top) cs

-- when the build of each began, of commands in the order of MTIME, which is of the end: the last build began at the greatest `lo`, and has those
-- whose MTIME is of then or of behind, but for the slack; and so on with those before them
abbrev pub moments : List Command → List Row
moments cs = with_rows ByMoment (tops 0 cs)

-- what commands tell that stand by their moments
abbrev pub moved_rows : Stamps → List Command → List Row
moved_rows stamps cs = if is_end stamps then moments cs else []

-- where no more is told of rows, a command tells alone
abbrev pub row_or : Command → List Row → Row
row_or c [] = row_with c false
row_or c (r ∷ rs) = r
