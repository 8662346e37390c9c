-- What the file of an output says against its entry (docs/NINJA_TIMES.md, "Which output was made since").
use Rattle.std.specs.Prelude.{ℕ, ◌+◌, ◌/◌, ◌^◌, ◌&&◌, ℤ, ◌+ℤ◌, pos, Bool, true, false, not, nat_le, nat_lt, int_lt, max, List, Option, None, Some, if◌then◌else◌}
use Rattle.std.specs.Int.RustNames.{unsigned_abs}
use Rattle.std.specs.Ordering.{int_eq}
use Rattle.nl_fields.specs.declared.entry.Entry.{Entry}
use Rattle.nl_builds.specs.Commands.{moment}
use Rattle.nl_versions.specs.declared.entries.Stamps.{Stamps}
use Rattle.nl_versions.specs.declared.entries.Stamps.TheVariants.{Unknown, OfEnd, OfStart}
use Rattle.nl_tool_doubt.specs.Moments.{begun, is_sure, length_of, tells, tick_of}
use Rattle.nl_tool_doubt.specs.declared.files.FileState.{FileState}
use Rattle.nl_tool_doubt.specs.declared.files.FileState.TheVariants.{Missing, Directory, Written, Unknown as Unseen}
use Rattle.nl_tool_doubt.specs.declared.files.FileTimes.{FileTimes}
use Rattle.nl_tool_doubt.specs.declared.judge.Doubt.{Doubt}
use Rattle.nl_tool_doubt.specs.declared.judge.Doubt.TheVariants.{Newer, Unsure, Gone, Folder, NoTime, Untold}

-- the end of a command whose build began at `m`, and a file's time, both in milliseconds from one moment
abbrev pub ended : ℕ → Entry → ℕ
ended m e = m + moment e.end_ms

abbrev pub written : ℤ → ℕ
written time = unsigned_abs time / 1000000 + 2 ^ 32

-- the file is 8 ms or more later than the end
abbrev pub is_newer : ℕ → ℕ → ℕ → Bool
is_newer tick end at = nat_le (end + 8 + tick) at

-- the file is more than 20 ms, and more than a quarter of the command's length, earlier than the end
abbrev pub is_early : ℕ → ℕ → ℕ → ℕ → Bool
is_early tick length end at = nat_lt (at + max (length / 4) 20 + tick) end

-- the file's last time is later than MTIME
abbrev pub doubt_at : List Entry → ℕ → Entry → ℤ → ℤ → Option Doubt
doubt_at ls m e time last =
    if is_newer (tick_of ls) (ended m e) (written last) then Some Newer
    else if int_lt e.mtime time && is_early (tick_of ls) (length_of e) (ended m e) (written last) && not (is_sure ls m) then Some Unsure
    else None

abbrev pub doubt_from : List Entry → Entry → ℤ → ℤ → Option Doubt
doubt_from ls e time last = doubt_at ls (begun ls e) e time last

-- the file is newer, unless MTIME is when the command started and tells that
abbrev pub doubt_behind : Stamps → List Entry → Entry → ℤ → ℤ → Option Doubt
doubt_behind OfStart ls e time last = if tells e then doubt_from ls e time last else Some Newer
doubt_behind OfEnd ls e time last = Some Newer
doubt_behind Unknown ls e time last = Some Newer

-- `last` is the file's last time that counts
abbrev pub doubt_by : Stamps → List Entry → Entry → ℤ → ℤ → Option Doubt
doubt_by stamps ls e time last =
    if int_eq e.mtime (pos 0) then Some NoTime
    else if int_lt e.mtime last then doubt_behind stamps ls e time last
    else None

-- if MTIME is when the command started and change times count, the time of the last change counts too
abbrev pub last_of : Bool → Stamps → FileTimes → ℤ
last_of true OfStart t = if int_lt t.written t.changed then t.changed else t.written
last_of counts stamps t = t.written

abbrev pub doubt_of : Bool → Stamps → List Entry → Entry → FileState → Option Doubt
doubt_of counts stamps ls e Missing = Some Gone
doubt_of counts stamps ls e Directory = Some Folder
doubt_of counts stamps ls e Unseen = Some Untold
doubt_of counts stamps ls e (Written t) = doubt_by stamps ls e t.written (last_of counts stamps t)

abbrev pub is_present : FileState → Bool
is_present Missing = false
is_present state = true

abbrev pub is_written : FileState → Bool
is_written (Written t) = true
is_written state = false

abbrev pub was_moved : FileState → Bool
was_moved (Written t) = int_lt (t.written +ℤ pos 1000000000) t.changed
was_moved state = false
