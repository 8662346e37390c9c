-- The builds of a log (docs/BUILDS.md).
use Rattle.std.specs.Prelude.{◌≡◌, ℕ, ◌+◌, ◌-◌, ◌&&◌, ◌||◌, Bool, true, false, not, nat_le, nat_lt, List, [], ◌∷◌, ◌++◌, length, map, take, drop, slice_get, Option, None, Some, if◌then◌else◌}
use Rattle.std.specs.List.{list_any}
use Rattle.std.specs.Option.{is_some}
use Rattle.nl_fields.specs.declared.entry.Entry.{Entry}
use Rattle.nl_table.specs.History.{holds}
use Rattle.nl_table.specs.Table.{with_name}
use Rattle.nl_builds.specs.Commands.{commands, falls, moved_rows, row_or, rows}
use Rattle.nl_builds.specs.Seen.{begun, doubts, is_back, is_border, is_doubtful, is_sure, mark, past_of, telling, with_command}
use Rattle.nl_builds.specs.Sorted.{by_moment}
use Rattle.nl_builds.specs.declared.build.Build.{Build}
use Rattle.nl_builds.specs.declared.build.How.TheVariants.{AsWritten, FoundAgain}
use Rattle.nl_builds.specs.declared.command.Command.{Command}
use Rattle.nl_builds.specs.declared.command.Row.{Row}
use Rattle.nl_builds.specs.declared.seen.Order.{Order}
use Rattle.nl_builds.specs.declared.seen.Order.TheVariants.{Written, ByMoment}
use Rattle.nl_builds.specs.declared.seen.Seen.{Seen}
use Rattle.nl_versions.specs.declared.entries.Stamps.TheVariants.{OfStart}
use Rattle.nl_versions.specs.Stamps.{is_end, is_start}
use Rattle.nl_versions.specs.declared.entries.Stamps.{Stamps}

-- ---- the builds of commands that stand in an order

-- it tells of the next build only if they stand as Ninja wrote them
abbrev pub past_in : Order → Seen → ℕ
past_in Written s = past_of s
past_in ByMoment s = 0

-- a command behind a border begins another build, and any other is of the build so far
abbrev pub walk_from : Order → Stamps → ℕ → Seen → List Command → List Row → List Seen
walk_from order stamps place s [] rs = s ∷ []
walk_from order stamps place s (c ∷ cs) rs =
    let r = row_or c rs in
    let m = mark order stamps s c r in
    if is_border m then s ∷ walk_from order stamps (place + 1) (begun stamps (place + 1) (is_sure m) (past_in order s) c r) cs (drop 1 rs)
    else walk_from order stamps (place + 1) (with_command s stamps (place + 1) (is_doubtful m) c r) cs (drop 1 rs)

-- behind a place, with a border before the first command that is sure or not; each command with what its row tells
abbrev pub walk : Order → Stamps → ℕ → Bool → List Command → List Row → List Seen
walk order stamps place sure [] rs = []
walk order stamps place sure (c ∷ cs) rs = walk_from order stamps (place + 1) (begun stamps (place + 1) sure 0 c (row_or c rs)) cs (drop 1 rs)

-- ---- whether the log was written anew, and how far

-- before the first build that can't stand behind the one before it
abbrev pub first_back : Stamps → Option Seen → ℕ → List Seen → Option ℕ
first_back stamps before place [] = None
first_back stamps before place (s ∷ ss) = if is_back stamps before s then Some place else first_back stamps (telling s) s.to ss

-- before the first whose name came before, because no more entries were written anew
abbrev pub new_names : List (List ℕ) → List Entry → ℕ
new_names names [] = 0
new_names names (e ∷ es) = if holds names e.name then 0 else 1 + new_names (with_name names e.name) es

-- that are whole within so many entries
abbrev pub whole_commands : ℕ → List Command → ℕ
whole_commands count [] = 0
whole_commands count (c ∷ cs) = if nat_le c.to count then 1 + whole_commands count cs else 0

-- ---- the builds

-- a build is sure if both its borders are, and no border can hide in it or, where that counts, in one beside it
abbrev pub next_is_sure : List Seen → Bool
next_is_sure [] = true
next_is_sure (s ∷ ss) = s.is_sure

-- the log may have been written anew as far as commands are of new names
abbrev pub next_doubts : Stamps → ℕ → ℕ → List Seen → Bool
next_doubts stamps new from [] = false
next_doubts stamps new from (s ∷ ss) = doubts stamps (nat_lt from new) s

-- in the build before this one, or the one behind it; if MTIME is of the end only where the log may have been written anew, because elsewhere
-- END that falls is a border whatever hides behind it
abbrev pub beside_doubts : Stamps → ℕ → ℕ → Bool → Seen → List Seen → Bool
beside_doubts stamps new from beside s ss = (is_start stamps || nat_lt from new) && (beside || next_doubts stamps new s.to ss)

abbrev pub written_build : Stamps → ℕ → ℕ → Bool → Seen → List Seen → Build
written_build stamps new from beside s ss = record {
  to = s.to;
  began = s.began;
  how = AsWritten;
  is_sure = (is_start stamps || is_end stamps) && s.is_sure && next_is_sure ss
      && not (doubts stamps (nat_lt from new) s || beside_doubts stamps new from beside s ss);
}

abbrev pub written_builds : Stamps → ℕ → ℕ → Bool → List Seen → List Build
written_builds stamps new from beside [] = []
written_builds stamps new from beside (s ∷ ss) =
    written_build stamps new from beside s ss ∷ written_builds stamps new s.to (doubts stamps (nat_lt from new) s) ss

-- later builds may have taken as many of its outputs as stand behind it, of so many entries
abbrev pub found_build : ℕ → Seen → Build
found_build count s = record { to = s.to; began = s.began; how = FoundAgain (count - s.last.to); is_sure = false }

-- ---- a log

-- one behind another
pub record Told : Type 0 where
  pub entries : List Entry
  pub commands : List Command
  pub builds : List Build

abbrev pub as_written : Stamps → ℕ → List Entry → List Command → List Seen → Told
as_written stamps new es cs seen = record { entries = es; commands = cs; builds = written_builds stamps new 0 false seen }

abbrev pub falls_by : Option Command → Option Command → Bool
falls_by (Some a) (Some b) = falls a b
falls_by (Some a) None = false
falls_by None b = false

abbrev pub falls_at : ℕ → List Command → Bool
falls_at place cs = falls_by (slice_get cs (place - 1)) (slice_get cs place)

abbrev pub entries_to : Option Command → ℕ
entries_to None = 0
entries_to (Some c) = c.to

abbrev pub entries_of : ℕ → List Command → ℕ
entries_of count cs = entries_to (slice_get cs (count - 1))

-- the entries of so many commands were written anew
abbrev pub again_with : Stamps → ℕ → ℕ → List Entry → List Command → List Row → List Entry → List Command → Told
again_with stamps count k es cs rs moved fs = record {
  entries = moved ++ drop k es;
  commands = fs ++ drop count cs;
  builds = map (found_build k) (walk ByMoment OfStart 0 true fs (moved_rows stamps fs))
      ++ written_builds stamps 0 (length fs) false (walk Written stamps (length fs) (falls_at count cs) (drop count cs) (drop count rs));
}

abbrev pub again : Stamps → ℕ → List Entry → List Command → List Row → Told
again stamps count es cs rs =
    let k = entries_of count cs in
    let moved = by_moment stamps (take k es) in
    again_with stamps count k es cs rs moved (commands moved)

abbrev pub new_commands : Bool → List Entry → List Command → ℕ
new_commands counts es cs = if counts then whole_commands (new_names [] es) cs else 0

abbrev pub is_before : Option ℕ → ℕ → Bool
is_before None count = false
is_before (Some back) count = nat_lt back count

-- where no border may hide, it doesn't matter how many names are new
abbrev pub counts_names : Stamps → Option ℕ → List Seen → Bool
counts_names stamps back seen = is_some back || list_any (doubts stamps true) seen

-- so many commands were written anew, if the first build that contradicts the order begins among them
abbrev pub told_at : Stamps → ℕ → List Entry → List Command → List Row → List Seen → Option ℕ → Told
told_at stamps count es cs rs seen back = if is_before back count then again stamps count es cs rs else as_written stamps count es cs seen

abbrev pub told_with : Stamps → List Entry → List Command → List Row → List Seen → Option ℕ → Told
told_with stamps es cs rs seen back = told_at stamps (new_commands true es cs) es cs rs seen back

abbrev pub told_by : Stamps → List Entry → List Command → List Row → Told
told_by stamps es cs rs =
    let seen = walk Written stamps 0 true cs rs in
    told_with stamps es cs rs seen (first_back stamps None 0 seen)

-- by the entries of its commands
abbrev pub builds_of : Stamps → List Entry → Told
builds_of stamps es = told_by stamps es (commands es) (rows (commands es))

abbrev pub IsTold : Told → List Entry → List Command → List Build → Type 0
IsTold t es cs bs = (es ≡ t.entries) × (cs ≡ t.commands) × (bs ≡ t.builds)
