-- What two logs say of their commands, and the text of `compare` (docs/CLI.md, "compare").
use Rattle.std.specs.Prelude.{ℕ, ◌==◌, ◌&&◌, ◌||◌, Bool, true, false, not, get_or, nat_lt, List, [], ◌∷◌, ◌++◌, length, map, replicate, set, slice_get, take, Option, None, Some, codes, decimal, if◌then◌else◌}
use Rattle.std.specs.Int.{abs_diff}
use Rattle.std.specs.List.{filter, flat_map, list_any, sum_by}
use Rattle.nl_fields.specs.declared.entry.Entry.{Entry}
use Rattle.nl_versions.specs.declared.version.LogVersion.{LogVersion}
use Rattle.nl_versions.specs.Version.{is_rapid}
use Rattle.nl_reports.specs.Critical.{keyed_line}
use Rattle.nl_reports.specs.Jobs.{Job, first_name, jobs_from, seen}
use Rattle.nl_reports.specs.Lasting.{is_among, is_held, marked}
use Rattle.nl_tool_texts.specs.Lists.{last_at}
use Rattle.nl_reports.specs.Outputs.{places_of}
use Rattle.nl_tool_texts.specs.Falling.{falling}
use Rattle.nl_reports.specs.Spans.{time_of}
use Rattle.nl_tool_texts.specs.Texts.{change_text, joined, line, took_text}
use Rattle.nl_reports.specs.declared.sides.Class.{Class}
use Rattle.nl_reports.specs.declared.sides.Class.TheVariants.{New, Gone, Changed, Slower, Faster, Unfinished, Same}
use Rattle.nl_reports.specs.declared.sides.ComparedRow.{ComparedRow}
use Rattle.nl_reports.specs.declared.sides.Held.{Held}
use Rattle.nl_reports.specs.declared.sides.Rules.{Rules}
use Rattle.nl_reports.specs.declared.sides.Side.{Side}

-- ---- a log

-- its commands, and which outputs wait for a command that didn't end
pub record Log : Type 0 where
  pub jobs : List Job
  pub waiting : List ℕ → Bool

abbrev pub side_of : Side → Log
side_of s = record {
  jobs = jobs_from s.told.entries.items 0 s.told.commands.items;
  waiting = λ name. is_among name (map (λ n. n.now) s.waiting.items);
}

-- an output of a command waits
abbrev pub waits : Log → Job → Bool
waits l j = list_any (λ (e : Entry). l.waiting e.name) j.outputs

-- how long a command took: not at all, where it didn't end
abbrev pub time_in : Log → Job → ℕ
time_in l j = if waits l j then 0 else time_of j.span

-- ---- the commands of two logs in pairs

-- a command of the old log that one of the new log meets, and one that stands in one of the two alone
pub data Pair : Type 0 where
  Both : Job → Job → Pair
  OldAlone : Job → Pair
  NewAlone : Job → Pair

-- whether one is left, by its place, and all with this one taken
abbrev pub is_left : List Bool → Option ℕ → Bool
is_left left None = false
is_left left (Some place) = get_or left place false

abbrev pub with_taken : List Bool → Option ℕ → List Bool
with_taken left None = left
with_taken left (Some place) = set left place false

-- the place of the command with the first of these outputs whose command is left
abbrev pub partner : List (List ℕ × ℕ) → List Bool → List Entry → Option ℕ
partner places left [] = None
partner places left (e ∷ es) =
    if is_left left (last_at places e.name) then last_at places e.name else partner places left es

abbrev pub job_at : List Job → Option ℕ → Option Job
job_at ks None = None
job_at ks (Some place) = slice_get ks place

-- a command of the old log, with the one that meets it
abbrev pub pair_of : Job → Option Job → Pair
pair_of j None = OldAlone j
pair_of j (Some k) = Both j k

-- these of the old log in its order, each with one of those that are left of the new log if one meets it, and then those that no one met
abbrev pub pairs_from : List Job → List Bool → List Job → List Pair
pairs_from ks left [] = map NewAlone (marked left ks)
pairs_from ks left (j ∷ js) =
    let place = partner (places_of ks) left j.outputs in
    pair_of j (job_at ks place) ∷ pairs_from ks (with_taken left place) js

abbrev pub pairs : List Job → List Job → List Pair
pairs js ks = pairs_from ks (replicate (length ks) true) js

-- the commands of each log in a pair
abbrev pub old_of : Pair → List Job
old_of (Both j k) = j ∷ []
old_of (OldAlone j) = j ∷ []
old_of (NewAlone k) = []

abbrev pub new_of : Pair → List Job
new_of (Both j k) = k ∷ []
new_of (OldAlone j) = []
new_of (NewAlone k) = k ∷ []

-- ---- what is told of a pair

-- its class, how many milliseconds its command took in both logs, 0 where it isn't there, and its first output
pub record Compared : Type 0 where
  pub class : Class
  pub old : ℕ
  pub new : ℕ
  pub output : List ℕ

-- a command that ran twice: a difference of less than this is none
abbrev pub class_by_time : ℕ → ℕ → ℕ → Class
class_by_time least old new =
    if nat_lt (abs_diff old new) least || old == new then Same else (if nat_lt old new then Slower else Faster)

-- a command of another hash is another command
abbrev pub class_of : Rules → Log → Log → Job → Job → Class
class_of rules old new j k =
    if rules.hashes && not (j.hash == k.hash) then Changed else class_by_time rules.least (time_in old j) (time_in new k)

-- a command is unfinished where an output of it waits, whatever else it is
abbrev pub or_unfinished : Class → Bool → Class
or_unfinished class is_waiting = if is_waiting then Unfinished else class

-- one of the new log alone, and then any pair
abbrev pub fresh : Log → Log → Job → Compared
fresh old new k = record { class = or_unfinished New (waits old k); old = 0; new = time_in new k; output = first_name k.outputs }

abbrev pub told_pair : Rules → Log → Log → Pair → Compared
told_pair rules old new (Both j k) = record {
  class = or_unfinished (class_of rules old new j k) (waits old j || waits new k);
  old = time_in old j;
  new = time_in new k;
  output = first_name j.outputs;
}
told_pair rules old new (OldAlone j) =
    record { class = or_unfinished Gone (waits new j); old = time_in old j; new = 0; output = first_name j.outputs }
told_pair rules old new (NewAlone k) = fresh old new k

abbrev pub compared : Rules → Log → Log → List Compared
compared rules old new = map (told_pair rules old new) (pairs old.jobs new.jobs)

-- as they are held
abbrev pub compared_of : ComparedRow → Compared
compared_of r = record { class = r.class; old = r.old; new = r.new; output = r.output.now }

abbrev pub held_side : Held → Log
held_side h = record { jobs = map seen h.jobs.items; waiting = is_held h.waiting.keys }

-- ---- classes

abbrev pub class_number : Class → ℕ
class_number New = 0
class_number Gone = 1
class_number Changed = 2
class_number Slower = 3
class_number Faster = 4
class_number Unfinished = 5
class_number Same = 6

abbrev pub classes : List Class
classes = New ∷ Gone ∷ Changed ∷ Slower ∷ Faster ∷ Unfinished ∷ Same ∷ []

-- those that are told one by one
abbrev pub told_classes : List Class
told_classes = New ∷ Gone ∷ Changed ∷ Slower ∷ Faster ∷ Unfinished ∷ []

abbrev pub is_of : Class → Compared → Bool
is_of class c = class_number c.class == class_number class

abbrev pub of_class : Class → List Compared → List Compared
of_class class cs = filter (is_of class) cs

-- by how much a command took longer or less long
abbrev pub cost : Compared → ℕ
cost c = abs_diff c.old c.new

abbrev pub cost_of : ComparedRow → ℕ
cost_of r = cost (compared_of r)

-- ---- the text

abbrev pub class_text : Class → List ℕ
class_text New = codes "new"
class_text Gone = codes "gone"
class_text Changed = codes "changed"
class_text Slower = codes "slower"
class_text Faster = codes "faster"
class_text Unfinished = codes "unfinished"
class_text Same = codes "same"

-- the milliseconds of some commands in the old log, and in the new one
abbrev pub old_time : List Compared → ℕ
old_time cs = sum_by (λ (c : Compared). c.old) cs

abbrev pub new_time : List Compared → ℕ
new_time cs = sum_by (λ (c : Compared). c.new) cs

-- how many commands a class has, by how much they took longer, and how long they took in each log
abbrev pub total_of : Bool → Class → ℕ → ℕ → ℕ → List ℕ
total_of screen class count old new = if screen
    then line (decimal count ∷ change_text screen old new ∷ took_text screen old ∷ took_text screen new ∷ class_text class ∷ [])
    else line (codes "total" ∷ class_text class ∷ decimal count ∷ change_text screen old new ∷ took_text screen old ∷ took_text screen new ∷ [])

abbrev pub total_line_of : Bool → Class → List Compared → List ℕ
total_line_of screen class cs = total_of screen class (length cs) (old_time cs) (new_time cs)

abbrev pub total_line : Bool → List Compared → Class → List ℕ
total_line screen cs class = total_line_of screen class (of_class class cs)

-- a command: by how much it took longer, how long it took in each log, and its first output
abbrev pub row_of : Bool → Class → ℕ → ℕ → List ℕ → List ℕ
row_of screen class old new output =
    keyed_line screen (class_text class ∷ change_text screen old new ∷ took_text screen old ∷ took_text screen new ∷ output ∷ [])

abbrev pub row_line : Bool → Class → Compared → List ℕ
row_line screen class c = row_of screen class c.old c.new c.output

-- at a terminal a heading stands before the commands of a class, if there are some
abbrev pub class_heading : Bool → Class → List Compared → List ℕ
class_heading screen class [] = []
class_heading screen class (c ∷ cs) = if screen then joined (codes "\nCommands: " ∷ class_text class ∷ codes "\nChange\tOld\tNew\tOutput\n" ∷ []) else []

abbrev pub listed_lines : Bool → Class → List Compared → List ℕ
listed_lines screen class cs = class_heading screen class cs ++ flat_map (row_line screen class) cs

-- so many commands of a class at most, the largest differences first, and equal ones in order
abbrev pub class_lines : Bool → ℕ → List Compared → Class → List ℕ
class_lines screen most cs class = listed_lines screen class (take most (falling cost (of_class class cs)))

abbrev pub head : Bool → Bool → List ℕ
head false true = codes "hashes\tcompared\n"
head false false = codes "hashes\tnot-compared\n"
head true true = codes "Commands\tChange\tOld\tNew\tClass\n"
head true false = codes "Hashes weren't compared\nCommands\tChange\tOld\tNew\tClass\n"

abbrev pub told_of_all : Bool → ℕ → Bool → List Compared → List ℕ
told_of_all screen most hashes cs =
    (head screen hashes ++ flat_map (total_line screen cs) classes) ++ flat_map (class_lines screen most cs) told_classes

abbrev pub compare_text : Bool → ℕ → ℕ → Bool → Log → Log → List ℕ
compare_text screen most least hashes old new = told_of_all screen most hashes (compared (record { hashes = hashes; least = least }) old new)

-- logs of both versions have one hash of a command
abbrev pub are_comparable : LogVersion → LogVersion → Bool
are_comparable old new = if is_rapid old then is_rapid new else not (is_rapid new)
