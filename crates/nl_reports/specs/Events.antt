-- The events of a trace, as JSON values (docs/CLI.md, "`trace`"). Members stand in the order of their keys.
use Rattle.std.specs.Prelude.{ℕ, true, false, ◌+◌, ◌-◌, ◌*◌, ◌==◌, List, ◌++◌, map, codes, decimal, if◌then◌else◌}
use Rattle.std.specs.Str.Lossy.{utf8_lossy}
use Rattle.serde_json.specs.Data.{Data, Members, array, boolean, member, no_members, number, object, string, unsigned}
use Rattle.serde_json.specs.View.{items_of}
use Rattle.serde_json.specs.Written.{compact_text}
use Rattle.nl_builds.specs.declared.build.How.{How}
use Rattle.nl_builds.specs.declared.build.How.TheVariants.{AsWritten, FoundAgain}
use Rattle.nl_fields.specs.declared.entry.Entry.{Entry}
use Rattle.nl_fields.specs.Digits.{digits_of}
use Rattle.nl_reports.specs.Jobs.{Job, first_name}
use Rattle.nl_reports.specs.Spans.{time_of}
use Rattle.nl_reports.specs.Sweep.{running}
use Rattle.nl_reports.specs.declared.trace.BuildEvent.{BuildEvent}
use Rattle.nl_reports.specs.declared.moments.Span.{Span}

-- a name as text, with U+FFFD for what isn't UTF-8
abbrev pub shown : List ℕ → Data
shown name = string (utf8_lossy name)

abbrev pub text : List ℕ → Data
text s = string s

abbrev pub whole : ℕ → Data
whole n = number (unsigned n)

-- microseconds of so many milliseconds, and from the beginning of a build to a moment
abbrev pub micros : ℕ → ℕ
micros ms = ms * 1000

-- a build's name, or that of all builds, and how it is known
abbrev pub build_name : ℕ → List ℕ
build_name n = if n == 0 then codes "all builds" else codes "build " ++ decimal n

abbrev pub name_of : ℕ → How → List ℕ
name_of n AsWritten = build_name n
name_of n (FoundAgain taken) = build_name n ++ codes ", found again"

abbrev pub taken_of : How → Members
taken_of AsWritten = member (codes "rewritten") (boolean false) no_members
taken_of (FoundAgain taken) = member (codes "rewritten") (boolean true) (member (codes "taken") (whole taken) no_members)

abbrev pub build_event : BuildEvent → Data
build_event b = object
    (member (codes "args") (object (member (codes "name") (text (name_of b.number b.how)) (taken_of b.how)))
    (member (codes "name") (text (codes "process_name"))
    (member (codes "ph") (text (codes "M"))
    (member (codes "pid") (whole b.number) no_members))))

abbrev pub args_of : Job → Data
args_of j = object
    (member (codes "hash") (shown (digits_of 16 j.hash))
    (member (codes "outputs") (array (items_of (map (λ (e : Entry). shown e.name) j.outputs))) no_members))

abbrev pub command_event : BuildEvent → ℕ → Job → Data
command_event b lane j = object
    (member (codes "args") (args_of j)
    (member (codes "dur") (whole (micros (time_of j.span)))
    (member (codes "name") (shown (first_name j.outputs))
    (member (codes "ph") (text (codes "X"))
    (member (codes "pid") (whole b.number)
    (member (codes "tid") (whole (lane + 1))
    (member (codes "ts") (whole (micros (j.span.began - b.began))) no_members)))))))

-- how many of these commands run at a moment
abbrev pub running_event : BuildEvent → List Span → ℕ → Data
running_event b cs at = object
    (member (codes "args") (object (member (codes "commands") (whole (running cs at)) no_members))
    (member (codes "name") (text (codes "running"))
    (member (codes "ph") (text (codes "C"))
    (member (codes "pid") (whole b.number)
    (member (codes "ts") (whole (micros (at - b.began))) no_members)))))

unfoldable pub event_text : Data → List ℕ
event_text event = compact_text event
