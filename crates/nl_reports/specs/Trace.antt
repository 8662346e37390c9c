-- The text of `trace`: the events of builds, as a JSON array (docs/CLI.md, "trace").
use Rattle.std.specs.Prelude.{ℕ, ◌-◌, List, [], ◌∷◌, ◌++◌, Option, None, Some, option_and_then, option_map}
use Rattle.std.specs.List.{flat_map, zip}
use Rattle.serde_json.specs.Data.{Data, array}
use Rattle.serde_json.specs.View.{items_of}
use Rattle.serde_json.specs.Written.{compact_text}
use Rattle.nl_builds.specs.Builds.{Told}
use Rattle.nl_builds.specs.declared.build.Build.{Build}
use Rattle.nl_builds.specs.declared.build.How.{How}
use Rattle.nl_builds.specs.declared.build.How.TheVariants.{AsWritten, FoundAgain}
use Rattle.nl_reports.specs.Choice.{chosen}
use Rattle.nl_reports.specs.Events.{build_event, command_event, event_text, running_event}
use Rattle.nl_reports.specs.Frame.{first_began}
use Rattle.nl_tool_texts.specs.Lists.{between}
use Rattle.nl_reports.specs.Jobs.{Job, last_number}
use Rattle.nl_reports.specs.Lanes.{lanes}
use Rattle.nl_reports.specs.Rows.{spans}
use Rattle.nl_reports.specs.Spans.{closed_of}
use Rattle.nl_reports.specs.Summary.{most_taken}
use Rattle.nl_reports.specs.Turns.{jobs_in_turn}
use Rattle.nl_reports.specs.declared.choice.Choice.{Choice}
use Rattle.nl_reports.specs.declared.choice.Scope.{Scope}
use Rattle.nl_reports.specs.declared.choice.Scope.TheVariants.{Last, Numbered, All}
use Rattle.nl_reports.specs.declared.trace.BuildEvent.{BuildEvent}
use Rattle.nl_reports.specs.declared.moments.Span.{Span}

-- the events of a command in its lane: the command, and how many run as it begins, and as it has ended
abbrev pub events_of : BuildEvent → List Span → Job × ℕ → List Data
events_of b cs p = command_event b p.1 p.0 ∷ running_event b cs p.0.span.began ∷ running_event b cs (closed_of p.0.span) ∷ []

-- the events of builds of a number, and of their commands
abbrev pub named_events : BuildEvent → List Job → List Data
named_events b js = build_event b ∷ flat_map (events_of b (spans js)) (zip js (lanes (spans js)))

abbrev pub build_events : ℕ → How → List Job → List Data
build_events number how js = named_events (record { number = number; began = first_began (spans js); how = how }) js

-- how these builds are known: as written, where none was found again; and the number of a build, or 0 where all builds are one
abbrev pub how_by : Option ℕ → How
how_by None = AsWritten
how_by (Some taken) = FoundAgain taken

abbrev pub how_among : List Build → Option How
how_among [] = None
how_among (b ∷ bs) = Some (how_by (most_taken None (b ∷ bs)))

abbrev pub how_in : Scope → Told → Option How
how_in scope t = option_and_then (λ (c : Choice). how_among (between (c.first - 1) c.last t.builds)) (chosen scope t)

abbrev pub number_in : Scope → Told → ℕ
number_in Last t = last_number t
number_in (Numbered number) t = number
number_in All t = 0

-- what is told of the builds that are asked for, if these are their commands
abbrev pub build_in : Scope → Told → List Span → Option BuildEvent
build_in scope t cs = option_map (λ (how : How). record { number = number_in scope t; began = first_began cs; how = how }) (how_in scope t)

-- the events of the builds that are asked for, one after another; none, where there is no such build
abbrev pub numbered_events : ℕ → Option How → List Job → List Data
numbered_events number None js = []
numbered_events number (Some how) js = build_events number how js

abbrev pub trace_events : Scope → Told → List Data
trace_events scope t = numbered_events (number_in scope t) (how_in scope t) (jobs_in_turn scope t)

unfoldable pub array_text : List Data → List ℕ
array_text events = compact_text (array (items_of events))

abbrev pub scoped_text : Scope → Told → List ℕ
scoped_text scope t = array_text (trace_events scope t)

-- the text of each event after a comma
abbrev pub behind_commas : List Data → List ℕ
behind_commas events = flat_map (λ d. 44 ∷ event_text d) events

-- the events of commands in lanes, and the array's end
abbrev pub commands_text : BuildEvent → List Job → List ℕ → List ℕ
commands_text b js found = behind_commas (flat_map (events_of b (spans js)) (zip js found)) ++ 93 ∷ []
