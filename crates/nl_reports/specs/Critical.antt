-- What `summary` prints of the critical path (docs/CLI.md, "summary").
use Rattle.std.specs.Prelude.{◌≡◌, ◌≢◌, ℕ, ◌-◌, ◌==◌, ◌||◌, Bool, false, not, IsSomeAnd, nat_lt, List, [], ◌∷◌, ◌++◌, length, map, Option, None, Some, option_and_then, option_map, slice_get, codes, decimal, if◌then◌else◌}
use Rattle.std.specs.List.{filter, flat_map, sum_by}
use Rattle.nl_fields.specs.declared.entry.Entry.{Entry}
use Rattle.nl_reports.specs.Jobs.{Job}
use Rattle.std.specs.Global.{Vec}
use Rattle.nl_reports.specs.Lasting.{is_among}
use Rattle.nl_tool_texts.specs.Lists.{last_at}
use Rattle.nl_reports.specs.Outputs.{places_of}
use Rattle.nl_tool_texts.specs.Graphs.{Graph, Node, names_of}
use Rattle.nl_reports.specs.Paths.{IsLongest, length_of}
use Rattle.nl_reports.specs.Spans.{time_of}
use Rattle.nl_tool_texts.specs.Texts.{joined, line, time_text, told_moment, took_text}
use Rattle.nl_reports.specs.declared.moments.Span.{Span}

-- when a command ran, the output by which it is told, and its place
pub record Ran : Type 0 where
  pub span : Span
  pub name : List ℕ
  pub place : ℕ

abbrev pub ran_in_place : List Job → List ℕ → ℕ → Option Ran
ran_in_place js name k = option_map (λ (j : Job). record { span = j.span; name = name; place = k }) (slice_get js k)

-- the last of these commands that has this output
abbrev pub ran_named : List Job → List ℕ → Option Ran
ran_named js name = option_and_then (ran_in_place js name) (last_at (places_of js) name)

-- the command whose output is the node of this number, by the last name that the node has
abbrev pub ran_at : List Node → List Job → List ℕ → Option Ran
ran_at nodes js id = option_and_then (ran_named js) (last_at (names_of nodes) id)

-- its milliseconds, and 0 where there is no command
abbrev pub ran_time : Option Ran → ℕ
ran_time None = 0
ran_time (Some r) = time_of r.span

abbrev pub weight : List Node → List Job → List ℕ → ℕ
weight nodes js id = ran_time (ran_at nodes js id)

-- a line that has its first field, by which a program knows it, only in a pipe
abbrev pub keyed_line : Bool → List (List ℕ) → List ℕ
keyed_line screen [] = line []
keyed_line screen (key ∷ fields) = if screen then line fields else line (key ∷ fields)

-- how long a command began after a moment
abbrev pub waited : ℕ → Ran → ℕ
waited before r = r.span.began - before

-- a command of the path: its milliseconds, START and END, and its output; at a terminal how long it waited in place of END
abbrev pub ran_line : Bool → ℕ → Ran → List ℕ
ran_line screen before r = if screen
    then line (took_text screen (time_of r.span) ∷ took_text screen (waited before r) ∷ told_moment screen r.span.began ∷ r.name ∷ [])
    else line (codes "on-path" ∷ took_text screen (time_of r.span) ∷ told_moment screen r.span.began ∷ told_moment screen r.span.ended ∷ r.name ∷ [])

-- each begins after the one before it ended, and the first after the build began
abbrev pub ran_lines : Bool → ℕ → List Ran → List ℕ
ran_lines screen before [] = []
ran_lines screen before (r ∷ rs) = ran_line screen before r ++ ran_lines screen r.span.ended rs

-- a node at which no command ran that took time is passed over
abbrev pub took_time : Option Ran → List Ran
took_time None = []
took_time (Some r) = if nat_lt 0 (time_of r.span) then r ∷ [] else []

-- the commands that a graph lacks: none of their outputs is the name of a node
abbrev pub is_named : Graph → List ℕ → Bool
is_named g name = is_among name (map (λ (n : Node). n.name) g.nodes)

abbrev pub any_named : Graph → List Entry → Bool
any_named g [] = false
any_named g (e ∷ es) = is_named g e.name || any_named g es

abbrev pub is_lacking : Graph → Job → Bool
is_lacking g j = not (any_named g j.outputs)

abbrev pub lacking : Graph → List Job → List Job
lacking g js = filter (is_lacking g) js

-- how many commands the graph lacks, and the sum of their milliseconds
abbrev pub lacking_line : Bool → ℕ → ℕ → List ℕ
lacking_line screen count time = if count == 0 then [] else (if screen
    then joined (codes "Commands that the graph lacks: " ∷ decimal count ∷ codes " (" ∷ took_text screen time ∷ codes ")\n" ∷ [])
    else line (codes "not-in-graph" ∷ decimal count ∷ took_text screen time ∷ []))

abbrev pub lacking_text : Bool → List Job → List ℕ
lacking_text screen js = lacking_line screen (length js) (sum_by (λ (j : Job). time_of j.span) js)

-- the commands of a path that took time, and its text: how long it is, and these in order
abbrev pub path_rans : Graph → List Job → List (List ℕ) → List Ran
path_rans g js path = flat_map (λ id. took_time (ran_at g.nodes js id)) path

abbrev pub path_head : Bool → ℕ → List ℕ
path_head screen length = if screen
    then joined (codes "\nCritical path: " ∷ time_text length ∷ codes "\nTime\tWaited\tBegan\tOutput\n" ∷ [])
    else line (codes "critical-path" ∷ decimal length ∷ [])

abbrev pub told_path : Bool → ℕ → List Ran → List ℕ
told_path screen length rans = path_head screen length ++ ran_lines screen 2147483648 rans

abbrev pub path_text : Bool → Graph → List Job → List (List ℕ) → List ℕ
path_text screen g js path = told_path screen (length_of (weight g.nodes js) path) (path_rans g js path)

-- a longest path is so long, and has these commands
pub record IsFoundPath (g : Graph) (js : List Job) (length : ℕ) (rans : List Ran) : Type 0 where
  pub path : List (List ℕ)
  pub longest : IsLongest g.edges (weight g.nodes js) path
  pub length_is : length ≡ length_of (weight g.nodes js) path
  pub rans_are : rans ≡ path_rans g js path

-- the text of a longest path
pub record IsPathText (screen : Bool) (g : Graph) (js : List Job) (text : List ℕ) : Type 0 where
  pub path : List (List ℕ)
  pub longest : IsLongest g.edges (weight g.nodes js) path
  pub is : text ≡ path_text screen g js path

-- the text of a longest path, and after it what the graph lacks, which isn't all
pub record IsCriticalText (screen : Bool) (g : Graph) (js : List Job) (text : List ℕ) : Type 0 where
  pub some : length (lacking g js) ≢ length js
  pub path : List ℕ
  pub is_path : IsPathText screen g js path
  pub is : text ≡ path ++ lacking_text screen (lacking g js)

-- the text of these commands: nothing, where there is none; and no text, where the graph lacks them all
abbrev pub IsCritical : Bool → Graph → List Job → Option (Vec ℕ) → Type 0
IsCritical screen g [] told = IsSomeAnd told (λ text. text.items ≡ [])
IsCritical screen g (j ∷ js) None = length (lacking g (j ∷ js)) ≡ length (j ∷ js)
IsCritical screen g (j ∷ js) (Some text) = IsCriticalText screen g (j ∷ js) text.items
