-- What so many commands at a time would take (docs/CLI.md, "summary").
use Rattle.std.specs.Prelude.{◌≡◌, ◌≤◌, ◌<◌, ◌+◌, ◌-◌, ◌/◌, ◌&&◌, nat_lt, Bool, if◌then◌else◌, ℕ, max, IfSome, Option, None, Some, List, [], ◌∷◌, ◌++◌, get_or, length, map, codes, decimal}
use Rattle.std.specs.List.{All}
use Rattle.nl_fields.specs.declared.entry.Entry.{Entry}
use Rattle.std.specs.Global.{Vec}
use Rattle.nl_reports.specs.Critical.{IsCritical, Ran, keyed_line, ran_at, weight}
use Rattle.nl_reports.specs.Gains.{AreGainsOf}
use Rattle.nl_reports.specs.Jobs.{Job}
use Rattle.nl_reports.specs.Numbers.{total_time}
use Rattle.nl_tool_texts.specs.Graphs.{Edge, Graph}
use Rattle.nl_reports.specs.Paths.{IsLongest, length_of}
use Rattle.nl_reports.specs.Rows.{spans}
use Rattle.nl_reports.specs.Spans.{time_of}
use Rattle.nl_reports.specs.Sweep.{last_moment, running}
use Rattle.nl_tool_texts.specs.Texts.{took_text}

-- what a command keeps, whenever it runs: how long it takes, and its outputs
abbrev pub kept : Job → ℕ × List Entry
kept j = (time_of j.span, j.outputs)

-- the commands as they run in a plan that begins at 0: no more than so many at a time, and none before all is there that it waits for
pub record IsPlan (g : Graph) (js : List Job) (n wall : ℕ) (plan : List Job) : Type 0 where
  pub same : map kept plan ≡ map kept js
  pub few : (t : ℕ) → running (spans plan) t ≤ n
  pub last : wall ≡ last_moment (spans plan)
  -- when each node is begun: a node of a command as that begins, and no node before those are made from which an edge leads to it
  pub begun : List ℕ → ℕ
  pub at : (id : List ℕ) → IfSome (ran_at g.nodes plan id) (λ (r : Ran). begun id ≡ r.span.began)
  pub waits : All (λ (e : Edge). begun e.from + weight g.nodes plan e.from ≤ begun e.to) g.edges
  pub within : (id : List ℕ) → begun id + weight g.nodes plan id ≤ wall

-- commands have a plan that takes so long
pub record HavePlan (g : Graph) (js : List Job) (n wall : ℕ) : Type 0 where
  pub plan : List Job
  pub is : IsPlan g js n wall plan

-- what no plan comes below: how long the critical path is, and what each of so many processors would do of equal parts, rounded up
abbrev pub floor_of : ℕ → ℕ → ℕ → ℕ
floor_of path total n = max path ((total + (n - 1)) / n)

-- one at a time takes the sum of the times, and where there is a place for each command, only the critical path is waited for
pub record IsAtBounds (n commands wall total path : ℕ) : Type 0 where
  pub one : n ≡ 1 → wall ≡ total
  pub enough : commands ≤ n → wall ≡ path

-- how long commands take, if so many run at a time, and below what no plan of theirs comes
pub record IsEstimate (g : Graph) (js : List Job) (n wall floor : ℕ) : Type 0 where
  pub planned : HavePlan g js n wall
  pub path : List (List ℕ)
  pub longest : IsLongest g.edges (weight g.nodes js) path
  pub floor_is : floor ≡ floor_of (length_of (weight g.nodes js) path) (total_time js) n
  pub bounds : IsAtBounds n (length js) wall (total_time js) (length_of (weight g.nodes js) path)

-- a line: for so many at a time the milliseconds, and that floor
abbrev pub estimate_line : Bool → ℕ → ℕ → ℕ → List ℕ
estimate_line screen n wall floor = keyed_line screen (codes "estimate" ∷ decimal n ∷ took_text screen wall ∷ took_text screen floor ∷ [])

abbrev pub heading : Bool → List ℕ → List ℕ
heading screen ns = if nat_lt 0 (length ns) && screen then codes "\nEstimates\nJobs\tElapsed\tAt least\n" else []

-- one more line after those of other numbers
pub record IsLineMore (screen : Bool) (g : Graph) (js : List Job) (n : ℕ) (before text : List ℕ) : Type 0 where
  pub wall : ℕ
  pub floor : ℕ
  pub is_estimate : IsEstimate g js n wall floor
  pub is : text ≡ before ++ estimate_line screen n wall floor

-- the lines for these numbers, after a text
abbrev pub AreMore : Bool → Graph → List Job → List ℕ → List ℕ → List ℕ → Type 0
AreMore screen g js [] before text = text ≡ before
AreMore screen g js (n ∷ ns) before text = (more : List ℕ) × IsLineMore screen g js n before more × AreMore screen g js ns more text

abbrev pub AreEstimates : Bool → Graph → List Job → List ℕ → List ℕ → Type 0
AreEstimates screen g js ns text = AreMore screen g js ns (heading screen ns) text

-- what a graph tells of commands: the critical path, so many gains, and the estimates for these numbers; where no number is asked for, it
-- tells nothing only if it lacks all commands
pub record IsGraphTold (screen : Bool) (g : Graph) (most : ℕ) (ns : List ℕ) (js : List Job) (text : List ℕ) : Type 0 where
  pub path : Vec ℕ
  pub is_critical : IsCritical screen g js (Some path)
  pub gains : List ℕ
  pub are_gains : AreGainsOf screen g js most gains
  pub estimates : List ℕ
  pub are : AreEstimates screen g js ns estimates
  pub is : text ≡ (path.items ++ gains) ++ estimates

abbrev pub IsToldBy : Bool → Graph → ℕ → List ℕ → List Job → Option (Vec ℕ) → Type 0
IsToldBy screen g most ns js None = ns ≡ [] → IsCritical screen g js None
IsToldBy screen g most ns js (Some text) = IsGraphTold screen g most ns js text.items

-- each of the second ones, but for the first so many, isn't below the first one at its place without these
abbrev pub AreBehind : ℕ → List ℕ → List ℕ → Type 0
AreBehind n starts ends = (k : ℕ) → k < length ends → k + n < length starts → get_or ends k 0 ≤ get_or starts (k + n) 0
