-- How far it is from each node of a graph, as it is guessed, and what shows that a path is a longest one.
use Rattle.std.specs.Prelude.{◌≡◌, ◌≤◌, ◌<◌, ◌+◌, ℕ, List, ◌++◌, Option, None, get_or, length, map, bytes_eq, option_and_then, option_map, IfSome, slice_get}
use Rattle.std.specs.Borrow.{Bor}
use Rattle.std.specs.List.{IsDistinct}
use Rattle.std.specs.Map.{keys_of}
use Rattle.nl_reports.specs.Critical.{Ran, path_rans, ran_at, ran_time, weight}
use Rattle.nl_tool_texts.specs.Graphs.{names_of}
use Rattle.nl_tool_texts.specs.GraphText.{ids_of, nodes_of}
use Rattle.nl_reports.specs.Jobs.{Job}
use Rattle.nl_tool_texts.specs.Graphs.{Graph}
use Rattle.nl_reports.specs.Paths.{IsPath, length_of}
use Rattle.nl_tool_texts.specs.Graphs.{Node}
use Rattle.nl_reports.specs.declared.critical.FoundPath.{FoundPath}
use Rattle.nl_reports.specs.declared.critical.Ran.{Ran as HeldRan}
use Rattle.nl_reports.specs.declared.critical.Reaches.{Reaches}
use Rattle.nl_tool_texts.specs.declared.graph.Edge.{Edge as HeldEdge}
use Rattle.nl_tool_texts.specs.declared.graph.NinjaGraph.{NinjaGraph}
use Rattle.nl_reports.specs.Outputs.{places_of}
use Rattle.nl_tool_texts.specs.Lists.{last_at}
use Rattle.nl_reports.specs.declared.moments.Span.{Span}

-- what ran, as it is held
abbrev pub ran_seen : HeldRan → Ran
ran_seen r = record { span = r.span; name = r.name.now; place = r.place }

-- the commands of a path, if there is one
abbrev pub rans_of : Option (Bor FoundPath) → Option (List Ran)
rans_of path = option_map (λ (p : Bor FoundPath). map ran_seen p.now.commands.items) path

-- a node's name and the place of the last command that has it, as they are held
abbrev pub HeldPlace : Type 0
HeldPlace = Bor (List ℕ) × ℕ

abbrev pub place_seen : HeldPlace → List ℕ × ℕ
place_seen p = (p.0.now, p.1)

abbrev pub places_seen : List (Option HeldPlace) → List (Option (List ℕ × ℕ))
places_seen ps = map (option_map place_seen) ps

abbrev pub place_named : List Job → List ℕ → Option (List ℕ × ℕ)
place_named js name = option_map (λ (k : ℕ). (name, k)) (last_at (places_of js) name)

-- the same for a name that a node may have
abbrev pub place_named_in : List Job → Option (Bor (List ℕ)) → Option (List ℕ × ℕ)
place_named_in js name = option_and_then (λ (n : Bor (List ℕ)). place_named js n.now) name

abbrev pub place_at : List Node → List Job → List ℕ → Option (List ℕ × ℕ)
place_at nodes js id = option_and_then (place_named js) (last_at (names_of nodes) id)

-- these are of a graph, whose numbers differ: each node has its own
pub record HavePlaces (g : NinjaGraph) (js : List Job) (ps : List (Option HeldPlace)) : Type 0 where
  pub distinct : IsDistinct (λ (x y : Bor (List ℕ)). bytes_eq x.now y.now) (keys_of g.nodes.entries)
  pub are : places_seen ps ≡ map (place_at (nodes_of g.nodes.entries) js) (ids_of g.nodes.entries)

-- what ran at a place, if commands run so
abbrev pub ran_of : List Span → HeldPlace → Option Ran
ran_of ss p = option_map (λ (s : Span). record { span = s; name = p.0.now; place = p.1 }) (slice_get ss p.1)

abbrev pub rans_in : Reaches → List (Option Ran)
rans_in r = map (option_and_then (ran_of r.spans.now)) r.places.now

-- what ran at a place, and how far it is behind it, and from it on
abbrev pub ran_in : Reaches → ℕ → Option Ran
ran_in r place = get_or (rans_in r) place None

abbrev pub behind_at : Reaches → ℕ → ℕ
behind_at r place = get_or r.behind.items place 0

abbrev pub far_at : Reaches → ℕ → ℕ
far_at r place = ran_time (ran_in r place) + behind_at r place

-- this is of these
pub record IsOver (g : NinjaGraph) (ps : List (Option HeldPlace)) (ss : List Span) (r : Reaches) : Type 0 where
  pub graph : r.graph.now ≡ g
  pub places : r.places.now ≡ ps
  pub spans : r.spans.now ≡ ss

-- these are of a graph, whose numbers differ: what ran is what ran at each
pub record AreOf (g : NinjaGraph) (js : List Job) (r : Reaches) : Type 0 where
  pub graph : r.graph.now ≡ g
  pub distinct : IsDistinct (λ (x y : Bor (List ℕ)). bytes_eq x.now y.now) (keys_of g.nodes.entries)
  pub ran : rans_in r ≡ map (ran_at (nodes_of g.nodes.entries) js) (ids_of g.nodes.entries)

-- from no other place it is farther than from this one, which is there if any is
pub record IsFarthest (r : Reaches) (place : ℕ) : Type 0 where
  pub within : 0 < length r.places.now → place < length r.places.now
  pub farthest : (k : ℕ) → k < length r.places.now → far_at r k ≤ far_at r place

-- from where an edge ends it is no farther than it is behind where it begins
pub record IsTight (r : Reaches) (e : HeldEdge) : Type 0 where
  pub from : e.from < length r.places.now
  pub to : e.to < length r.places.now
  pub far : far_at r e.to ≤ behind_at r e.from

-- in a plan that takes so long: a place isn't begun before the beginning, and if a command ran there, as that begins
pub record IsBegun (r : Reaches) (wall : ℕ) (place : ℕ) : Type 0 where
  pub within : far_at r place ≤ wall
  pub at : IfSome (ran_in r place) (λ ran. far_at r place + ran.span.began ≡ wall)

-- the commands of a path that is so long, after others
pub record IsFollowed (g : Graph) (js : List Job) (far : ℕ) (old new : List Ran) : Type 0 where
  pub path : List (List ℕ)
  pub is_path : IsPath g.edges path
  pub length_is : length_of (weight g.nodes js) path ≡ far
  pub rans_are : new ≡ old ++ path_rans g js path
