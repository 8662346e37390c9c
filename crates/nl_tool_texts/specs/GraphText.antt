-- The graph that a text says (docs/CLI.md, "Files").
use Rattle.std.specs.Prelude.{⊤, ◌≡◌, ◌<◌, ◌||◌, Bool, false, ℕ, ◌+◌, List, [], ◌∷◌, ◌++◌, All, Option, None, Some, get_or, length, map, option_and_then, option_map, bytes_eq, codes, if◌then◌else◌}
use Rattle.std.specs.Borrow.{Bor}
use Rattle.std.specs.List.{flat_map}
use Rattle.std.specs.Map.{lookup}
use Rattle.nl_tool_texts.specs.declared.fault.ToolFault.{ToolFault}
use Rattle.nl_tool_texts.specs.declared.fault.ToolFault.TheVariants.{Memory, BadLine}
use Rattle.nl_tool_texts.specs.Columns.{lines_of}
use Rattle.nl_tool_texts.specs.Graphs.{names_of, Node, Edge, Graph, ClosesCycle}
use Rattle.nl_tool_texts.specs.GraphLine.{GraphLine, Passed, Labelled, Joined, line_in}
use Rattle.nl_tool_texts.specs.Lists.{last_at}
use Rattle.nl_tool_texts.specs.declared.graph.Edge.{Edge as HeldEdge}
use Rattle.nl_tool_texts.specs.declared.graph.NinjaGraph.{NinjaGraph}

-- a graph, or the number of the first bad line
pub data GraphReading : Type 0 where
  IsGraph : Graph → GraphReading
  BadAt : ℕ → GraphReading

-- these nodes and edges come before those of a graph
abbrev pub onto : List Node → List Edge → GraphReading → GraphReading
onto ns es (IsGraph g) = IsGraph (record { nodes = ns ++ g.nodes; edges = es ++ g.edges })
onto ns es (BadAt number) = BadAt number

abbrev pub nodes_said : GraphLine → List Node
nodes_said Passed = []
nodes_said (Labelled id name) = record { id = id; name = name } ∷ []
nodes_said (Joined from to) = []

abbrev pub edges_said : ℕ → GraphLine → List Edge
edges_said number Passed = []
edges_said number (Labelled id name) = []
edges_said number (Joined from to) = record { from = from; to = to; line = number } ∷ []

-- the line comes before what the later ones say
abbrev pub with_line : ℕ → Option GraphLine → GraphReading → GraphReading
with_line number None later = BadAt number
with_line number (Some line) later = onto (nodes_said line) (edges_said number line) later

-- the graph ends at a brace
abbrev pub has_ended : Bool → List ℕ → Bool
has_ended ended line = ended || bytes_eq line (codes "}")

-- the first line has this number; `ended` says whether the graph's end came before it
abbrev pub graph_from : Bool → ℕ → List (List ℕ) → GraphReading
graph_from ended number [] = if ended then IsGraph (record { nodes = []; edges = [] }) else BadAt number
graph_from ended number (line ∷ lines) = with_line number (line_in ended number line) (graph_from (has_ended ended line) (number + 1) lines)

abbrev pub graph_of : List ℕ → GraphReading
graph_of text = graph_from false 1 (lines_of text)

-- the text is refused at this line: the first bad one, or one whose edge is of a cycle
abbrev pub IsRefusedAt : GraphReading → ℕ → Type 0
IsRefusedAt (BadAt number) line = line ≡ number
IsRefusedAt (IsGraph g) line = ClosesCycle g.edges line

-- a graph as it is held: each number at its place, with its last name
abbrev pub HeldNode : Type 0
HeldNode = Bor (List ℕ) × Option (Bor (List ℕ))

abbrev pub ids_of : List HeldNode → List (List ℕ)
ids_of ps = map (λ (p : HeldNode). p.0.now) ps

abbrev pub node_of : List ℕ → Option (Bor (List ℕ)) → List Node
node_of id None = []
node_of id (Some name) = record { id = id; name = name.now } ∷ []

abbrev pub nodes_of : List HeldNode → List Node
nodes_of ps = flat_map (λ (p : HeldNode). node_of p.0.now p.1) ps

abbrev pub seen_edge : List (List ℕ) → HeldEdge → Edge
seen_edge ids e = record { from = get_or ids e.from []; to = get_or ids e.to []; line = e.line }

abbrev pub seen_graph : NinjaGraph → Graph
seen_graph g = record { nodes = nodes_of g.nodes.entries; edges = map (seen_edge (ids_of g.nodes.entries)) g.edges.items }

abbrev pub name_in : List HeldNode → List ℕ → Option (List ℕ)
name_in ps id = option_and_then (λ (name : Option (Bor (List ℕ))). option_map (λ (n : Bor (List ℕ)). n.now) name)
    (lookup (λ (k : Bor (List ℕ)). bytes_eq id k.now) ps)

-- an edge is between numbers that have a place
abbrev pub IsWithin : List HeldNode → HeldEdge → Type 0
IsWithin ps e = (e.from < length ps) × (e.to < length ps)

-- the nodes and edges that were read so far are held so
pub record Holds (ns : List Node) (es : List Edge) (ps : List HeldNode) (hs : List HeldEdge) : Type 0 where
  pub names : (id : List ℕ) → name_in ps id ≡ last_at (names_of ns) id
  pub edges : map (seen_edge (ids_of ps)) hs ≡ es
  pub within : All (IsWithin ps) hs

-- a number that has a place keeps it
pub record Keeps (old new : List HeldNode) (place : ℕ) : Type 0 where
  pub within : place < length new
  pub is : get_or (ids_of new) place [] ≡ get_or (ids_of old) place []

-- the number has this place, and each other number the one that it had
pub record IsPlaced (id : List ℕ) (old new : List HeldNode) (place : ℕ) : Type 0 where
  pub within : place < length new
  pub is : get_or (ids_of new) place [] ≡ id
  pub kept : (k : ℕ) → k < length old → Keeps old new k

-- only the last name of each node is held, because nothing that is told goes by another
abbrev pub IsSeen : Graph → Graph → Type 0
IsSeen g held = (held.edges ≡ g.edges) × ((id : List ℕ) → last_at (names_of held.nodes) id ≡ last_at (names_of g.nodes) id)

-- memory is refused, or a line is bad
abbrev pub IsGraphFault : ToolFault → Type 0
IsGraphFault Memory = ⊤
IsGraphFault (BadLine number) = ⊤
IsGraphFault _ = ⊥

abbrev pub IsOfText : GraphReading → Graph → Type 0
IsOfText (IsGraph g) held = IsSeen g held
IsOfText (BadAt number) held = ⊥
