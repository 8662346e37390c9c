-- Graphs, and their cycles.
use Rattle.std.specs.Prelude.{◌≡◌, ℕ, List, [], ◌∷◌, map}
use Rattle.std.specs.List.{AllByRecursion, Contains}

-- a node has a number, which is any bytes, and a name
pub record Node : Type 0 where
  pub id : List ℕ
  pub name : List ℕ

-- an edge leads from one number to another, and stands on a line of the text
pub record Edge : Type 0 where
  pub from : List ℕ
  pub to : List ℕ
  pub line : ℕ

pub record Graph : Type 0 where
  pub nodes : List Node
  pub edges : List Edge

-- the names of nodes, by their numbers
abbrev pub names_of : List Node → List (List ℕ × List ℕ)
names_of nodes = map (λ (n : Node). (n.id, n.name)) nodes

-- each edge begins where the one before it ends, and the last one ends at `end`
abbrev pub Follow : Edge → List Edge → List ℕ → Type 0
Follow e [] end = e.to ≡ end
Follow e (f ∷ fs) end = (e.to ≡ f.from) × Follow f fs end

-- the edges that follow the one of this line lead back to where it begins
pub record ClosesCycle (edges : List Edge) (line : ℕ) : Type 0 where
  pub first : Edge
  pub more : List Edge
  pub among : AllByRecursion (Contains edges) (first ∷ more)
  pub closed : Follow first more first.from
  pub line_is : first.line ≡ line
