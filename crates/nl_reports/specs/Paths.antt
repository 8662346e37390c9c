-- The paths of graphs, and how long these are.
use Rattle.std.specs.Prelude.{◌≡◌, ◌≤◌, ℕ, List, [], ◌∷◌}
use Rattle.std.specs.List.{Contains, sum_by}
use Rattle.nl_tool_texts.specs.Graphs.{Edge}

-- one of these edges leads from a number to another
pub record Leads (edges : List Edge) (a b : List ℕ) : Type 0 where
  pub edge : Edge
  pub among : Contains edges edge
  pub from_is : edge.from ≡ a
  pub to_is : edge.to ≡ b

-- an edge leads from each number of a path to the next
abbrev pub IsPath : List Edge → List (List ℕ) → Type 0
IsPath edges [] = Unit {0}
IsPath edges (a ∷ []) = Unit {0}
IsPath edges (a ∷ b ∷ path) = Leads edges a b × IsPath edges (b ∷ path)

-- each number has a weight
abbrev pub length_of : (List ℕ → ℕ) → List (List ℕ) → ℕ
length_of weight path = sum_by weight path

-- no path of the graph is longer
pub record IsLongest (edges : List Edge) (weight : List ℕ → ℕ) (path : List (List ℕ)) : Type 0 where
  pub is_path : IsPath edges path
  pub longest : (other : List (List ℕ)) → IsPath edges other → length_of weight other ≤ length_of weight path
