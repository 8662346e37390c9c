-- No path is longer than what bounds the edges.
use Rattle.std.proofs.Common.{◌≡◌, ◌≤◌, ◌+◌, ℕ, List, [], ◌∷◌, ◌++◌, append_assoc, arith, subst, sym}
use Rattle.std.specs.List.{All, sum_by}
use Rattle.std.proofs.lemmas.List.Elements.{All-contains}
use Rattle.std.proofs.lemmas.List.Sums.{sum_by-append, sum_by-cons}
use Rattle.nl_tool_texts.specs.Graphs.{Edge}
use Rattle.nl_reports.specs.Paths.{IsLongest, IsPath, Leads}

-- the way over an edge is no longer than how far the number reaches from which it leads
pub record IsBounded (weight far : List ℕ → ℕ) (e : Edge) : Type 0 where
  pub to : weight e.to ≤ far e.to
  pub from : weight e.from + far e.to ≤ far e.from

module _ (edges : List Edge) (w far : List ℕ → ℕ) (bounded : All (IsBounded w far) edges) where
  bound_at : (a b : List ℕ) (leads : Leads edges a b) → IsBounded w far leads.edge
  bound_at a b leads = All-contains (IsBounded w far) edges leads.edge bounded leads.among

  to_bound : (a b : List ℕ) → Leads edges a b → w b ≤ far b
  to_bound a b leads = let P : List ℕ → Type 0 = λ x. w x ≤ far x in subst P leads.to_is (bound_at a b leads).to

  from_bound : (a b : List ℕ) → Leads edges a b → w a + far b ≤ far a
  from_bound a b leads =
      let P : List ℕ → Type 0 = λ x. w x + far leads.edge.to ≤ far x in
      let Q : List ℕ → Type 0 = λ y. w a + far y ≤ far a in
      subst Q leads.to_is (subst P leads.from_is (bound_at a b leads).from)

  -- a path is no longer than how far the number reaches with which it begins
  reach_bounds : (a : List ℕ) (path : List (List ℕ)) → IsPath edges (a ∷ path) → w a ≤ far a → sum_by w (a ∷ path) ≤ far a
  reach_bounds a [] is light = omega (arith, light, sum_by-cons w a [])
  reach_bounds a (b ∷ path) is light =
      let first : sum_by w (a ∷ b ∷ path) ≡ w a + sum_by w (b ∷ path) = sum_by-cons w a (b ∷ path) in
      omega (arith, first, from_bound a b is.0, reach_bounds b path is.1 (to_bound a b is.0))

  -- no path is longer than what bounds how far each number reaches
  pub path_bound : (most : ℕ) → ((id : List ℕ) → w id ≤ far id) → ((id : List ℕ) → far id ≤ most)
      → (path : List (List ℕ)) → IsPath edges path → sum_by w path ≤ most
  path_bound most light farthest [] along = omega arith
  path_bound most light farthest (a ∷ path) along = omega (arith, farthest a, reach_bounds a path along (light a))

  -- a path that is as long as any number reaches is a longest one
  pub longest_by : (most : ℕ) → ((id : List ℕ) → w id ≤ far id) → ((id : List ℕ) → far id ≤ most)
      → (path : List (List ℕ)) → IsPath edges path → sum_by w path ≡ most → IsLongest edges w path
  longest_by most light farthest path is length_is = record {
    is_path = is;
    longest = λ other along. omega (arith, length_is, path_bound most light farthest other along);
  }

-- a path so far goes on by an edge
pub path_on : (edges : List Edge) (front : List (List ℕ)) (a b : List ℕ) → Leads edges a b
    → ((tail : List (List ℕ)) → IsPath edges (a ∷ tail) → IsPath edges (front ++ a ∷ tail))
    → (tail : List (List ℕ)) → IsPath edges (b ∷ tail) → IsPath edges ((front ++ a ∷ []) ++ b ∷ tail)
path_on edges front a b leads joins tail is =
    let P : List (List ℕ) → Type 0 = IsPath edges in
    subst P (sym (append_assoc front (a ∷ []) (b ∷ tail))) (joins (b ∷ tail) (leads, is))

pub sum_on : (w : List ℕ → ℕ) (front : List (List ℕ)) (a : List ℕ) → sum_by w (front ++ a ∷ []) ≡ sum_by w front + w a
sum_on w front a = omega (arith, sum_by-append w front (a ∷ []), sum_by-cons w a [])
