-- Edges that lead back to where one begins.
use Rattle.std.proofs.Common.{◌≡◌, ℕ, List, [], ◌∷◌, ap, arith, get_or, map, refl, sym, ◌∙◌}
use Rattle.std.proofs.lemmas.List.{get_or-map, length-map}
use Rattle.std.specs.List.{AllByRecursion, Contains}
use Rattle.nl_tool_texts.specs.GraphText.{seen_edge}
use Rattle.nl_tool_texts.specs.Graphs.{ClosesCycle, Edge, Follow}
use Rattle.nl_tool_texts.specs.declared.graph.Edge.{Edge as HeldEdge}

pub edge_among : (ids : List (List ℕ)) (edges : List HeldEdge) (e : HeldEdge) → Contains edges e
    → Contains (map (seen_edge ids) edges) (seen_edge ids e)
edge_among ids edges e is =
    let f : HeldEdge → Edge = seen_edge ids in
    (is.0, omega (arith, is.1, length-map edges f), get_or-map f edges is.0 e (f e) is.1 ∙ ap f is.2)

-- an edge that ends here is followed by some of these edges, up to one that ends there
pub record LeadsOn (edges : List Edge) (here end : List ℕ) : Type 0 where
  pub more : List Edge
  pub among : AllByRecursion (Contains edges) more
  pub follow : (e : Edge) → e.to ≡ here → Follow e more end

module _ (ids : List (List ℕ)) (edges : List HeldEdge) (e : HeldEdge) (is : Contains edges e) (end : List ℕ) where
  -- one edge before the others
  pub leads_on : (head : ℕ) → e.to ≡ head → LeadsOn (map (seen_edge ids) edges) (get_or ids head []) end
      → LeadsOn (map (seen_edge ids) edges) (get_or ids e.from []) end
  leads_on head to on = record {
    more = seen_edge ids e ∷ on.more;
    among = (edge_among ids edges e is, on.among);
    follow = λ f ends. (ends, on.follow (seen_edge ids e) (ap (λ n. get_or ids n []) to));
  }

-- the others lead from where an edge ends to where it begins
pub closes : (ids : List (List ℕ)) (edges : List HeldEdge) (e : HeldEdge) (head : ℕ) → Contains edges e → head ≡ e.to
    → LeadsOn (map (seen_edge ids) edges) (get_or ids head []) (get_or ids e.from []) → ClosesCycle (map (seen_edge ids) edges) e.line
closes ids edges e head is back on = record {
  first = seen_edge ids e;
  more = on.more;
  among = (edge_among ids edges e is, on.among);
  closed = on.follow (seen_edge ids e) (ap (λ n. get_or ids n []) (sym back));
  line_is = refl;
}
