-- What the lines of a graph say, one after another.
use Rattle.std.proofs.Common.{◌≡◌, ◌<◌, ◌≤◌, ◌∙◌, ◌+◌, ℕ, Bool, true, List, [], ◌++◌, Option, None, Some, append-nil, append_assoc, ap, cond, drop, get_or, length, map, refl, subst, sym}
use Rattle.std.proofs.lemmas.List.{at_drop_all, at_drop_more, get_or-map}
use Rattle.std.specs.Borrow.{Bor}
use Rattle.std.specs.List.{IsDistinct}
use Rattle.std.specs.Map.{keys_of}
use Rattle.nl_tool_texts.specs.declared.fault.ToolFault.TheVariants.{BadLine}
use Rattle.nl_tool_texts.specs.GraphLine.{GraphLine, line_in}
use Rattle.nl_tool_texts.specs.GraphText.{BadAt, GraphReading, HeldNode, Holds, IsGraph, IsOfText, IsRefusedAt, edges_said, graph_from, has_ended, ids_of, nodes_of, nodes_said, onto, seen_edge, with_line}
use Rattle.nl_tool_texts.specs.Graphs.{names_of, ClosesCycle, Edge, Node}
use Rattle.nl_tool_texts.specs.Lists.{last_at}
use Rattle.nl_tool_texts.specs.declared.graph.Edge.{Edge as HeldEdge}
use Rattle.nl_tool_texts.proofs.GraphLemmas.{named, same}

onto-onto : (ns ms : List Node) (es fs : List Edge) (r : GraphReading) → onto ns es (onto ms fs r) ≡ onto (ns ++ ms) (es ++ fs) r
onto-onto ns ms es fs (BadAt number) = refl
onto-onto ns ms es fs (IsGraph g) =
    (λ i. IsGraph (record { nodes = sym (append_assoc ns ms g.nodes) i; edges = sym (append_assoc es fs g.edges) i }))

module _ (ns : List Node) (es : List Edge) (ended : Bool) (i : ℕ) (lines : List (List ℕ)) (inside : i < length lines) where
  line_there : graph_from ended (i + 1) (drop i lines)
      ≡ with_line (i + 1) (line_in ended (i + 1) (get_or lines i []))
      (graph_from (has_ended ended (get_or lines i [])) ((i + 1) + 1) (drop (i + 1) lines))
  line_there = at_drop_more (graph_from ended (i + 1)) lines i [] inside

  -- a line more was taken in
  pub said_on : (said : GraphLine) (now : Bool) → Some said ≡ line_in ended (i + 1) (get_or lines i []) → now ≡ has_ended ended (get_or lines i [])
      → onto (ns ++ nodes_said said) (es ++ edges_said (i + 1) said) (graph_from now ((i + 1) + 1) (drop (i + 1) lines))
      ≡ onto ns es (graph_from ended (i + 1) (drop i lines))
  said_on said now is ends =
      let rest = graph_from (has_ended ended (get_or lines i [])) ((i + 1) + 1) (drop (i + 1) lines) in
      ap (λ b. onto (ns ++ nodes_said said) (es ++ edges_said (i + 1) said) (graph_from b ((i + 1) + 1) (drop (i + 1) lines))) ends
      ∙ sym (onto-onto ns (nodes_said said) es (edges_said (i + 1) said) rest)
      ∙ ap (λ (o : Option GraphLine). onto ns es (with_line (i + 1) o rest)) is ∙ ap (onto ns es) (sym line_there)

  pub bad_there : None ≡ line_in ended (i + 1) (get_or lines i []) → BadAt (i + 1) ≡ onto ns es (graph_from ended (i + 1) (drop i lines))
  bad_there none =
      let rest = graph_from (has_ended ended (get_or lines i [])) ((i + 1) + 1) (drop (i + 1) lines) in
      ap (λ (o : Option GraphLine). onto ns es (with_line (i + 1) o rest)) none ∙ ap (onto ns es) (sym line_there)

-- nothing before the first line
pub onto_none : (r : GraphReading) → onto [] [] r ≡ r
onto_none (BadAt number) = refl
onto_none (IsGraph g) = refl

-- a line in a list of them
pub line_at : (ls : List (Bor (List ℕ))) (i : ℕ) (l : Bor (List ℕ)) → i < length ls → l ≡ get_or ls i l
    → get_or (map (λ line. line.now) ls) i [] ≡ l.now
line_at ls i l inside is =
    let now : Bor (List ℕ) → List ℕ = λ line. line.now in
    get_or-map now ls i l [] inside ∙ ap now (sym is)

-- the line that is told
pub refused_at : (r : GraphReading) (number line : ℕ) → BadAt number ≡ r → BadLine number ≡ BadLine line → IsRefusedAt r line
refused_at r number line bad is = let P : GraphReading → Type 0 = λ x. IsRefusedAt x line in subst P bad (cc is)

-- ---- the whole text

module _ (r : GraphReading) (ns : List Node) (es : List Edge) (ps : List HeldNode) (hs : List HeldEdge) (holds : Holds ns es ps hs)
    (whole : IsGraph (record { nodes = ns ++ []; edges = es ++ [] }) ≡ r) where
  edges_whole : map (seen_edge (ids_of ps)) hs ≡ es ++ []
  edges_whole = holds.edges ∙ sym (append-nil es)

  pub is_of_text : IsDistinct same (keys_of ps) → IsOfText r (record { nodes = nodes_of ps; edges = map (seen_edge (ids_of ps)) hs })
  is_of_text distinct =
      let P : GraphReading → Type 0 = λ x. IsOfText x (record { nodes = nodes_of ps; edges = map (seen_edge (ids_of ps)) hs }) in
      subst P whole (
        edges_whole,
        λ id. named ps distinct id ∙ holds.names id ∙ ap (λ (l : List Node). last_at (names_of l) id) (sym (append-nil ns)),
      )

  pub is_of_cycle : (line : ℕ) → ClosesCycle (map (seen_edge (ids_of ps)) hs) line → IsRefusedAt r line
  is_of_cycle line closes =
      let P : GraphReading → Type 0 = λ x. IsRefusedAt x line in
      let Q : List Edge → Type 0 = λ l. ClosesCycle l line in
      subst P whole (subst Q edges_whole closes)

pub ended_there : (ns : List Node) (es : List Edge) (ended : Bool) (i : ℕ) (lines : List (List ℕ)) → length lines ≤ i → ended ≡ true
    → IsGraph (record { nodes = ns ++ []; edges = es ++ [] }) ≡ onto ns es (graph_from ended (i + 1) (drop i lines))
ended_there ns es ended i lines all is =
    sym (ap (onto ns es) (at_drop_all (graph_from ended (i + 1)) lines i all
    ∙ ap (λ b. cond b (IsGraph (record { nodes = []; edges = [] })) (BadAt (i + 1))) is))
