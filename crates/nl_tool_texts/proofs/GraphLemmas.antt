-- A graph as it is held: its numbers keep their places, and have the names that they were given.
use Rattle.std.proofs.Common.{◌≡◌, ◌<◌, ◌∙◌, ◌+◌, ℕ, zero, suc, Bool, true, false, List, [], ◌∷◌, ◌++◌, Option, None, Some, append-nil, inl, inr, ap, arith, bytes_eq, cond, get_or, is_some, length, length-append, map, option_and_then, option_map, refl, subst, sym}
use Rattle.std.proofs.lemmas.Bool.{cases_Bool}
use Rattle.std.proofs.lemmas.Cmp.{nat_list_eq_equiv}
use Rattle.std.proofs.lemmas.List.{get_or-map, length-map, map-append}
use Rattle.std.proofs.lemmas.List.Elements.{All-head, All-nil, All-push, All-same, All-tail, All-weaker}
use Rattle.std.proofs.lemmas.List.Sums.{fold-append}
use Rattle.std.proofs.Math.ListN.{get_or-append}
use Rattle.std.proofs.Math.Seq.{get_or-append_seam}
use Rattle.std.proofs.lemmas.Map.Keys.{IsDistinct-head, IsDistinct-tail}
use Rattle.std.specs.Borrow.{Bor}
use Rattle.std.specs.Cmp.Lexicographic.{bytes_decides}
use Rattle.std.proofs.lemmas.List.Quantifiers.{position-Some}
use Rattle.std.specs.List.{All, AllByRecursion, IsDistinct, fold, position}
use Rattle.std.specs.Map.{keys_of, lookup}
use Rattle.indexmap.specs.IndexMap.{insert_entry}
use Rattle.nl_tool_texts.specs.Graphs.{names_of, Edge, Node}
use Rattle.nl_tool_texts.specs.GraphText.{HeldNode, Holds, IsPlaced, IsWithin, Keeps, ids_of, name_in, node_of, nodes_of, seen_edge}
use Rattle.nl_tool_texts.specs.Lists.{last_at, later}
use Rattle.nl_tool_texts.specs.declared.graph.Edge.{Edge as HeldEdge}

abbrev pub Name : Type 0
Name = Bor (List ℕ)

abbrev pub same : Name → Name → Bool
same x y = bytes_eq x.now y.now

-- ---- places

pub kept_inserted : (ps : List HeldNode) (key : Name) (v : Option Name) (k : ℕ) → k < length ps → Keeps ps (insert_entry same ps key v) k
kept_inserted [] key v k inside = absurd (omega (arith, inside))
kept_inserted (p ∷ ps) key v k inside =
    elim (same key p.0) as (λ b. Keeps (p ∷ ps) (cond b ((p.0, v) ∷ ps) (p ∷ insert_entry same ps key v)) k) [
      | true ↦ record { within = inside; is = refl }
      | false ↦ behind k inside (λ j within. kept_inserted ps key v j within)
    ]
  where
    behind : (j : ℕ) → j < length (p ∷ ps) → ((m : ℕ) → m < length ps → Keeps ps (insert_entry same ps key v) m)
        → Keeps (p ∷ ps) (p ∷ insert_entry same ps key v) j
    behind zero inside later = record { within = omega arith; is = refl }
    behind (suc j) inside later =
        let rest = later j (omega (arith, inside)) in record { within = omega (arith, rest.within); is = rest.is }

module _ (old new : List HeldNode) (kept : (k : ℕ) → k < length old → Keeps old new k) where
  pub within_kept : (e : HeldEdge) → IsWithin old e → IsWithin new e
  within_kept e is = ((kept e.from is.0).within, (kept e.to is.1).within)

  pub edges_kept : (es : List HeldEdge) → All (IsWithin old) es → map (seen_edge (ids_of new)) es ≡ map (seen_edge (ids_of old)) es
  edges_kept [] are = refl
  edges_kept (e ∷ es) are =
      let is = All-head (IsWithin old) e es are in
      let rest = edges_kept es (All-tail (IsWithin old) e es are) in
      (λ i. record { from = (kept e.from is.0).is i; to = (kept e.to is.1).is i; line = e.line } ∷ rest i)

-- ---- names

-- a pair more is what its key says from then on
pub last_at-push : {V : Type 0} (ps : List (List ℕ × V)) (p : List ℕ × V) (key : List ℕ)
    → last_at (ps ++ p ∷ []) key ≡ cond (bytes_eq p.0 key) (Some p.1) (last_at ps key)
last_at-push ps p key = fold-append (later key) None ps (p ∷ [])

abbrev pub of_name : Option Name → Option (List ℕ)
of_name name = option_map (λ (n : Name). n.now) name

-- what a key is given is its name from then on
pub named_push : (ns : List Node) (old new : List HeldNode) (id name : Name) → ((key : List ℕ) → name_in old key ≡ last_at (names_of ns) key)
    → ((q : Name) → lookup (same q) new ≡ cond (same id q) (Some (Some name)) (lookup (same q) old))
    → (key : List ℕ) → name_in new key ≡ last_at (names_of (ns ++ record { id = id.now; name = name.now } ∷ [])) key
named_push ns old new id name names updates key =
    let n : Node = record { id = id.now; name = name.now } in
    let found = lookup (λ (k : Name). bytes_eq key k.now) old in
    ap (option_and_then of_name) (updates (record id { now = key }))
    ∙ elim (bytes_eq id.now key) as (λ b. option_and_then of_name (cond b (Some (Some name)) found)
    ≡ cond b (Some name.now) (option_and_then of_name found)) [
      | true ↦ refl
      | false ↦ refl
    ]
    ∙ ap (λ (o : Option (List ℕ)). cond (bytes_eq id.now key) (Some name.now) o) (names key)
    ∙ sym (last_at-push (names_of ns) (id.now, name.now) key)
    ∙ ap (λ (l : List (List ℕ × List ℕ)). last_at l key) (sym (map-append (λ (m : Node). (m.id, m.name)) ns (n ∷ [])))

-- a new key has none
pub unnamed_push : (old new : List HeldNode) (id : Name) → lookup (same id) old ≡ None
    → ((q : Name) → lookup (same q) new ≡ cond (same id q) (Some None) (lookup (same q) old)) → (key : List ℕ) → name_in new key ≡ name_in old key
unnamed_push old new id none updates key =
    let q : Name = record id { now = key } in
    ap (option_and_then of_name) (updates q)
    ∙ elim (cases_Bool (bytes_eq id.now key)) [
      | inl is ↦
          let found : lookup (same q) old ≡ None =
          ap (λ (l : List ℕ). lookup (λ (k : Name). bytes_eq l k.now) old) (sym ((bytes_decides id.now key).0 is)) ∙ none in
          ap (λ b. option_and_then of_name (cond b (Some None) (lookup (same q) old))) is ∙ ap (option_and_then of_name) (sym found)
      | inr other ↦ ap (λ b. option_and_then of_name (cond b (Some None) (lookup (same q) old))) other
    ]

-- a key that stands before these has no other name
none_named : (ps : List HeldNode) (x : Name) (key : List ℕ) → bytes_eq x.now key ≡ true → AllByRecursion (λ y. same x y ≡ false) (keys_of ps)
    → (found : Option (List ℕ)) → fold (later key) found (names_of (nodes_of ps)) ≡ found
none_named [] x key is apart found = refl
none_named (p ∷ ps) x key is apart found =
    let other : bytes_eq p.0.now key ≡ false =
    nat_list_eq_equiv.symm p.0.now key ∙ sym (nat_list_eq_equiv.congr x.now key p.0.now is) ∙ apart.0 in
    by p.1 other (none_named ps x key is apart.1 found)
  where
    by : (name : Option Name) → bytes_eq p.0.now key ≡ false → fold (later key) found (names_of (nodes_of ps)) ≡ found
        → fold (later key) found (names_of (node_of p.0.now name ++ nodes_of ps)) ≡ found
    by None other rest = rest
    by (Some n) other rest = ap (λ b. fold (later key) (cond b (Some n.now) found) (names_of (nodes_of ps))) other ∙ rest

-- the nodes that are told have the names that the keys have
pub named : (ps : List HeldNode) → IsDistinct same (keys_of ps) → (key : List ℕ) → last_at (names_of (nodes_of ps)) key ≡ name_in ps key
named [] distinct key = refl
named (p ∷ ps) distinct key =
    let apart = IsDistinct-head same p.0 (keys_of ps) distinct in
    let rest = named ps (IsDistinct-tail same p.0 (keys_of ps) distinct) key in
    let turned = nat_list_eq_equiv.symm key p.0.now in
    elim (cases_Bool (bytes_eq p.0.now key)) [
      | inl is ↦ here p.1 is apart
          ∙ ap (λ b. option_and_then of_name (cond b (Some p.1) (lookup (λ (k : Name). bytes_eq key k.now) ps))) (sym (turned ∙ is))
      | inr other ↦ there p.1 other rest
          ∙ ap (λ b. option_and_then of_name (cond b (Some p.1) (lookup (λ (k : Name). bytes_eq key k.now) ps))) (sym (turned ∙ other))
    ]
  where
    here : (name : Option Name) → bytes_eq p.0.now key ≡ true → AllByRecursion (λ y. same p.0 y ≡ false) (keys_of ps)
        → fold (later key) None (names_of (node_of p.0.now name ++ nodes_of ps)) ≡ of_name name
    here None is apart = none_named ps p.0 key is apart None
    here (Some n) is apart =
        ap (λ b. fold (later key) (cond b (Some n.now) None) (names_of (nodes_of ps))) is ∙ none_named ps p.0 key is apart (Some n.now)

    there : (name : Option Name) → bytes_eq p.0.now key ≡ false → last_at (names_of (nodes_of ps)) key ≡ name_in ps key
        → fold (later key) None (names_of (node_of p.0.now name ++ nodes_of ps)) ≡ name_in ps key
    there None other rest = rest
    there (Some n) other rest = ap (λ b. fold (later key) (cond b (Some n.now) None) (names_of (nodes_of ps))) other ∙ rest

-- ---- what is held

module _ (ns : List Node) (es : List Edge) (old new : List HeldNode) (hs : List HeldEdge) (holds : Holds ns es old hs) where
  pub holds_passed : Holds (ns ++ []) (es ++ []) old hs
  holds_passed = record {
    names = λ key. holds.names key ∙ ap (λ (l : List Node). last_at (names_of l) key) (sym (append-nil ns));
    edges = holds.edges ∙ sym (append-nil es);
    within = holds.within;
  }

  pub holds_named : (id name : Name) → new ≡ insert_entry same old id (Some name)
      → ((q : Name) → lookup (same q) new ≡ cond (same id q) (Some (Some name)) (lookup (same q) old))
      → Holds (ns ++ record { id = id.now; name = name.now } ∷ []) (es ++ []) new hs
  holds_named id name is updates =
      let kept = λ (k : ℕ) (inside : k < length old). subst (λ (l : List HeldNode). Keeps old l k) (sym is)
      (kept_inserted old id (Some name) k inside) in
      record {
        names = named_push ns old new id name holds.names updates;
        edges = edges_kept old new kept hs holds.within ∙ holds.edges ∙ sym (append-nil es);
        within = All-weaker (IsWithin old) (IsWithin new) (within_kept old new kept) hs holds.within;
      }

  pub holds_placed : (id : Name) → lookup (same id) old ≡ None → ((k : ℕ) → k < length old → Keeps old new k)
      → ((q : Name) → lookup (same q) new ≡ cond (same id q) (Some None) (lookup (same q) old)) → Holds ns es new hs
  holds_placed id none kept updates = record {
    names = λ key. unnamed_push old new id none updates key ∙ holds.names key;
    edges = edges_kept old new kept hs holds.within ∙ holds.edges;
    within = All-weaker (IsWithin old) (IsWithin new) (within_kept old new kept) hs holds.within;
  }

-- an edge more
pub holds_joined : (ns : List Node) (es : List Edge) (ps : List HeldNode) (hs : List HeldEdge) (e : HeldEdge) (from to : List ℕ) → Holds ns es ps hs
    → IsWithin ps e → get_or (ids_of ps) e.from [] ≡ from → get_or (ids_of ps) e.to [] ≡ to
    → Holds (ns ++ []) (es ++ record { from = from; to = to; line = e.line } ∷ []) ps (hs ++ e ∷ [])
holds_joined ns es ps hs e from to holds within from_is to_is = record {
  names = (holds_passed ns es ps ps hs holds).names;
  edges = map-append (seen_edge (ids_of ps)) hs (e ∷ [])
      ∙ (λ i. holds.edges i ++ record { from = from_is i; to = to_is i; line = e.line } ∷ []);
  within = All-push (IsWithin ps) hs e holds.within within;
}

-- a new number has the next place
pub placed_new : (old new : List HeldNode) (id : Name) → new ≡ old ++ (id, None) ∷ [] → IsPlaced id.now old new (length old)
placed_new old new id is =
    let f : HeldNode → List ℕ = λ p. p.0.now in
    let ids : ids_of new ≡ ids_of old ++ id.now ∷ [] = ap ids_of is ∙ map-append f old ((id, None) ∷ []) in
    let count : length new ≡ length old + 1 = ap (λ (l : List HeldNode). length l) is ∙ length-append old ((id, None) ∷ []) in
    let long : length (ids_of old) ≡ length old = length-map old f in
    record {
      within = omega (arith, count);
      is = ap (λ (l : List (List ℕ)). get_or l (length old) []) ids ∙ ap (λ k. get_or (ids_of old ++ id.now ∷ []) k []) (sym long)
          ∙ get_or-append_seam (ids_of old) id.now [] [];
      kept = λ k inside. record {
        within = omega (arith, count, inside);
        is = ap (λ (l : List (List ℕ)). get_or l k []) ids ∙ get_or-append (ids_of old) (id.now ∷ []) [] k (omega (arith, long, inside));
      };
    }

-- a number that is found has its place
pub placed_found : (ps : List HeldNode) (id : Name) (i : ℕ) → position (same id) (keys_of ps) ≡ Some i → IsPlaced id.now ps ps i
placed_found ps id i at =
    let found = position-Some (same id) (keys_of ps) i id at in
    let d : HeldNode = (id, None) in
    let inside : i < length ps = omega (arith, found.0, length-map ps (λ (p : HeldNode). p.0)) in
    let key : get_or (keys_of ps) i id ≡ (get_or ps i d).0 = get_or-map (λ (p : HeldNode). p.0) ps i d id inside in
    record {
      within = inside;
      is = get_or-map (λ (p : HeldNode). p.0.now) ps i d [] inside
          ∙ sym ((bytes_decides id.now (get_or ps i d).0.now).0 (ap (same id) (sym key) ∙ found.1));
      kept = λ k inside. record { within = inside; is = refl };
    }

pub none_is : {A : Type 0} (o : Option A) → false ≡ is_some o → o ≡ None
none_is None none = refl
none_is (Some x) none = absurd (cc none)

pub holds_none : (ps : List HeldNode) (hs : List HeldEdge) → ps ≡ [] → hs ≡ [] → Holds [] [] ps hs
holds_none ps hs no_ps no_hs = record {
  names = λ key. ap (λ (l : List HeldNode). name_in l key) no_ps;
  edges = ap (map (seen_edge (ids_of ps))) no_hs;
  within = All-same (IsWithin ps) hs [] no_hs (All-nil (IsWithin ps));
}
