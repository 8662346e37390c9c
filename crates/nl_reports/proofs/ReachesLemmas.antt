-- What is guessed of a graph's places, seen by its numbers.
use Rattle.std.proofs.Common.{◌≡◌, ◌<◌, ◌≤◌, ◌∙◌, ◌+◌, ◌-◌, ◌⊎◌, append-nil, append_assoc, ℕ, zero, suc, true, false, List, [], ◌∷◌, ◌++◌, Option, None, Some, inl, inr, ap, arith, bytes_eq, cond, get_or, length, map, option_and_then, option_map, refl, subst, sym, take}
use Rattle.std.proofs.lemmas.Bool.{cases_Bool}
use Rattle.std.proofs.lemmas.Cmp.{nat_list_eq_equiv}
use Rattle.std.proofs.lemmas.List.{get_or-map, length-map, map-append, take_more}
use Rattle.std.proofs.lemmas.List.Concat.{flat_map-append}
use Rattle.std.proofs.lemmas.List.Elements.{All-map, All-weaker}
use Rattle.std.proofs.lemmas.Map.Keys.{IsDistinct-head, IsDistinct-tail}
use Rattle.std.specs.Prelude.{IfSome}
use Rattle.std.specs.Cmp.Lexicographic.{bytes_decides}
use Rattle.std.specs.List.{All, AllByRecursion, Contains, IsDistinct, flat_map, sum_by}
use Rattle.std.specs.Map.{keys_of, lookup}
use Rattle.nl_reports.specs.Critical.{Ran, ran_at, ran_named, ran_time, took_time, weight}
use Rattle.nl_tool_texts.specs.GraphText.{HeldNode, ids_of, nodes_of, seen_edge, seen_graph}
use Rattle.nl_reports.specs.Jobs.{Job}
use Rattle.nl_tool_texts.specs.Graphs.{Edge}
use Rattle.nl_reports.specs.Paths.{IsLongest, IsPath, Leads}
use Rattle.nl_reports.specs.Plans.{HavePlan, IsPlan, kept}
use Rattle.nl_reports.specs.Rows.{spans}
use Rattle.nl_reports.specs.Reaches.{AreOf, IsBegun, IsFarthest, IsFollowed, IsTight, behind_at, far_at, ran_in, HeldPlace, place_at, place_named, place_named_in, place_seen, places_seen, ran_of, rans_in}
use Rattle.nl_reports.specs.Sweep.{last_moment, running}
use Rattle.nl_reports.specs.declared.critical.Reaches.{Reaches}
use Rattle.nl_tool_texts.specs.declared.graph.Edge.{Edge as HeldEdge}
use Rattle.nl_tool_texts.specs.declared.graph.NinjaGraph.{NinjaGraph}
use Rattle.nl_tool_texts.proofs.GraphLemmas.{Name, named, of_name, same}
use Rattle.nl_tool_texts.proofs.OrderLemmas.{edge_among}
use Rattle.nl_reports.proofs.PathsLemmas.{IsBounded, longest_by, path_on, sum_on}
use Rattle.nl_reports.specs.declared.moments.Span.{Span}

-- a number is that of no key, or it has a place
pub key_or_none : (ps : List HeldNode) (id : List ℕ)
    → (lookup (λ (k : Name). bytes_eq id k.now) ps ≡ None) ⊎ ((i : ℕ) × (i < length ps) × (get_or (ids_of ps) i [] ≡ id))
key_or_none [] id = inl refl
key_or_none (p ∷ ps) id = elim (cases_Bool (bytes_eq id p.0.now)) [
  | inl is ↦ inr (0, omega arith, sym ((bytes_decides id p.0.now).0 is))
  | inr other ↦ elim (key_or_none ps id) [
    | inl none ↦ inl (ap (λ b. cond b (Some p.1) (lookup (λ (k : Name). bytes_eq id k.now) ps)) other ∙ none)
    | inr found ↦ inr (suc found.0, omega (arith, found.1), found.2)
  ]
]

-- a key that stands before these has its own place
apart_at : (x : Name) (ps : List HeldNode) (j : ℕ) → j < length ps → AllByRecursion (λ y. same x y ≡ false) (keys_of ps)
    → bytes_eq x.now (get_or (ids_of ps) j []) ≡ false
apart_at x [] j inside apart = absurd (omega (arith, inside))
apart_at x (p ∷ ps) zero inside apart = apart.0
apart_at x (p ∷ ps) (suc j) inside apart = apart_at x ps j (omega (arith, inside)) apart.1

module _ (r : Reaches) where
  -- how far it is from a number on, where the first of these has this place
  far_from : List HeldNode → ℕ → List ℕ → ℕ
  far_from [] i id = 0
  far_from (p ∷ ps) i id = cond (bytes_eq p.0.now id) (far_at r i) (far_from ps (i + 1) id)

  far_most : (most : ℕ) (ps : List HeldNode) (i : ℕ) (id : List ℕ) → ((k : ℕ) → k < i + length ps → far_at r k ≤ most)
      → far_from ps i id ≤ most
  unfolding far_from
  far_most most [] i id under = omega arith
  far_most most (p ∷ ps) i id under =
      let here : far_at r i ≤ most = under i (omega arith) in
      let rest : far_from ps (i + 1) id ≤ most = far_most most ps (i + 1) id (λ k inside. under k (omega (arith, inside))) in
      elim (bytes_eq p.0.now id) as (λ b. cond b (far_at r i) (far_from ps (i + 1) id) ≤ most) [ true ↦ here | false ↦ rest ]

  far_there : (ps : List HeldNode) (i j : ℕ) → j < length ps → IsDistinct same (keys_of ps)
      → far_from ps i (get_or (ids_of ps) j []) ≡ far_at r (i + j)
  unfolding far_from
  far_there [] i j inside distinct = absurd (omega (arith, inside))
  far_there (p ∷ ps) i zero inside distinct =
      let place : i ≡ i + 0 = omega arith in
      ap (λ b. cond b (far_at r i) (far_from ps (i + 1) p.0.now)) (nat_list_eq_equiv.refl p.0.now) ∙ ap (far_at r) place
  far_there (p ∷ ps) i (suc j) inside distinct =
      let id = get_or (ids_of ps) j [] in
      let place : (i + 1) + j ≡ i + suc j = omega arith in
      let other : bytes_eq p.0.now id ≡ false = apart_at p.0 ps j (omega (arith, inside)) (IsDistinct-head same p.0 (keys_of ps) distinct) in
      ap (λ b. cond b (far_at r i) (far_from ps (i + 1) id)) other
      ∙ far_there ps (i + 1) j (omega (arith, inside)) (IsDistinct-tail same p.0 (keys_of ps) distinct) ∙ ap (far_at r) place

module _ (ps : List HeldNode) (js : List Job) (r : Reaches) (are : rans_in r ≡ map (ran_at (nodes_of ps) js) (ids_of ps)) where
  pub ran_is : (i : ℕ) → i < length ps → ran_in r i ≡ ran_at (nodes_of ps) js (get_or (ids_of ps) i [])
  ran_is i inside =
      let count : length (ids_of ps) ≡ length ps = length-map ps (λ (p : HeldNode). p.0.now) in
      ap (λ (l : List (Option Ran)). get_or l i None) are
      ∙ get_or-map (ran_at (nodes_of ps) js) (ids_of ps) i [] None (omega (arith, count, inside))

  pub count_is : length r.places.now ≡ length ps
  count_is = sym (length-map r.places.now (option_and_then (ran_of r.spans.now))) ∙ ap (λ (l : List (Option Ran)). length l) are
      ∙ length-map (ids_of ps) (ran_at (nodes_of ps) js) ∙ length-map ps (λ (p : HeldNode). p.0.now)

module _ (ps : List HeldNode) (js : List Job) (r : Reaches) (distinct : IsDistinct same (keys_of ps))
    (are : rans_in r ≡ map (ran_at (nodes_of ps) js) (ids_of ps)) where
  far : List ℕ → ℕ
  far id = far_from r ps 0 id

  far_is : (i : ℕ) → i < length ps → far (get_or (ids_of ps) i []) ≡ far_at r i
  unfolding far
  far_is i inside = let place : 0 + i ≡ i = omega arith in far_there r ps 0 i inside distinct ∙ ap (far_at r) place

  light : (id : List ℕ) → weight (nodes_of ps) js id ≤ far id
  light id = elim (key_or_none ps id) [
    | inl none ↦
        let nothing : weight (nodes_of ps) js id ≡ 0 =
        ap (λ (o : Option (List ℕ)). ran_time (option_and_then (ran_named js) o)) (named ps distinct id ∙ ap (option_and_then of_name) none) in
        omega (arith, nothing)
    | inr found ↦
        let P : List ℕ → Type 0 = λ x. weight (nodes_of ps) js x ≤ far x in
        let time : ran_time (ran_in r found.0) ≡ weight (nodes_of ps) js (get_or (ids_of ps) found.0 []) =
        ap ran_time (ran_is ps js r are found.0 found.1) in
        subst P found.2 (omega (arith, time, far_is found.0 found.1))
  ]

  tight : (e : HeldEdge) → IsTight r e → IsBounded (weight (nodes_of ps) js) far (seen_edge (ids_of ps) e)
  tight e is =
      let from : e.from < length ps = omega (arith, is.from, count_is ps js r are) in
      let time : ran_time (ran_in r e.from) ≡ weight (nodes_of ps) js (get_or (ids_of ps) e.from []) = ap ran_time (ran_is ps js r are e.from from) in
      record {
        to = light (get_or (ids_of ps) e.to []);
        from = omega (arith, is.far, time, far_is e.from from, far_is e.to (omega (arith, is.to, count_is ps js r are)));
      }

  -- a path that is as long as it is far from any place is a longest one
  pub longest : (hs : List HeldEdge) (most : ℕ) → All (IsTight r) hs → ((k : ℕ) → k < length r.places.now → far_at r k ≤ most)
      → (path : List (List ℕ)) → IsPath (map (seen_edge (ids_of ps)) hs) path → sum_by (weight (nodes_of ps) js) path ≡ most
      → IsLongest (map (seen_edge (ids_of ps)) hs) (weight (nodes_of ps) js) path
  unfolding far
  longest hs most are_tight under =
      let wf = weight (nodes_of ps) js in
      longest_by (map (seen_edge (ids_of ps)) hs) wf far
      (All-map (IsBounded wf far) (seen_edge (ids_of ps)) hs
      (All-weaker (IsTight r) (λ e. IsBounded wf far (seen_edge (ids_of ps) e)) tight hs are_tight))
      most light (λ id. far_most r most ps 0 id (λ k inside. under k (omega (arith, inside, count_is ps js r are))))

  -- a plan is one, if no edge is too short for it, and commands begin as it says
  pub planned : (hs : List HeldEdge) (ks : List Job) (n wall : ℕ) → map kept js ≡ map kept ks → ((t : ℕ) → running (spans js) t ≤ n)
      → wall ≡ last_moment (spans js) → All (IsTight r) hs → ((k : ℕ) → k < length r.places.now → IsBegun r wall k)
      → IsPlan (record { nodes = nodes_of ps; edges = map (seen_edge (ids_of ps)) hs }) ks n wall js
  unfolding far
  planned hs ks n wall same few last are_tight begun =
      let wf = weight (nodes_of ps) js in
      let edges = map (seen_edge (ids_of ps)) hs in
      let count = count_is ps js r are in
      let under : (id : List ℕ) → far id ≤ wall = λ id. far_most r wall ps 0 id (λ k inside. (begun k (omega (arith, inside, count))).within) in
      let bounded : All (IsBounded wf far) edges = All-map (IsBounded wf far) (seen_edge (ids_of ps)) hs
      (All-weaker (IsTight r) (λ e. IsBounded wf far (seen_edge (ids_of ps) e)) tight hs are_tight) in
      record {
        same = same;
        few = few;
        last = last;
        begun = λ id. wall - far id;
        at = λ id. elim (key_or_none ps id) [
          | inl none ↦
              let P : Option Ran → Type 0 = λ o. IfSome o (λ (x : Ran). wall - far id ≡ x.span.began) in
              subst P (sym (nobody id none)) tt
          | inr found ↦
              let P : List ℕ → Type 0 = λ x. IfSome (ran_at (nodes_of ps) js x) (λ (y : Ran). wall - far x ≡ y.span.began) in
              let Q : Option Ran → Type 0 = λ o. IfSome o (λ (y : Ran). wall - far (get_or (ids_of ps) found.0 []) ≡ y.span.began) in
              let there : found.0 < length r.places.now = omega (arith, found.1, count) in
              subst P found.2 (subst Q (ran_is ps js r are found.0 found.1)
              (by (ran_in r found.0) (far_at r found.0) (far (get_or (ids_of ps) found.0 [])) (far_is found.0 found.1) (begun found.0 there).at))
        ];
        waits = All-weaker (IsBounded wf far) (λ (e : Edge). (wall - far e.from) + wf e.from ≤ wall - far e.to)
            (λ e is. omega (arith, is.from, under e.from)) edges bounded;
        within = λ id. omega (arith, light id, under id);
      }
    where
      nobody : (id : List ℕ) → lookup (λ (k : Name). bytes_eq id k.now) ps ≡ None → ran_at (nodes_of ps) js id ≡ None
      nobody id none =
          ap (λ (o : Option (List ℕ)). option_and_then (ran_named js) o) (named ps distinct id ∙ ap (option_and_then of_name) none)

      by : (o : Option Ran) (a b : ℕ) → b ≡ a → IfSome o (λ (y : Ran). a + y.span.began ≡ wall) → IfSome o (λ (y : Ran). wall - b ≡ y.span.began)
      by None a b same is = tt
      by (Some y) a b same is = omega (arith, is, same)

-- what holds by the graph of these holds by that graph
pub by_graph : (g : NinjaGraph) (js : List Job) (r : Reaches) → AreOf g js r → (P : NinjaGraph → Type 0) → (AreOf r.graph.now js r → P r.graph.now) → P g
by_graph g js r are P by = subst P are.graph (by (subst (λ (x : NinjaGraph). AreOf x js r) (sym are.graph) are))

pub have_plan : (g : NinjaGraph) (js ks : List Job) (n wall : ℕ) (r : Reaches) → AreOf g js r → map kept js ≡ map kept ks
    → ((t : ℕ) → running (spans js) t ≤ n) → wall ≡ last_moment (spans js) → All (IsTight r) r.graph.now.edges.items
    → ((k : ℕ) → k < length r.places.now → IsBegun r wall k) → HavePlan (seen_graph g) ks n wall
have_plan g js ks n wall r are same few last are_tight begun =
    let within : All (IsTight r) g.edges.items = subst (λ (x : NinjaGraph). All (IsTight r) x.edges.items) are.graph are_tight in
    record { plan = js; is = planned g.nodes.entries js r are.distinct are.ran g.edges.items ks n wall same few last within begun }

-- what a key has is its own
own_value : (ps : List HeldNode) (i : ℕ) (d : HeldNode) → i < length ps → IsDistinct same (keys_of ps)
    → lookup (λ (k : Name). bytes_eq (get_or (ids_of ps) i []) k.now) ps ≡ Some (get_or ps i d).1
own_value [] i d inside distinct = absurd (omega (arith, inside))
own_value (p ∷ ps) zero d inside distinct =
    ap (λ b. cond b (Some p.1) (lookup (λ (k : Name). bytes_eq p.0.now k.now) ps)) (nat_list_eq_equiv.refl p.0.now)
own_value (p ∷ ps) (suc i) d inside distinct =
    let id = get_or (ids_of ps) i [] in
    let other : bytes_eq id p.0.now ≡ false =
    nat_list_eq_equiv.symm id p.0.now ∙ apart_at p.0 ps i (omega (arith, inside)) (IsDistinct-head same p.0 (keys_of ps) distinct) in
    ap (λ b. cond b (Some p.1) (lookup (λ (k : Name). bytes_eq id k.now) ps)) other
    ∙ own_value ps i d (omega (arith, inside)) (IsDistinct-tail same p.0 (keys_of ps) distinct)

place_here : (ps : List HeldNode) (js : List Job) (i : ℕ) (d : HeldNode) → i < length ps → IsDistinct same (keys_of ps)
    → place_named_in js (get_or ps i d).1 ≡ place_at (nodes_of ps) js (get_or (ids_of ps) i [])
place_here ps js i d inside distinct =
    let id = get_or (ids_of ps) i [] in
    sym (ap (option_and_then (place_named js)) (named ps distinct id ∙ ap (option_and_then of_name) (own_value ps i d inside distinct))
    ∙ by (get_or ps i d).1)
  where
    by : (name : Option Name) → option_and_then (place_named js) (of_name name) ≡ place_named_in js name
    by None = refl
    by (Some n) = refl

-- one more was looked at
pub place_more : (ps : List HeldNode) (js : List Job) (hs : List (Option HeldPlace)) (h : Option HeldPlace) (i : ℕ) (d : HeldNode) → i < length ps
    → IsDistinct same (keys_of ps) → option_map place_seen h ≡ place_named_in js (get_or ps i d).1
    → places_seen hs ≡ map (place_at (nodes_of ps) js) (take i (ids_of ps))
    → places_seen (hs ++ h ∷ []) ≡ map (place_at (nodes_of ps) js) (take (i + 1) (ids_of ps))
place_more ps js hs h i d inside distinct is so_far =
    let f : List ℕ → Option (List ℕ × ℕ) = place_at (nodes_of ps) js in
    let ids = ids_of ps in
    let count : i < length ids = omega (arith, inside, length-map ps (λ (p : HeldNode). p.0.now)) in
    map-append (option_map place_seen) hs (h ∷ []) ∙ (λ j. so_far j ++ (is ∙ place_here ps js i d inside distinct) j ∷ [])
    ∙ sym (ap (map f) (take_more ids i [] count) ∙ map-append f (take i ids) (get_or ids i [] ∷ []))

-- what ran at a place, as it is held
pub ran_found : (ss : List Span) (ps : List (Option HeldPlace)) (i : ℕ)
    → get_or (map (option_and_then (ran_of ss)) ps) i None ≡ option_and_then (ran_of ss) (get_or ps i None)
ran_found ss [] i = refl
ran_found ss (p ∷ ps) zero = refl
ran_found ss (p ∷ ps) (suc i) = ran_found ss ps i

-- ---- the path so far

abbrev pub id_at : Reaches → ℕ → List ℕ
id_at r place = get_or (ids_of r.graph.now.nodes.entries) place []

abbrev pub rans_at : Reaches → List Job → List ℕ → List Ran
rans_at r js id = took_time (ran_at (nodes_of r.graph.now.nodes.entries) js id)

abbrev pub time_at : Reaches → List Job → List ℕ → ℕ
time_at r js id = weight (nodes_of r.graph.now.nodes.entries) js id

-- it goes on from a place, is as long as it is said to be but for what is from there on, and has these commands
pub record SoFar (js : List Job) (r : Reaches) (start place : ℕ) (old new : List Ran) : Type 0 where
  pub path : List (List ℕ)
  pub joins : (tail : List (List ℕ)) → IsPath (seen_graph r.graph.now).edges (id_at r place ∷ tail)
      → IsPath (seen_graph r.graph.now).edges (path ++ id_at r place ∷ tail)
  pub long : sum_by (time_at r js) path + far_at r place ≡ far_at r start
  pub rans_are : new ≡ old ++ flat_map (rans_at r js) path
  pub ran : ran_in r place ≡ ran_at (nodes_of r.graph.now.nodes.entries) js (id_at r place)

pub so_far_as : (js : List Job) (r : Reaches) (start n m : ℕ) (old a b : List Ran) → n ≡ m → a ≡ b → SoFar js r start m old b → SoFar js r start n old a
so_far_as js r start n m old a b place same so_far =
    let P : ℕ → Type 0 = λ k. SoFar js r start k old a in
    let Q : List Ran → Type 0 = λ t. SoFar js r start m old t in
    subst P (sym place) (subst Q (sym same) so_far)

ran_start : (js : List Job) (r : Reaches) (ps : List HeldNode) (start : ℕ) → rans_in r ≡ map (ran_at (nodes_of ps) js) (ids_of ps)
    → (0 < length r.places.now → start < length r.places.now) → ran_in r start ≡ ran_at (nodes_of ps) js (get_or (ids_of ps) start [])
ran_start js r [] start are within = ap (λ (l : List (Option Ran)). get_or l start None) are
ran_start js r (p ∷ ps) start are within =
    let count = count_is (p ∷ ps) js r are in
    ran_is (p ∷ ps) js r are start (omega (arith, count, within (omega (arith, count))))

pub path_begun : (js : List Job) (r : Reaches) (start : ℕ) (rans : List Ran) → AreOf r.graph.now js r → IsFarthest r start
    → SoFar js r start start rans rans
path_begun js r start rans are is = record {
  path = [];
  joins = λ tail along. along;
  long = omega arith;
  rans_are = sym (append-nil rans);
  ran = ran_start js r r.graph.now.nodes.entries start are.ran is.within;
}

module _ (js : List Job) (r : Reaches) (start place : ℕ) (old mid new : List Ran) (so_far : SoFar js r start place old mid)
    (more : new ≡ mid ++ took_time (ran_in r place)) where
  path_now : List (List ℕ)
  path_now = so_far.path ++ id_at r place ∷ []

  long_now : sum_by (time_at r js) path_now ≡ sum_by (time_at r js) so_far.path + ran_time (ran_in r place)
  unfolding path_now
  long_now =
      let time : time_at r js (id_at r place) ≡ ran_time (ran_in r place) = ap ran_time (sym so_far.ran) in
      omega (arith, time, sum_on (time_at r js) so_far.path (id_at r place))

  rans_now : new ≡ old ++ flat_map (rans_at r js) path_now
  unfolding path_now
  rans_now =
      let rans = flat_map (rans_at r js) so_far.path in
      let last : took_time (ran_in r place) ≡ rans_at r js (id_at r place) ++ [] = ap took_time so_far.ran
      ∙ sym (append-nil (rans_at r js (id_at r place))) in
      more ∙ (λ i. so_far.rans_are i ++ last i) ∙ append_assoc old rans (flat_map (rans_at r js) (id_at r place ∷ []))
      ∙ ap (λ (l : List Ran). old ++ l) (sym (flat_map-append (rans_at r js) so_far.path (id_at r place ∷ [])))

  pub path_more : (e : HeldEdge) → Contains r.graph.now.edges.items e → AreOf r.graph.now js r → e.from ≡ place → e.to < length r.places.now
      → far_at r e.to ≡ behind_at r place → SoFar js r start e.to old new
  unfolding path_now
  path_more e among are from to far =
      let ids = ids_of r.graph.now.nodes.entries in
      let edges = r.graph.now.edges.items in
      let leads : Leads (map (seen_edge ids) edges) (id_at r place) (id_at r e.to) = record {
        edge = seen_edge ids e;
        among = edge_among ids edges e among;
        from_is = ap (λ k. get_or ids k []) from;
        to_is = refl;
      } in
      let count = count_is r.graph.now.nodes.entries js r are.ran in
      record {
        path = path_now;
        joins = path_on (map (seen_edge ids) edges) so_far.path (id_at r place) (id_at r e.to) leads so_far.joins;
        long = omega (arith, long_now, so_far.long, far);
        rans_are = rans_now;
        ran = ran_is r.graph.now.nodes.entries js r are.ran e.to (omega (arith, to, count));
      }

  pub path_ended : behind_at r place ≡ 0 → IsFollowed (seen_graph r.graph.now) js (far_at r start) old new
  unfolding path_now
  path_ended none = record {
    path = path_now;
    is_path = so_far.joins [] tt;
    length_is = omega (arith, long_now, so_far.long, none);
    rans_are = rans_now;
  }
