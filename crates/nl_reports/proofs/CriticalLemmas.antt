-- The text of a critical path, the names of a graph's nodes as a map holds them, and the commands that it lacks.
use Rattle.std.proofs.Common.{◌≡◌, ◌<◌, ◌≤◌, ◌∙◌, ◌++◌, ℕ, true, false, List, [], ◌∷◌, Option, Some, append-nil, ap, arith, cond, refl, sym, ◌+◌, ◌||◌, Bool, None, bytes_eq, drop, get_or, length, map, not, take}
use Rattle.std.proofs.lemmas.List.{at_drop_all, at_drop_more, map-append, take_more}
use Rattle.std.proofs.lemmas.List.Concat.{flat_map-append}
use Rattle.std.specs.Global.{Vec}
use Rattle.std.specs.List.{list_any, sum_by}
use Rattle.nl_table.specs.declared.output_key.NameKey.{NameKey}
use Rattle.nl_fields.specs.declared.entry.Entry.{Entry}
use Rattle.nl_reports.specs.Critical.{IsCritical, IsCriticalText, IsFoundPath, IsPathText, Ran, told_path, any_named, lacking}
use Rattle.nl_tool_texts.specs.GraphText.{HeldNode, node_of, nodes_of}
use Rattle.nl_reports.specs.Jobs.{Job, seen}
use Rattle.nl_reports.specs.Lasting.{is_among, is_held}
use Rattle.nl_tool_texts.specs.Graphs.{Graph, Node}
use Rattle.nl_reports.specs.Spans.{time_of}
use Rattle.nl_reports.specs.declared.job.Job.{Job as HeldJob}
use Rattle.nl_tool_texts.proofs.GraphLemmas.{Name}

-- of some commands
pub critical_told : (screen : Bool) (g : Graph) (js : List Job) (text : Vec ℕ) → IsCriticalText screen g js text.items → IsCritical screen g js (Some text)
critical_told screen g [] text is = absurd (is.some refl)
critical_told screen g (j ∷ js) text is = is

-- the text of a path that was found
pub path_told : (screen : Bool) (g : Graph) (js : List Job) (length : ℕ) (rans : List Ran) (text : List ℕ) → IsFoundPath g js length rans
    → text ≡ told_path screen length rans → IsPathText screen g js text
path_told screen g js length rans text found told = record {
  path = found.path;
  longest = found.longest;
  is = told ∙ (λ i. told_path screen (found.length_is i) (found.rans_are i));
}

-- ---- names

abbrev pub HoldNames : List Node → List NameKey → Type 0
HoldNames ns keys = (name : List ℕ) → is_held keys name ≡ is_among name (map (λ (n : Node). n.name) ns)

nodes_more : (ps : List HeldNode) (i : ℕ) (p : HeldNode) → i < length ps
    → nodes_of (take (i + 1) ps) ≡ nodes_of (take i ps) ++ node_of (get_or ps i p).0.now (get_or ps i p).1
nodes_more ps i p inside =
    let f : HeldNode → List Node = λ q. node_of q.0.now q.1 in
    ap nodes_of (take_more ps i p inside) ∙ flat_map-append f (take i ps) (get_or ps i p ∷ [])
    ∙ ap (λ (l : List Node). nodes_of (take i ps) ++ l) (append-nil (f (get_or ps i p)))

among-push : (name : List ℕ) (ns : List (List ℕ)) (n : List ℕ) → is_among name (ns ++ n ∷ []) ≡ cond (bytes_eq n name) true (is_among name ns)
among-push name [] n = elim (bytes_eq n name) as (λ b. (b || false) ≡ cond b true false) [ true ↦ refl | false ↦ refl ]
among-push name (m ∷ ns) n =
    ap (λ b. bytes_eq m name || b) (among-push name ns n)
    ∙ elim (bytes_eq m name) as (λ a. (a || cond (bytes_eq n name) true (is_among name ns)) ≡ cond (bytes_eq n name) true (a || is_among name ns)) [
      | true ↦ elim (bytes_eq n name) as (λ b. true ≡ cond b true true) [ true ↦ refl | false ↦ refl ]
      | false ↦ refl
    ]

-- a node more that has no name, and one that has
module _ (ps : List HeldNode) (i : ℕ) (p : HeldNode) (inside : i < length ps) (es fs : List NameKey)
    (hold : HoldNames (nodes_of (take i ps)) es) where
  names_of_nodes : List Node → List (List ℕ)
  names_of_nodes ns = map (λ (n : Node). n.name) ns

  pub hold_unnamed : None ≡ (get_or ps i p).1 → HoldNames (nodes_of (take (i + 1) ps)) es
  unfolding names_of_nodes
  hold_unnamed none name =
      hold name ∙ ap (λ (l : List Node). is_among name (names_of_nodes l)) (sym (nodes_more ps i p inside
      ∙ ap (λ (o : Option Name). nodes_of (take i ps) ++ node_of (get_or ps i p).0.now o) (sym none) ∙ append-nil (nodes_of (take i ps))))

  pub hold_named : (n : Name) → Some n ≡ (get_or ps i p).1
      → ((q : List ℕ) → is_held fs q ≡ cond (bytes_eq n.now q) true (is_held es q)) → HoldNames (nodes_of (take (i + 1) ps)) fs
  unfolding names_of_nodes
  hold_named n is updates name =
      let node : Node = record { id = (get_or ps i p).0.now; name = n.now } in
      let more : nodes_of (take (i + 1) ps) ≡ nodes_of (take i ps) ++ node ∷ [] =
      nodes_more ps i p inside ∙ ap (λ (o : Option Name). nodes_of (take i ps) ++ node_of (get_or ps i p).0.now o) (sym is) in
      updates name
      ∙ ap (λ b. cond (bytes_eq n.now name) true b) (hold name)
      ∙ sym (ap (λ (l : List Node). is_among name (names_of_nodes l)) more
      ∙ ap (is_among name) (map-append (λ (m : Node). m.name) (nodes_of (take i ps)) (node ∷ []))
      ∙ among-push name (names_of_nodes (nodes_of (take i ps))) n.now)

-- ---- the commands that are lacking

pub any_held : (g : Graph) (names : List NameKey) → HoldNames g.nodes names → (es : List Entry)
    → list_any (λ (e : Entry). is_held names e.name) es ≡ any_named g es
any_held g names hold [] = refl
any_held g names hold (e ∷ es) = λ i. hold e.name i || any_held g names hold es i

pub lacking_more : (g : Graph) (jobs : List HeldJob) (i : ℕ) (j : HeldJob) (b : Bool) → i < length jobs → j ≡ get_or jobs i j
    → b ≡ any_named g j.outputs.now → lacking g (map seen (drop i jobs))
    ≡ cond (not b) (seen j ∷ lacking g (map seen (drop (i + 1) jobs))) (lacking g (map seen (drop (i + 1) jobs)))
lacking_more g jobs i j b inside is any =
    at_drop_more (λ (l : List HeldJob). lacking g (map seen l)) jobs i j inside
    ∙ ap (λ (x : HeldJob). lacking g (seen x ∷ map seen (drop (i + 1) jobs))) (sym is)
    ∙ ap (λ a. cond (not a) (seen j ∷ lacking g (map seen (drop (i + 1) jobs))) (lacking g (map seen (drop (i + 1) jobs)))) (sym any)

pub all_counted : (g : Graph) (jobs : List HeldJob) (i count time : ℕ) → length jobs ≤ i
    → count + length (lacking g (map seen (drop i jobs))) ≡ length (lacking g (map seen jobs))
    → time + sum_by (λ (j : Job). time_of j.span) (lacking g (map seen (drop i jobs))) ≡ sum_by (λ (j : Job). time_of j.span) (lacking g (map seen jobs))
    → (count ≡ length (lacking g (map seen jobs))) × (time ≡ sum_by (λ (j : Job). time_of j.span) (lacking g (map seen jobs)))
all_counted g jobs i count time all counted summed =
    let none : lacking g (map seen (drop i jobs)) ≡ [] = at_drop_all (λ (l : List HeldJob). lacking g (map seen l)) jobs i all in
    (omega (arith, counted, ap length none), omega (arith, summed, ap (sum_by (λ (j : Job). time_of j.span)) none))
