-- What a graph tells of commands, and of a plan of theirs.
use Rattle.std.proofs.Common.{◌≡◌, ◌∙◌, ◌<◌, ℕ, Bool, List, [], ◌∷◌, Option, None, Some, ap, arith, length, map, option_and_then, option_map, refl, sym}
use Rattle.std.specs.Prelude.{slice_get}
use Rattle.nl_tool_texts.specs.Graphs.{names_of, Graph, Node}
use Rattle.nl_reports.specs.Critical.{IsCritical, Ran, lacking, ran_at, ran_in_place, ran_named}
use Rattle.nl_reports.specs.Found.{made}
use Rattle.nl_tool_texts.specs.GraphText.{ids_of, nodes_of}
use Rattle.nl_reports.specs.Jobs.{Job}
use Rattle.nl_tool_texts.specs.Lists.{last_at}
use Rattle.nl_reports.specs.Outputs.{places_of}
use Rattle.nl_reports.specs.Reaches.{AreOf, HavePlaces, HeldPlace, IsOver, place_at, place_named, place_seen, places_seen, ran_of}
use Rattle.nl_reports.specs.Rows.{spans}
use Rattle.nl_reports.specs.declared.critical.Reaches.{Reaches}
use Rattle.nl_tool_texts.specs.declared.graph.NinjaGraph.{NinjaGraph}
use Rattle.nl_reports.specs.declared.moments.Span.{Span}
use Rattle.nl_reports.proofs.PlanLemmas.{get_mapped, same_places}

pub all_lacking : (g : Graph) (js : List Job) → 0 < length js → length (lacking g js) ≡ length js → (screen : Bool) → IsCritical screen g js None
all_lacking g [] some all screen = absurd (omega (arith, some))
all_lacking g (j ∷ js) some all screen = all

pub none_there : (js : List Job) → length js ≡ 0 → js ≡ []
none_there [] none = refl
none_there (j ∷ js) none = absurd (omega (arith, none))

told : List Span → List ℕ × ℕ → Option Ran
told ss p = option_map (λ (s : Span). record { span = s; name = p.0; place = p.1 }) (slice_get ss p.1)

held : (ss : List Span) (ps : List (Option HeldPlace)) → map (option_and_then (ran_of ss)) ps ≡ map (option_and_then (told ss)) (places_seen ps)
unfolding told
held ss [] = refl
held ss (p ∷ ps) = λ i. by p i ∷ held ss ps i
  where
    by : (o : Option HeldPlace) → option_and_then (ran_of ss) o ≡ option_and_then (told ss) (option_map place_seen o)
    by None = refl
    by (Some p) = refl

module _ (plan js : List Job) (same : map made plan ≡ map made js) where
  by_name : (name : List ℕ) → option_and_then (told (spans plan)) (place_named js name) ≡ ran_named plan name
  unfolding told
  by_name name =
      by (last_at (places_of js) name)
      ∙ ap (λ (ps : List (List ℕ × ℕ)). option_and_then (ran_in_place plan name) (last_at ps name)) (sym (same_places 0 plan js same))
    where
      placed : ℕ → Option Span → Option Ran
      placed k o = option_map (λ (s : Span). record { span = s; name = name; place = k }) o

      some : (k : ℕ) (o : Option Job) → placed k (option_map (λ (j : Job). j.span) o)
          ≡ option_map (λ (j : Job). record { span = j.span; name = name; place = k }) o
      some k None = refl
      some k (Some j) = refl

      by : (o : Option ℕ) → option_and_then (told (spans plan)) (option_map (λ (k : ℕ). (name, k)) o) ≡ option_and_then (ran_in_place plan name) o
      by None = refl
      by (Some k) = ap (placed k) (get_mapped (λ (j : Job). j.span) plan k) ∙ some k (slice_get plan k)

  by_id : (nodes : List Node) (id : List ℕ) → option_and_then (told (spans plan)) (place_at nodes js id) ≡ ran_at nodes plan id
  by_id nodes id = by (last_at (names_of nodes) id)
    where
      by : (o : Option (List ℕ)) → option_and_then (told (spans plan)) (option_and_then (place_named js) o) ≡ option_and_then (ran_named plan) o
      by None = refl
      by (Some name) = by_name name

  by_ids : (nodes : List Node) (ids : List (List ℕ)) → map (option_and_then (told (spans plan))) (map (place_at nodes js) ids) ≡ map (ran_at nodes plan) ids
  by_ids nodes [] = refl
  by_ids nodes (id ∷ ids) = λ i. by_id nodes id i ∷ by_ids nodes ids i

  -- commands as they run in a plan
  pub are_planned : (g : NinjaGraph) (ps : List (Option HeldPlace)) (r : Reaches) → HavePlaces g js ps → IsOver g ps (spans plan) r → AreOf g plan r
  are_planned g ps r have over = record {
    graph = over.graph;
    distinct = have.distinct;
    ran = (λ i. map (option_and_then (ran_of (over.spans i))) (over.places i)) ∙ held (spans plan) ps
        ∙ ap (map (option_and_then (told (spans plan)))) have.are ∙ by_ids (nodes_of g.nodes.entries) (ids_of g.nodes.entries);
  }
