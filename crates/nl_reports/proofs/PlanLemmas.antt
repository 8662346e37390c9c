-- Plans: how many run at a time in them, and what they don't come below.
use Rattle.std.proofs.Common.{◌≡◌, ◌∙◌, ℕ, Bool, zero, suc, ◌+◌, ◌-◌, ◌*◌, ◌<◌, ◌≤◌, ◌==◌, cond, true, drop, List, [], ◌∷◌, ◌++◌, Option, None, Some, length, map, get_or, option_and_then, option_map, refl, sym, ap, subst, take, arith}
use Rattle.std.specs.Prelude.{IfSome, count_by, nat_le, slice_get}
use Rattle.std.specs.Global.{Vec}
use Rattle.std.specs.List.{All, sum_by}
use Rattle.std.specs.List.Sorted.{IsPermutation}
use Rattle.std.proofs.lemmas.Bool.Decides.{nat_tests}
use Rattle.std.proofs.lemmas.List.{at_drop_more, map-append, take_more}
use Rattle.std.proofs.lemmas.Bool.{eqb-true}
use Rattle.std.proofs.lemmas.List.Elements.{All-weaker}
use Rattle.std.proofs.lemmas.List.Sorted.{sum_by-IsPermutation}
use Rattle.std.proofs.lemmas.List.Sums.{sum_by-cons}
use Rattle.nl_fields.specs.declared.entry.Entry.{Entry}
use Rattle.nl_tool_texts.specs.Graphs.{names_of, Edge, Graph, Node}
use Rattle.nl_reports.specs.Critical.{IsFoundPath, Ran, ran_in_place, ran_named, ran_time, weight}
use Rattle.nl_reports.specs.Found.{made}
use Rattle.nl_reports.specs.Jobs.{Job, seen}
use Rattle.nl_reports.specs.Numbers.{total_time}
use Rattle.nl_tool_texts.specs.Lists.{last_at}
use Rattle.nl_reports.specs.Outputs.{outputs_at, places_from, places_of}
use Rattle.nl_reports.specs.Paths.{IsPath, length_of}
use Rattle.nl_reports.specs.Plans.{AreBehind, AreEstimates, AreMore, HavePlan, IsEstimate, IsPlan, estimate_line, floor_of, kept}
use Rattle.nl_reports.specs.Rows.{spans}
use Rattle.nl_reports.specs.Spans.{began_of, closed_of, time_of}
use Rattle.nl_reports.specs.Sweep.{before, last_moment, running}
use Rattle.nl_reports.specs.declared.job.Job.{Job as Held}
use Rattle.nl_reports.specs.declared.moments.Span.{Span}
use Rattle.nl_reports.proofs.LeftOverLemmas.{before-below, total_is}
use Rattle.nl_reports.proofs.MomentLemmas.{count_begun}
use Rattle.nl_reports.proofs.PathsLemmas.{IsBounded, path_bound}

-- ---- how many run at a time

-- no more starts than ends are up to a moment, but for so many
behind_counts : (t n : ℕ) (starts ends : List ℕ) → length starts ≤ n + length ends → AreBehind n starts ends
    → count_by (λ s. nat_le s t) starts ≤ n + count_by (λ e. nat_le e t) ends
behind_counts t n [] ends fits are = omega arith
behind_counts t zero (s ∷ ss) [] fits are = absurd (omega (arith, fits))
behind_counts t zero (s ∷ ss) (e ∷ es) fits are =
    let first : e ≤ s = are 0 (omega arith) (omega arith) in
    let one : cond (nat_le s t) 1 0 ≤ cond (nat_le e t) 1 0 = grind (arith, nat_tests) in
    let rest = behind_counts t zero ss es (omega (arith, fits))
    (λ k within there.
    let far : (suc k) + 0 < length (s ∷ ss) = omega (arith, there) in
    let same : (suc k) + 0 ≡ suc (k + 0) = omega arith in
    let P : ℕ → Type 0 = λ i. get_or (e ∷ es) (suc k) 0 ≤ get_or (s ∷ ss) i 0 in
    subst P same (are (suc k) (omega (arith, within)) far)) in
    omega (
      arith,
      one,
      rest,
      sum_by-cons (λ (x : ℕ). cond (nat_le x t) 1 0) s ss,
      sum_by-cons (λ (x : ℕ). cond (nat_le x t) 1 0) e es,
    )
behind_counts t (suc n) (s ∷ ss) ends fits are =
    let one : cond (nat_le s t) 1 0 ≤ 1 = grind (arith, nat_tests) in
    let rest = behind_counts t n ss ends (omega (arith, fits))
    (λ k within there.
    let same : k + suc n ≡ suc (k + n) = omega arith in
    let P : ℕ → Type 0 = λ i. get_or ends k 0 ≤ get_or (s ∷ ss) i 0 in
    subst P same (are k within (omega (arith, there)))) in
    omega (arith, one, rest, sum_by-cons (λ (x : ℕ). cond (nat_le x t) 1 0) s ss)

pub few_by : (cs : List Span) (n : ℕ) (starts ends : List ℕ) → IsPermutation (map began_of cs) starts → IsPermutation (map closed_of cs) ends
    → length starts ≤ n + length ends → AreBehind n starts ends → (t : ℕ) → running cs t ≤ n
few_by cs n starts ends p q fits are t = omega (
  arith,
  count_begun cs t,
  behind_counts t n starts ends fits are,
  sum_by-IsPermutation (λ (s : ℕ). cond (nat_le s t) 1 0) (map began_of cs) starts p,
  sum_by-IsPermutation (λ (e : ℕ). cond (nat_le e t) 1 0) (map closed_of cs) ends q,
)

-- ---- what a command keeps

abbrev pub Kept : Type 0
Kept = ℕ × List Entry

kept_time : Option Kept → ℕ
kept_time None = 0
kept_time (Some p) = p.0

module _ where
  pub same_places : (at : ℕ) (plan js : List Job) → map made plan ≡ map made js → places_from at plan ≡ places_from at js
  same_places at plan js same = by at plan ∙ ap (from at) same ∙ sym (by at js)
    where
      from : ℕ → List (List Entry) → List (List ℕ × ℕ)
      from at [] = []
      from at (es ∷ more) = outputs_at at es ++ from (at + 1) more

      by : (at : ℕ) (js : List Job) → places_from at js ≡ from at (map made js)
      by at [] = refl
      by at (j ∷ js) = ap (λ (l : List (List ℕ × ℕ)). outputs_at at j.outputs ++ l) (by (at + 1) js)

pub get_mapped : {A B : Type 0} (f : A → B) (xs : List A) (k : ℕ) → slice_get (map f xs) k ≡ option_map f (slice_get xs k)
get_mapped f [] k = refl
get_mapped f (x ∷ xs) zero = refl
get_mapped f (x ∷ xs) (suc k) = get_mapped f xs k

made_as : (js : List Job) → map made js ≡ map (λ (k : Kept). k.1) (map kept js)
made_as [] = refl
made_as (j ∷ js) = ap (λ l. made j ∷ l) (made_as js)

-- what keeps its time and its outputs makes the same
pub made_kept : (plan js : List Job) → map kept plan ≡ map kept js → map made plan ≡ map made js
made_kept plan js same = made_as plan ∙ ap (map (λ (k : Kept). k.1)) same ∙ sym (made_as js)

-- how long the command at a place took
time_at : (js : List Job) (name : List ℕ) (place : Option ℕ)
    → ran_time (option_and_then (ran_in_place js name) place) ≡ kept_time (option_and_then (slice_get (map kept js)) place)
unfolding kept_time
time_at js name None = refl
time_at js name (Some k) = by (slice_get js k) ∙ sym (ap kept_time (get_mapped kept js k))
  where
    by : (o : Option Job) → ran_time (option_map (λ (j : Job). record { span = j.span; name = name; place = k }) o) ≡ kept_time (option_map kept o)
    by None = refl
    by (Some j) = refl

-- a node weighs the same in a plan
pub same_weight : (nodes : List Node) (plan js : List Job) (id : List ℕ) → map kept plan ≡ map kept js
    → weight nodes plan id ≡ weight nodes js id
same_weight nodes plan js id same = by (last_at (names_of nodes) id)
  where
    place : (name : List ℕ) → last_at (places_of plan) name ≡ last_at (places_of js) name
    place name = ap (λ (ps : List (List ℕ × ℕ)). last_at ps name) (same_places 0 plan js (made_kept plan js same))

    by : (name : Option (List ℕ)) → ran_time (option_and_then (ran_named plan) name) ≡ ran_time (option_and_then (ran_named js) name)
    by None = refl
    by (Some name) =
        time_at plan name (last_at (places_of plan) name)
        ∙ (λ i. kept_time (option_and_then (slice_get (same i)) (place name i)))
        ∙ sym (time_at js name (last_at (places_of js) name))

-- ---- what no plan comes below

sum_same : (w v : List ℕ → ℕ) (path : List (List ℕ)) → ((id : List ℕ) → w id ≡ v id) → sum_by w path ≡ sum_by v path
sum_same w v [] same = refl
sum_same w v (id ∷ path) same = omega (arith, same id, sum_same w v path same, sum_by-cons w id path, sum_by-cons v id path)

pub no_path_beyond : (g : Graph) (js : List Job) (n wall : ℕ) (plan : List Job) → IsPlan g js n wall plan
    → (path : List (List ℕ)) → IsPath g.edges path → length_of (weight g.nodes js) path ≤ wall
no_path_beyond g js n wall plan is path along =
    let w = weight g.nodes plan in
    let left : List ℕ → ℕ = λ id. wall - is.begun id in
    let bounded : All (IsBounded w left) g.edges = All-weaker (λ (e : Edge). is.begun e.from + w e.from ≤ is.begun e.to) (IsBounded w left)
    (λ e waits. record { to = omega (arith, is.within e.to); from = omega (arith, waits, is.within e.to) }) g.edges is.waits in
    let under = path_bound g.edges w left bounded wall (λ id. omega (arith, is.within id)) (λ id. omega arith) path along in
    omega (arith, under, sum_same w (weight g.nodes js) path (λ id. same_weight g.nodes plan js id is.same))

times_of : (js : List Job) → total_time js ≡ sum_by (λ (k : Kept). k.0) (map kept js)
times_of [] = refl
times_of (j ∷ js) = omega (
  arith,
  times_of js,
  sum_by-cons (λ (j : Job). time_of j.span) j js,
  sum_by-cons (λ (k : Kept). k.0) (kept j) (map kept js),
)

times_in : (js : List Job) → total_time js ≡ sum_by (λ (s : Span). s.ended - s.began) (spans js)
times_in [] = refl
times_in (j ∷ js) = omega (
  arith,
  times_in js,
  sum_by-cons (λ (j : Job). time_of j.span) j js,
  sum_by-cons (λ (s : Span). s.ended - s.began) j.span (spans js),
)

pub no_more_done : (g : Graph) (js : List Job) (n wall : ℕ) (plan : List Job) → IsPlan g js n wall plan → total_time js ≤ n * wall
no_more_done g js n wall plan is =
    let cs = spans plan in
    let same : total_time js ≡ total_time plan = times_of js ∙ sym (ap (sum_by (λ (k : Kept). k.0)) is.same) ∙ sym (times_of plan) in
    let all : before (λ t. n) (last_moment cs) ≡ n * last_moment cs = constant (last_moment cs) in
    omega (
      arith,
      same,
      times_in plan,
      total_is cs,
      before-below (λ t. running cs t * 1) (λ t. n) (last_moment cs) (λ t. omega (arith, is.few t)),
      all,
      ap (λ k. n * k) is.last,
    )
  where
    constant : (k : ℕ) → before (λ t. n) k ≡ n * k
    constant zero = omega arith
    constant (suc k) = omega (arith, constant k)

-- ---- lines and plans so far

map_twice : {A B C : Type 0} (g : B → C) (f : A → B) (xs : List A) → map g (map f xs) ≡ map (λ x. g (f x)) xs
map_twice g f [] = refl
map_twice g f (x ∷ xs) = ap (λ l. g (f x) ∷ l) (map_twice g f xs)

-- commands as they run in a plan, each as long as it takes
pub in_plan : List Job → List Span → List Job
in_plan [] ss = []
in_plan (j ∷ js) [] = []
in_plan (j ∷ js) (s ∷ ss) = record { span = s; hash = j.hash; outputs = j.outputs } ∷ in_plan js ss

pub planned_spans : (js : List Job) (ss : List Span) → map time_of ss ≡ map (λ (j : Job). time_of j.span) js → spans (in_plan js ss) ≡ ss
unfolding in_plan
planned_spans [] [] same = refl
planned_spans [] (s ∷ ss) same = cc
planned_spans (j ∷ js) [] same = cc
planned_spans (j ∷ js) (s ∷ ss) same = let rest = planned_spans js ss (cc) in ap (λ (l : List Span). s ∷ l) rest

pub planned_kept : (js : List Job) (ss : List Span) → map time_of ss ≡ map (λ (j : Job). time_of j.span) js → map kept (in_plan js ss) ≡ map kept js
unfolding in_plan
planned_kept [] ss same = refl
planned_kept (j ∷ js) [] same = cc
planned_kept (j ∷ js) (s ∷ ss) same =
    let time : time_of s ≡ time_of j.span = cc in
    let rest : map time_of ss ≡ map (λ (k : Job). time_of k.span) js = cc in
    λ i. (time i, j.outputs) ∷ planned_kept js ss rest i

-- one more command takes as long as it takes
pub plan_more : (jobs : List Held) (plan : List Span) (i : ℕ) (d : Held) (s : Span) → i < length jobs
    → map time_of plan ≡ map (λ (j : Held). time_of j.span) (take i jobs) → time_of s ≡ time_of (get_or jobs i d).span
    → map time_of (plan ++ s ∷ []) ≡ map (λ (j : Held). time_of j.span) (take (i + 1) jobs)
plan_more jobs plan i d s inside same is =
    let f : Held → ℕ = λ j. time_of j.span in
    map-append time_of plan (s ∷ []) ∙ (λ k. same k ++ is k ∷ [])
    ∙ sym (ap (map f) (take_more jobs i d inside) ∙ map-append f (take i jobs) (get_or jobs i d ∷ []))

-- the times of commands as they are held
pub times_as : (xs : List Held) → map (λ (j : Held). time_of j.span) xs ≡ map (λ (j : Job). time_of j.span) (map seen xs)
times_as xs = sym (map_twice (λ (j : Job). time_of j.span) seen xs)

-- the spans of commands as they are held
pub spans_as : (xs : List Held) → map (λ (j : Held). j.span) xs ≡ spans (map seen xs)
spans_as xs = sym (map_twice (λ (j : Job). j.span) seen xs)

-- ---- what a graph tells

pub none_asked : (ns : List ℕ) → (length ns == 0) ≡ true → ns ≡ []
none_asked [] is = refl
none_asked (n ∷ ns) is = absurd (omega (arith, eqb-true (length (n ∷ ns)) 0 is))

pub estimates_there : (screen : Bool) (g : Graph) (js : List Job) (ns : List ℕ) (o : Option (Vec ℕ)) (lines : Vec ℕ) → o ≡ Some lines
    → IfSome o (λ (v : Vec ℕ). AreEstimates screen g js ns v.items) → AreEstimates screen g js ns lines.items
estimates_there screen g js ns o lines is are = subst (λ (p : Option (Vec ℕ)). IfSome p (λ (v : Vec ℕ). AreEstimates screen g js ns v.items)) is are

-- one more estimate
pub estimate_more : (screen : Bool) (g : Graph) (js : List Job) (counts : List ℕ) (i n : ℕ) (o : Option ℕ) (wall floor long : ℕ) (rans : List Ran)
    (before line text : List ℕ) → i < length counts → n ≡ get_or counts i n → o ≡ Some wall → IfSome o (HavePlan g js n)
    → IsFoundPath g js long rans → floor ≡ floor_of long (total_time js) n → (n ≡ 1 → wall ≡ total_time js) → (length js ≤ n → wall ≡ long)
    → line ≡ before ++ estimate_line screen n wall floor → AreMore screen g js (drop (i + 1) counts) line text → AreMore screen g js (drop i counts) before text
estimate_more screen g js counts i n o wall floor long rans before line text inside at some planned found floored one enough told rest =
    let w = weight g.nodes js in
    let split : drop i counts ≡ n ∷ drop (i + 1) counts =
    at_drop_more (λ (l : List ℕ). l) counts i n inside ∙ ap (λ (m : ℕ). m ∷ drop (i + 1) counts) (sym at) in
    let is : IsEstimate g js n wall floor = record {
      planned = subst (λ (p : Option ℕ). IfSome p (HavePlan g js n)) some planned;
      path = found.path;
      longest = found.longest;
      floor_is = floored ∙ ap (λ (k : ℕ). floor_of k (total_time js) n) found.length_is;
      bounds = record { one = one; enough = λ fits. enough fits ∙ found.length_is };
    } in
    subst (λ (l : List ℕ). AreMore screen g js l before text) (sym split)
    (line, record { wall = wall; floor = floor; is_estimate = is; is = told }, rest)
