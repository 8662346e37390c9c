-- The events of a trace have numbers that JSON's readers take exactly.
use Rattle.std.proofs.Common.{ℕ, ◌<◌, ◌^◌, List, [], ◌∷◌, Option, None, Some, length, arith}
use Rattle.std.specs.Prelude.{IfSome}
use Rattle.std.specs.List.{All, flat_map, zip}
use Rattle.std.proofs.lemmas.List.{get_or_default, length-map}
use Rattle.std.proofs.lemmas.List.Elements.{All-cons, All-head, All-nil, All-tail}
use Rattle.std.proofs.lemmas.List.Sums.{count_by-le-length}
use Rattle.nl_builds.specs.Builds.{Told}
use Rattle.nl_builds.specs.declared.build.How.{How}
use Rattle.nl_reports.specs.Events.{command_event, running_event}
use Rattle.nl_reports.specs.Frame.{first_began}
use Rattle.nl_reports.specs.Jobs.{Job}
use Rattle.nl_reports.specs.Lanes.{lanes}
use Rattle.nl_reports.specs.Reading.{FewTaken, IsEvent, counts, names, tells}
use Rattle.nl_reports.specs.Rows.{spans}
use Rattle.nl_reports.specs.Spans.{IsEarly, closed_of}
use Rattle.nl_reports.specs.Sweep.{runs_at}
use Rattle.nl_reports.specs.Trace.{events_of, how_in, named_events, number_in, numbered_events, trace_events}
use Rattle.nl_reports.specs.Turns.{jobs_in_turn}
use Rattle.nl_reports.specs.declared.choice.Scope.{Scope}
use Rattle.nl_reports.specs.declared.trace.BuildEvent.{BuildEvent}
use Rattle.nl_reports.specs.declared.moments.Span.{Span}
use Rattle.nl_reports.proofs.LaneLemmas.{lane_below, lanes_length}
use Rattle.nl_reports.proofs.TurnLemmas.{in_turn_early}

pub lanes_few : (cs : List Span) → length cs < 2 ^ 63 → All (λ (l : ℕ). l < 2 ^ 63) (lanes cs)
lanes_few cs few = λ k d within.
    let there : k < length cs = omega (arith, within, lanes_length cs []) in
    omega (arith, lane_below cs [] k there, get_or_default (lanes cs) k d 0 within, there, few)

-- ---- the events of commands in lanes

module _ (b : BuildEvent) (cs : List Span) (fits : b.number < 2 ^ 64) (few : length cs < 2 ^ 63) where
  running_fits : (at : ℕ) → at < 2 ^ 32 → IsEvent (running_event b cs at)
  running_fits at early = counts b cs at fits (omega (arith, count_by-le-length (runs_at at) cs, few)) (omega (arith, early))

  events_fit : (js : List Job) (ls : List ℕ) → All (λ (j : Job). IsEarly j.span) js → All (λ (l : ℕ). l < 2 ^ 63) ls
      → All IsEvent (flat_map (events_of b cs) (zip js ls))
  events_fit [] ls early low = All-nil IsEvent
  events_fit (j ∷ js) [] early low = All-nil IsEvent
  events_fit (j ∷ js) (l ∷ ls) early low =
      let own = All-head (λ (i : Job). IsEarly i.span) j js early in
      let lane = All-head (λ (i : ℕ). i < 2 ^ 63) l ls low in
      let more = flat_map (events_of b cs) (zip js ls) in
      let begins = running_event b cs j.span.began in
      let ended = running_event b cs (closed_of j.span) in
      let rest = events_fit js ls (All-tail (λ (i : Job). IsEarly i.span) j js early) (All-tail (λ (i : ℕ). i < 2 ^ 63) l ls low) in
      All-cons IsEvent (command_event b l j) (begins ∷ ended ∷ more)
      (tells b l j fits (omega (arith, lane)) (omega (arith, own.ended)) (omega (arith, own.began)))
      (All-cons IsEvent begins (ended ∷ more) (running_fits j.span.began own.began)
      (All-cons IsEvent ended more (running_fits (closed_of j.span) (omega (arith, own.began, own.ended))) rest))

-- ---- those of a build

build_fits : (b : BuildEvent) (js : List Job) → b.number < 2 ^ 64 → FewTaken b.how → length js < 2 ^ 63 → All (λ (j : Job). IsEarly j.span) js
    → All IsEvent (named_events b js)
build_fits b js fits taken few early =
    let ran : length (spans js) < 2 ^ 63 = omega (arith, few, length-map js (λ (j : Job). j.span)) in
    All-cons IsEvent _ _ (names b fits taken) (events_fit b (spans js) fits ran js (lanes (spans js)) early (lanes_few (spans js) ran))

pub trace_fits : (scope : Scope) (t : Told) → length (jobs_in_turn scope t) < 2 ^ 63 → number_in scope t < 2 ^ 64
    → IfSome (how_in scope t) FewTaken → All IsEvent (trace_events scope t)
trace_fits scope t few low taken = go (how_in scope t) taken
  where
    go : (o : Option How) → IfSome o FewTaken → All IsEvent (numbered_events (number_in scope t) o (jobs_in_turn scope t))
    go None known = All-nil IsEvent
    go (Some how) known =
        let js = jobs_in_turn scope t in
        build_fits (record { number = number_in scope t; began = first_began (spans js); how = how }) js low known few (in_turn_early scope t)
