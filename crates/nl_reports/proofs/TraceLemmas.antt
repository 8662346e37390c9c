-- The text of a trace, event by event.
use Rattle.std.proofs.Common.{◌≡◌, ◌∙◌, ℕ, ◌+◌, ◌<◌, true, List, [], ◌∷◌, ◌++◌, Option, None, Some, option_map, Result, length, get_or, map, drop, refl, sym, ap, arith, append_assoc, append-nil, length-append}
use Rattle.std.specs.List.{flat_map, zip}
use Rattle.std.specs.Result.{IsErr}
use Rattle.std.proofs.lemmas.Grind.{flat_map-append}
use Rattle.serde_json.specs.Data.{Data}
use Rattle.serde_json.specs.View.{items_of}
use Rattle.serde_json.specs.Written.{compact_text, items_text}
use Rattle.nl_builds.specs.Builds.{Told}
use Rattle.nl_builds.specs.declared.build.How.{How}
use Rattle.nl_tool_texts.specs.declared.fault.ToolFault.{ToolFault}
use Rattle.nl_reports.specs.Events.{build_event, event_text}
use Rattle.nl_reports.specs.Frame.{first_began}
use Rattle.nl_reports.specs.Jobs.{Job, seen}
use Rattle.nl_reports.specs.Lanes.{lanes}
use Rattle.nl_reports.specs.Rows.{spans}
use Rattle.nl_reports.specs.Trace.{array_text, behind_commas, build_in, events_of, how_in, named_events, number_in, numbered_events, scoped_text}
use Rattle.nl_reports.specs.Turns.{jobs_in_turn}
use Rattle.nl_reports.specs.declared.choice.Scope.{Scope}
use Rattle.nl_tool_texts.specs.Writing.{Writes}
use Rattle.nl_reports.specs.declared.trace.BuildEvent.{BuildEvent}
use Rattle.nl_reports.specs.declared.job.Job.{Job as HeldJob}
use Rattle.nl_reports.specs.declared.moments.Span.{Span}
use Rattle.nl_reports.proofs.PairLemmas.{pair_at}
use Rattle.nl_tool_texts.proofs.WritingLemmas.{err_writes, none_written}

commas : (ds : List Data) → items_text true (items_of ds) ≡ behind_commas ds ++ 93 ∷ []
unfolding event_text
commas [] = refl
commas (d ∷ ds) =
    ap (λ (l : List ℕ). 44 ∷ (compact_text d ++ l)) (commas ds)
    ∙ sym (append_assoc (44 ∷ compact_text d) (behind_commas ds) (93 ∷ []))

array_is : (d : Data) (ds : List Data) → array_text (d ∷ ds) ≡ (91 ∷ event_text d) ++ (behind_commas ds ++ 93 ∷ [])
unfolding array_text event_text
array_is d ds = ap (λ (l : List ℕ). 91 ∷ (compact_text d ++ l)) (commas ds)

pub none_is : 91 ∷ 93 ∷ [] ≡ array_text []
unfolding array_text
none_is = refl

-- it isn't empty
pub end_some : (held later : List ℕ) → 0 < length (held ++ (later ++ 93 ∷ []))
end_some held later = omega (arith, length-append held (later ++ 93 ∷ []), length-append later (93 ∷ []))

pub array_some : (ds : List Data) → 0 < length (array_text ds)
array_some [] = omega (arith, ap length (sym none_is))
array_some (d ∷ ds) = omega (arith, ap length (array_is d ds), end_some (91 ∷ event_text d) (behind_commas ds))

-- the events of builds that are there, and of their commands
abbrev pub events_by : Option BuildEvent → List Job → List Data
events_by None js = []
events_by (Some b) js = named_events b js

pub events_as : (scope : Scope) (t : Told) (js : List Job) → events_by (build_in scope t (spans js)) js ≡ numbered_events (number_in scope t) (how_in scope t) js
events_as scope t js = by (how_in scope t)
  where
    by : (o : Option How) → events_by (option_map (λ (how : How). record { number = number_in scope t; began = first_began (spans js); how = how }) o) js
        ≡ numbered_events (number_in scope t) o js
    by None = refl
    by (Some how) = refl

-- the text of what is asked for, if that is there
pub asked : (scope : Scope) (t : Told) (cs : List Span) (js : List Job) (o : Option BuildEvent) → o ≡ build_in scope t cs → cs ≡ spans js
    → js ≡ jobs_in_turn scope t → array_text (events_by o js) ≡ scoped_text scope t
asked scope t cs js o is ran there =
    ap (λ (o : Option BuildEvent). array_text (events_by o js)) (is ∙ ap (build_in scope t) ran) ∙ ap array_text (events_as scope t js)
    ∙ ap (λ (js : List Job). array_text (numbered_events (number_in scope t) (how_in scope t) js)) there

-- an array by its beginning, the events of all commands, and its end
pub all_told : (b : BuildEvent) (js : List Job) (found held : List ℕ) → found ≡ lanes (spans js) → held ≡ 91 ∷ event_text (build_event b)
    → array_text (named_events b js) ≡ held ++ (behind_commas (flat_map (events_of b (spans js)) (zip js found)) ++ 93 ∷ [])
all_told b js found held is starts =
    let told : List ℕ → List ℕ = λ ls. behind_commas (flat_map (events_of b (spans js)) (zip js ls)) ++ 93 ∷ [] in
    array_is (build_event b) (flat_map (events_of b (spans js)) (zip js (lanes (spans js)))) ∙ (λ i. sym starts i ++ told (sym is i))

-- the events of the commands from one on
pub told_next : (b : BuildEvent) (cs : List Span) (ks : List HeldJob) (found : List ℕ) (i lane : ℕ) (k : HeldJob) → i < length ks
    → i < length found → k ≡ get_or ks i k → lane ≡ get_or found i lane
    → behind_commas (flat_map (events_of b cs) (drop i (zip (map seen ks) found)))
    ≡ behind_commas (events_of b cs (seen k, lane)) ++ behind_commas (flat_map (events_of b cs) (drop (i + 1) (zip (map seen ks) found)))
told_next b cs ks found i lane k there lane_there is lane_is =
    ap behind_commas (pair_at (flat_map (events_of b cs)) ks found i lane k there lane_there is lane_is)
    ∙ flat_map-append (λ (d : Data). 44 ∷ event_text d) (events_of b cs (seen k, lane))
    (flat_map (events_of b cs) (drop (i + 1) (zip (map seen ks) found)))

pub three_more : (old first second new a b c : List ℕ) → first ≡ old ++ a → second ≡ first ++ b → new ≡ second ++ c
    → new ≡ old ++ (a ++ (b ++ (c ++ [])))
three_more old first second new a b c one two three =
    three ∙ ap (λ (l : List ℕ). l ++ c) (two ∙ ap (λ (l : List ℕ). l ++ b) one)
    ∙ append_assoc (old ++ a) b c ∙ append_assoc old a (b ++ c) ∙ ap (λ (l : List ℕ). old ++ (a ++ (b ++ l))) (sym (append-nil c))

pub none_told : (known : Option (List ℕ)) (ds : List Data) (r : Result (Unit {0}) ToolFault) → IsErr r → Writes known known (array_text ds) r
none_told known ds r is = err_writes known known (array_text ds) r is (none_written known (array_text ds) (array_some ds))
