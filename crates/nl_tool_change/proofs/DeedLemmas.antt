-- The names that an event keeps, as a set.
use Rattle.std.proofs.Common.{◌≡◌, ◌≢◌, ◌<◌, ◌++◌, ◌∷◌, ◌∙◌, ℕ, List, [], ap, arith, inl, inr, length, refl}
use Rattle.std.specs.Prelude.{Bool, codes, not}
use Rattle.std.specs.List.{flat_map}
use Rattle.nl_table.specs.History.{holds}
use Rattle.nl_table.specs.Table.{each_once}
use Rattle.nl_table.proofs.NameSetLemmas.{held_once}
use Rattle.nl_table.specs.declared.log_user.KeepList.TheVariants.{All, Only}
use Rattle.nl_session.specs.declared.events.Event.{Event}
use Rattle.nl_session.specs.declared.events.Event.TheVariants.{Open as OpenLog, Record, Sync, Recompact, Restat, Stop, Crash}
use Rattle.nl_session.specs.declared.events.Reply.{Reply}
use Rattle.nl_session.specs.declared.fault.LogState.TheVariants.{Open}
use Rattle.nl_session.specs.Answers.{Answered}
use Rattle.nl_session.specs.Headline.{Exchange}
use Rattle.nl_session.specs.LogView.{LogView}
use Rattle.nl_tool_change.specs.Applying.{DoesEvent}
use Rattle.nl_tool_change.specs.Reading.{HoldsNames}
use Rattle.nl_tool_change.specs.Replay.{KeepsSome, event_line, name_field, reply_line}
use Rattle.nl_tool_change.specs.Deeds.{KeepsNames}

-- a set of names is found to hold what they are
pub same_dead : (set names : List (List ℕ)) → set ≡ each_once names
    → ◌≡◌ {A = List ℕ → Bool} (λ name. not (holds set name)) (λ name. not (holds names name))
same_dead set names is = λ i name. not ((ap (λ (l : List (List ℕ)). holds l name) is ∙ held_once names name) i)

-- one name more stands behind a tab
behind : (names : List (List ℕ)) → 0 < length names → (rest : List ℕ) × (flat_map name_field names ≡ 9 ∷ rest)
behind [] some = absurd (omega (arith, some))
behind (name ∷ names) some = (name ++ flat_map name_field names, refl)

-- so the line of an event that keeps some holds them
pub holds_names : (event : Event) → KeepsNames event → KeepsSome event → HoldsNames (event_line event)
holds_names (OpenLog (Only names)) keeps some =
    let found = behind names.items some in (found.0, inl (ap (λ (l : List ℕ). codes "open" ++ l) found.1))
holds_names (Recompact (Only names)) keeps some =
    let found = behind names.items some in (found.0, inr (inr (inl (ap (λ (l : List ℕ). codes "recompact" ++ l) found.1))))
holds_names (OpenLog All) keeps some = absurd keeps
holds_names (Recompact All) keeps some = absurd keeps
holds_names (Record e) keeps some = absurd keeps
holds_names Sync keeps some = absurd keeps
holds_names (Restat times) keeps some = absurd keeps
holds_names Stop keeps some = absurd keeps
holds_names Crash keeps some = absurd keeps

-- an event that is no stop of an open log is done as it is answered
pub does_so : {old new : LogView} {reply : Reply} (event : Event) → Answered event reply old new → (event ≡ Stop → old.mode ≢ Open)
    → (exchanges : List Exchange) × DoesEvent event old new exchanges (reply_line reply)
does_so {reply = reply} event answered other =
    ((event, reply) ∷ [], inl (record { reply = reply; answered = answered; are = refl; is = refl; other = other }))
