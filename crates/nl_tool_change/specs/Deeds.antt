-- The names that an event keeps, as a set: docs/CLI.md, "`apply`".
use Rattle.std.specs.Prelude.{◌≡◌, ⊤, ℕ, List, Option, IfSome, not}
use Rattle.nl_table.specs.History.{holds}
use Rattle.nl_table.specs.LogUser.{is_dead_by}
use Rattle.nl_table.specs.declared.log_user.KeepList.{KeepList}
use Rattle.nl_table.specs.declared.log_user.KeepList.TheVariants.{All, Only}
use Rattle.nl_session.specs.declared.events.Event.{Event}
use Rattle.nl_session.specs.declared.events.Event.TheVariants.{Open as OpenLog, Recompact}

abbrev pub IsDeadBut : List (List ℕ) → KeepList → Type 0
IsDeadBut names keep = (λ (name : List ℕ). not (holds names name)) ≡ is_dead_by keep

abbrev pub KeepsThese : Event → List (List ℕ) → Type 0
KeepsThese (OpenLog keep) names = IsDeadBut names keep
KeepsThese (Recompact keep) names = IsDeadBut names keep
KeepsThese _ names = ⊤

abbrev pub SetsFor : Event → Option (List (List ℕ)) → Type 0
SetsFor event kept = IfSome kept (KeepsThese event)

abbrev pub HasNames : KeepList → Type 0
HasNames All = ⊥
HasNames (Only names) = ⊤

abbrev pub KeepsNames : Event → Type 0
KeepsNames (OpenLog keep) = HasNames keep
KeepsNames (Recompact keep) = HasNames keep
KeepsNames _ = ⊥
