use Rattle.std.proofs.Common.{◌≡◌, ◌⊎◌, inl, inr, ◌≤◌, ℕ, List, [], ◌∷◌, length, refl, sym, subst, arith}
use Rattle.std.specs.Prelude.{Some, IfOk}
use Rattle.nl_folder.specs.CrashImages.{IsImage}
use Rattle.nl_table.specs.History.{History}
use Rattle.nl_table.specs.Log.{history_of}
use Rattle.nl_session.specs.Runs.{BeginsAt}
use Rattle.nl_files.specs.FileFolder.{begun_view}
use Rattle.nl_files.specs.Model.{Model}
use Rattle.nl_files.specs.RunsOver.{RunsFrom}
use Rattle.nl_files.specs.Start.{begun}
use Rattle.nl_files.specs.MemSystem.{no_files}
use Rattle.nl_files.proofs.runs.run_in_memory.Goals as goal

nothing : (bs : List ℕ) → length bs ≤ 0 → bs ≡ []
nothing [] short = refl
nothing (b ∷ bs) short = absurd (omega (arith, short))

only_nothing : (bs : List ℕ) → (bs ≡ []) ⊎ IsImage (begun no_files) bs → bs ≡ []
only_nothing bs (inl same) = same
only_nothing bs (inr (inl image)) = nothing bs image.fits
only_nothing bs (inr (inr never)) = absurd never

begins_empty : (start : History) → history_of [] ≡ Some start → BeginsAt start (Some (begun no_files))
begins_empty start reads = record { bytes = []; reads = reads; only = only_nothing }

pub returns-clause-headline : goal.returns-clause-headline
returns-clause-headline c = λ start reads. c.run_over_system.ensures.headline start
    (subst (λ (it : Model). BeginsAt start (Some (begun it))) (sym c.new.ensures.model) (begins_empty start reads))

pub returns-clause-run : goal.returns-clause-run
returns-clause-run c = λ start reads. c.run_over_system.ensures.run start
    (subst (λ (it : Model). BeginsAt start (Some (begun it))) (sym c.new.ensures.model) (begins_empty start reads))

pub returns-clause-runs : goal.returns-clause-runs
returns-clause-runs c =
    subst (λ (it : Model). IfOk c.run_over_system.result (λ r. RunsFrom (begun_view (Some it)) c.args.events.now r.0 r.1.items r.2))
    c.new.ensures.model c.run_over_system.ensures.runs
