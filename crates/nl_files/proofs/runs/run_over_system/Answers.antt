use Rattle.std.proofs.Common.{ℕ, sym, ap, subst, ◌∙◌}
use Rattle.std.specs.Prelude.{Option, zip}
use Rattle.nl_folder.specs.DiskState.{Disk}
use Rattle.nl_folder.specs.FolderView.{FolderView, SameState}
use Rattle.nl_session.specs.Reopening.{Moved}
use Rattle.nl_session.specs.Runs.{BeginsAt, OpensAtLast, RestsThrough, HasRisen, faults_of}
use Rattle.nl_files.specs.FileFolder.{system_of, state_of, failure_count}
use Rattle.nl_files.proofs.runs.run_over_system.Goals as goal

pub returns-clause-headline : goal.returns-clause-headline
returns-clause-headline g c = λ start begins.
    c.run_events.ensures.headline start
    (subst (λ (it : Option Disk). BeginsAt start it) (sym (ap (λ (it : FolderView). it.disk) c.in_ok-folder.ensures.state)) begins)

pub returns-clause-run : goal.returns-clause-run
returns-clause-run g c = λ start begins.
    c.run_events.ensures.run start
    (subst (λ (it : Option Disk). BeginsAt start it) (sym (ap (λ (it : FolderView). it.disk) c.in_ok-folder.ensures.state)) begins)

pub returns-clause-disks : goal.returns-clause-disks
returns-clause-disks g c = λ d is.
    let same = ap (λ (it : FolderView). it.disk) c.in_ok-folder.ensures.state in
    subst (λ (it : Option Disk). Moved it (zip c.args.events.now c.run_events.result.1.items) (state_of c.run_events.result.0).disk) same
    (c.run_events.ensures.disks d (same ∙ is))

pub returns-clause-runs : goal.returns-clause-runs
returns-clause-runs g c =
    let began = ap (λ (it : FolderView). it.disk) c.in_ok-folder.ensures.state in
    let last = (state_of c.run_events.result.0).disk in
    record {
      rests = subst (λ (it : Option Disk). RestsThrough c.args.events.now it last) began c.run_events.ensures.rests;
      reopens = subst (λ (it : Option Disk). OpensAtLast (zip c.args.events.now c.run_events.result.1.items) it last) began
          c.run_events.ensures.reopens;
      failures = subst (λ (it : ℕ). HasRisen it (faults_of c.run_events.result.1.items) (failure_count c.run_events.result.0))
          c.in_ok-folder.ensures.failures c.run_events.ensures.failures;
      steady = λ none. c.run_events.ensures.steady none ∙ c.in_ok-folder.ensures.failures;
      memory = c.run_events.ensures.memory;
      outcome = c.run_events.ensures.outcome;
      same = λ none. subst (λ (it : FolderView). SameState it (state_of c.run_events.result.0)) c.in_ok-folder.ensures.state
          (c.run_events.ensures.same none);
    }

pub returns-clause-untouched : goal.returns-clause-untouched
returns-clause-untouched g c = λ none first.
    ap system_of (c.run_events.ensures.untouched none first) ∙ c.in_ok-folder.ensures.system
