use Rattle.nl_reports.specs.Lasting.{marks, commands_left, entries_left, last_entries}
use Rattle.nl_reports.proofs.LastingLawLemmas.{last_left, left_marked, waiting_gone}
use Rattle.std.proofs.Common.{◌∙◌, ℕ, ap, sym}
use Rattle.nl_reports.specs.Jobs.{jobs_from}
use Rattle.nl_reports.proofs.LastingJobLemmas.{jobs_kept, none_before}
use Rattle.nl_reports.proofs.laws.the_last_entry_of_each_output_is_left.Goals as goal

pub returns-clause-last : goal.returns-clause-last
returns-clause-last c = λ names t name rests. last_left names name rests t.entries

pub returns-clause-waiting : goal.returns-clause-waiting
returns-clause-waiting c = λ names t name waits. waiting_gone names name waits t.entries

pub returns-clause-order : goal.returns-clause-order
returns-clause-order c = λ names t. (marks names t.entries, left_marked names t.entries)

pub returns-clause-commands : goal.returns-clause-commands
returns-clause-commands c = λ names t rise.
    let left = entries_left names t.entries in
    ap (λ (k : ℕ). jobs_from (last_entries names t.entries) k (commands_left left k t.commands)) (sym (none_before names t.entries))
    ∙ jobs_kept names t.entries 0 t.commands rise
