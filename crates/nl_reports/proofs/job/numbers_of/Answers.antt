use Rattle.std.proofs.Common.{◌≡◌, ◌∙◌, ◌-◌, ◌^◌, ◌≤◌, ℕ, ap, arith, length, max, min, sym}
use Rattle.std.specs.List.{fold, sum_by}
use Rattle.std.proofs.lemmas.List.{at_drop_all}
use Rattle.nl_builds.specs.declared.command.Command.{Command}
use Rattle.nl_reports.specs.Jobs.{build_jobs, commands_to, entries_to, jobs_from, told}
use Rattle.nl_reports.specs.Numbers.{first_start, last_end, total_time}
use Rattle.nl_reports.specs.Spans.{span_of, time_of}
use Rattle.nl_reports.proofs.JobLemmas.{first_from, last_from, length_from, total_from}
use Rattle.nl_reports.proofs.job.numbers_of.Goals as goal

pub returns-clause-value : goal.returns-clause-value
returns-clause-value c =
    let t = told c.args.from.now in
    let n = c.args.number in
    let cs = c.made_by-place.result.0.now in
    let is = c.made_by-place.ensures.commands in
    let l = c.loop-command in
    let place = entries_to (commands_to (n - 1) t.builds) t.commands in
    let all : length cs ≤ l.command-index = omega (arith, c.loop-command-test.false) in
    let time = λ (d : Command). time_of (span_of d) in
    let began : l.began ≡ first_start (build_jobs t n) =
    sym (at_drop_all (λ ds. fold (λ m (d : Command). min m d.began) l.began ds) cs l.command-index all) ∙ l.invariant.began
    ∙ sym (first_from t.entries place (2 ^ 32) cs) ∙ ap (λ ds. first_start (jobs_from t.entries place ds)) is in
    let ended : l.ended ≡ last_end (build_jobs t n) =
    sym (at_drop_all (λ ds. fold (λ m (d : Command). max m d.ended) l.ended ds) cs l.command-index all) ∙ l.invariant.ended
    ∙ sym (last_from t.entries place 0 cs) ∙ ap (λ ds. last_end (jobs_from t.entries place ds)) is in
    let so_far : l.total ≡ sum_by time cs = omega (arith, l.invariant.total, at_drop_all (λ ds. sum_by time ds) cs l.command-index all) in
    let total : l.total ≡ total_time (build_jobs t n) = so_far ∙ sym (total_from t.entries place cs) ∙ ap (λ ds. total_time (jobs_from t.entries place ds)) is in
    let commands : length cs ≡ length (build_jobs t n) = sym (length_from t.entries place cs) ∙ ap (λ ds. length (jobs_from t.entries place ds)) is in
    let ended_by = c.ends_of.ensures.entries ∙ ap (λ (m : ℕ). entries_to m t.commands) c.ends_of.ensures.commands in
    let outputs = c.saturating_sub.ensures ∙ (λ i. ended_by i - c.made_by-place.ensures.place i) in
    let wall = c.saturating_sub-2.ensures ∙ (λ i. ended i - began i) in
    λ i. record { commands = commands i; outputs = outputs i; wall = wall i; total = total i }

pub returns-clause-small : goal.returns-clause-small
returns-clause-small c = record {
  commands = omega (arith, c.loop-command.auto.command-index-end, c.loop-command-test.false);
  outputs = omega (arith, c.saturating_sub.type_inv);
  wall = omega (arith, c.saturating_sub-2.ensures, c.loop-command.invariant.early);
  total = omega (arith, c.loop-command.invariant.small, c.loop-command.auto.command-index-end);
}
