use Rattle.std.proofs.Common.{◌∙◌, ap, map, rules}
use Rattle.std.proofs.lemmas.List.Sorted.{All-permutation, answers_always}
use Rattle.nl_reports.specs.Jobs.{seen}
use Rattle.nl_reports.specs.Rows.{lead}
use Rattle.nl_reports.specs.Spans.{IsEarly}
use Rattle.nl_reports.specs.declared.job.Job.{Job}
use Rattle.nl_tool_texts.proofs.FallingLemmas.{falling_from_sort, map-falling, ranks_down}
use Rattle.nl_reports.proofs.job.jobs_by_start.Goals as goal

pub returns-clause-value : goal.returns-clause-value
returns-clause-value c =
    let answers = answers_always _ _ _ (λ f a r next called. search rules) in
    ap (map seen) (falling_from_sort (λ (j : Job). lead (seen j)) _ _
    (c.in_ok-sort_by.ensures.sorted _ (ranks_down (λ (j : Job). lead (seen j))) answers)
    (c.in_ok-sort_by.ensures.stable _ (ranks_down (λ (j : Job). lead (seen j))) answers))
    ∙ map-falling seen lead c.args.jobs.items

pub returns-clause-early : goal.returns-clause-early
returns-clause-early c =
    All-permutation (λ (j : Job). IsEarly j.span) _ c.sort_by.new.self.items c.in_ok-sort_by.ensures.permutation
    c.requires.early
