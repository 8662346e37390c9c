-- The commands of a build, with and without the entries of their outputs.
use Rattle.std.proofs.Common.{◌≡◌, ℕ, List, [], ◌∷◌, ap, arith, length, map, max, min, refl}
use Rattle.std.specs.List.{fold, sum_by}
use Rattle.std.proofs.lemmas.List.Sums.{sum_by-cons}
use Rattle.nl_builds.specs.declared.command.Command.{Command}
use Rattle.nl_fields.specs.declared.entry.Entry.{Entry}
use Rattle.nl_reports.specs.Jobs.{Job, job_of, jobs_from}
use Rattle.nl_reports.specs.Numbers.{spans_of, total_time}
use Rattle.nl_reports.specs.Spans.{span_of, time_of}

pub spans_from : (es : List Entry) (place : ℕ) (cs : List Command) → spans_of (jobs_from es place cs) ≡ map span_of cs
spans_from es place [] = refl
spans_from es place (c ∷ cs) = ap (λ l. span_of c ∷ l) (spans_from es c.to cs)

pub length_from : (es : List Entry) (place : ℕ) (cs : List Command) → length (jobs_from es place cs) ≡ length cs
length_from es place [] = refl
length_from es place (c ∷ cs) = omega (arith, length_from es c.to cs)

pub first_from : (es : List Entry) (place at : ℕ) (cs : List Command) → fold (λ n (j : Job). min n j.span.began) at (jobs_from es place cs) ≡ fold (λ n (c : Command). min n c.began) at cs
first_from es place at [] = refl
first_from es place at (c ∷ cs) = first_from es c.to (min at c.began) cs

pub last_from : (es : List Entry) (place at : ℕ) (cs : List Command) → fold (λ n (j : Job). max n j.span.ended) at (jobs_from es place cs) ≡ fold (λ n (c : Command). max n c.ended) at cs
last_from es place at [] = refl
last_from es place at (c ∷ cs) = last_from es c.to (max at c.ended) cs

pub total_from : (es : List Entry) (place : ℕ) (cs : List Command) → total_time (jobs_from es place cs) ≡ sum_by (λ (c : Command). time_of (span_of c)) cs
total_from es place [] = refl
total_from es place (c ∷ cs) = omega (
  arith,
  total_from es c.to cs,
  sum_by-cons (λ (j : Job). time_of j.span) (job_of es place c) (jobs_from es c.to cs),
  sum_by-cons (λ (d : Command). time_of (span_of d)) c cs,
)
