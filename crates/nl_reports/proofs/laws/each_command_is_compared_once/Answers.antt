use Rattle.std.proofs.Common.{length, true}
use Rattle.std.specs.Prelude.{replicate}
use Rattle.nl_reports.proofs.CompareLemmas.{new_paired, old_paired, old_told}
use Rattle.nl_reports.proofs.ClassLemmas.{classes_summed, in_one_class}
use Rattle.nl_reports.proofs.laws.each_command_is_compared_once.Goals as goal

pub returns-clause-old : goal.returns-clause-old
returns-clause-old c = λ js ks. old_paired ks (replicate (length ks) true) js

pub returns-clause-new : goal.returns-clause-new
returns-clause-new c = new_paired

pub returns-clause-front : goal.returns-clause-front
returns-clause-front c = λ rules old new. old_told rules old new new.jobs (replicate (length new.jobs) true) old.jobs

pub returns-clause-one : goal.returns-clause-one
returns-clause-one c = in_one_class

pub returns-clause-sums : goal.returns-clause-sums
returns-clause-sums c = classes_summed
