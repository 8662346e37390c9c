use Rattle.std.proofs.Common.{ℕ, ◌≤◌, ◌^◌}
use Rattle.std.proofs.lemmas.List.Sorted.{All-permutation, IsNonDecreasingBy-from_sort}
use Rattle.nl_reports.proofs.SharesLemmas.{rises}
use Rattle.nl_reports.proofs.moments.rising.Goals as goal

pub returns-clause-order : goal.returns-clause-order
returns-clause-order c = λ early. rises c.sort_unstable.new.self.items
    (λ i j order within. IsNonDecreasingBy-from_sort (λ (x : ℕ). x) c.sort_unstable.new.self.items c.sort_unstable.ensures.sorted i j 0 order within)
    (All-permutation (λ (m : ℕ). m ≤ 2 ^ 32) c.args.moments.items c.sort_unstable.new.self.items c.sort_unstable.ensures.permutation early)
