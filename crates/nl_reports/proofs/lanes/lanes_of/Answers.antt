use Rattle.std.proofs.Common.{ℕ, ◌≤◌, length, subst, sym}
use Rattle.nl_reports.proofs.LaneLemmas.{free_within}
use Rattle.nl_reports.proofs.lanes.lanes_of.Goals as goal

pub give-requires-clause-lane : goal.give-requires-clause-lane
give-requires-clause-lane c =
    rw c.first_free-lane.ensures.ends (subst (λ (n : ℕ). n ≤ length c.loop-command.open.ends.items) (sym c.first_free-lane.ensures.value)
    (free_within _ c.loop-command.open.ends.items))
