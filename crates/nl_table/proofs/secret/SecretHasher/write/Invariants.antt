-- The state so far is that of the whole blocks before `at`.
use Rattle.std.specs.Prelude.{◌≡◌, ◌-◌, ◌/◌, ◌%◌, ◌<◌}
use Rattle.nl_table.specs.Hash.{mixed_blocks}
use Rattle.nl_table.proofs.secret.SecretHasher.write.Given as goal

abbrev pub invariant-loop-at : goal.invariant-loop-at
invariant-loop-at l = (l.at % 16 ≡ 0) × (l.at < l.len)
    × (l.state ≡ mixed_blocks l.bytes l.factor l.initial.state (l.at / 16))

abbrev pub decreases-loop-at : goal.decreases-loop-at
decreases-loop-at l = l.len - l.at
