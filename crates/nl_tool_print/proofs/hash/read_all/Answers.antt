use Rattle.std.proofs.Common.{subst, ◌≡◌, ◌++◌, List, ℕ}
use Rattle.nl_table.specs.Log.{NotALog, log_of}
use Rattle.nl_versions.specs.VersionOf.{as_five}
use Rattle.nl_tool_print.proofs.HashLemmas.{refused_by}
use Rattle.nl_tool_print.proofs.hash.read_all.Goals as goal

pub returns-then-not-may_be_log-clause-not_a_log : goal.returns-then-not-may_be_log-clause-not_a_log
returns-then-not-may_be_log-clause-not_a_log g c is =
    refused_by _ _ c.pieces.all.items c.pieces.invariant.read
    (λ more. subst (λ (l : List ℕ). log_of (as_five (l ++ more)) ≡ NotALog) c.as_slice.ensures.value
    (c.may_be_log.ensures.not_a_log more c.if-not-may_be_log.true))
