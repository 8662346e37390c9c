-- Bytes that are read piece by piece.
use Rattle.std.proofs.Common.{◌≡◌, ◌++◌, List, ℕ, Option, None, Some, subst, sym}
use Rattle.std.specs.Prelude.{IfSome}
use Rattle.std.specs.Io.KnownBytes.{Consumes}
use Rattle.nl_table.specs.Log.{NotALog, log_of}
use Rattle.nl_versions.specs.VersionOf.{as_five}

-- what was read so far is none of a log, so nothing that follows makes it one
pub refused_by : (known left : Option (List ℕ)) (read : List ℕ) → Consumes known left read
    → ((more : List ℕ) → log_of (as_five (read ++ more)) ≡ NotALog) → IfSome known (λ bs. log_of (as_five bs) ≡ NotALog)
refused_by None left read consumed none = tt
refused_by (Some bs) None read consumed none = absurd consumed
refused_by (Some bs) (Some more) read consumed none = subst (λ l. log_of (as_five l) ≡ NotALog) (sym consumed) (none more)
