-- The set of the names of KEEP.
use Rattle.std.proofs.Common.{◌≡◌, ℕ, Bool, not, List, ap, subst}
use Rattle.std.specs.Prelude.{Option, Result, Ok, Err}
use Rattle.std.specs.Result.{IsErrAnd}
use Rattle.nl_table.specs.History.{holds}
use Rattle.nl_tool_texts.specs.Files.{OfBytes}
use Rattle.nl_tool_change.specs.Calls.{Meaning, dropping, keeping}
use Rattle.nl_tool_change.specs.Files.{Says, keep_of}
use Rattle.nl_tool_change.specs.Updates.{AsSaid, dead_but}

-- what a refusal is
pub is_err : {X E : Type 0} (r : Result X E) (e : E) → IsErrAnd r (λ f. f ≡ e) → r ≡ Err e
is_err (Ok x) e is = absurd is
is_err (Err f) e is = ap Err is

-- what is made by the set is made by the names that the file holds
pub kept : {known : Option (List ℕ)} (set : List (List ℕ)) (P : Meaning → Type 0)
    → OfBytes known
    (λ bytes. (names : List (List ℕ)) × (keep_of bytes ≡ Says names) × ((name : List ℕ) → holds set name ≡ holds names name))
    → P (keeping set) → AsSaid keep_of known (λ names. P (keeping names))
kept set P said made =
    let same : dead_but set ≡ dead_but said.holds.0 = λ i name. not (said.holds.2 name i) in
    record {
      parts = said.holds.0;
      said = record { bytes = said.bytes; given = said.given; holds = said.holds.1 };
      holds = subst (λ (dead : List ℕ → Bool). P (dropping dead)) same made;
    }
