-- A text that is written piece by piece.
use Rattle.std.proofs.Common.{◌≡◌, ◌++◌, ◌-◌, List, ℕ, take, drop, length, arith}
use Rattle.std.proofs.lemmas.Grind.{common_steps}

-- a piece of the rest is moved to the end of the prefix
pub prefix-grows : (text prefix rest : List ℕ) (n : ℕ) → text ≡ prefix ++ rest
    → text ≡ (prefix ++ take n rest) ++ take (length rest - n) (drop n rest)
prefix-grows text prefix rest n e = grind (arith, common_steps)
