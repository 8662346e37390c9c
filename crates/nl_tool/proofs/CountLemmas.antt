-- Numbers of which each is read from one text.
use Rattle.std.proofs.Common.{◌<◌, ◌^◌, List, [], ◌∷◌, ℕ, zero, suc, pos, Bor, arith, drop, get_or, length, map}
use Rattle.nl_fields.specs.Digits.{IsDecimal}
use Rattle.nl_tool.specs.Reports.{ArePositive, IsFirstWrong, IsPositive}

-- the text at a place of positive ones has its number
pub positive_at : (texts : List (Bor (List ℕ))) (ns : List ℕ) (i : ℕ) (d : Bor (List ℕ)) → i < length texts
    → ArePositive (map (λ t. t.now) texts) ns → (n : ℕ) × (0 < n) × (n < 2 ^ 63) × IsDecimal (pos n) (get_or texts i d).now
positive_at [] ns i d is h = absurd (omega (arith, is))
positive_at (t ∷ texts) [] i d is h = elim h [ ]
positive_at (t ∷ texts) (n ∷ ns) zero d is h = (n, h.0.0, h.0.1, h.0.2)
positive_at (t ∷ texts) (n ∷ ns) (suc i) d is h = positive_at texts ns i d (omega (arith, is)) h.1

-- what follows a number follows from it on
pub positive_behind : (texts : List (Bor (List ℕ))) (i : ℕ) (d : Bor (List ℕ)) (n : ℕ) (rest : List ℕ) → i < length texts
    → IsPositive (get_or texts i d).now n → ArePositive (map (λ t. t.now) (drop (suc i) texts)) rest
    → ArePositive (map (λ t. t.now) (drop i texts)) (n ∷ rest)
positive_behind [] i d n rest is p h = absurd (omega (arith, is))
positive_behind (t ∷ texts) zero d n rest is p h = (p, h)
positive_behind (t ∷ texts) (suc i) d n rest is p h = positive_behind texts i d n rest (omega (arith, is)) p h

-- what is wrong first behind a number is wrong first from it on
pub wrong_behind : (texts : List (Bor (List ℕ))) (i : ℕ) (d : Bor (List ℕ)) (n m : ℕ) → i < length texts → IsPositive (get_or texts i d).now n
    → IsFirstWrong (map (λ t. t.now) (drop (suc i) texts)) (suc m) → IsFirstWrong (map (λ t. t.now) (drop i texts)) (suc (suc m))
wrong_behind [] i d n m is p w = absurd (omega (arith, is))
wrong_behind (t ∷ texts) zero d n m is p w = ((n, p), w)
wrong_behind (t ∷ texts) (suc i) d n m is p w = wrong_behind texts i d n m (omega (arith, is)) p w

pub wrong_here : (texts : List (Bor (List ℕ))) (i : ℕ) (d : Bor (List ℕ)) → i < length texts → ((n : ℕ) → IsPositive (get_or texts i d).now n → ⊥)
    → IsFirstWrong (map (λ t. t.now) (drop i texts)) 1
wrong_here [] i d is none = absurd (omega (arith, is))
wrong_here (t ∷ texts) zero d is none = none
wrong_here (t ∷ texts) (suc i) d is none = wrong_here texts i d (omega (arith, is)) none
