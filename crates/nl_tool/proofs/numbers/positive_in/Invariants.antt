use Rattle.std.proofs.Common.{◌++◌, ◌+◌, ℕ, suc, List, drop, length, map}
use Rattle.nl_tool.specs.Reports.{ArePositive, IsFirstWrong}
use Rattle.nl_tool.proofs.numbers.positive_in.Given as goal

-- what follows these numbers makes up all of them, and the first that is wrong behind them is so of all
abbrev pub invariant-loop-text : goal.invariant-loop-text
invariant-loop-text l = record {
  all : (rest : List ℕ) → ArePositive (map (λ text. text.now) (drop l.text-index l.texts)) rest
      → ArePositive (map (λ text. text.now) l.fn.texts) (l.counts.items ++ rest);
  first : (m : ℕ) → IsFirstWrong (map (λ text. text.now) (drop l.text-index l.texts)) (suc m)
      → IsFirstWrong (map (λ text. text.now) l.fn.texts) (suc (length l.counts.items + m));
}
