-- The lines of a file that was read to its end.
use Rattle.std.proofs.Common.{◌≡◌, ◌∙◌, ℕ, List, [], ◌∷◌, ◌++◌, ap}
use Rattle.std.specs.Prelude.{Option, None, Some, IfSome}
use Rattle.std.specs.Io.KnownBytes.{Consumes, IsAtEnd}
use Rattle.std.proofs.lemmas.List.{append-nil}
use Rattle.nl_lines.specs.Split.{rest_of}
use Rattle.nl_lines.specs.Lines.{TakesAll, fresh}
use Rattle.nl_lines.proofs.SplitLemmas.{SplitsInto_unique}
use Rattle.nl_tool_texts.specs.Files.{OfBytes, file_lines}

-- the lines of a file that was read to its end
pub all_lines : (a c : Option (List ℕ)) (lines : List (List ℕ)) (rest : List ℕ) → TakesAll fresh a c lines rest
    → OfBytes a (λ bytes. file_lines bytes ≡ lines ++ rest ∷ [])
all_lines a c lines rest all =
    let split = SplitsInto_unique all.got lines rest all.splits in
    record {
      bytes = all.got;
      given = known a c all.got all.read all.over;
      holds = ap (λ (l : List (List ℕ)). l ++ rest_of all.got ∷ []) split.0 ∙ ap (λ (l : List ℕ). lines ++ l ∷ []) split.1;
    }
  where
    known : (a c : Option (List ℕ)) (got : List ℕ) → Consumes a c got → IsAtEnd c → IfSome a (λ bs. bs ≡ got)
    known None c got read over = tt
    known (Some xs) None got read over = absurd read
    known (Some xs) (Some ys) got read over = read ∙ ap (λ (l : List ℕ). got ++ l) over ∙ append-nil got
