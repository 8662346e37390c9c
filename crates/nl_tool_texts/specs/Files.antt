-- The bytes of a file that is read, and its lines (docs/CLI.md, "Files").
use Rattle.std.specs.Prelude.{◌≡◌, ℕ, List, [], ◌∷◌, ◌++◌, Option, IfSome}
use Rattle.nl_lines.specs.Split.{lines_of, rest_of}

-- the lines and what follows the last newline
abbrev pub file_lines : List ℕ → List (List ℕ)
file_lines bytes = lines_of bytes ++ rest_of bytes ∷ []

-- `Holds` is true of the bytes that a reader gave: the known ones where they are known
pub record OfBytes (known : Option (List ℕ)) (Holds : List ℕ → Type 0) : Type 0 where
  pub bytes : List ℕ
  pub given : IfSome known (λ bs. bs ≡ bytes)
  pub holds : Holds bytes
