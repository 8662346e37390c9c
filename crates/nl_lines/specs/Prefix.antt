-- Prefixes of lists.
use Rattle.std.specs.Prelude.{◌≡◌, List, length, take}

-- xs is a beginning of the whole, maybe none of it or all
abbrev pub IsPrefix : {X : Type 0} → List X → List X → Type 0
IsPrefix xs whole = take (length xs) whole ≡ xs
