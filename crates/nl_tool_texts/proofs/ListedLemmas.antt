-- Lists of lines, the highest rank first, row by row.
use Rattle.std.proofs.Common.{◌≡◌, ◌∙◌, ℕ, ◌+◌, ◌<◌, ◌≤◌, List, [], ◌∷◌, ◌++◌, length, get_or, map, take, zero, suc, append_assoc, append-nil, ap, refl, sym}
use Rattle.std.specs.List.{flat_map}
use Rattle.std.proofs.lemmas.List.{map-append, take_all, take_more}
use Rattle.std.proofs.lemmas.List.Concat.{flat_map-append}
use Rattle.nl_tool_texts.specs.Falling.{falling}
use Rattle.nl_tool_texts.proofs.FallingLemmas.{map-falling}

-- no line, where none is asked for
pub no_lines : {T : Type 0} (line : T → List ℕ) (ts : List T) → flat_map line (take 0 ts) ≡ []
no_lines line [] = refl
no_lines line (t ∷ ts) = refl

pub map-take : {A B : Type 0} (f : A → B) (n : ℕ) (xs : List A) → map f (take n xs) ≡ take n (map f xs)
map-take f n [] = go n
  where
    go : (n : ℕ) → map f (take n []) ≡ take n []
    go zero = refl
    go (suc n) = refl
map-take f zero (x ∷ xs) = refl
map-take f (suc n) (x ∷ xs) = ap (λ l. f x ∷ l) (map-take f n xs)

-- rows, each told as it is viewed, with a line for each
module _ {R T : Type 0} (told : R → T) (line : T → List ℕ) (old : List ℕ) where
  -- a line more
  pub line_more : (lines new : List ℕ) (rows : List R) (i : ℕ) (d r : R) → i < length rows → r ≡ get_or rows i d
      → lines ≡ old ++ flat_map line (map told (take i rows)) → new ≡ lines ++ line (told r)
      → new ≡ old ++ flat_map line (map told (take (i + 1) rows))
  line_more lines new rows i d r within is before after =
      after ∙ ap (λ (l : List ℕ). l ++ line (told r)) before
      ∙ append_assoc old (flat_map line (map told (take i rows))) (line (told r))
      ∙ ap (λ (l : List ℕ). old ++ l) (sym whole)
    where
      whole : flat_map line (map told (take (i + 1) rows)) ≡ flat_map line (map told (take i rows)) ++ line (told r)
      whole =
          ap (λ (l : List R). flat_map line (map told l)) (take_more rows i d within ∙ ap (λ (x : R). take i rows ++ x ∷ []) (sym is))
          ∙ ap (flat_map line) (map-append told (take i rows) (r ∷ []))
          ∙ flat_map-append line (map told (take i rows)) (told r ∷ [])
          ∙ ap (λ (l : List ℕ). flat_map line (map told (take i rows)) ++ l) (append-nil (line (told r)))

  -- all of them
  pub list_told : (rank : T → ℕ) (lines : List ℕ) (most count : ℕ) (rows kept : List R) → kept ≡ take most (falling (λ r. rank (told r)) rows)
      → length kept ≤ count → lines ≡ old ++ flat_map line (map told (take count kept))
      → lines ≡ old ++ flat_map line (take most (falling rank (map told rows)))
  list_told rank lines most count rows kept is all before =
      before ∙ ap (λ (l : List T). old ++ flat_map line l)
      (ap (map told) (take_all count kept all ∙ is) ∙ map-take told most (falling (λ r. rank (told r)) rows)
      ∙ ap (take most) (map-falling told rank rows))
