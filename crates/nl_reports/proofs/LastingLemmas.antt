-- What is left of builds, step by step.
use Rattle.std.proofs.Common.{◌≡◌, ◌∙◌, ℕ, zero, suc, ◌+◌, ◌<◌, ◌≤◌, Bool, true, false, cond, ◌||◌, Bor, List, [], ◌∷◌, ◌++◌, drop, get_or, length, map, take, append-nil, append_assoc, arith, ap, inl, inr, refl, sym}
use Rattle.std.specs.Prelude.{bytes_eq, nat_lt, not, reverse, set, if◌then◌else◌}
use Rattle.std.specs.List.{SwappedAt}
use Rattle.std.proofs.lemmas.Bool.{cases_lt}
use Rattle.std.proofs.lemmas.List.{at_drop_more, drop_all, drop-set-lt, map-append, set-set, take-set-le, take_all, take_more, take_more_set}
use Rattle.std.proofs.lemmas.List.Folds.{list_any-append}
use Rattle.nl_fields.specs.declared.entry.Entry.{Entry}
use Rattle.nl_table.specs.Table.{entry_names}
use Rattle.nl_builds.specs.declared.build.Build.{Build}
use Rattle.nl_builds.specs.declared.command.Command.{Command}
use Rattle.nl_reports.specs.Lasting.{builds_left, commands_left, entries_left, is_among, last_entries, marked, marks, whole}

-- ---- a set of names

pub or_is : (a b : Bool) → cond a true b ≡ (a || b)
or_is true b = refl
or_is false b = refl

-- a name more
pub name_more : (names : List (Bor (List ℕ))) (i : ℕ) (d : Bor (List ℕ)) (name : List ℕ) (old new : Bool) → i < length names
    → new ≡ cond (bytes_eq (get_or names i d).now name) true old → old ≡ is_among name (map (λ n. n.now) (take i names))
    → new ≡ is_among name (map (λ n. n.now) (take (i + 1) names))
name_more names i d name old new within is before =
    let n = get_or names i d in
    let front = map (λ (n : Bor (List ℕ)). n.now) (take i names) in
    is ∙ ap (cond (bytes_eq n.now name) true) before ∙ first (bytes_eq n.now name) (is_among name front)
    ∙ sym (list_any-append (λ o. bytes_eq o name) front (n.now ∷ []))
    ∙ ap (is_among name) (sym (ap (map (λ (n : Bor (List ℕ)). n.now)) (take_more names i d within)
    ∙ map-append (λ (n : Bor (List ℕ)). n.now) (take i names) (n ∷ [])))
  where
    first : (a b : Bool) → cond a true b ≡ (b || (a || false))
    first true true = refl
    first true false = refl
    first false true = refl
    first false false = refl

-- ---- entries

-- of each place, how many are left before it, where so many are before the first
abbrev pub marks_before : ℕ → List Bool → List ℕ
marks_before count [] = []
marks_before count (b ∷ bs) = count ∷ marks_before (if b then count + 1 else count) bs

one_more : (a b : ℕ) → a + suc b ≡ (a + 1) + b
one_more a b = omega arith

none_more : (n : ℕ) → n ≡ 0 + n
none_more n = omega arith

marked_place : {A : Type 0} (count : ℕ) (bs : List Bool) (xs : List A) → length bs ≡ length xs → (place : ℕ)
    → get_or (marks_before count bs) place (count + length (marked bs xs)) ≡ count + length (marked bs (take place xs))
marked_place count [] xs same zero = refl
marked_place count [] xs same (suc place) = refl
marked_place count (b ∷ bs) [] same place = absurd (omega (arith, same))
marked_place count (b ∷ bs) (x ∷ xs) same zero = omega arith
marked_place count (true ∷ bs) (x ∷ xs) same (suc place) =
    ap (get_or (marks_before (count + 1) bs) place) (one_more count (length (marked bs xs)))
    ∙ marked_place (count + 1) bs xs (omega (arith, same)) place ∙ sym (one_more count (length (marked bs (take place xs))))
marked_place count (false ∷ bs) (x ∷ xs) same (suc place) = marked_place count bs xs (omega (arith, same)) place

pub marked_all : {A : Type 0} (bs : List Bool) (xs : List A) → length bs ≡ length xs → (place : ℕ)
    → get_or (marks_before 0 bs) place (length (marked bs xs)) ≡ length (marked bs (take place xs))
marked_all bs xs same place =
    ap (get_or (marks_before 0 bs) place) (none_more (length (marked bs xs))) ∙ marked_place 0 bs xs same place
    ∙ sym (none_more (length (marked bs (take place xs))))

-- those before a place and those behind it are all that are left
left_both : (others : List (List ℕ)) (es : List Entry) (place : ℕ)
    → length (last_entries others es) ≡ length (marked (marks others es) (take place es)) + length (last_entries others (drop place es))
left_both others [] zero = refl
left_both others [] (suc place) = refl
left_both others (e ∷ es) zero = none_more (length (last_entries others (e ∷ es)))
left_both others (e ∷ es) (suc place) = here (is_among e.name (entry_names es ++ others)) (left_both others es place)
  where
    here : (b : Bool)
        → length (last_entries others es) ≡ length (marked (marks others es) (take place es)) + length (last_entries others (drop place es))
        → length (cond b (last_entries others es) (e ∷ last_entries others es))
        ≡ length (cond (not b) (e ∷ marked (marks others es) (take place es)) (marked (marks others es) (take place es)))
        + length (last_entries others (drop place es))
    here true rest = rest
    here false rest = omega (arith, rest)

pub left_place : (others : List (List ℕ)) (es : List Entry) (place : ℕ)
    → length (marked (marks others es) (take place es)) ≡ entries_left others es place
left_place others es place = omega (arith, left_both others es place)

-- once all are marked, from the last on
pub marked_is : (others : List (List ℕ)) (es : List Entry) (at : ℕ) (found turned : List Bool) → at ≡ 0 → turned ≡ reverse found
    → reverse found ≡ marks others (drop at es) → turned ≡ marks others es
marked_is others es at found turned first turns are = turns ∙ are ∙ ap (λ n. marks others (drop n es)) first

pub length-marks : (others : List (List ℕ)) (es : List Entry) → length (marks others es) ≡ length es
length-marks others [] = refl
length-marks others (e ∷ es) = ap suc (length-marks others es)

-- an item goes to the end of those that are kept
take-swap : {A : Type 0} (xs ys : List A) (k i : ℕ) (d : A) → k ≤ i → i < length xs → SwappedAt xs ys k i
    → take (k + 1) ys ≡ take k xs ++ get_or xs i d ∷ []
take-swap xs ys k i d le within swapped = ap (take (k + 1)) (swapped.3 d) ∙ elim (cases_lt k i) [
  | inl less ↦
      take-set-le (k + 1) (set xs k (get_or xs i d)) i (get_or xs k d) (omega (arith, less))
      ∙ take_more_set xs k (get_or xs i d) (omega (arith, less, within))
  | inr more ↦
      let same : k ≡ i = omega (arith, le, more) in
      ap (λ n. take (n + 1) (set (set xs n (get_or xs i d)) i (get_or xs n d))) same
      ∙ ap (take (i + 1)) (set-set xs i (get_or xs i d) (get_or xs i d)) ∙ take_more_set xs i (get_or xs i d) within
      ∙ ap (λ n. take n xs ++ get_or xs i d ∷ []) (sym same)
]

drop-swap : {A : Type 0} (xs ys : List A) (k i : ℕ) (d : A) → k ≤ i → SwappedAt xs ys k i → drop (i + 1) ys ≡ drop (i + 1) xs
drop-swap xs ys k i d le swapped =
    ap (drop (i + 1)) (swapped.3 d) ∙ drop-set-lt (i + 1) (set xs k (get_or xs i d)) i (get_or xs k d) (omega arith)
    ∙ drop-set-lt (i + 1) xs k (get_or xs i d) (omega (arith, le))

marked_more : {A : Type 0} (bs : List Bool) (xs : List A) (i : ℕ) (d : A) (b : Bool) → i < length bs → i < length xs → b ≡ get_or bs i false
    → marked (drop i bs) (drop i xs)
    ≡ cond b (get_or xs i d ∷ marked (drop (i + 1) bs) (drop (i + 1) xs)) (marked (drop (i + 1) bs) (drop (i + 1) xs))
marked_more bs xs i d b in_marks within is =
    (λ j. marked (at_drop_more (λ (l : List Bool). l) bs i false in_marks j) (at_drop_more (λ l. l) xs i d within j))
    ∙ ap (λ c. cond c (get_or xs i d ∷ marked (drop (i + 1) bs) (drop (i + 1) xs)) (marked (drop (i + 1) bs) (drop (i + 1) xs))) (sym is)

-- an item is kept, or isn't
pub kept_more : {A : Type 0} (bs : List Bool) (xs ys all : List A) (k n i : ℕ) (b : Bool) → k ≤ i → i < length bs → length bs ≡ length xs
    → b ≡ get_or bs i false → b ≡ true → n ≡ k + 1 → SwappedAt xs ys k i → take k xs ++ marked (drop i bs) (drop i xs) ≡ all
    → take n ys ++ marked (drop (i + 1) bs) (drop (i + 1) ys) ≡ all
kept_more bs [] ys all k n i b le in_marks same is test more swapped told = absurd (omega (arith, in_marks, same))
kept_more bs (d ∷ xs) ys all k n i b le in_marks same is test more swapped told =
    let zs = d ∷ xs in
    let within : i < length zs = omega (arith, in_marks, same) in
    let rest = marked (drop (i + 1) bs) (drop (i + 1) zs) in
    ap (λ m. take m ys ++ marked (drop (i + 1) bs) (drop (i + 1) ys)) more
    ∙ (λ j. take-swap zs ys k i d le within swapped j ++ marked (drop (i + 1) bs) (drop-swap zs ys k i d le swapped j))
    ∙ append_assoc (take k zs) (get_or zs i d ∷ []) rest
    ∙ ap (λ c. take k zs ++ cond c (get_or zs i d ∷ rest) rest) (sym test)
    ∙ ap (λ l. take k zs ++ l) (sym (marked_more bs zs i d b in_marks within is)) ∙ told

pub kept_same : {A : Type 0} (bs : List Bool) (xs all : List A) (k i : ℕ) (b : Bool) → i < length bs → length bs ≡ length xs
    → b ≡ get_or bs i false → b ≡ false → take k xs ++ marked (drop i bs) (drop i xs) ≡ all
    → take k xs ++ marked (drop (i + 1) bs) (drop (i + 1) xs) ≡ all
kept_same bs [] all k i b in_marks same is test told = absurd (omega (arith, in_marks, same))
kept_same bs (d ∷ xs) all k i b in_marks same is test told =
    let zs = d ∷ xs in
    let within : i < length zs = omega (arith, in_marks, same) in
    let rest = marked (drop (i + 1) bs) (drop (i + 1) zs) in
    ap (λ c. take k zs ++ cond c (get_or zs i d ∷ rest) rest) (sym test)
    ∙ ap (λ l. take k zs ++ l) (sym (marked_more bs zs i d b in_marks within is)) ∙ told

pub marks_more : (bs : List Bool) (i count n : ℕ) (b : Bool) (old new all : List ℕ) → i < length bs → b ≡ get_or bs i false
    → n ≡ cond b (count + 1) count → new ≡ old ++ count ∷ [] → old ++ marks_before count (drop i bs) ≡ all
    → new ++ marks_before n (drop (i + 1) bs) ≡ all
marks_more bs i count n b old new all within is more pushed told =
    (λ j. pushed j ++ marks_before (more j) (drop (i + 1) bs))
    ∙ append_assoc old (count ∷ []) (marks_before (cond b (count + 1) count) (drop (i + 1) bs))
    ∙ ap (λ c. old ++ (count ∷ marks_before (cond c (count + 1) count) (drop (i + 1) bs))) is
    ∙ sym (at_drop_more (λ (l : List Bool). old ++ marks_before count l) bs i false within) ∙ told

-- ---- commands and builds

-- whether each of some is left, by where it ends, and the one before the first
abbrev pub ends_apart : {A : Type 0} → (A → ℕ) → ℕ → List A → List Bool
ends_apart end from [] = []
ends_apart end from (x ∷ xs) = nat_lt from (end x) ∷ ends_apart end (end x) xs

pub length-ends : {A : Type 0} (end : A → ℕ) (from : ℕ) (xs : List A) → length (ends_apart end from xs) ≡ length xs
length-ends end from [] = refl
length-ends end from (x ∷ xs) = ap suc (length-ends end (end x) xs)

-- where all are read
pub all_ends : {A : Type 0} (end : A → ℕ) (from : ℕ) (xs : List A) (i : ℕ) (old all : List Bool) → length xs ≤ i
    → old ++ ends_apart end from (drop i xs) ≡ all → old ≡ all
all_ends end from xs i old all done told =
    sym (append-nil old) ∙ ap (λ l. old ++ ends_apart end from l) (sym (drop_all i xs done)) ∙ told

pub all_moved : {A : Type 0} (move : A → A) (xs : List A) (i : ℕ) (all : List A) → length xs ≤ i → take i xs ++ map move (drop i xs) ≡ all → xs ≡ all
all_moved move xs i all done told =
    sym (append-nil xs) ∙ (λ j. sym (take_all i xs done) j ++ map move (sym (drop_all i xs done) j)) ∙ told

abbrev pub moved_command : (ℕ → ℕ) → Command → Command
moved_command left c = record c { to = left c.to }

abbrev pub moved_build : (ℕ → ℕ) → Build → Build
moved_build left b = record b { to = left b.to; how = whole b.how }

pub commands_marked : (left : ℕ → ℕ) (from : ℕ) (cs : List Command)
    → marked (ends_apart (λ (c : Command). left c.to) from cs) (map (moved_command left) cs) ≡ commands_left left from cs
commands_marked left from [] = refl
commands_marked left from (c ∷ cs) =
    ap (λ (l : List Command). if nat_lt from (left c.to) then moved_command left c ∷ l else l) (commands_marked left (left c.to) cs)

pub commands_before : (left : ℕ → ℕ) (from : ℕ) (cs : List Command) (place : ℕ)
    → marked (ends_apart (λ (c : Command). left c.to) from cs) (take place (map (moved_command left) cs)) ≡ commands_left left from (take place cs)
commands_before left from [] zero = refl
commands_before left from [] (suc place) = refl
commands_before left from (c ∷ cs) zero = refl
commands_before left from (c ∷ cs) (suc place) =
    ap (λ (l : List Command). if nat_lt from (left c.to) then moved_command left c ∷ l else l) (commands_before left (left c.to) cs place)

pub builds_marked : (left : ℕ → ℕ) (from : ℕ) (bs : List Build)
    → marked (ends_apart (λ (b : Build). left b.to) from bs) (map (moved_build left) bs) ≡ builds_left left from bs
builds_marked left from [] = refl
builds_marked left from (b ∷ bs) =
    ap (λ (l : List Build). if nat_lt from (left b.to) then moved_build left b ∷ l else l) (builds_marked left (left b.to) bs)

module _ {A : Type 0} (xs ys : List A) (i : ℕ) (x y : A) (within : i < length xs) (is : x ≡ get_or xs i x) (put : ys ≡ set xs i y) where
  behind : drop (i + 1) ys ≡ drop (i + 1) xs
  behind = ap (drop (i + 1)) put ∙ drop-set-lt (i + 1) xs i y (omega arith)

  -- the item at a place is moved
  pub moved_more : (move : A → A) (all : List A) → y ≡ move x → take i xs ++ map move (drop i xs) ≡ all → take (i + 1) ys ++ map move (drop (i + 1) ys) ≡ all
  moved_more move all moves told =
      (λ j. (ap (take (i + 1)) put ∙ take_more_set xs i y within) j ++ map move (behind j))
      ∙ append_assoc (take i xs) (y ∷ []) (map move (drop (i + 1) xs))
      ∙ (λ j. take i xs ++ (moves ∙ ap move is) j ∷ map move (drop (i + 1) xs))
      ∙ sym (at_drop_more (λ (l : List A). take i xs ++ map move l) xs i x within) ∙ told

  pub ends_more : (end : A → ℕ) (from to : ℕ) (b : Bool) (old new all : List Bool) → to ≡ end x → b ≡ nat_lt from to → new ≡ old ++ b ∷ []
      → old ++ ends_apart end from (drop i xs) ≡ all → new ++ ends_apart end to (drop (i + 1) ys) ≡ all
  ends_more end from to b old new all goes test pushed told =
      let to_is : to ≡ end (get_or xs i x) = goes ∙ ap end is in
      (λ j. pushed j ++ ends_apart end to (behind j))
      ∙ append_assoc old (b ∷ []) (ends_apart end to (drop (i + 1) xs))
      ∙ ap (λ c. old ++ c ∷ ends_apart end to (drop (i + 1) xs)) test
      ∙ ap (λ n. old ++ nat_lt from n ∷ ends_apart end n (drop (i + 1) xs)) to_is
      ∙ sym (at_drop_more (λ (l : List A). old ++ ends_apart end from l) xs i x within) ∙ told
