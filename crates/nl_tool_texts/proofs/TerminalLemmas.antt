-- What a writer has, with what waits for it.
use Rattle.std.proofs.Common.{◌≡◌, ◌∙◌, ◌+◌, ◌-◌, ◌*◌, ◌≤◌, ◌++◌, ◌==◌, ◌∷◌, ℕ, true, List, [], Option, None, Some, Result, Ok, Err, ap, append_assoc, append-nil, arith, drop, length, length-append, refl, subst, sym, take}
use Rattle.std.specs.Prelude.{MatchResult, slice_get}
use Rattle.std.specs.Io.{WritesAtMost}
use Rattle.std.specs.Io.KnownBytes.{Appends, Keeps, WriteAppends, append_known}
use Rattle.std.proofs.lemmas.Bool.{ne_eqb}
use Rattle.std.proofs.lemmas.List.{drop-drop, length-drop, length-take, take-append-drop, take-take, take_all}
use Rattle.std.proofs.lemmas.List.Concat.{flat_map-cons}
use Rattle.nl_tool_texts.specs.Columns.{Passes, begun_by, by_number, by_numbers, shown_of}

-- what waited, as it is lent from a place on, is a part that was taken, and the rest
pub parted : (n sent : ℕ) (waiting lent : List ℕ) → lent ≡ waiting
    → drop sent waiting ≡ take n (take (length lent - sent) (drop sent lent)) ++ drop (sent + n) waiting
parted n sent waiting lent is =
    let whole : take (length lent - sent) (drop sent lent) ≡ drop sent waiting =
    take_all (length lent - sent) (drop sent lent) (omega (arith, length-drop sent lent)) ∙ ap (drop sent) is in
    sym (take-append-drop n (drop sent waiting)) ∙ (λ i. take n (sym whole i) ++ drop-drop n sent waiting i)

pub sends : (held old new : Option (List ℕ)) (rest taken left : List ℕ) → rest ≡ taken ++ left → Keeps held (append_known old rest) → Appends old new taken
    → Keeps held (append_known new left)
sends None old new rest taken left is keeps appends = tt
sends (Some xs) None new rest taken left is keeps appends = absurd keeps
sends (Some xs) (Some ys) None rest taken left is keeps appends = absurd appends
sends (Some xs) (Some ys) (Some zs) rest taken left is keeps appends =
    ap (λ (l : List ℕ). l ++ left) appends ∙ append_assoc ys taken left ∙ ap (λ (l : List ℕ). ys ++ l) (sym is) ∙ keeps

-- nothing waits: a part of what is shown is taken, and the rest waits
pub shows : (held mid new : Option (List ℕ)) (taken left all : List ℕ) → all ≡ taken ++ left → Keeps held (append_known mid []) → Appends mid new taken
    → Appends held (append_known new left) all
shows None mid new taken left all is keeps appends = tt
shows (Some xs) None new taken left all is keeps appends = absurd keeps
shows (Some xs) (Some ys) None taken left all is keeps appends = absurd appends
shows (Some xs) (Some ys) (Some zs) taken left all is keeps appends =
    ap (λ (l : List ℕ). l ++ left) appends ∙ append_assoc ys taken left ∙ ap (λ (l : List ℕ). ys ++ l) (sym is)
    ∙ ap (λ (l : List ℕ). l ++ all) (sym (append-nil ys) ∙ keeps)

pub keeps_trans : (a b c : Option (List ℕ)) → Keeps a b → Keeps b c → Keeps a c
keeps_trans None b c first next = tt
keeps_trans (Some xs) None c first next = absurd first
keeps_trans (Some xs) (Some ys) None first next = absurd next
keeps_trans (Some xs) (Some ys) (Some zs) first next = next ∙ first

pub keeps_more : (a b : Option (List ℕ)) (text : List ℕ) → Keeps a b → Keeps (append_known a text) (append_known b text)
keeps_more None b text keeps = tt
keeps_more (Some xs) None text keeps = absurd keeps
keeps_more (Some xs) (Some ys) text keeps = ap (λ (l : List ℕ). l ++ text) keeps

pub keeps_nil : (a b : Option (List ℕ)) → Keeps a b → Keeps a (append_known b [])
keeps_nil None b keeps = tt
keeps_nil (Some xs) None keeps = absurd keeps
keeps_nil (Some xs) (Some ys) keeps = append-nil ys ∙ keeps

pub nil_keeps : (a b : Option (List ℕ)) → Keeps a (append_known b []) → Keeps a b
nil_keeps None b keeps = tt
nil_keeps (Some xs) None keeps = absurd keeps
nil_keeps (Some xs) (Some ys) keeps = sym (append-nil ys) ∙ keeps

-- a part of the ASCII at the beginning is taken, or none of it
pub plain_shows : {E : Type 0} (held mid new : Option (List ℕ)) (begun after waits buf : List ℕ) (plain : ℕ) (result : Result ℕ E)
    → begun ≡ [] → after ≡ begun → waits ≡ [] → ((n : ℕ) → n ≤ plain → Passes (take n buf)) → WritesAtMost result (take plain buf)
    → Keeps held (append_known mid []) → WriteAppends mid new result (take plain buf)
    → MatchResult result (λ n. Appends held (append_known new waits) (shown_of begun (take n buf)) × (after ≡ begun_by begun (take n buf)))
    (λ _. Keeps held (append_known new waits) × (after ≡ begun))
plain_shows held mid new begun after waits buf plain (Ok n) none same left passes bound keeps appends =
    let some : n ≤ plain = omega (arith, bound, length-take plain buf) in
    let text = passes n some in
    let whole : shown_of begun (take n buf) ≡ take n (take plain buf) ++ waits =
    ap (λ (l : List ℕ). shown_of l (take n buf)) none ∙ text.0 ∙ sym (take-take n plain buf some) ∙ sym (append-nil (take n (take plain buf)))
    ∙ ap (λ (l : List ℕ). take n (take plain buf) ++ l) (sym left) in (
      shows held mid new (take n (take plain buf)) waits (shown_of begun (take n buf)) whole keeps appends,
      same ∙ none ∙ sym (ap (λ (l : List ℕ). begun_by l (take n buf)) none ∙ text.1),
    )
plain_shows held mid new begun after waits buf plain (Err e) none same left passes bound keeps kept =
    (subst (λ (l : List ℕ). Keeps held (append_known new l)) (sym left) (keeps_nil held new (keeps_trans held mid new (nil_keeps held mid keeps) kept)), same)

pub first_taken : (xs : List ℕ) (b : ℕ) → Some b ≡ slice_get xs 0 → take 1 xs ≡ b ∷ []
first_taken [] b is = absurd (cc is)
first_taken (x ∷ xs) b is = ap (λ (y : ℕ). y ∷ []) (cc (sym is))

pub numbers_length : (bytes : List ℕ) → length (by_numbers bytes) ≡ 4 * length bytes
numbers_length [] = refl
numbers_length (b ∷ bytes) = omega (arith, numbers_length bytes, ap length (flat_map-cons by_number b bytes), length-append (by_number b) (by_numbers bytes))

pub nothing_begun : (xs : List ℕ) → true ≡ (length xs == 0) → xs ≡ []
nothing_begun [] is = refl
nothing_begun (x ∷ xs) is = absurd (cc (is ∙ ne_eqb (length (x ∷ xs)) 0 (λ e. omega (arith, e))))
