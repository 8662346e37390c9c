-- The names of outputs as JSON, one by one.
use Rattle.std.proofs.Common.{◌≡◌, ◌∙◌, ℕ, zero, suc, ◌+◌, ◌<◌, true, false, List, [], ◌∷◌, ◌++◌, ◌==◌, All, ap, append_assoc, arith, codes, get_or, length, map, refl, subst, sym, true≢false}
use Rattle.serde_json.specs.View.{items_of}
use Rattle.serde_json.specs.Written.{items_text}
use Rattle.nl_fields.specs.Digits.{digits_of}
use Rattle.nl_fields.specs.declared.entry.Entry.{Entry}
use Rattle.nl_reports.specs.Events.{args_of, event_text, shown}
use Rattle.nl_reports.specs.Jobs.{Job, first_name}
use Rattle.nl_tool_texts.specs.Escape.{IsBare}
use Rattle.nl_reports.proofs.BareLemmas.{hash_quoted}
use Rattle.json.specs.Print.{escape_byte}

-- what stands before the name at a place
abbrev pub comma_before : ℕ → List ℕ
comma_before zero = []
comma_before (suc i) = 44 ∷ []

-- those from a place on, and the bracket behind them
abbrev pub names_text : ℕ → List Entry → List ℕ
names_text i [] = 93 ∷ []
names_text i (e ∷ es) = comma_before i ++ event_text (shown e.name) ++ names_text (i + 1) es

names_behind : (i : ℕ) (es : List Entry) → names_text (suc i) es ≡ items_text true (items_of (map (λ (e : Entry). shown e.name) es))
unfolding event_text
names_behind i [] = refl
names_behind i (e ∷ es) =
    let next : ◌≡◌ {A = ℕ} (suc i + 1) (suc (suc i)) = omega arith in
    ap (λ (l : List ℕ). 44 ∷ (event_text (shown e.name) ++ l)) (ap (λ (n : ℕ). names_text n es) next ∙ names_behind (suc i) es)

names_are : (es : List Entry) → names_text 0 es ≡ items_text false (items_of (map (λ (e : Entry). shown e.name) es))
unfolding event_text
names_are [] = refl
names_are (e ∷ es) = ap (λ (l : List ℕ). event_text (shown e.name) ++ l) (names_behind 0 es)

args_are : (j : Job) → codes "{\"hash\":" ++ (event_text (shown (digits_of 16 j.hash)) ++ (codes ",\"outputs\":[" ++ (names_text 0 j.outputs ++ 125 ∷ [])))
    ≡ event_text (args_of j)
unfolding event_text escape_byte
args_are j =
    ap (λ (l : List ℕ). codes "{\"hash\":" ++ (event_text (shown (digits_of 16 j.hash)) ++ (codes ",\"outputs\":[" ++ (l ++ 125 ∷ [])))) (names_are j.outputs)

-- the hash between its quotes
hash_told : (old : List ℕ) (hash : ℕ) → ((old ++ codes "{\"hash\":\"") ++ digits_of 16 hash) ++ codes "\",\"outputs\":["
    ≡ ((old ++ codes "{\"hash\":") ++ event_text (shown (digits_of 16 hash))) ++ codes ",\"outputs\":["
hash_told old hash =
    let d = digits_of 16 hash in
    let key = codes "{\"hash\":" in
    let next = codes ",\"outputs\":[" in
    append_assoc (old ++ (key ++ 34 ∷ [])) d (34 ∷ next) ∙ append_assoc old (key ++ 34 ∷ []) (d ++ (34 ∷ next))
    ∙ ap (λ (l : List ℕ). old ++ (key ++ 34 ∷ l)) (sym (append_assoc d (34 ∷ []) next))
    ∙ sym (append_assoc (old ++ key) (34 ∷ (d ++ 34 ∷ [])) next ∙ append_assoc old key ((34 ∷ (d ++ 34 ∷ [])) ++ next))
    ∙ ap (λ (l : List ℕ). ((old ++ key) ++ l) ++ next) (hash_quoted hash)

-- all of them, and what stands behind
in_line : (o k h u n m : List ℕ) → ((((o ++ k) ++ h) ++ u) ++ n) ++ (125 ∷ m) ≡ (o ++ (k ++ (h ++ (u ++ (n ++ 125 ∷ []))))) ++ m
in_line o k h u n m = simp append_assoc

pub args_told : (old first told more : List ℕ) (j : Job) → first ≡ ((old ++ codes "{\"hash\":\"") ++ digits_of 16 j.hash) ++ codes "\",\"outputs\":["
    → told ++ 93 ∷ [] ≡ first ++ names_text 0 j.outputs → told ++ (93 ∷ 125 ∷ more) ≡ (old ++ event_text (args_of j)) ++ more
args_told old first told more j begun named =
    let names = names_text 0 j.outputs in
    sym (append_assoc told (93 ∷ []) (125 ∷ more)) ∙ ap (λ (l : List ℕ). l ++ (125 ∷ more)) (named ∙ ap (λ (l : List ℕ). l ++ names) (begun ∙ hash_told old j.hash))
    ∙ in_line old (codes "{\"hash\":") (event_text (shown (digits_of 16 j.hash))) (codes ",\"outputs\":[") names more
    ∙ ap (λ (l : List ℕ). (old ++ l) ++ more) (args_are j)

-- a name before which no comma stands is the first
pub first_bare : (es : List Entry) (i : ℕ) (comma name : List ℕ) (e d : Entry) → All IsBare (first_name es) → comma ≡ comma_before i → true ≡ (length comma == 0)
    → i < length es → e ≡ get_or es i d → name ≡ e.name → All IsBare name
first_bare [] i comma name e d bare before none within is named = absurd (omega (arith, within))
first_bare (x ∷ es) zero comma name e d bare before none within is named = subst (All IsBare) (sym (named ∙ ap (λ (e : Entry). e.name) is)) bare
first_bare (x ∷ es) (suc i) comma name e d bare before none within is named = absurd (true≢false (none ∙ ap (λ (l : List ℕ). length l == 0) before))
