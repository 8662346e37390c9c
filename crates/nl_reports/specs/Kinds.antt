-- The commands of builds by kind (docs/CLI.md, "summary").
use Rattle.std.specs.Prelude.{◌≤◌, ◌*◌, ◌^◌, ⊤, ℕ, ◌+◌, bytes_eq, Bool, List, [], ◌∷◌, if◌then◌else◌, ◌≡◌}
use Rattle.std.specs.List.{filter, fold}
use Rattle.nl_table.specs.declared.output_key.NameKey.{NameKey}
use Rattle.nl_reports.specs.Rows.{Told, Sums, told_row}
use Rattle.nl_tool_texts.specs.Kind.{kind_of}
use Rattle.nl_tool_texts.specs.declared.kind.KindRule.{KindRule}
use Rattle.nl_reports.specs.declared.rows.Row.{Row}

abbrev pub no_sums : Sums
no_sums = record { commands = 0; time = 0; weight = 0 }

abbrev pub added : Sums → Sums → Sums
added a b = record { commands = a.commands + b.commands; time = a.time + b.time; weight = a.weight + b.weight }

abbrev pub with_sums : Told → Sums → Told
with_sums k s = record { name = k.name; sums = added k.sums s }

-- the command counts for its kind, which stands where it first appeared
abbrev pub counted : List ℕ → List Told → Told → List Told
counted kind [] t = record { name = kind; sums = added no_sums t.sums } ∷ []
counted kind (k ∷ ks) t = if bytes_eq kind k.name then with_sums k t.sums ∷ ks else k ∷ counted kind ks t

abbrev pub kinds : KindRule → List Told → List Told
kinds rule ts = fold (λ ks t. counted (kind_of rule t.name) ks t) [] ts

abbrev pub of_kind : KindRule → List ℕ → List Told → List Told
of_kind rule kind ts = filter (λ (t : Told). bytes_eq (kind_of rule t.name) kind) ts

abbrev pub named : List ℕ → List Told → List Told
named kind ks = filter (λ (k : Told). bytes_eq k.name kind) ks

-- ---- as they are counted

abbrev pub sums_of : Row → Sums
sums_of r = (told_row r).sums

abbrev pub kind_pair : NameKey × Row → Told
kind_pair p = record { name = p.0.bytes.now; sums = sums_of p.1 }

-- each row has the name that it is found by
abbrev pub AreNamed : List (NameKey × Row) → Type 0
AreNamed [] = ⊤
AreNamed (p ∷ ps) = (p.0.bytes.now ≡ p.1.name.now) × AreNamed ps

abbrev pub same_bytes : NameKey → NameKey → Bool
same_bytes a b = bytes_eq a.bytes.now b.bytes.now

-- no larger than the sums of `n` commands can be
pub record IsSumOf (n : ℕ) (s : Sums) : Type 0 where
  pub commands : s.commands ≤ n
  pub time : s.time ≤ n * 2 ^ 32
  pub weight : s.weight ≤ n * 2 ^ 64

abbrev pub AreSumsOf : ℕ → List Told → Type 0
AreSumsOf n [] = ⊤
AreSumsOf n (k ∷ ks) = IsSumOf n k.sums × AreSumsOf n ks
