-- A set of names that are borrowed.
use Rattle.std.proofs.Common.{◌≡◌, ◌∙◌, ◌++◌, ◌||◌, ℕ, List, [], ◌∷◌, ap, cond, map, refl, true, false}
use Rattle.std.specs.Prelude.{bytes_eq}
use Rattle.std.specs.List.{list_any}
use Rattle.std.proofs.lemmas.List.{map-append}
use Rattle.indexmap.specs.IndexSet.{insert_key}
use Rattle.nl_table.specs.declared.output_key.NameKey.{NameKey}
use Rattle.nl_table.specs.History.{holds}
use Rattle.nl_table.specs.Table.{with_name}
use Rattle.nl_table.proofs.NameLemmas.{bytes_eq_comm}

abbrev pub names_of : List NameKey → List (List ℕ)
names_of ns = map (λ n. n.bytes.now) ns

pub held_as : (ns : List NameKey) (name : List ℕ) → list_any (λ n. bytes_eq name n.bytes.now) ns ≡ holds (names_of ns) name
held_as [] name = refl
held_as (n ∷ ns) name = λ i. bytes_eq_comm name n.bytes.now i || held_as ns name i

-- a name more
pub named_more : (ns : List NameKey) (name : NameKey) → names_of (insert_key (λ a b. bytes_eq a.bytes.now b.bytes.now) ns name) ≡ with_name (names_of ns) name.bytes.now
named_more ns name =
    elim (list_any (λ n. bytes_eq name.bytes.now n.bytes.now) ns) as (λ b. names_of (cond b ns (ns ++ name ∷ [])) ≡ cond b (names_of ns) (names_of ns ++ name.bytes.now ∷ [])) [
      | true ↦ refl
      | false ↦ map-append (λ (n : NameKey). n.bytes.now) ns (name ∷ [])
    ]
    ∙ ap (λ b. cond b (names_of ns) (names_of ns ++ name.bytes.now ∷ [])) (held_as ns name.bytes.now)
