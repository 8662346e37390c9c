-- Laws of commands and builds.
use Rattle.std.proofs.Common.{◌≡◌, ℕ, ◌+◌, ◌-◌, ◌<◌, ◌≤◌, ◌||◌, ◌&&◌, not, Bool, true, false, cond, List, [], ◌∷◌, ◌++◌, length, map, take, drop, refl, sym, ◌∙◌, ap, arith, subst, inl, inr, zero, suc}
use Rattle.std.specs.Prelude.{nat_le, nat_lt, slice_get, Option, None, Some}
use Rattle.std.specs.List.Sorted.{IsPermutation}
use Rattle.std.proofs.lemmas.Bool.{cases_Bool, cond-false, cond-true, ltb-true}
use Rattle.std.proofs.lemmas.List.{length-append, length-take-le, take-append-drop}
use Rattle.std.proofs.lemmas.List.Sorted.{IsPermutation-append_left, IsPermutation-refl, IsPermutation-trans, length_permutation}
use Rattle.nl_fields.specs.declared.entry.Entry.{Entry}
use Rattle.nl_builds.specs.Builds.{Told, again, as_written, beside_doubts, builds_of, entries_of, entries_to, falls_at, first_back, found_build, is_before, new_commands, new_names, next_is_sure, past_in, told_with, walk, walk_from, whole_commands, written_build, written_builds}
use Rattle.nl_builds.specs.Commands.{commands, commands_from, falls, is_more, is_same, longer, moved_rows, one, row_or, rows}
use Rattle.nl_builds.specs.Laws.{AreModest, PlacesRise, Share, ShareCommands, ShareEntries}
use Rattle.nl_builds.specs.Seen.{begun, doubts, is_border, is_doubtful, is_sure, mark, mark_told, mark_written, with_command}
use Rattle.nl_builds.specs.Sorted.{by_moment, falling, moment_rank, span_rank}
use Rattle.nl_builds.specs.declared.build.Build.{Build}
use Rattle.nl_builds.specs.declared.command.Command.{Command}
use Rattle.nl_builds.specs.declared.command.Row.{Row}
use Rattle.nl_builds.specs.declared.seen.Mark.TheVariants.{Sure, Unsure}
use Rattle.nl_builds.specs.declared.seen.Order.{Order}
use Rattle.nl_builds.specs.declared.seen.Order.TheVariants.{Written, ByMoment}
use Rattle.nl_builds.specs.declared.seen.Seen.{Seen}
use Rattle.nl_versions.specs.declared.entries.Stamps.TheVariants.{OfStart}
use Rattle.nl_builds.proofs.FallingLemmas.{falling_moves}
use Rattle.nl_versions.specs.Stamps.{is_end, is_start}
use Rattle.nl_versions.specs.declared.entries.Stamps.{Stamps}

-- ---- entries and commands

shared_from : (from place : ℕ) (c : Command) (first last : List ℕ) (es : List Entry) → from < place → c.to ≡ place
    → ShareEntries from (commands_from place c first last es) (place + length es)
shared_from from place c first last [] less is = (omega (arith, less, is), omega (arith, is))
shared_from from place c first last (e ∷ es) less is =
    let more = shared_from from (place + 1) (longer c (place + 1) e) first e.name es (omega (arith, less)) refl in
    let other = shared_from c.to (place + 1) (one (place + 1) e) e.name e.name es (omega (arith, is)) refl in
    let end : place + 1 + length es ≡ place + length (e ∷ es) = omega arith in
    elim (is_more c first last e) as (λ b. ShareEntries from (cond b (commands_from (place + 1) (longer c (place + 1) e) first e.name es)
    (c ∷ commands_from (place + 1) (one (place + 1) e) e.name e.name es)) (place + length (e ∷ es))) [
      | true ↦ subst (ShareEntries from (commands_from (place + 1) (longer c (place + 1) e) first e.name es)) end more
      | false ↦ (omega (arith, less, is), subst (ShareEntries c.to (commands_from (place + 1) (one (place + 1) e) e.name e.name es)) end other)
    ]

pub entries_shared : (es : List Entry) → ShareEntries 0 (commands es) (length es)
entries_shared [] = refl
entries_shared (e ∷ es) =
    let end : 1 + length es ≡ length (e ∷ es) = omega arith in
    subst (ShareEntries 0 (commands_from 1 (one 1 e) e.name e.name es)) end (shared_from 0 1 (one 1 e) e.name e.name es (omega arith) refl)

-- ---- commands and builds

module _ (order : Order) (stamps : Stamps) where
  walked : (from place : ℕ) (s : Seen) (cs : List Command) (rs : List Row) → from < place → s.to ≡ place
      → ShareCommands from (walk_from order stamps place s cs rs) (place + length cs)
  walked from place s [] rs less is = (omega (arith, less, is), omega (arith, is))
  walked from place s (c ∷ cs) rs less is =
      let r = row_or c rs in
      let rest = drop 1 rs in
      let m = mark order stamps s c r in
      let next = begun stamps (place + 1) (is_sure m) (past_in order s) c r in
      let longer_build = with_command s stamps (place + 1) (is_doubtful m) c r in
      let other = walked s.to (place + 1) next cs rest (omega (arith, is)) refl in
      let more = walked from (place + 1) longer_build cs rest (omega (arith, less)) refl in
      let end : place + 1 + length cs ≡ place + length (c ∷ cs) = omega arith in
      elim (is_border m) as (λ b. ShareCommands from (cond b (s ∷ walk_from order stamps (place + 1) next cs rest)
      (walk_from order stamps (place + 1) longer_build cs rest)) (place + length (c ∷ cs))) [
        | true ↦ (omega (arith, less, is), subst (ShareCommands s.to (walk_from order stamps (place + 1) next cs rest)) end other)
        | false ↦ subst (ShareCommands from (walk_from order stamps (place + 1) longer_build cs rest)) end more
      ]

  pub commands_shared : (place : ℕ) (sure : Bool) (cs : List Command) (rs : List Row)
      → ShareCommands place (walk order stamps place sure cs rs) (place + length cs)
  commands_shared place sure [] rs = omega arith
  commands_shared place sure (c ∷ cs) rs =
      let first = begun stamps (place + 1) sure 0 c (row_or c rs) in
      let end : place + 1 + length cs ≡ place + length (c ∷ cs) = omega arith in
      subst (ShareCommands place (walk_from order stamps (place + 1) first cs (drop 1 rs))) end
      (walked place (place + 1) first cs (drop 1 rs) (omega arith) refl)

from_first : (order : Order) (stamps : Stamps) (cs : List Command) (rs : List Row) → ShareCommands 0 (walk order stamps 0 true cs rs) (length cs)
from_first order stamps cs rs =
    let end : 0 + length cs ≡ length cs = omega arith in
    subst (ShareCommands 0 (walk order stamps 0 true cs rs)) end (commands_shared order stamps 0 true cs rs)

-- ---- a law of what is told, by its two cases

whole_within : (count : ℕ) (cs : List Command) → whole_commands count cs ≤ length cs
whole_within count [] = omega arith
whole_within count (c ∷ cs) =
    let rest = whole_within count cs in
    elim (nat_le c.to count) as (λ b. cond b (1 + whole_commands count cs) 0 ≤ length (c ∷ cs)) [ true ↦ omega (arith, rest) | false ↦ omega arith ]

new_within : (counts : Bool) (es : List Entry) (cs : List Command) → new_commands counts es cs ≤ length cs
new_within true es cs = whole_within (new_names [] es) cs
new_within false es cs = omega arith

some_before : (back : Option ℕ) (count : ℕ) → is_before back count ≡ true → 0 < count
some_before None count is = absurd (cc is)
some_before (Some back) count is = omega (arith, ltb-true back count is)

told_either : (P : Told → Type 0) (stamps : Stamps) (es : List Entry)
    → ((new : ℕ) → P (as_written stamps new es (commands es) (walk Written stamps 0 true (commands es) (rows (commands es)))))
    → ((count : ℕ) → 0 < count → count ≤ length (commands es) → P (again stamps count es (commands es) (rows (commands es)))) → P (builds_of stamps es)
told_either P stamps es written moved = go (first_back stamps None 0 seen)
  where
    cs : List Command
    cs = commands es

    rs : List Row
    rs = rows cs

    seen : List Seen
    seen = walk Written stamps 0 true cs rs

    go : (back : Option ℕ) → P (told_with stamps es cs rs seen back)
    go back =
        let count = new_commands true es cs in
        elim (cases_Bool (is_before back count)) [
          | inl less ↦ subst P (sym (cond-true (is_before back count) (again stamps count es cs rs) (as_written stamps count es cs seen) less))
              (moved count (some_before back count less) (new_within true es cs))
          | inr more ↦ subst P (sym (cond-false (is_before back count) (again stamps count es cs rs) (as_written stamps count es cs seen) more)) (written count)
        ]

-- ---- entries

by_moment_moves : (stamps : Stamps) (es : List Entry) → IsPermutation es (by_moment stamps es)
by_moment_moves stamps es =
    IsPermutation-trans es (falling span_rank es) (by_moment stamps es) (falling_moves span_rank es) (falling_moves (moment_rank stamps) (falling span_rank es))

pub entries_moved : (stamps : Stamps) (es : List Entry) → IsPermutation es (builds_of stamps es).entries
entries_moved stamps es =
    told_either (λ t. IsPermutation es t.entries) stamps es (λ new. IsPermutation-refl es) (λ count some within.
    let k = entries_of count (commands es) in
    subst (λ (l : List Entry). IsPermutation l (by_moment stamps (take k es) ++ drop k es)) (take-append-drop k es)
    (IsPermutation-append_left (drop k es) (take k es) (by_moment stamps (take k es)) (by_moment_moves stamps (take k es))))

-- ---- places

share_append : {A : Type 0} (to : A → ℕ) (from mid end : ℕ) (xs ys : List A) → Share to from xs mid → Share to mid ys end → Share to from (xs ++ ys) end
share_append to from mid end [] ys first next = subst (λ n. Share to n ys end) (sym first) next
share_append to from mid end (x ∷ xs) ys first next = (first.0, share_append to (to x) mid end xs ys first.1 next)

share_le : (from : ℕ) (cs : List Command) (end : ℕ) → ShareEntries from cs end → from ≤ end
share_le from [] end held = omega (arith, held)
share_le from (c ∷ cs) end held = omega (arith, held.0, share_le c.to cs end held.1)

-- the commands behind one have the entries behind its own
share_drop : (from : ℕ) (cs : List Command) (end i : ℕ) → i < length cs → ShareEntries from cs end
    → ShareEntries (entries_to (slice_get cs i)) (drop (suc i) cs) end × (entries_to (slice_get cs i) ≤ end)
share_drop from [] end i within held = absurd (omega arith)
share_drop from (c ∷ cs) end zero within held = (held.1, share_le c.to cs end held.1)
share_drop from (c ∷ cs) end (suc i) within held = share_drop c.to cs end i (omega (arith, within)) held.1

written_rise : (stamps : Stamps) (new : ℕ) (beside : Bool) (from : ℕ) (ss : List Seen) (end : ℕ) → ShareCommands from ss end
    → Share (λ (b : Build). b.to) from (written_builds stamps new from beside ss) end
written_rise stamps new beside from [] end held = held
written_rise stamps new beside from (s ∷ ss) end held = (held.0, written_rise stamps new (doubts stamps (nat_lt from new) s) s.to ss end held.1)

found_rise : (k from : ℕ) (ss : List Seen) (end : ℕ) → ShareCommands from ss end → Share (λ (b : Build). b.to) from (map (found_build k) ss) end
found_rise k from [] end held = held
found_rise k from (s ∷ ss) end held = (held.0, found_rise k s.to ss end held.1)

again_rises : (stamps : Stamps) (es : List Entry) (count : ℕ) → 0 < count → count ≤ length (commands es)
    → ShareEntries 0 (again stamps count es (commands es) (rows (commands es))).commands (length es)
    × Share (λ (b : Build). b.to) 0 (again stamps count es (commands es) (rows (commands es))).builds
    (length (again stamps count es (commands es) (rows (commands es))).commands)
again_rises stamps es count some within =
    let cs = commands es in
    let k = entries_of count cs in
    let moved = by_moment stamps (take k es) in
    let fs = commands moved in
    let rest = drop count cs in
    let place : suc (count - 1) ≡ count = omega (arith, some) in
    let behind = share_drop 0 cs (length es) (count - 1) (omega (arith, some, within)) (entries_shared es) in
    let all : length moved ≡ k = length_permutation (take k es) moved (by_moment_moves stamps (take k es)) ∙ length-take-le k es behind.1 in
    let behind_rows = drop count (rows cs) in
    let later = walk Written stamps (length fs) (falls_at count cs) rest behind_rows in (
      share_append (λ (c : Command). c.to) 0 k (length es) fs rest (subst (ShareEntries 0 fs) all (entries_shared moved))
          (subst (λ (n : ℕ). ShareEntries k (drop n cs) (length es)) place behind.0),
      subst (Share (λ (b : Build). b.to) 0 (map (found_build k) (walk ByMoment OfStart 0 true fs (moved_rows stamps fs)) ++ written_builds stamps 0 (length fs) false later))
          (sym (length-append fs rest))
          (share_append (λ (b : Build). b.to) 0 (length fs) (length fs + length rest) (map (found_build k) (walk ByMoment OfStart 0 true fs (moved_rows stamps fs)))
          (written_builds stamps 0 (length fs) false later)
          (found_rise k 0 (walk ByMoment OfStart 0 true fs (moved_rows stamps fs)) (length fs) (from_first ByMoment OfStart fs (moved_rows stamps fs)))
          (written_rise stamps 0 false (length fs) later (length fs + length rest)
          (commands_shared Written stamps (length fs) (falls_at count cs) rest behind_rows))),
    )

pub told_rises : (stamps : Stamps) (es : List Entry) → PlacesRise (builds_of stamps es)
told_rises stamps es =
    let cs = commands es in
    let seen = walk Written stamps 0 true cs (rows cs) in
    let both = told_either (λ t. ShareEntries 0 t.commands (length es) × Share (λ (b : Build). b.to) 0 t.builds (length t.commands)) stamps es
    (λ new. (entries_shared es, written_rise stamps new false 0 seen (length cs) (from_first Written stamps cs (rows cs)))) (again_rises stamps es) in
    let t = builds_of stamps es in
    (subst (ShareEntries 0 t.commands) (sym (length_permutation es t.entries (entries_moved stamps es))) both.0, both.1)

-- ---- what is sure

written_modest : (stamps : Stamps) (new from : ℕ) (beside : Bool) (ss : List Seen) → AreModest (written_builds stamps new from beside ss)
written_modest stamps new from beside [] = tt
written_modest stamps new from beside (s ∷ ss) = (refl, written_modest stamps new s.to (doubts stamps (nat_lt from new) s) ss)

found_modest : (count : ℕ) (ss : List Seen) (bs : List Build) → AreModest bs → AreModest (map (found_build count) ss ++ bs)
found_modest count [] bs held = held
found_modest count (s ∷ ss) bs held = (refl, found_modest count ss bs held)

pub builds_modest : (stamps : Stamps) (es : List Entry) → AreModest (builds_of stamps es).builds
builds_modest stamps es =
    let cs = commands es in
    told_either (λ t. AreModest t.builds) stamps es (λ new. written_modest stamps new 0 false (walk Written stamps 0 true cs (rows cs))) (λ count some within.
    let k = entries_of count cs in
    let fs = commands (by_moment stamps (take k es)) in
    let later = walk Written stamps (length fs) (falls_at count cs) (drop count cs) (drop count (rows cs)) in
    found_modest k (walk ByMoment OfStart 0 true fs (moved_rows stamps fs)) (written_builds stamps 0 (length fs) false later) (written_modest stamps 0 (length fs) false later))

-- ---- sure borders

pub falls_sure : (stamps : Stamps) (s : Seen) (c : Command) (r : Row) → falls s.last c ≡ true → mark_written stamps s c r ≡ Sure
falls_sure stamps s c r is =
    cond-true (falls s.last c || is_same s.last c) Sure (cond s.last.is_manifest Unsure (mark_told stamps s c r))
    (ap (λ (b : Bool). b || is_same s.last c) is)

either : (a b : Bool) → b ≡ true → (a || b) ≡ true
either true b is = refl
either false b is = is

pub same_sure : (stamps : Stamps) (s : Seen) (c : Command) (r : Row) → is_same s.last c ≡ true → mark_written stamps s c r ≡ Sure
same_sure stamps s c r is =
    cond-true (falls s.last c || is_same s.last c) Sure (cond s.last.is_manifest Unsure (mark_told stamps s c r))
    (either (falls s.last c) (is_same s.last c) is)

-- ---- a sure build

parts : (a b c d : Bool) → (a && b && c && d) ≡ true → (b ≡ true) × (c ≡ true)
parts false b c d is = absurd (cc is)
parts true false c d is = absurd (cc is)
parts true true false d is = absurd (cc is)
parts true true true d is = (refl, refl)

pub borders_sure : (stamps : Stamps) (new from : ℕ) (beside : Bool) (s : Seen) (ss : List Seen) → (written_build stamps new from beside s ss).is_sure ≡ true
    → (s.is_sure ≡ true) × (next_is_sure ss ≡ true)
borders_sure stamps new from beside s ss is =
    parts (is_start stamps || is_end stamps) s.is_sure (next_is_sure ss) (not (doubts stamps (nat_lt from new) s || beside_doubts stamps new from beside s ss)) is
