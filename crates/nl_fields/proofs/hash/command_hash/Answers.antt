use Rattle.std.proofs.Common.{◌≡◌, length, arith, rules, ◌/◌, ◌∙◌, ◌≤◌, ◌∷◌, ap, refl, sym, subst, get_or, List, ℕ, []}
use Rattle.std.specs.Prelude.{All, fold}
use Rattle.std.proofs.lemmas.List.{take_all}
use Rattle.std.proofs.lemmas.List.Sums.{fold_more}
use Rattle.nl_fields.specs.CommandHash.{times, seed, with_group, with_rest, xor}
use Rattle.nl_fields.proofs.HashLemmas.{group_hashed, groups_whole, xor_is, hash_is, is_hash_of, rest_hashed}
use Rattle.nl_fields.proofs.hash.command_hash.Goals.{then-not-is_empty, else-not-is_empty}
use Rattle.nl_fields.proofs.hash.command_hash.Goals as goal

pub loop-group-init : goal.loop-group-init
loop-group-init c = xor_is seed c.times-hash.result (omega arith) (search rules) ∙ ap (xor seed) c.times-hash.ensures

pub loop-group-preserved : goal.loop-group-preserved
loop-group-preserved c =
    let groups = c.as_chunks.result.0.now in
    let whole : All (λ group. length group ≡ 8) groups = subst (All (λ (group : List ℕ). length group ≡ 8)) (sym c.as_chunks.ensures.front)
    (groups_whole (length c.args.command.now / 8) c.args.command.now (omega arith)) in
    let group = get_or groups c.loop-group.group-index [] in
    group_hashed c.loop-group.hash group _ _ _ _ _ (search rules) (search rules) (whole _ [] c.loop-group-test.true)
    c.from_le_bytes.ensures c.times.ensures c.mixed.ensures c.times-in-loop-group.ensures c.times-hash-in-loop-group.ensures
    ∙ ap (λ (hash : ℕ). with_group hash group) c.loop-group.invariant
    ∙ sym (fold_more with_group (xor seed (times (length c.args.command.now))) groups c.loop-group.group-index [] c.loop-group-test.true)

no_rest : (hash : ℕ) (rest : List ℕ) → length rest ≤ 0 → hash ≡ with_rest hash rest
no_rest hash [] none = refl
no_rest hash (byte ∷ rest) none = absurd (omega (arith, none))

pub returns-clause-hash : goal.returns-clause-hash
returns-clause-hash c =
    let whole : c.loop-group.hash ≡ fold with_group (xor seed (times (length c.args.command.now))) c.as_chunks.result.0.now =
    c.loop-group.invariant ∙ ap (fold with_group (xor seed (times (length c.args.command.now))))
    (take_all c.loop-group.group-index c.as_chunks.result.0.now c.loop-group-test.false) in
    let rested : c.if-not-is_empty.hash ≡ with_rest c.loop-group.hash c.as_chunks.result.1.now =
    elim c.if-not-is_empty.branch [
      | then-not-is_empty w ↦ w.hash-is ∙ rest_hashed c.loop-group.hash c.as_chunks.result.1.now _ _ _ (search rules) (search rules)
          (grind arith) (omega (arith, c.as_chunks.ensures.back_len)) w.padded.ensures w.from_le_bytes-then-not-is_empty.ensures
          w.times-hash-then-not-is_empty.ensures
      | else-not-is_empty w ↦ w.hash-is ∙ no_rest c.loop-group.hash c.as_chunks.result.1.now (grind arith)
    ] in
    hash_is c.args.command.now c.as_chunks.result.0.now c.as_chunks.result.1.now _ _ _ _ _ c.as_chunks.ensures.front
    c.as_chunks.ensures.back c.as_chunks.ensures.back_len whole rested c.mixed-2.ensures c.times-2.ensures c.mixed-3.ensures

pub returns-clause-value : goal.returns-clause-value
returns-clause-value c = is_hash_of c.args.command.now _ (returns-clause-hash c)
