use Rattle.std.proofs.Common.{◌≡◌, ◌∙◌, ◌++◌, ℕ, List, [], Bor, ap, arith, codes, inl, inr}
use Rattle.std.specs.Prelude.{Option}
use Rattle.std.proofs.lemmas.Grind.{common_steps}
use Rattle.nl_tool_change.specs.Replay.{behind_tab, text_of_word}
use Rattle.nl_tool_change.proofs.script.Script.add.Goals as goal

pub returns-in_ok-set_numbers-in-Writes-Some : goal.returns-in_ok-set_numbers-in-Writes-Some
returns-in_ok-set_numbers-in-Writes-Some c =
    let none : c.args.self.now.events.items ≡ [] = grind (arith, common_steps) in
    let word = c.in-Some.ensures.value ∙ ap text_of_word c.in-Writes-Some.is-0 in
    let is = c.split_tab.ensures.line ∙ ap (λ (w : List ℕ). w ++ behind_tab c.split_tab.result.1) word
    ∙ ap (λ (r : Option (Bor (List ℕ))). codes "writes" ++ behind_tab r) c.in-Writes-Some.is-1 in
    record { ok = inl ((c.in-Writes-Some.text.now, inl is), none, none) }

pub returns-in_ok-set_numbers-in-Fates-Some : goal.returns-in_ok-set_numbers-in-Fates-Some
returns-in_ok-set_numbers-in-Fates-Some c =
    let none : c.args.self.now.events.items ≡ [] = grind (arith, common_steps) in
    let word = c.in-Some.ensures.value ∙ ap text_of_word c.in-Fates-Some.is-0 in
    let is = c.split_tab.ensures.line ∙ ap (λ (w : List ℕ). w ++ behind_tab c.split_tab.result.1) word
    ∙ ap (λ (r : Option (Bor (List ℕ))). codes "fates" ++ behind_tab r) c.in-Fates-Some.is-1 in
    record { ok = inl ((c.in-Fates-Some.text.now, inr (inl is)), none, none) }

pub returns-in_ok-set_numbers-in-Tails-Some : goal.returns-in_ok-set_numbers-in-Tails-Some
returns-in_ok-set_numbers-in-Tails-Some c =
    let none : c.args.self.now.events.items ≡ [] = grind (arith, common_steps) in
    let word = c.in-Some.ensures.value ∙ ap text_of_word c.in-Tails-Some.is-0 in
    let is = c.split_tab.ensures.line ∙ ap (λ (w : List ℕ). w ++ behind_tab c.split_tab.result.1) word
    ∙ ap (λ (r : Option (Bor (List ℕ))). codes "tails" ++ behind_tab r) c.in-Tails-Some.is-1 in
    record { ok = inl ((c.in-Tails-Some.text.now, inr (inr (inl is))), none, none) }

pub returns-in_ok-nth-in-Fuse-Some : goal.returns-in_ok-nth-in-Fuse-Some
returns-in_ok-nth-in-Fuse-Some c =
    let none : c.args.self.now.events.items ≡ [] = grind (arith, common_steps) in
    let word = c.in-Some.ensures.value ∙ ap text_of_word c.in-Fuse-Some.is-0 in
    let is = c.split_tab.ensures.line ∙ ap (λ (w : List ℕ). w ++ behind_tab c.split_tab.result.1) word
    ∙ ap (λ (r : Option (Bor (List ℕ))). codes "fuse" ++ behind_tab r) c.in-Fuse-Some.is-1 in
    record { ok = inl ((c.in-Fuse-Some.text.now, inr (inr (inr is))), none, none) }
