use Rattle.std.proofs.Common.{◌≡◌, ◌∙◌, ◌+◌, ◌++◌, ◌∷◌, ◌<◌, List, ℕ, IfSome, Bor, ap, codes, drop, get_or, length, rules, subst, sym, take}
use Rattle.std.proofs.lemmas.List.{at_drop_more, take-append-drop}
use Rattle.std.proofs.lemmas.Option.{IfSome_then}
use Rattle.nl_tool.specs.Reasons.{NamesVersion}
use Rattle.nl_tool.proofs.reason.named_version.Goals as goal

pub returns : goal.returns
returns c =
    let bytes = c.args.beginning.now in
    let rest = c.in_ok-rest.rest.now in
    let end = c.in_ok-end.end in
    let mark : List ℕ = codes "# ninja log v" in
    let front : take 13 bytes ≡ mark = search rules in
    let behind : drop 13 bytes ≡ rest = search rules in
    let whole : bytes ≡ mark ++ rest = sym (take-append-drop 13 bytes) ∙ ap (λ (l : List ℕ). l ++ drop 13 bytes) front ∙ ap (λ (l : List ℕ). mark ++ l) behind in
    let within : end < length rest = search rules in
    let newline : get_or rest end 0 ≡ 10 = search rules in
    let split : rest ≡ take end rest ++ (10 ∷ drop (end + 1) rest) = sym (take-append-drop end rest)
    ∙ ap (λ (l : List ℕ). take end rest ++ l) (at_drop_more (λ (l : List ℕ). l) rest end 0 within ∙ ap (λ (n : ℕ). n ∷ drop (end + 1) rest) newline) in
    let is : IfSome c.then_some.result (λ (digits : Bor (List ℕ)). digits.now ≡ take end rest) = search rules in
    IfSome_then c.then_some.result is (λ digits same. subst (NamesVersion bytes) (sym same) (drop (end + 1) rest, whole ∙ ap (λ (l : List ℕ). mark ++ l) split))
