use Rattle.std.proofs.Common.{◌≡◌, ◌∙◌, ◌+◌, ◌≤◌, ◌++◌, ◌∷◌, [], Bool, ℕ, List, true, false, ap, append-nil, append_assoc, arith, get_or, length, map, refl, sym, take}
use Rattle.std.specs.List.{flat_map}
use Rattle.std.proofs.lemmas.Bool.{cond-false, cond-true}
use Rattle.std.proofs.lemmas.List.{take_all, take_more}
use Rattle.std.proofs.lemmas.List.Concat.{flat_map-append}
use Rattle.nl_tool_texts.proofs.ListedLemmas.{line_more}
use Rattle.nl_reports.specs.Rows.{Told, both_lists, heading, highest_told, list_line, list_lines, rank_told, told_row}
use Rattle.nl_reports.specs.declared.rows.Rank.{Rank}
use Rattle.nl_reports.specs.declared.rows.Rank.TheVariants.{Time, Weight}
use Rattle.nl_reports.specs.declared.rows.Ranked.{Ranked}
use Rattle.nl_reports.specs.declared.rows.Row.{Row}
use Rattle.nl_reports.proofs.KindLemmas.{no_row}
use Rattle.nl_reports.proofs.SummaryLemmas.{highest_are}
use Rattle.nl_reports.proofs.rows.Ranked.append.Goals.{else-self-3, then-self-3}
use Rattle.nl_reports.proofs.rows.Ranked.append.Goals as goal

abbrev ranked_lines : Ranked → List Told → Rank → List ℕ
ranked_lines r ts rank = flat_map (list_line r rank) (highest_told r.lists.most rank ts)

one_list : (o h t : List ℕ) → (o ++ h) ++ (t ++ []) ≡ o ++ ((h ++ t) ++ [])
one_list o h t = simp (append_assoc, append-nil)

two_lists : (o t w : List ℕ) → (o ++ []) ++ (t ++ (w ++ [])) ≡ o ++ (t ++ w)
two_lists o t w = simp append-nil

shown_lists : (r : Ranked) (ts : List Told) (o : List ℕ) → r.lists.screen ≡ true
    → (o ++ heading r.lists.screen r.of_kinds) ++ flat_map (ranked_lines r ts) (take 1 (Time ∷ Weight ∷ [])) ≡ o ++ both_lists r ts
shown_lists r ts o is = one_list o (heading r.lists.screen r.of_kinds) (ranked_lines r ts Time)
    ∙ ap (λ (l : List ℕ). o ++ (list_lines r Time ts ++ l)) (sym (cond-true r.lists.screen [] (list_lines r Weight ts) is))

piped_lists : (r : Ranked) (ts : List Told) (o : List ℕ) → r.lists.screen ≡ false
    → (o ++ heading r.lists.screen r.of_kinds) ++ flat_map (ranked_lines r ts) (take 2 (Time ∷ Weight ∷ [])) ≡ o ++ both_lists r ts
piped_lists r ts o is =
    let none : heading r.lists.screen r.of_kinds ≡ [] = ap (λ (b : Bool). heading b r.of_kinds) is in
    (λ i. (o ++ none i) ++ flat_map (ranked_lines r ts) (take 2 (Time ∷ Weight ∷ [])))
    ∙ two_lists o (ranked_lines r ts Time) (ranked_lines r ts Weight)
    ∙ sym ((λ i. o ++ (list_lines r Time ts ++ cond-false r.lists.screen [] (list_lines r Weight ts) is i))
    ∙ (λ i. o ++ ((none i ++ ranked_lines r ts Time) ++ (none i ++ ranked_lines r ts Weight))))

pub loop-item-preserved : goal.loop-item-preserved
loop-item-preserved c =
    let r = c.args.self.now in
    let items = c.deref-item-items.result.now in
    let i = c.loop-item.item-index in
    let rank = get_or (take c.if-self-3.count (Time ∷ Weight ∷ [])) c.loop-rank.rank-index Time in
    line_more told_row (list_line r rank) c.loop-rank.lines.items c.loop-item.lines.items c.append_row.new.lines.items
    items i no_row (get_or items i no_row) c.loop-item-test.true refl c.loop-item.invariant c.in_ok-append_row.ensures.items

pub loop-rank-preserved : goal.loop-rank-preserved
loop-rank-preserved c =
    let r = c.args.self.now in
    let ts = map told_row c.args.all.now in
    let items = c.deref-item-items.result.now in
    let ranks = take c.if-self-3.count (Time ∷ Weight ∷ []) in
    let k = c.loop-rank.rank-index in
    let rank = get_or ranks k Time in
    let f = ranked_lines r ts in
    let before = c.loop-rank.lines.items in
    let head = c.args.lines.now.items ++ heading r.lists.screen r.of_kinds in
    let all : length items ≤ c.loop-item.item-index = omega (arith, c.loop-item-test.false) in
    let own : c.loop-item.lines.items ≡ before ++ f rank = c.loop-item.invariant
    ∙ ap (λ (l : List Row). before ++ flat_map (list_line r rank) (map told_row l)) (take_all c.loop-item.item-index items all)
    ∙ ap (λ (us : List Told). before ++ flat_map (list_line r rank) us)
    (highest_are (rank_told rank) r.lists.most c.args.all.now items (c.deref-item-items.ensures.value ∙ c.in_ok-items.ensures.value)) in
    let whole : flat_map f (take (k + 1) ranks) ≡ flat_map f (take k ranks) ++ f rank =
    ap (flat_map f) (take_more ranks k Time c.loop-rank-test.true) ∙ flat_map-append f (take k ranks) (rank ∷ [])
    ∙ ap (λ (l : List ℕ). flat_map f (take k ranks) ++ l) (append-nil (f rank)) in
    own ∙ ap (λ (l : List ℕ). l ++ f rank) c.loop-rank.invariant ∙ append_assoc head (flat_map f (take k ranks)) (f rank) ∙ ap (λ (l : List ℕ). head ++ l) (sym whole)

pub returns : goal.returns
returns c =
    let r = c.args.self.now in
    let ts = map told_row c.args.all.now in
    let old = c.args.lines.now.items in
    let two : List Rank = Time ∷ Weight ∷ [] in
    let ranks = take c.if-self-3.count two in
    let all : length ranks ≤ c.loop-rank.rank-index = omega (arith, c.loop-rank-test.false) in
    let f = ranked_lines r ts in
    let head = old ++ heading r.lists.screen r.of_kinds in
    let both : head ++ flat_map f ranks ≡ old ++ both_lists r ts = elim c.if-self-3.branch [
      | then-self-3 w ↦ ap (λ (n : ℕ). head ++ flat_map f (take n two)) w.count-is ∙ shown_lists r ts old w.if-self-3.true
      | else-self-3 w ↦ ap (λ (n : ℕ). head ++ flat_map f (take n two)) w.count-is ∙ piped_lists r ts old w.if-self-3.false
    ] in
    record {
      items = c.loop-rank.invariant ∙ ap (λ (l : List Rank). head ++ flat_map f l) (take_all c.loop-rank.rank-index ranks all) ∙ both;
    }
