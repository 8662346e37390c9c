use Rattle.std.proofs.Common.{◌≡◌, ◌∙◌, ◌+◌, ◌-◌, ◌<◌, ◌≤◌, ◌++◌, [], List, None, Option, Some, ℕ, ap, append-nil, append_assoc, arith, codes, drop, false, get_or, length, map, sym, true≢false, rules, subst, inl, inr, true}
use Rattle.std.proofs.lemmas.Bool.{cond-false, cond-true, eq-eqb, eqb-true}
use Rattle.std.proofs.lemmas.Bool.Decides.{nat_tests}
use Rattle.std.specs.Prelude.{◌==◌, Bool}
use Rattle.std.proofs.lemmas.List.{at_drop_more, drop_all}
use Rattle.std.proofs.lemmas.List.Sums.{sum_by-cons}
use Rattle.nl_builds.specs.declared.build.Build.{Build}
use Rattle.nl_builds.specs.declared.build.How.TheVariants.{AsWritten}
use Rattle.nl_tool_texts.specs.Lists.{between}
use Rattle.nl_reports.specs.Jobs.{build_jobs, told}
use Rattle.nl_reports.specs.Rows.{Told, both_lists, rank_told, told_jobs, told_row}
use Rattle.nl_tool_texts.specs.Falling.{falling}
use Rattle.nl_reports.specs.Summary.{again_line, builds_told, chosen_text, count_line, first_of, lists_text, no_totals, number_lines, rows_from, slowest_line, text_of, title, totals_from, unfinished_line, AreTotalsOf, again_in, all_lists, build_title, total_of}
use Rattle.nl_reports.specs.declared.choice.Choice.{Choice}
use Rattle.nl_reports.specs.declared.rows.Rank.TheVariants.{Time}
use Rattle.nl_reports.specs.declared.summary.Totals.{Totals}
use Rattle.nl_reports.proofs.KindLemmas.{no_row, one_within}
use Rattle.nl_reports.proofs.SummaryLemmas.{none_told, parts_in_order, some_told}
use Rattle.nl_reports.proofs.summary.summary_lines.Goals.{else-lists-gt0, else-screen, in-All-scope, in-Last-scope, then-lists-gt0+in_ok-append-2+in_ok-kinds+in_ok-append-3, then-screen+in-All+in_ok-put-in-All, then-screen+in-Last+in_ok-put-in-Last}
use Rattle.nl_reports.proofs.summary.summary_lines.Goals as goal
use Rattle.nl_reports.specs.Kinds.{AreSumsOf, kinds}
use Rattle.nl_reports.specs.declared.rows.Lists.{Lists}
use Rattle.nl_reports.specs.declared.rows.Ranked.{Ranked}
use Rattle.nl_reports.specs.declared.rows.Row.{Row}
use Rattle.nl_reports.specs.declared.choice.Scope.{Scope}
use Rattle.nl_reports.specs.declared.choice.Scope.TheVariants.{All}

some_listed : (lists : Lists) (us : List Told) → 0 < lists.most → lists_text lists us ≡ all_lists lists (total_of us) us (kinds lists.rule us)
some_listed lists us some =
    let other : (lists.most == 0) ≡ false = grind (arith, nat_tests) in
    cond-false (lists.most == 0) [] (all_lists lists (total_of us) us (kinds lists.rule us)) other

none_listed : (lists : Lists) (us : List Told) → lists.most ≤ 0 → lists_text lists us ≡ []
none_listed lists us none =
    let same : (lists.most == 0) ≡ true = grind (arith, nat_tests) in
    cond-true (lists.most == 0) [] (all_lists lists (total_of us) us (kinds lists.rule us)) same

pub loop-place-init : goal.loop-place-init
loop-place-init c =
    let t = told c.args.from.now in
    let bs = c.between-told.result.now in
    let first : c.in-Some.choice.first + 0 ≡ c.in-Some.choice.first = omega arith in
    let none : c.default-totals.result ≡ no_totals = search rules in
    record {
      totals = λ i. totals_from (none i) t (first i) bs;
      commands = λ i. map told_row (c.new-commands.ensures.items i) ++ rows_from t (first i) bs;
      few = subst (AreTotalsOf 0) (sym none) (record { outputs = omega arith; wall = omega arith; busy = omega arith; alone = omega arith });
      small = subst (λ (l : List Row). AreSumsOf 1 (map told_row l)) (sym c.new-commands.ensures.items) tt;
    }

pub loop-place-preserved : goal.loop-place-preserved
loop-place-preserved c =
    let t = told c.args.from.now in
    let bs = c.between-told.result.now in
    let i = c.loop-place.place in
    let n = c.in-Some.choice.first + i in
    let no : Build = record { to = 0; began = None; how = AsWritten; is_sure = false } in
    let within : i < length bs = c.loop-place-test.true in
    let old = map told_row c.loop-place.commands.items in
    let rest = drop (i + 1) bs in
    let next : c.in-Some.choice.first + (i + 1) ≡ n + 1 = omega arith in
    record {
      totals = ap (λ (m : ℕ). totals_from c.add.new.self t m rest) next
          ∙ ap (λ (s : Totals). totals_from s t (n + 1) rest) c.in_ok-add.ensures.totals
          ∙ sym (at_drop_more (λ (l : List Build). totals_from c.loop-place.totals t n l) bs i no within)
          ∙ c.loop-place.invariant.totals;
      commands = ap (λ (m : ℕ). map told_row c.add.new.found.items ++ rows_from t m rest) next
          ∙ ap (λ (l : List Told). l ++ rows_from t (n + 1) rest) c.in_ok-add.ensures.commands
          ∙ append_assoc old (told_jobs (build_jobs t n)) (rows_from t (n + 1) rest)
          ∙ ap (λ (l : List Told). old ++ l) (sym (at_drop_more (λ (l : List Build). rows_from t n l) bs i no within))
          ∙ c.loop-place.invariant.commands;
      few = c.in_ok-add.ensures.few i c.loop-place.invariant.few;
      small = c.in_ok-add.ensures.small c.loop-place.invariant.small;
    }

pub overflow_add-total : goal.overflow_add-total
overflow_add-total c =
    let small = subst (λ (l : List Row). AreSumsOf 1 (map told_row l)) (sym c.as_slice-commands.ensures.value) c.loop-place.invariant.small in
    let one = one_within 1 c.as_slice-commands.result.now c.loop-command.command-index no_row small c.loop-command-test.true in
    omega (arith, one.time, c.loop-command.invariant.small)

pub loop-command-preserved : goal.loop-command-preserved
loop-command-preserved c =
    let commands = c.as_slice-commands.result.now in
    let i = c.loop-command.command-index in
    let small = subst (λ (l : List Row). AreSumsOf 1 (map told_row l)) (sym c.as_slice-commands.ensures.value) c.loop-place.invariant.small in
    let one = one_within 1 commands i no_row small c.loop-command-test.true in
    record {
      total = omega (
        arith,
        c.loop-command.invariant.total,
        at_drop_more (λ (l : List Row). total_of (map told_row l)) commands i no_row c.loop-command-test.true,
        sum_by-cons (λ (t : Told). t.sums.time) (told_row (get_or commands i no_row)) (map told_row (drop (i + 1) commands)),
      );
      small = omega (arith, one.time, c.loop-command.invariant.small);
    }

pub returns-in_default : goal.returns-in_default
returns-in_default c =
    let screen = c.args.lists.screen in
    let last = unfinished_line screen c.args.unfinished in
    let count = c.len-count.ensures ∙ c.args.from.now.builds.ok.0 in
    let first : List ℕ → ℕ → List ℕ = λ l n. l ++ count_line screen (codes "builds") (codes "builds in LOG") (Some n) in
    record {
      value = c.in_ok-append_unfinished.ensures.items
          ∙ (λ i. (c.in_ok-append_count.ensures.items ∙ (λ k. first (c.new-lines.ensures.items k) (count k))) i ++ last)
          ∙ ap (λ (o : Option Choice). chosen_text c.args.scope o c.args.lists c.args.unfinished (told c.args.from.now)) c.in_default.ensures.value;
    }

pub returns-then-is_empty : goal.returns-then-is_empty
returns-then-is_empty c =
    let t = told c.args.from.now in
    let choice = c.in-Some.choice in
    let bs = c.between-told.result.now in
    let chosen : bs ≡ between (choice.first - 1) choice.last c.args.from.now.builds.items =
    c.between-told.ensures ∙ (λ i. between (c.saturating_sub-before.ensures i) choice.last (c.as_slice.ensures.value i)) in
    let none : length bs ≡ 0 = eqb-true (length bs) 0 (sym c.is_empty.ensures ∙ c.if-is_empty.true) in
    record {
      value = c.in_ok-append_unfinished-2.ensures.items ∙ ap (λ (l : List ℕ). l ++ unfinished_line c.args.lists.screen c.args.unfinished) c.new-lines.ensures.items
          ∙ sym (none_told c.args.scope c.args.lists c.args.unfinished t choice.first bs none)
          ∙ ap (λ (l : List Build). builds_told c.args.scope c.args.lists c.args.unfinished t choice.first l) chosen
          ∙ ap (λ (o : Option Choice). chosen_text c.args.scope o c.args.lists c.args.unfinished t) c.in-Some.ensures.value;
    }

pub returns : goal.returns
returns c =
    let t = told c.args.from.now in
    let choice = c.in-Some.choice in
    let first = choice.first in
    let bs = c.between-told.result.now in
    let ts = c.loop-place.totals in
    let us = map told_row c.as_slice-commands.result.now in
    let place = c.loop-place.place in
    let done : length bs ≤ place = omega (arith, c.loop-place-test.false) in
    let sums : ts ≡ totals_from no_totals t first bs =
    ap (λ (l : List Build). totals_from ts t (first + place) l) (sym (drop_all place bs done)) ∙ c.loop-place.invariant.totals in
    let held = map told_row c.loop-place.commands.items in
    let told_of : held ≡ rows_from t first bs = sym (append-nil held)
    ∙ ap (λ (l : List Build). held ++ rows_from t (first + place) l) (sym (drop_all place bs done)) ∙ c.loop-place.invariant.commands in
    let taken = c.match-scope-2.taken in
    let again : taken ≡ again_in c.args.scope bs = elim c.match-scope-2.branch [
      | in-All-scope w ↦ w.taken-is ∙ ap (λ (s : Scope). again_in s bs) (sym w.in-All-scope.is)
      | in-Last-scope w ↦ w.taken-is ∙ w.most_taken-taken.ensures ∙ elim w.in-Last-scope.is [ inl h ↦ ap (λ (s : Scope). again_in s bs) (sym h) | inr h ↦ ap (λ (s : Scope). again_in s bs) (sym h.1) ]
    ] in
    let screen = c.args.lists.screen in
    let head = title screen c.args.scope first (length c.args.from.now.builds.items) in
    let count = length c.args.from.now.builds.items in
    let headed : c.if-screen.lines.items ≡ head = elim c.if-screen.branch [
      | then-screen+in-All+in_ok-put-in-All w ↦ ap (λ v. v.items) w.lines-is ∙ w.in_ok-put-in-All.ensures.items
          ∙ (λ i. c.new-lines.ensures.items i ++ title true All first ((w.len.ensures ∙ c.args.from.now.builds.ok.0) i))
          ∙ (λ i. title (sym w.if-screen.true i) (sym w.in-All.is i) first count)
      | then-screen+in-Last+in_ok-put-in-Last w ↦ ap (λ v. v.items) w.lines-is ∙ w.in_ok-put-in-Last.ensures.items
          ∙ (λ i. c.new-lines.ensures.items i ++ build_title first ((w.len.ensures ∙ c.args.from.now.builds.ok.0) i))
          ∙ elim w.in-Last.is [
            | inl h ↦ λ i. title (sym w.if-screen.true i) (sym h i) first count
            | inr h ↦ λ i. title (sym w.if-screen.true i) (sym h.1 i) first count
          ]
      | else-screen w ↦ ap (λ v. v.items) w.lines-is ∙ c.new-lines.ensures.items ∙ (λ i. title (sym w.if-screen.false i) c.args.scope first count)
    ] in
    let slow = slowest_line screen (first_of (falling (rank_told Time) us)) in
    let last = unfinished_line screen c.args.unfinished in
    let chosen : bs ≡ between (first - 1) choice.last c.args.from.now.builds.items =
    c.between-told.ensures ∙ (λ i. between (c.saturating_sub-before.ensures i) choice.last (c.as_slice.ensures.value i)) in
    let lists = c.args.lists in
    let rows = c.as_slice-commands.result.now in
    let unf = c.append_unfinished-2.new.lines.items in
    let ended : length rows ≤ c.loop-command.command-index = omega (arith, c.loop-command-test.false) in
    let none : total_of (map told_row (drop c.loop-command.command-index rows)) ≡ 0 =
    ap (λ (l : List Row). total_of (map told_row l)) (drop_all c.loop-command.command-index rows ended) in
    let total : c.loop-command.total ≡ total_of us = omega (arith, c.loop-command.invariant.total, none) in
    let ranked : Bool → ℕ → Ranked = λ k n. record { lists = lists; of_kinds = k; total = n } in
    let ks = kinds lists.rule us in
    let listed : c.if-lists-gt0.lines.items ≡ unf ++ lists_text lists us = elim c.if-lists-gt0.branch [
      | then-lists-gt0+in_ok-append-2+in_ok-kinds+in_ok-append-3 w ↦ ap (λ v. v.items) w.lines-is ∙ w.in_ok-append-3.ensures.items
          ∙ (λ i. w.in_ok-append-2.ensures.items i
          ++ both_lists (ranked true (total i)) ((ap (map told_row) w.as_slice-then-lists-gt0.ensures.value ∙ w.in_ok-kinds.ensures.value) i))
          ∙ append_assoc unf (both_lists (ranked false c.loop-command.total) us) (both_lists (ranked true (total_of us)) ks)
          ∙ ap (λ (n : ℕ). unf ++ (both_lists (ranked false n) us ++ both_lists (ranked true (total_of us)) ks)) total
          ∙ ap (λ (l : List ℕ). unf ++ l) (sym (some_listed lists us (omega (arith, w.if-lists-gt0.true))))
      | else-lists-gt0 w ↦ ap (λ v. v.items) w.lines-is ∙ sym (append-nil unf)
          ∙ ap (λ (l : List ℕ). unf ++ l) (sym (none_listed lists us (omega (arith, w.if-lists-gt0.false))))
    ] in
    let whole : c.if-lists-gt0.lines.items ≡ text_of head c.args.lists c.args.unfinished ts us taken =
    listed ∙ ap (λ (l : List ℕ). l ++ lists_text c.args.lists us)
    (c.in_ok-append_unfinished-3.ensures.items ∙ ap (λ (l : List ℕ). l ++ last)
    (c.in_ok-append_count-2.ensures.items ∙ ap (λ (l : List ℕ). l ++ again_line screen taken)
    (c.in_ok-append.ensures.items ∙ ap (λ (l : List ℕ). l ++ (number_lines screen ts us ++ slow))
    headed)))
    ∙ parts_in_order head (number_lines screen ts us) slow (again_line screen taken) last (lists_text c.args.lists us) in
    record {
      value = whole
          ∙ (λ i. text_of head c.args.lists c.args.unfinished (sums i)
          ((ap (map told_row) c.as_slice-commands.ensures.value ∙ told_of) i) (again i))
          ∙ sym (some_told c.args.scope c.args.lists c.args.unfinished t first bs (λ none. true≢false (sym (eq-eqb _ 0 none) ∙ sym c.is_empty.ensures ∙ c.if-is_empty.false)))
          ∙ ap (λ (l : List Build). builds_told c.args.scope c.args.lists c.args.unfinished t first l) chosen
          ∙ ap (λ (o : Option Choice). chosen_text c.args.scope o c.args.lists c.args.unfinished t) c.in-Some.ensures.value;
    }
