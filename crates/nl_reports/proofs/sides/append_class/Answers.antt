use Rattle.std.proofs.Common.{◌≡◌, ◌∙◌, ◌+◌, ◌<◌, ◌≤◌, ◌++◌, ◌∷◌, [], Bool, List, ℕ, ap, append-nil, append_assoc, arith, codes, drop, false, get_or, length, map, refl, rules, sym, take, true, true≢false}
use Rattle.std.specs.Prelude.{decimal}
use Rattle.std.specs.List.{flat_map}
use Rattle.std.proofs.lemmas.Bool.{cond-false, cond-true, eq-eqb, eqb-true}
use Rattle.std.proofs.lemmas.List.{at_drop_all, at_drop_more, drop_all, get_or_default, length-map, map-append, take_all, take_more}
use Rattle.std.proofs.lemmas.List.Concat.{flat_map-append}
use Rattle.std.proofs.lemmas.List.Sums.{sum_by-cons}
use Rattle.nl_tool_texts.specs.Falling.{falling}
use Rattle.nl_tool_texts.specs.Texts.{change_text, joined, line, took_text}
use Rattle.nl_tool_texts.proofs.FallingLemmas.{map-falling}
use Rattle.nl_tool_texts.proofs.ListedLemmas.{map-take}
use Rattle.nl_reports.specs.Critical.{keyed_line}
use Rattle.nl_reports.specs.Compare.{Compared, class_heading, class_text, compared_of, cost, cost_of, is_of, listed_lines, new_time, of_class, old_time, row_line}
use Rattle.nl_reports.specs.declared.sides.Class.{Class}
use Rattle.nl_reports.specs.declared.sides.Class.TheVariants.{New}
use Rattle.nl_reports.specs.declared.sides.ComparedRow.{ComparedRow}
use Rattle.nl_reports.proofs.sides.append_class.Goals.{in-New, in-Gone, in-Changed, in-Slower, in-Faster, in-Unfinished, in-Same, then-row-class+in_ok-push, else-row-class, then-screen+in_ok-append_line, else-screen+in_ok-append_line-2, then-screen-2+then-not-is_empty+in_ok-put, else-screen-2, else-screen-2-via-then-screen-2+else-not-is_empty, else-screen-2-via-else-screen-2}
use Rattle.nl_reports.proofs.sides.append_class.Goals as goal

abbrev shown : Class → List ℕ
shown class = joined (codes "\nCommands: " ∷ class_text class ∷ codes "\nChange\tOld\tNew\tOutput\n" ∷ [])

heading_there : (screen : Bool) (class : Class) (rows : List ComparedRow) → screen ≡ true → (length rows ≡ 0 → ⊥)
    → class_heading screen class (map compared_of rows) ≡ shown class
heading_there screen class [] is some = absurd (some refl)
heading_there screen class (r ∷ rows) is some = cond-true screen (shown class) [] is

no_rows : (screen : Bool) (class : Class) (rows : List ComparedRow) → length rows ≡ 0 → class_heading screen class (map compared_of rows) ≡ []
no_rows screen class [] none = refl
no_rows screen class (r ∷ rows) none = absurd (omega (arith, none))

no_screen : (screen : Bool) (class : Class) (rows : List ComparedRow) → screen ≡ false → class_heading screen class (map compared_of rows) ≡ []
no_screen screen class [] is = refl
no_screen screen class (r ∷ rows) is = cond-false screen (shown class) [] is

abbrev none : ComparedRow
none = record { class = New; old = 0; new = 0; output = record { ref_ptr = (0, 0); now = [] } }

-- ---- those of a class

module _ (class : Class) (rows : List ComparedRow) (i : ℕ) (row : ComparedRow) (within : i < length rows) (is : row ≡ get_or rows i row) where
  abbrev left : ℕ → List Compared
  left n = of_class class (map compared_of (drop n rows))

  row_kept : is_of class (compared_of row) ≡ true → left i ≡ compared_of row ∷ left (i + 1)
  row_kept of =
      at_drop_more (λ (l : List ComparedRow). of_class class (map compared_of l)) rows i row within
      ∙ ap (λ (r : ComparedRow). of_class class (compared_of r ∷ map compared_of (drop (i + 1) rows))) (sym is)
      ∙ cond-true (is_of class (compared_of row)) (compared_of row ∷ left (i + 1)) (left (i + 1)) of

  row_gone : is_of class (compared_of row) ≡ false → left i ≡ left (i + 1)
  row_gone of =
      at_drop_more (λ (l : List ComparedRow). of_class class (map compared_of l)) rows i row within
      ∙ ap (λ (r : ComparedRow). of_class class (compared_of r ∷ map compared_of (drop (i + 1) rows))) (sym is)
      ∙ cond-false (is_of class (compared_of row)) (compared_of row ∷ left (i + 1)) (left (i + 1)) of

  kept_more : (kept new : List ComparedRow) (all : List Compared) → is_of class (compared_of row) ≡ true → new ≡ kept ++ row ∷ []
      → map compared_of kept ++ left i ≡ all → map compared_of new ++ left (i + 1) ≡ all
  kept_more kept new all of pushed told =
      ap (λ (l : List ComparedRow). map compared_of l ++ left (i + 1)) pushed
      ∙ ap (λ (l : List Compared). l ++ left (i + 1)) (map-append compared_of kept (row ∷ []))
      ∙ append_assoc (map compared_of kept) (compared_of row ∷ []) (left (i + 1))
      ∙ ap (λ (l : List Compared). map compared_of kept ++ l) (sym (row_kept of)) ∙ told

  old_more : is_of class (compared_of row) ≡ true → old_time (left i) ≡ row.old + old_time (left (i + 1))
  old_more of = ap old_time (row_kept of) ∙ sum_by-cons (λ (c : Compared). c.old) (compared_of row) (left (i + 1))

  new_more : is_of class (compared_of row) ≡ true → new_time (left i) ≡ row.new + new_time (left (i + 1))
  new_more of = ap new_time (row_kept of) ∙ sum_by-cons (λ (c : Compared). c.new) (compared_of row) (left (i + 1))

lines_more : (screen : Bool) (class : Class) (rows : List ComparedRow) (i : ℕ) (d : ComparedRow) → i < length rows
    → flat_map (row_line screen class) (map compared_of (take (i + 1) rows))
    ≡ flat_map (row_line screen class) (map compared_of (take i rows)) ++ row_line screen class (compared_of (get_or rows i d))
lines_more screen class rows i d within =
    let f = row_line screen class in
    let r = compared_of (get_or rows i d) in
    ap (λ (l : List ComparedRow). flat_map f (map compared_of l)) (take_more rows i d within)
    ∙ ap (flat_map f) (map-append compared_of (take i rows) (get_or rows i d ∷ []))
    ∙ flat_map-append f (map compared_of (take i rows)) (r ∷ [])
    ∙ ap (λ (l : List ℕ). flat_map f (map compared_of (take i rows)) ++ l) (append-nil (f r))

pub loop-row-preserved : goal.loop-row-preserved
loop-row-preserved c =
    let inv = c.loop-row.invariant in
    let class = c.args.class in
    let rows = c.args.rows.now in
    let i = c.loop-row.row-index in
    let row : ComparedRow = get_or rows i none in
    let within : i < length rows = c.loop-row-test.true in
    let is : row ≡ get_or rows i row = get_or_default rows i none row within in
    elim c.if-row-class.branch [
      | then-row-class+in_ok-push w ↦
          let of : is_of class (compared_of row) ≡ true = search rules in
          let early : row.old < 18446744073709551616 = search rules in
          let late : row.new < 18446744073709551616 = search rules in
          record {
            kept = (λ j. map compared_of ((w.kept-is j).items) ++ of_class class (map compared_of (drop (i + 1) rows)))
                ∙ kept_more class rows i row within is c.loop-row.kept.items _ _ of w.in_ok-push.ensures.items inv.kept;
            old = omega (arith, w.before-is, w.from-before.ensures, inv.old, old_more class rows i row within is of);
            new = omega (arith, w.after-is, w.from-after.ensures, inv.new, new_more class rows i row within is of);
            early = omega (arith, w.before-is, w.from-before.ensures, inv.early, early);
            late = omega (arith, w.after-is, w.from-after.ensures, inv.late, late);
          }
      | else-row-class w ↦
          let of : is_of class (compared_of row) ≡ false = search rules in
          let gone = row_gone class rows i row within is of in
          record {
            kept = (λ j. map compared_of ((w.kept-is j).items) ++ sym gone j) ∙ inv.kept;
            old = (λ j. w.before-is j + old_time (sym gone j)) ∙ inv.old;
            new = (λ j. w.after-is j + new_time (sym gone j)) ∙ inv.new;
            early = omega (arith, w.before-is, inv.early);
            late = omega (arith, w.after-is, inv.late);
          }
    ]

pub loop-row-2-init : goal.loop-row-2-init
loop-row-2-init c =
    let old = c.args.lists.now.items in
    let screen = c.args.screen in
    let class = c.args.class in
    let rows = c.as_slice-listed.result.now in
    let name : c.match-class.name.now ≡ class_text class = elim c.match-class.branch [
      | in-New w ↦ ap (λ n. n.now) w.name-is ∙ ap class_text (sym w.in-New.is)
      | in-Gone w ↦ ap (λ n. n.now) w.name-is ∙ ap class_text (sym w.in-Gone.is)
      | in-Changed w ↦ ap (λ n. n.now) w.name-is ∙ ap class_text (sym w.in-Changed.is)
      | in-Slower w ↦ ap (λ n. n.now) w.name-is ∙ ap class_text (sym w.in-Slower.is)
      | in-Faster w ↦ ap (λ n. n.now) w.name-is ∙ ap class_text (sym w.in-Faster.is)
      | in-Unfinished w ↦ ap (λ n. n.now) w.name-is ∙ ap class_text (sym w.in-Unfinished.is)
      | in-Same w ↦ ap (λ n. n.now) w.name-is ∙ ap class_text (sym w.in-Same.is)
    ] in
    let head : c.if-screen-2.lists.items ≡ old ++ class_heading screen class (map compared_of rows) =
    elim c.if-screen-2.branch [
      | then-screen-2+then-not-is_empty+in_ok-put w ↦
          ap (λ v. v.items) w.lists-is ∙ w.in_ok-put.ensures.items
          ∙ (λ i. old ++ (codes "\nCommands: " ++ (name i ++ (codes "\nChange\tOld\tNew\tOutput\n" ++ []))))
          ∙ ap (λ (l : List ℕ). old ++ l) (sym (heading_there screen class rows w.if-screen-2.true (λ none. true≢false (sym (eq-eqb _ 0 none) ∙ sym w.is_empty.ensures ∙ w.if-not-is_empty.true))))
      | else-screen-2 w ↦
          ap (λ v. v.items) w.lists-is ∙ sym (append-nil old)
          ∙ ap (λ (l : List ℕ). old ++ l) (sym (elim w.else-screen-2.branch as (λ _. class_heading screen class (map compared_of rows) ≡ []) [
            | else-screen-2-via-then-screen-2+else-not-is_empty v ↦ no_rows screen class rows (eqb-true _ 0 (sym v.is_empty.ensures ∙ v.if-not-is_empty.false))
            | else-screen-2-via-else-screen-2 v ↦ no_screen screen class rows v.if-screen-2.false
          ]))
    ] in
    head ∙ sym (append-nil (old ++ class_heading screen class (map compared_of rows)))

pub loop-row-2-preserved : goal.loop-row-2-preserved
loop-row-2-preserved c =
    let screen = c.args.screen in
    let class = c.args.class in
    let name : c.match-class.name.now ≡ class_text class = elim c.match-class.branch [
      | in-New w ↦ ap (λ n. n.now) w.name-is ∙ ap class_text (sym w.in-New.is)
      | in-Gone w ↦ ap (λ n. n.now) w.name-is ∙ ap class_text (sym w.in-Gone.is)
      | in-Changed w ↦ ap (λ n. n.now) w.name-is ∙ ap class_text (sym w.in-Changed.is)
      | in-Slower w ↦ ap (λ n. n.now) w.name-is ∙ ap class_text (sym w.in-Slower.is)
      | in-Faster w ↦ ap (λ n. n.now) w.name-is ∙ ap class_text (sym w.in-Faster.is)
      | in-Unfinished w ↦ ap (λ n. n.now) w.name-is ∙ ap class_text (sym w.in-Unfinished.is)
      | in-Same w ↦ ap (λ n. n.now) w.name-is ∙ ap class_text (sym w.in-Same.is)
    ] in
    let rows = c.as_slice-listed.result.now in
    let i = c.loop-row-2.row-index in
    let front = c.args.lists.now.items ++ class_heading screen c.args.class (map compared_of rows) in
    c.in_ok-append_keyed.ensures.items
    ∙ (λ j. c.loop-row-2.invariant j ++ keyed_line screen (name j ∷ change_text screen (c.from-old.ensures j) (c.from-new.ensures j)
    ∷ took_text screen (c.from-old.ensures j) ∷ took_text screen (c.from-new.ensures j) ∷ (get_or rows i none).output.now ∷ []))
    ∙ append_assoc front (flat_map (row_line screen class) (map compared_of (take i rows))) (row_line screen class (compared_of (get_or rows i none)))
    ∙ ap (λ (l : List ℕ). front ++ l) (sym (lines_more screen class rows i none c.loop-row-2-test.true))

pub returns-clause-total : goal.returns-clause-total
returns-clause-total c =
    let class = c.args.class in
    let name : c.match-class.name.now ≡ class_text class = elim c.match-class.branch [
      | in-New w ↦ ap (λ n. n.now) w.name-is ∙ ap class_text (sym w.in-New.is)
      | in-Gone w ↦ ap (λ n. n.now) w.name-is ∙ ap class_text (sym w.in-Gone.is)
      | in-Changed w ↦ ap (λ n. n.now) w.name-is ∙ ap class_text (sym w.in-Changed.is)
      | in-Slower w ↦ ap (λ n. n.now) w.name-is ∙ ap class_text (sym w.in-Slower.is)
      | in-Faster w ↦ ap (λ n. n.now) w.name-is ∙ ap class_text (sym w.in-Faster.is)
      | in-Unfinished w ↦ ap (λ n. n.now) w.name-is ∙ ap class_text (sym w.in-Unfinished.is)
      | in-Same w ↦ ap (λ n. n.now) w.name-is ∙ ap class_text (sym w.in-Same.is)
    ] in
    let screen = c.args.screen in
    let rows = c.args.rows.now in
    let lines = c.args.lines.now.items in
    let i = c.loop-row.row-index in
    let inv = c.loop-row.invariant in
    let kept = c.loop-row.kept.items in
    let done : length rows ≤ i = omega (arith, c.loop-row-test.false) in
    let of : map compared_of kept ≡ of_class class (map compared_of rows) =
    sym (append-nil (map compared_of kept))
    ∙ ap (λ (l : List ComparedRow). map compared_of kept ++ of_class class (map compared_of l)) (sym (drop_all i rows done)) ∙ inv.kept in
    let old : c.loop-row.before ≡ old_time (of_class class (map compared_of rows)) =
    omega (arith, inv.old, at_drop_all (λ (l : List ComparedRow). old_time (of_class class (map compared_of l))) rows i done) in
    let new : c.loop-row.after ≡ new_time (of_class class (map compared_of rows)) =
    omega (arith, inv.new, at_drop_all (λ (l : List ComparedRow). new_time (of_class class (map compared_of l))) rows i done) in
    let all : c.len.result ≡ length kept = omega (arith, c.len.ensures, c.loop-row.kept.ok.0) in
    let count : c.len.result ≡ length (of_class class (map compared_of rows)) = all ∙ sym (length-map kept compared_of) ∙ ap length of in
    elim c.if-screen.branch [
      | then-screen+in_ok-append_line w ↦
          ap (λ v. v.items) w.lines-is ∙ w.in_ok-append_line.ensures.items
          ∙ (λ j. lines ++ line (decimal (count j) ∷ change_text screen (old j) (new j) ∷ took_text screen (old j) ∷ took_text screen (new j) ∷ name j ∷ []))
          ∙ ap (λ (l : List ℕ). lines ++ l) (sym (cond-true screen _ _ w.if-screen.true))
      | else-screen+in_ok-append_line-2 w ↦
          ap (λ v. v.items) w.lines-is ∙ w.in_ok-append_line-2.ensures.items
          ∙ (λ j. lines ++ line (codes "total" ∷ name j ∷ decimal (count j) ∷ change_text screen (old j) (new j) ∷ took_text screen (old j) ∷ took_text screen (new j) ∷ []))
          ∙ ap (λ (l : List ℕ). lines ++ l) (sym (cond-false screen _ _ w.if-screen.false))
    ]

pub returns-clause-listed : goal.returns-clause-listed
returns-clause-listed c =
    let class = c.args.class in
    let screen = c.args.screen in
    let most = c.args.most in
    let rows = c.args.rows.now in
    let lists = c.args.lists.now.items in
    let i = c.loop-row.row-index in
    let kept = c.loop-row.kept.items in
    let found = c.as_slice.result.now in
    let listed = c.as_slice-listed.result.now in
    let done : length rows ≤ i = omega (arith, c.loop-row-test.false) in
    let of : map compared_of kept ≡ of_class class (map compared_of rows) =
    sym (append-nil (map compared_of kept))
    ∙ ap (λ (l : List ComparedRow). map compared_of kept ++ of_class class (map compared_of l)) (sym (drop_all i rows done)) ∙ c.loop-row.invariant.kept in
    let shown : map compared_of listed ≡ take most (falling cost (of_class class (map compared_of rows))) =
    ap (map compared_of) (c.as_slice-listed.ensures.value ∙ c.in_ok-listed.ensures.value) ∙ map-take compared_of most (falling cost_of found)
    ∙ ap (take most) (map-falling compared_of cost found)
    ∙ ap (λ (cs : List Compared). take most (falling cost cs)) (ap (map compared_of) c.as_slice.ensures.value ∙ of) in
    let all : length listed ≤ c.loop-row-2.row-index = omega (arith, c.loop-row-2-test.false) in
    let heading = class_heading screen class (map compared_of listed) in
    c.loop-row-2.invariant
    ∙ ap (λ (l : List ComparedRow). (lists ++ heading) ++ flat_map (row_line screen class) (map compared_of l)) (take_all c.loop-row-2.row-index listed all)
    ∙ append_assoc lists heading (flat_map (row_line screen class) (map compared_of listed))
    ∙ ap (λ (cs : List Compared). lists ++ listed_lines screen class cs) shown
