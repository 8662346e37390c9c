use Rattle.std.proofs.Common.{◌≡◌, ◌∙◌, ◌<◌, ◌++◌, [], Bor, List, ℕ, ap, append-nil, arith, get_or, length, map, sym}
use Rattle.std.proofs.lemmas.List.{get_or-map, length-map}
use Rattle.nl_tool_texts.specs.Columns.{cells, fields_of, lines_of, newline_before, rows_up_to, shown, widths, widths_up_to}
use Rattle.nl_tool_texts.proofs.CellLemmas.{length-widths, newline-none, newline-some, rows-more}
use Rattle.nl_tool_texts.proofs.columns.in_columns.Goals as goal
use Rattle.nl_tool_texts.proofs.columns.in_columns.Goals.{then-i-gt0+in_ok-push, else-i-gt0, then-len-count+else-loop-place-test, else-len-count}

pub loop-i-preserved : goal.loop-i-preserved
loop-i-preserved c =
    let held = c.in_ok-lines.lines.items in
    let lines : List (List ℕ) = map (λ (line : Bor (List ℕ)). line.now) held in
    let i = c.loop-i.i in
    let most = c.args.most in
    let within : i < length held = omega (arith, c.loop-i-test.true, c.len-i-end.ensures, c.loop-i.auto.i-end) in
    let line : (l : Bor (List ℕ)) → l ≡ get_or held i l → l.now ≡ get_or lines i [] =
    λ l is. ap (λ (l : Bor (List ℕ)). l.now) is ∙ sym (get_or-map (λ (l : Bor (List ℕ)). l.now) held i l [] within) in
    let first : c.index.result.now.now ≡ get_or lines i [] = line c.index.result.now c.index.ensures in
    let last : c.index-in-loop-i.result.now.now ≡ get_or lines i [] = line c.index-in-loop-i.result.now c.index-in-loop-i.ensures in
    let fields : ℕ = length (fields_of (get_or lines i [])) in
    let count : c.count_fields-count.result ≡ fields = c.count_fields-count.ensures.value ∙ ap (λ l. length (fields_of l)) first in
    let found : c.if-len-count.found.items ≡ widths fields lines =
    elim c.if-len-count.branch [
      | then-len-count+else-loop-place-test w ↦
          let all : w.loop-place.place ≡ fields = omega (arith, w.loop-place-test.false, w.loop-place.auto.place-end, count) in
          ap (λ v. v.items) w.found-is ∙ w.loop-place.invariant ∙ (λ j. widths_up_to (all j) (count j) lines)
      | else-len-count w ↦
          let same : length c.loop-i.found.items ≡ fields = omega (arith, w.if-len-count.false, c.len.ensures, count) in
          ap (λ v. v.items) w.found-is ∙ c.loop-i.invariant.found ∙ ap (λ n. widths n lines) same
    ] in
    let len : length c.if-len-count.found.items ≡ fields = ap (λ (l : List ℕ). length l) found ∙ length-widths fields fields lines in
    let told : c.if-i-gt0.out.items ≡ c.loop-i.out.items ++ newline_before i =
    elim c.if-i-gt0.branch [
      | then-i-gt0+in_ok-push w ↦
          ap (λ v. v.items) w.out-is ∙ w.in_ok-push.ensures.items ∙ ap (λ (l : List ℕ). c.loop-i.out.items ++ l) (newline-some i w.if-i-gt0.true)
      | else-i-gt0 w ↦ ap (λ v. v.items) w.out-is ∙ sym (append-nil c.loop-i.out.items) ∙ ap (λ (l : List ℕ). c.loop-i.out.items ++ l) (newline-none i w.if-i-gt0.false)
    ] in
    record {
      told = c.in_ok-append_cells.ensures.items
          ∙ (λ j. (told ∙ ap (λ (l : List ℕ). l ++ newline_before i) c.loop-i.invariant.told) j
          ++ cells most ((c.as_slice-in-loop-i.ensures.value ∙ found) j) (last j))
          ∙ sym (rows-more i most lines);
      found = found ∙ ap (λ n. widths n lines) (sym len);
    }

pub returns : goal.returns
returns c =
    let held = c.in_ok-lines.lines.items in
    let lines : List (List ℕ) = map (λ (line : Bor (List ℕ)). line.now) held in
    let most = c.args.most in
    let is : lines ≡ lines_of (shown c.args.text.now) = c.in_ok-lines.ensures.value ∙ ap lines_of (c.as_slice.ensures.value ∙ c.in_ok-text.ensures.value) in
    let all : c.loop-i.i ≡ length lines =
    omega (arith, c.loop-i-test.false, c.loop-i.auto.i-end, c.len-i-end.ensures, length-map held (λ (line : Bor (List ℕ)). line.now)) in
    record {
      value = c.loop-i.invariant.told ∙ (λ j. rows_up_to (all j) most lines) ∙ ap (λ (l : List (List ℕ)). rows_up_to (length l) most l) is;
    }
