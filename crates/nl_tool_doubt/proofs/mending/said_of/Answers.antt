use Rattle.std.proofs.Common.{◌≡◌, ◌≤◌, ◌∙◌, ◌++◌, ◌==◌, [], ℕ, List, ap, arith, length, not, refl, sym}
use Rattle.std.proofs.lemmas.List.{append-nil}
use Rattle.nl_distrust.specs.Distrusted.{is_whole}
use Rattle.nl_versions.specs.VersionOf.{lines_version}
use Rattle.nl_tool_doubt.specs.Mending.{EndsBy, is_due, line_of, mend_lines, taken, taken_by}
use Rattle.nl_tool_doubt.proofs.MendLemmas.{all_passed, due_broken, due_dry, due_some}
use Rattle.nl_tool_doubt.proofs.mending.said_of.Goals as goal
use Rattle.nl_tool_doubt.proofs.mending.said_of.Goals.{then-not-how+then-not-is_empty, then-not-how+else-not-is_empty, else-not-how}
use Rattle.nl_tool_doubt.proofs.mending.said_of.Goals.{then-how-2+then-is_due+in_ok-line+in_ok-extend_from_slice, else-how-2}

pub returns : goal.returns
returns c =
    let how = c.args.how in
    let log = c.args.log.now in
    let ds = c.args.doubts.now.named.items in
    let named = c.as_slice-named.result.now in
    let all = c.as_slice-named.ensures.value in
    let n = c.loop-it.it-index in
    let done : length named ≤ n = omega arith in
    let lines : c.loop-it.text.items ≡ mend_lines ds = all_passed line_of n named c.loop-it.text.items done c.loop-it.invariant.text ∙ ap mend_lines all in
    let names : c.loop-it.names.items ≡ taken how.all ds =
    all_passed (taken_by how.all) n named c.loop-it.names.items done c.loop-it.invariant.names ∙ ap (taken how.all) all in
    let text_len : c.loop-it.text.len ≡ length c.loop-it.text.items = omega (arith, c.loop-it.text.ok.0) in
    let names_len : length c.loop-it.names.items ≡ c.loop-it.names.len = omega (arith, c.loop-it.names.ok.0) in
    let none = length c.loop-it.names.items == 0 in
    let whole = is_whole (lines_version log) log in
    let due : c.if-not-how.is_due ≡ is_due how.dry_run log c.loop-it.names.items = elim c.if-not-how.branch [
      | then-not-how+then-not-is_empty w ↦
          due_some how.dry_run none whole c.if-not-how.is_due w.if-not-how.true (ap (λ (k : ℕ). k == 0) names_len ∙ sym w.is_empty.ensures ∙ w.if-not-is_empty.true)
          (w.is_due-is ∙ ap not w.if-not-is_empty.true)
      | then-not-how+else-not-is_empty w ↦
          due_broken how.dry_run none whole c.if-not-how.is_due w.if-not-how.true (ap (λ (k : ℕ). k == 0) names_len ∙ sym w.is_empty.ensures ∙ w.if-not-is_empty.false)
          (w.is_due-is ∙ ap not (w.is_whole.ensures.value ∙ ap (λ (v : ℕ). is_whole v log) w.lines_version.ensures))
      | else-not-how w ↦ due_dry how.dry_run none whole c.if-not-how.is_due w.if-not-how.false (w.is_due-is ∙ ap not w.if-not-how.false)
    ] in
    let text : EndsBy how.at_terminal (mend_lines ds) c.if-how-2.text.items = elim c.if-how-2.branch [
      | then-how-2+then-is_due+in_ok-line+in_ok-extend_from_slice w ↦ (
        w.as_bytes-then-is_due.result.now,
        ap (λ v. v.items) w.text-is ∙ w.in_ok-extend_from_slice.ensures.items ∙ ap (λ (l : List ℕ). l ++ w.as_bytes-then-is_due.result.now) lines,
        λ no. absurd (cc (no, w.if-how-2.true)),
      )
      | else-how-2 w ↦ ([], ap (λ v. v.items) w.text-is ∙ lines ∙ sym (append-nil (mend_lines ds)), λ _. refl)
    ] in
    record {
      value = record {
        text = text;
        told = ap not (c.is_empty-is_told.ensures ∙ ap (λ (k : ℕ). k == 0) text_len ∙ ap (λ (l : List ℕ). length l == 0) lines);
        names = names;
        due = due ∙ ap (is_due how.dry_run log) names;
      };
    }
