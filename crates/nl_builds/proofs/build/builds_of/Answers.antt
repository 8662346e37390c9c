use Rattle.std.proofs.Common.{◌≡◌, ◌∙◌, ◌||◌, ℕ, Bool, List, [], ap, false, length, of_calls, rules, subst, sym, true, None}
use Rattle.std.specs.Prelude.{IfOk}
use Rattle.std.specs.List.{list_any}
use Rattle.std.specs.List.Sorted.{IsPartitionedBy}
use Rattle.std.proofs.lemmas.Fn.{always_returns_same}
use Rattle.nl_builds.specs.Builds.{IsTold, Told, again, builds_of, counts_names, first_back, new_commands, new_names, told_with, walk, whole_commands, written_builds}
use Rattle.nl_builds.specs.Commands.{commands, rows}
use Rattle.nl_builds.specs.Seen.{doubts}
use Rattle.nl_builds.specs.declared.command.Command.{Command}
use Rattle.nl_builds.specs.declared.seen.Order.TheVariants.{Written}
use Rattle.nl_builds.proofs.AgainLemmas.{before_told, is_whole, told_again, whole_first, whole_point}
use Rattle.nl_builds.proofs.HiddenLemmas.{told_written}
use Rattle.nl_builds.proofs.LawLemmas.{entries_shared}
use Rattle.nl_builds.proofs.RowLemmas.{weaker}
use Rattle.nl_builds.proofs.build.builds_of.Goals.{then-is_some, else-is_some, then-counts+in_ok-names, else-counts}
use Rattle.nl_builds.proofs.build.builds_of.Goals as goal

pub returns-then-not-is_some_and : goal.returns-then-not-is_some_and
returns-then-not-is_some_and c =
    let es = c.args.entries.items in
    let stamps = c.args.stamps in
    let cs = c.as_slice-all.result.now in
    let rs = c.as_slice-rows.result.now in
    let made : c.in_ok-commands.commands.items ≡ commands es = c.in_ok-commands.ensures.value ∙ ap commands c.as_slice.ensures.value in
    let all : cs ≡ commands es = c.as_slice-all.ensures.value ∙ made in
    let lines : rs ≡ rows (commands es) = c.as_slice-rows.ensures.value ∙ c.in_ok-rows.ensures.value ∙ ap rows (c.as_slice-2.ensures.value ∙ made) in
    let seen : c.in_ok-seen.seen.items ≡ walk Written stamps 0 true (commands es) (rows (commands es)) =
    c.in_ok-seen.ensures.value ∙ (λ i. walk Written stamps 0 true (all i) (lines i)) in
    let back : c.first_back-back.result ≡ first_back stamps None 0 c.in_ok-seen.seen.items =
    c.first_back-back.ensures ∙ ap (first_back stamps None 0) c.as_slice-3.ensures.value in
    let counts : c.if-is_some.counts ≡ counts_names stamps c.first_back-back.result c.in_ok-seen.seen.items = elim c.if-is_some.branch [
      | then-is_some w ↦ w.counts-is ∙ w.if-is_some.true ∙ sym (ap (λ (b : Bool). b || list_any (doubts stamps true) c.in_ok-seen.seen.items) (sym c.is_some.ensures ∙ w.if-is_some.true))
      | else-is_some w ↦
          w.counts-is ∙ w.any_doubts-counts.ensures ∙ ap (list_any (doubts stamps true)) w.as_slice-else-is_some.ensures.value
          ∙ sym (ap (λ (b : Bool). b || list_any (doubts stamps true) c.in_ok-seen.seen.items) (sym c.is_some.ensures ∙ w.if-is_some.false))
    ] in
    let count : c.if-counts.count ≡ new_commands c.if-is_some.counts es cs = elim c.if-counts.branch [
      | then-counts+in_ok-names w ↦
          let point = w.partition_point-count.ensures.partitioned (is_whole w.in_ok-names.names) (always_returns_same _ _ _ (λ a r f k. search (rules, of_calls)))
          (subst (IsPartitionedBy (is_whole w.in_ok-names.names)) (sym all) (whole_first w.in_ok-names.names (commands es) (length es) (entries_shared es))) in
          w.count-is ∙ whole_point w.in_ok-names.names cs w.partition_point-count.result w.partition_point-count.ensures.bound point
          ∙ ap (λ (n : ℕ). whole_commands n cs) (w.in_ok-names.ensures.value ∙ ap (new_names []) w.as_slice-then-counts.ensures.value)
          ∙ ap (λ (b : Bool). new_commands b es cs) (sym w.if-counts.true)
      | else-counts w ↦ w.count-is ∙ ap (λ (b : Bool). new_commands b es cs) (sym w.if-counts.false)
    ] in
    let test = before_told c.first_back-back.result c.if-counts.count c.is_some_and.result
    (weaker _ _ _ c.first_back-back.result (λ x k. search rules) c.is_some_and.ensures) in
    let is : c.if-counts.count ≡ new_commands (counts_names stamps c.first_back-back.result c.in_ok-seen.seen.items) es cs =
    count ∙ ap (λ (b : Bool). new_commands b es cs) counts in
    let whole : told_with stamps es cs rs c.in_ok-seen.seen.items c.first_back-back.result ≡ builds_of stamps es =
    ap (told_with stamps es cs rs c.in_ok-seen.seen.items) back
    ∙ (λ i. told_with stamps es (all i) (lines i) (seen i) (first_back stamps None 0 (seen i))) in
    let told = told_written stamps es cs rs c.in_ok-seen.seen.items c.first_back-back.result c.if-counts.count is (sym test ∙ search rules) in
    record {
      value = subst (λ (t : Told). IsTold t es c.in_ok-commands.commands.items c.in_ok-builds.builds.items) whole (
        told.0,
        sym c.as_slice-all.ensures.value ∙ told.1,
        c.in_ok-builds.ensures.value
            ∙ ap (written_builds stamps c.if-counts.count 0 false) c.as_slice-then-not-is_some_and.ensures.value ∙ told.2,
      );
    }

pub returns : goal.returns
returns c =
    let es = c.args.entries.items in
    let stamps = c.args.stamps in
    let cs = c.as_slice-all.result.now in
    let rs = c.as_slice-rows.result.now in
    let made : c.in_ok-commands.commands.items ≡ commands es = c.in_ok-commands.ensures.value ∙ ap commands c.as_slice.ensures.value in
    let all : cs ≡ commands es = c.as_slice-all.ensures.value ∙ made in
    let lines : rs ≡ rows (commands es) = c.as_slice-rows.ensures.value ∙ c.in_ok-rows.ensures.value ∙ ap rows (c.as_slice-2.ensures.value ∙ made) in
    let seen : c.in_ok-seen.seen.items ≡ walk Written stamps 0 true (commands es) (rows (commands es)) =
    c.in_ok-seen.ensures.value ∙ (λ i. walk Written stamps 0 true (all i) (lines i)) in
    let back : c.first_back-back.result ≡ first_back stamps None 0 c.in_ok-seen.seen.items =
    c.first_back-back.ensures ∙ ap (first_back stamps None 0) c.as_slice-3.ensures.value in
    let counts : c.if-is_some.counts ≡ counts_names stamps c.first_back-back.result c.in_ok-seen.seen.items = elim c.if-is_some.branch [
      | then-is_some w ↦ w.counts-is ∙ w.if-is_some.true ∙ sym (ap (λ (b : Bool). b || list_any (doubts stamps true) c.in_ok-seen.seen.items) (sym c.is_some.ensures ∙ w.if-is_some.true))
      | else-is_some w ↦
          w.counts-is ∙ w.any_doubts-counts.ensures ∙ ap (list_any (doubts stamps true)) w.as_slice-else-is_some.ensures.value
          ∙ sym (ap (λ (b : Bool). b || list_any (doubts stamps true) c.in_ok-seen.seen.items) (sym c.is_some.ensures ∙ w.if-is_some.false))
    ] in
    let count : c.if-counts.count ≡ new_commands c.if-is_some.counts es cs = elim c.if-counts.branch [
      | then-counts+in_ok-names w ↦
          let point = w.partition_point-count.ensures.partitioned (is_whole w.in_ok-names.names) (always_returns_same _ _ _ (λ a r f k. search (rules, of_calls)))
          (subst (IsPartitionedBy (is_whole w.in_ok-names.names)) (sym all) (whole_first w.in_ok-names.names (commands es) (length es) (entries_shared es))) in
          w.count-is ∙ whole_point w.in_ok-names.names cs w.partition_point-count.result w.partition_point-count.ensures.bound point
          ∙ ap (λ (n : ℕ). whole_commands n cs) (w.in_ok-names.ensures.value ∙ ap (new_names []) w.as_slice-then-counts.ensures.value)
          ∙ ap (λ (b : Bool). new_commands b es cs) (sym w.if-counts.true)
      | else-counts w ↦ w.count-is ∙ ap (λ (b : Bool). new_commands b es cs) (sym w.if-counts.false)
    ] in
    let test = before_told c.first_back-back.result c.if-counts.count c.is_some_and.result
    (weaker _ _ _ c.first_back-back.result (λ x k. search rules) c.is_some_and.ensures) in
    let is : c.if-counts.count ≡ new_commands (counts_names stamps c.first_back-back.result c.in_ok-seen.seen.items) es cs =
    count ∙ ap (λ (b : Bool). new_commands b es cs) counts in
    let whole : told_with stamps es cs rs c.in_ok-seen.seen.items c.first_back-back.result ≡ builds_of stamps es =
    ap (told_with stamps es cs rs c.in_ok-seen.seen.items) back
    ∙ (λ i. told_with stamps es (all i) (lines i) (seen i) (first_back stamps None 0 (seen i))) in
    let again_is : again stamps c.if-counts.count es c.in_ok-commands.commands.items rs ≡ builds_of stamps es =
    ap (λ (l : List Command). again stamps c.if-counts.count es l rs) (sym c.as_slice-all.ensures.value)
    ∙ told_again stamps es cs rs c.in_ok-seen.seen.items c.first_back-back.result c.if-counts.count is (sym test ∙ search rules) ∙ whole in
    record {
      value = subst (λ (t : Told). IfOk c.again.result (λ told. IsTold t told.entries.items told.commands.items told.builds.items)) again_is c.again.ensures.value;
    }
