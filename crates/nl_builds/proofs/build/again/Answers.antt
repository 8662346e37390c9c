use Rattle.std.proofs.Common.{◌≡◌, ◌∙◌, ◌++◌, List, ap, drop, false, length, map, min, of_calls, rules, sym, take, true}
use Rattle.std.specs.Prelude.{slice_get}
use Rattle.std.proofs.lemmas.Fn.{always_returns_same}
use Rattle.std.proofs.lemmas.List.Sorted.{answers_always}
use Rattle.nl_builds.specs.Builds.{entries_of, found_build, walk, written_builds}
use Rattle.nl_builds.specs.Commands.{commands, moved_rows}
use Rattle.nl_versions.specs.declared.entries.Stamps.TheVariants.{OfStart}
use Rattle.nl_builds.specs.Sorted.{by_moment, falling, moment_rank, span_rank}
use Rattle.nl_builds.specs.declared.seen.Order.TheVariants.{Written, ByMoment}
use Rattle.nl_builds.specs.declared.command.Command.{Command}
use Rattle.nl_builds.proofs.AgainLemmas.{both_parts, entries_told, falls_told}
use Rattle.nl_builds.proofs.FallingLemmas.{falling_from_sort, ranks_down}
use Rattle.nl_builds.proofs.RowLemmas.{got, rest_of_slice, weaker}
use Rattle.nl_builds.proofs.build.again.Goals as goal

pub returns : goal.returns
returns c =
    let es = c.args.entries.items in
    let cs = c.args.commands.items in
    let count = c.args.count in
    let last = got c.deref.result.now c.saturating_sub.result c.get-last.result c.get-last.ensures.lookup.0 c.get-last.ensures.lookup.1
    ∙ (λ i. slice_get (c.deref.ensures.value i) (c.saturating_sub.ensures i)) in
    let next = got c.deref-2.result.now count c.get.result c.get.ensures.lookup.0 c.get.ensures.lookup.1
    ∙ ap (λ (l : List Command). slice_get l count) c.deref-2.ensures.value in
    let k = entries_told cs count c.map_or-k.result c.get-last.result last (weaker _ _ _ c.get-last.result (λ x k. search rules) c.map_or-k.ensures) in
    let sure = falls_told cs count c.get-last.result c.get.result c.zip.result c.is_some_and-is_sure.result last next c.zip.ensures
    (weaker _ _ _ c.zip.result (λ x k. search rules) c.is_some_and-is_sure.ensures) in
    let both = both_parts es c.min.result c.map_or-k.result (c.min.ensures ∙ ap (min c.map_or-k.result) (c.len.ensures ∙ c.args.entries.ok.0)) in
    let later = rest_of_slice c.deref-3.result.now c.min-2.result count (c.min-2.ensures ∙ ap (min count) (c.len-2.ensures ∙ sym c.deref-3.ensures.len)) in
    let rows = rest_of_slice c.args.rows.now c.min-3.result count c.min-3.ensures in
    let spans = answers_always _ _ _ (λ f a r next called. search rules) in
    let rank = moment_rank c.args.stamps in
    let answers = always_returns_same _ _ _ (λ a r f called. search (rules, of_calls)) in
    let moved : c.sort_by-2.new.self.items ≡ by_moment c.args.stamps (take (entries_of count cs) es) =
    falling_from_sort rank _ _ (c.in_ok-sort_by-2.ensures.sorted _ (ranks_down rank) answers) (c.in_ok-sort_by-2.ensures.stable _ (ranks_down rank) answers)
    ∙ ap (falling rank) (falling_from_sort span_rank _ _ (c.in_ok-sort_by.ensures.sorted _ (ranks_down span_rank) spans)
    (c.in_ok-sort_by.ensures.stable _ (ranks_down span_rank) spans))
    ∙ ap (by_moment c.args.stamps) (c.in_ok-rest.ensures.items ∙ both.0 ∙ ap (λ n. take n es) k) in
    let found : c.in_ok-found.found.items ≡ commands (by_moment c.args.stamps (take (entries_of count cs) es)) =
    c.in_ok-found.ensures.value ∙ ap commands (c.as_slice.ensures.value ∙ moved) in
    let place = c.len-place.ensures ∙ c.in_ok-found.found.ok.0 ∙ ap length found in
    let behind = later ∙ ap (drop count) c.deref-3.ensures.value in
    let all : c.as_slice-all.result.now ≡ commands (by_moment c.args.stamps (take (entries_of count cs) es)) = c.as_slice-all.ensures.value ∙ found in
    let before = c.as_slice-3.ensures.value ∙ c.in_ok-before.ensures.value
    ∙ (λ i. walk ByMoment OfStart 0 true (all i) ((c.as_slice-2.ensures.value ∙ c.in_ok-told.ensures.value ∙ ap (moved_rows c.args.stamps) all) i)) in
    let next = c.as_slice-4.ensures.value ∙ c.in_ok-behind.ensures.value ∙ (λ i. walk Written c.args.stamps (place i) (sure i) (behind i) (rows i)) in
    record {
      value = (
        cc (c.in_ok-append-2.ensures.items, moved, c.in_ok-rest.ensures.tail, both.1, k),
        c.in_ok-extend_from_slice.ensures.items ∙ (λ i. found i ++ behind i),
        c.in_ok-append.ensures.items
            ∙ (λ i. (c.in_ok-builds.ensures.value ∙ (λ j. map (found_build (k j)) (before j))) i
            ++ (c.in_ok-written.ensures.value ∙ (λ j. written_builds c.args.stamps 0 (place j) false (next j))) i),
      );
    }
