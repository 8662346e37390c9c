use Rattle.std.proofs.Common.{◌≡◌, ◌∙◌, ap, rules, tests}
use Rattle.std.proofs.lemmas.Iterator.{YieldsList-from_slice}
use Rattle.std.proofs.lemmas.Iterator.Consumers.{YieldsList-from_filter, count_from_yields_List}
use Rattle.std.proofs.lemmas.List.Sums.{length-filter}
use Rattle.std.specs.Prelude.{not}
use Rattle.std.specs.List.{count_by, flat_map}
use Rattle.nl_tool_doubt.specs.Doubts.{damaged_by, is_copied, is_there, named_by}
use Rattle.nl_tool_doubt.proofs.TableLemmas.{is_doubts}
use Rattle.nl_tool_doubt.proofs.doubts.doubts_of.Goals as goal

pub returns-clause-value : goal.returns-clause-value
returns-clause-value g c =
    let reads = c.in_ok-lines.ensures.value in
    let lines = c.in_ok-lines.lines in
    let damaged = c.in_ok-damaged.damaged in
    let tabled = rw c.as_slice.ensures.value at c.in_ok-table.ensures.value in
    let copied : c.is_copied-copied.result ≡ is_copied c.in_ok-looked.looked.items = c.is_copied-copied.ensures ∙ ap is_copied c.as_slice-all.ensures.value in
    is_doubts (damaged_by c.args.damage_counts c.args.log.now) c.args.log.now (g.F.OutputFiles.states c.args.files.now)
    (record { named = c.in_ok-named.named; outputs = c.len.result; there = c.count.result; copied = c.is_copied-copied.result }) reads.0 lines.stamps
    lines.entries.items c.in_ok-table.table damaged reads.1 c.in_ok-lines.ensures.stamps (tabled reads.0) c.in_ok-damaged.ensures.value (record {
      looked = c.in_ok-looked.looked.items;
      looks = c.in_ok-looked.ensures.looked;
      named = c.in_ok-named.ensures.value
          ∙ λ i. flat_map (named_by damaged (not (copied i)) lines.stamps (c.in_ok-moments.ensures.value i)) (c.as_slice-all.ensures.value i);
      outputs = search rules;
      there = count_from_yields_List c.filter.result c.count.result c.count.ensures.ran
          (YieldsList-from_filter _ is_there (YieldsList-from_slice c.as_slice-all.result.now (cc)) c.filter.ensures.closure (λ x r q k. search (rules, tests)))
          ∙ length-filter is_there c.as_slice-all.result.now ∙ ap (count_by is_there) c.as_slice-all.ensures.value;
      copied = copied;
    })
