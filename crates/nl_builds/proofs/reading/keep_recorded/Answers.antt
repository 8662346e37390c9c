use Rattle.std.proofs.Common.{◌∙◌, [], ◌≡◌, List, ap, map, rules, sym, tests}
use Rattle.std.proofs.lemmas.Fn.{filter_same}
use Rattle.std.proofs.lemmas.Iterator.{YieldsList-from_slice}
use Rattle.std.proofs.lemmas.Iterator.Adapters.{YieldsList-from_vec}
use Rattle.std.proofs.lemmas.Iterator.Consumers.{YieldsList-end}
use Rattle.std.proofs.lemmas.Iterator.Search.{any_from_yields_List}
use Rattle.std.proofs.lemmas.List.{map-id}
use Rattle.nl_fields.specs.declared.entry.Entry.{Entry}
use Rattle.nl_table.specs.Table.{all_entered_table}
use Rattle.nl_fields.specs.Intent.{is_intent}
use Rattle.nl_builds.specs.Recorded.{any_intent}
use Rattle.nl_builds.proofs.RecordedLemmas.{entered_more, kept_all, kept_more, names_more, none_unfinished, recorded_plain, unfinished_of}
use Rattle.nl_builds.proofs.reading.keep_recorded.Goals as goal

pub loop-entry-preserved : goal.loop-entry-preserved
loop-entry-preserved c =
    let took = c.in_ok-take.ensures in
    record {
      kept = kept_more c.loop-entry.kept.items _ c.loop-entry.yielded c.loop-entry.last _ c.loop-entry.stood _ c.in-Some.entry
          c.loop-entry.invariant.kept took.kept took.last took.stood;
      last = entered_more c.loop-entry.yielded c.in-Some.entry c.loop-entry.last _ c.loop-entry.invariant.last took.last;
      names = names_more _ _ _ _ _ c.loop-entry.invariant.names took.names took.last;
    }

pub returns-clause-entries : goal.returns-clause-entries
returns-clause-entries c =
    let iterator = c.into_iter-entry-iterator in
    let gives = iterator.ensures.into_iter_gives in
    let from = YieldsList-from_vec {s = iterator.result} c.args.entries.items gives.0 (gives.1 ∙ c.args.entries.ok.0) in
    let end = YieldsList-end from c.loop-entry.yielded c.loop-entry.entry-iterator c.loop-entry.yielded_by _ c.next.new.self c.in-None.is c.next.ensures.steps in
    kept_all c.loop-entry.kept.items c.loop-entry.last c.loop-entry.stood c.loop-entry.yielded c.args.entries.items c.loop-entry.invariant.kept
    (sym (map-id c.loop-entry.yielded) ∙ end.0)

pub returns-clause-unfinished : goal.returns-clause-unfinished
returns-clause-unfinished c =
    let iterator = c.into_iter-entry-iterator in
    let gives = iterator.ensures.into_iter_gives in
    let from = YieldsList-from_vec {s = iterator.result} c.args.entries.items gives.0 (gives.1 ∙ c.args.entries.ok.0) in
    let end = YieldsList-end from c.loop-entry.yielded c.loop-entry.entry-iterator c.loop-entry.yielded_by _ c.next.new.self c.in-None.is c.next.ensures.steps in
    unfinished_of _ _ c.loop-entry.last c.args.entries.items c.loop-entry.invariant.names
    (c.loop-entry.invariant.last ∙ ap (λ (l : List Entry). all_entered_table l []) (sym (map-id c.loop-entry.yielded) ∙ end.0)) (filter_same _ _ _ (λ x b f' k. search rules) _ _ c.retain.ensures.filtered)

pub returns-then-not-any-clause-entries : goal.returns-then-not-any-clause-entries
returns-then-not-any-clause-entries c =
    let any : c.any.result ≡ any_intent c.args.entries.items =
    any_from_yields_List is_intent _ _ c.any.result c.any.ensures.ran (YieldsList-from_slice c.args.entries.items (cc)) (λ x b q k. search (rules, tests)) in
    sym (recorded_plain c.args.entries.items (sym any ∙ c.if-not-any.true))

pub returns-then-not-any-clause-unfinished : goal.returns-then-not-any-clause-unfinished
returns-then-not-any-clause-unfinished c =
    let any : c.any.result ≡ any_intent c.args.entries.items =
    any_from_yields_List is_intent _ _ c.any.result c.any.ensures.ran (YieldsList-from_slice c.args.entries.items (cc)) (λ x b q k. search (rules, tests)) in
    ap (map (λ n. n.now)) c.new-names.ensures.items ∙ sym (none_unfinished c.args.entries.items (sym any ∙ c.if-not-any.true))
