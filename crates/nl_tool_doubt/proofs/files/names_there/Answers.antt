use Rattle.std.proofs.Common.{rules, tests, arith, ap, ◌≡◌, ◌∙◌, ◌≤◌, ◌<◌, ◌*◌, length}
use Rattle.std.specs.List.{count_by}
use Rattle.std.proofs.lemmas.Iterator.{YieldsList-from_slice}
use Rattle.std.proofs.lemmas.Iterator.Consumers.{YieldsList-from_filter, count_from_yields_List}
use Rattle.std.proofs.lemmas.List.Sums.{count_by-le-length, length-filter}
use Rattle.nl_tool_doubt.specs.There.{is_kept}
use Rattle.nl_tool_doubt.proofs.files.names_there.Goals as goal

pub returns-then-kept-len-clause-elsewhere : goal.returns-then-kept-len-clause-elsewhere
returns-then-kept-len-clause-elsewhere g c = λ is.
    let looked = c.in_ok-looked.looked.items in
    let set = c.in_ok-set.set in
    let by : c.count-kept.result ≡ count_by (is_kept set) c.deref.result.now =
    count_from_yields_List c.filter.result c.count-kept.result c.count-kept.ensures.ran
    (YieldsList-from_filter _ (is_kept set) (YieldsList-from_slice c.deref.result.now (cc)) c.filter.ensures.closure (λ x r q k. search (rules, tests)))
    ∙ length-filter (is_kept set) c.deref.result.now in
    let count : c.count-kept.result ≡ count_by (is_kept set) looked = by ∙ ap (count_by (is_kept set)) c.deref.ensures.value in
    let bound = count_by-le-length (is_kept set) looked in
    let few : 2 * count_by (is_kept set) looked < length looked = omega (arith, count, bound, c.len.ensures, c.if-kept-len.true) in (
      set,
      record {
        is = record {
          names = c.add_names.new.names.items;
          adds = record {
            looked = looked;
            looks = c.in_ok-looked.ensures.looked;
            items = search rules;
          };
          same = c.in_ok-set.ensures;
        };
        most = few;
      },
    )

pub returns-clause-kept : goal.returns-clause-kept
returns-clause-kept g c =
    let looked = c.in_ok-looked.looked.items in
    let set = c.in_ok-set.set in
    let by : c.count-kept.result ≡ count_by (is_kept set) c.deref.result.now =
    count_from_yields_List c.filter.result c.count-kept.result c.count-kept.ensures.ran
    (YieldsList-from_filter _ (is_kept set) (YieldsList-from_slice c.deref.result.now (cc)) c.filter.ensures.closure (λ x r q k. search (rules, tests)))
    ∙ length-filter (is_kept set) c.deref.result.now in
    let count : c.count-kept.result ≡ count_by (is_kept set) looked = by ∙ ap (count_by (is_kept set)) c.deref.ensures.value in
    let bound = count_by-le-length (is_kept set) looked in
    let most : length looked ≤ 2 * count_by (is_kept set) looked = omega (arith, count, bound, c.len.ensures, c.if-kept-len.false) in
    record {
      is = record {
        names = c.add_names.new.names.items;
        adds = record {
          looked = looked;
          looks = c.in_ok-looked.ensures.looked;
          items = search rules;
        };
        same = c.in_ok-set.ensures;
      };
      most = most;
    }
