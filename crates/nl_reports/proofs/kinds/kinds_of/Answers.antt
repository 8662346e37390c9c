use Rattle.std.proofs.Common.{◌≡◌, ◌∙◌, ◌+◌, ◌≤◌, List, ap, arith, get_or, length, map, rules, subst, sym}
use Rattle.std.proofs.lemmas.List.{take_all}
use Rattle.std.proofs.lemmas.Result.{IfOk-weaker}
use Rattle.indexmap.specs.IndexMap.{insert_entry}
use Rattle.std.specs.Map.{values_of}
use Rattle.std.specs.Prelude.{IfOk}
use Rattle.nl_reports.specs.Kinds.{AreNamed, AreSumsOf, counted, kind_pair, kinds, same_bytes}
use Rattle.nl_reports.specs.Rows.{told_row}
use Rattle.nl_reports.specs.declared.rows.Row.{Row}
use Rattle.nl_reports.proofs.CheckedLemmas.{sum_is}
use Rattle.nl_reports.proofs.KindLemmas.{counted_none, counted_some, counted_within, found_within, kinds_more, named_more, no_row, one_within, rows_are}
use Rattle.nl_reports.proofs.kinds.kinds_of.Goals.{in-Some+in_ok-row, in_default}
use Rattle.nl_reports.proofs.kinds.kinds_of.Goals as goal

pub overflow_add-row : goal.overflow_add-row
overflow_add-row c =
    let one = one_within 1 c.args.commands.now c.loop-command.command-index no_row c.requires.small c.loop-command-test.true in
    let found = found_within c.loop-command.command-index c.loop-command.rows.entries c.kind_of-name.result.now c.in-Some.before.now (sym c.in-Some.ensures.value) c.loop-command.invariant.few in
    omega (arith, one.commands, found.commands)

pub overflow_add-row-in-Some : goal.overflow_add-row-in-Some
overflow_add-row-in-Some c =
    let one = one_within 1 c.args.commands.now c.loop-command.command-index no_row c.requires.small c.loop-command-test.true in
    let found = found_within c.loop-command.command-index c.loop-command.rows.entries c.kind_of-name.result.now c.in-Some.before.now (sym c.in-Some.ensures.value) c.loop-command.invariant.few in
    omega (arith, one.weight, found.weight)

pub loop-command-preserved : goal.loop-command-preserved
loop-command-preserved c =
    let ps = c.loop-command.rows.entries in
    let i = c.loop-command.command-index in
    let d = get_or c.args.commands.now i no_row in
    let n = c.kind_of-name.result in
    let now : map kind_pair c.insert.new.self.entries ≡ counted n.now (map kind_pair ps) (told_row d) = elim c.match-get.branch [
      | in-Some+in_ok-row w ↦ counted_some ps c.insert.new.self.entries (record { bytes = n }) n (told_row d) w.in-Some.before.now (sym w.in-Some.ensures.value)
          (c.in_ok-insert.ensures.entries ∙ ap (insert_entry same_bytes ps (record { bytes = n })) (w.row-is
          ∙ (λ k. record { name = n; commands = d.commands + w.in-Some.before.now.commands; time = sum_is w.checked_add.result _ _ w.in_ok-row.field-0 w.checked_add.ensures (search rules) k; weight = d.weight + w.in-Some.before.now.weight })))
      | in_default w ↦ counted_none ps c.insert.new.self.entries (record { bytes = n }) n (told_row d) (sym w.in_default.ensures.value)
          (c.in_ok-insert.ensures.entries ∙ ap (insert_entry same_bytes ps (record { bytes = n })) w.row-is)
    ] in
    let own : n.now ≡ c.match-get.row.name.now = elim c.match-get.branch [
      | in-Some+in_ok-row w ↦ sym (ap (λ (r : Row). r.name.now) w.row-is)
      | in_default w ↦ sym (ap (λ (r : Row). r.name.now) w.row-is)
    ] in
    record {
      value = kinds_more c.args.rule c.args.commands.now i no_row (map kind_pair ps) _ n.now c.loop-command-test.true c.kind_of-name.ensures.value now c.loop-command.invariant.value;
      few = subst (AreSumsOf (i + 1)) (sym now) (counted_within i (map kind_pair ps) n.now (told_row d)
          (one_within 1 c.args.commands.now i no_row c.requires.small c.loop-command-test.true) c.loop-command.invariant.few);
      named = subst AreNamed (sym c.in_ok-insert.ensures.entries) (named_more ps (record { bytes = n }) c.match-get.row own c.loop-command.invariant.named);
    }

pub returns : goal.returns
returns c =
    let commands = c.args.commands.now in
    let ps = c.loop-command.rows.entries in
    let i = c.loop-command.command-index in
    let all : length commands ≤ i = omega (arith, c.loop-command-test.false) in
    let found : IfOk c.collect.result (λ v. v.items ≡ values_of ps) = search rules in
    record {
      value = IfOk-weaker c.collect.result _ _ (λ v h. ap (map told_row) h ∙ rows_are ps c.loop-command.invariant.named ∙ c.loop-command.invariant.value
          ∙ ap (λ (l : List Row). kinds c.args.rule (map told_row l)) (take_all i commands all)) found;
    }
