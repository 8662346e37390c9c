use Rattle.std.proofs.Common.{◌∙◌, ap, arith, take}
use Rattle.std.proofs.lemmas.List.{take_all}
use Rattle.nl_table.specs.History.{logged, table}
use Rattle.nl_tool_doubt.proofs.TableLemmas.{table_entered}
use Rattle.nl_tool_doubt.proofs.doubts.table_of.Goals as goal

pub loop-entry-preserved : goal.loop-entry-preserved
loop-entry-preserved c = λ version.
    let at = c.loop-entry.entry-index in
    c.in_ok-enter.ensures.history (logged version (take at c.args.entries.now)) (c.loop-entry.invariant version)
    ∙ table_entered version c.args.entries.now at c.entry-item.result (omega arith) c.entry-item.is

pub returns : goal.returns
returns c = record {
  value = λ version.
      c.loop-entry.invariant version
      ∙ ap (λ es. table (logged version es)) (take_all c.loop-entry.entry-index c.args.entries.now (omega arith));
}
