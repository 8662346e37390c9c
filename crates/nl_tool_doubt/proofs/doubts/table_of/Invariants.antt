use Rattle.std.proofs.Common.{◌≡◌, ℕ, take}
use Rattle.nl_table.specs.History.{logged, table}
use Rattle.nl_tool_doubt.proofs.doubts.table_of.Given as goal

abbrev pub invariant-loop-entry : goal.invariant-loop-entry
invariant-loop-entry l = (version : ℕ) → l.table ≡ table (logged version (take l.entry-index l.entries))
