use Rattle.std.proofs.Common.{◌≡◌, ℕ, ◌≤◌, List}
use Rattle.indexmap.specs.IndexSet.{spare}
use Rattle.nl_table.specs.History.{holds}
use Rattle.nl_table.specs.Keys.{names_of_keys}
use Rattle.nl_table.proofs.log_user.NameSet.of.Given as goal

abbrev pub invariant-loop-name : goal.invariant-loop-name
invariant-loop-name l = record {
  holds : (name : List ℕ) → holds (names_of_keys l.set.keys) name ≡ holds l.yielded name;
  room : goal.iterator-loop-name.remaining l.name-iterator ≤ spare l.set;
}
