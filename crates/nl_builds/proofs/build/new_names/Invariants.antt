use Rattle.std.proofs.Common.{◌≡◌, ◌+◌, [], drop, map}
use Rattle.nl_builds.specs.Builds.{new_names}
use Rattle.nl_builds.proofs.build.new_names.Given as goal

abbrev pub invariant-loop-entry : goal.invariant-loop-entry
invariant-loop-entry l = record {
  told : l.count + new_names (map (λ n. n.bytes.now) l.names.keys) (drop l.entry-index l.entries) ≡ new_names [] l.fn.entries;
  count : l.count ≡ l.entry-index;
}
