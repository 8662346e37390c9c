use Rattle.std.proofs.Common.{◌≡◌, ◌≤◌, ◌++◌, List, ℕ, drop, get_or, length, map, take}
use Rattle.std.specs.Prelude.{reverse}
use Rattle.nl_table.specs.Table.{entry_names}
use Rattle.nl_builds.specs.declared.build.Build.{Build}
use Rattle.nl_builds.specs.declared.command.Command.{Command}
use Rattle.nl_reports.specs.Lasting.{is_among, is_held, marks}
use Rattle.nl_reports.proofs.LastingLemmas.{ends_apart, moved_build, moved_command}
use Rattle.nl_reports.proofs.last_entries.lasting.Given as goal

-- the entries from a place on are marked
abbrev pub invariant-entries : goal.invariant-entries
invariant-entries l = record {
  within : l.at ≤ length l.left.entries.items;
  later : (name : List ℕ) → is_held l.later.keys name ≡ is_among name (entry_names (drop l.at l.left.entries.items) ++ map (λ n. n.now) l.waiting);
  found : reverse l.marks.items ≡ marks (map (λ n. n.now) l.waiting) (drop l.at l.left.entries.items);
}

abbrev pub decreases-entries : goal.decreases-entries
decreases-entries l = l.at

-- the commands before a place are moved, and it is marked which of them are left
abbrev pub invariant-loop-place : goal.invariant-loop-place
invariant-loop-place l = record {
  told : take l.place l.left.commands.items ++ map (moved_command (λ at. get_or l.before.items at (length l.left.entries.items))) (drop l.place l.left.commands.items)
      ≡ map (moved_command (λ at. get_or l.before.items at (length l.left.entries.items))) l.initial.left.commands.items;
  marks : l.marks.items ++ ends_apart (λ (c : Command). get_or l.before.items c.to (length l.left.entries.items)) l.end (drop l.place l.left.commands.items)
      ≡ ends_apart (λ (c : Command). get_or l.before.items c.to (length l.left.entries.items)) 0 l.initial.left.commands.items;
  same : length l.left.commands.items ≡ length l.initial.left.commands.items;
  entries : l.left.entries ≡ l.initial.left.entries;
  builds : l.left.builds ≡ l.initial.left.builds;
}

-- and so are the builds
abbrev pub invariant-loop-place-2 : goal.invariant-loop-place-2
invariant-loop-place-2 l = record {
  told : take l.place l.left.builds.items ++ map (moved_build (λ at. get_or l.before.items at (length l.left.commands.items))) (drop l.place l.left.builds.items)
      ≡ map (moved_build (λ at. get_or l.before.items at (length l.left.commands.items))) l.initial.left.builds.items;
  marks : l.marks.items ++ ends_apart (λ (b : Build). get_or l.before.items b.to (length l.left.commands.items)) l.end (drop l.place l.left.builds.items)
      ≡ ends_apart (λ (b : Build). get_or l.before.items b.to (length l.left.commands.items)) 0 l.initial.left.builds.items;
  same : length l.left.builds.items ≡ length l.initial.left.builds.items;
  entries : l.left.entries ≡ l.initial.left.entries;
  commands : l.left.commands ≡ l.initial.left.commands;
}
