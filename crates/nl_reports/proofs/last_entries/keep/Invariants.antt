use Rattle.std.proofs.Common.{◌≡◌, ◌≤◌, ◌++◌, drop, length, take}
use Rattle.nl_reports.specs.Lasting.{marked}
use Rattle.nl_reports.proofs.LastingLemmas.{marks_before}
use Rattle.nl_reports.proofs.last_entries.keep.Given as goal

-- the items so far, and those of what is left
abbrev pub invariant-loop-place : goal.invariant-loop-place
invariant-loop-place g l = record {
  told : take l.count l.items.items ++ marked (drop l.place l.marks) (drop l.place l.items.items) ≡ marked l.marks l.fn.items.items;
  before : l.before.items ++ marks_before l.count (drop l.place l.marks) ≡ marks_before 0 l.marks;
  within : l.count ≤ l.place;
  same : length l.marks ≡ length l.items.items;
}
