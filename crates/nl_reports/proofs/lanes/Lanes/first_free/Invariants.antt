use Rattle.std.proofs.Common.{◌≡◌, ◌*◌, ◌<◌, ◌≤◌, ℕ, length}
use Rattle.std.specs.Prelude.{slice_index}
use Rattle.nl_reports.specs.Lanes.{AreBusy, AreLow}
use Rattle.nl_reports.proofs.lanes.Lanes.first_free.Given as goal

-- the blocks so far are busy
abbrev pub invariant-loop-block : goal.invariant-loop-block
invariant-loop-block l = record {
  ends : l.self.ends ≡ l.fn.self.ends;
  blocks : length l.self.least.items ≡ length l.fn.self.least.items;
  low : AreLow l.self;
  busy : AreBusy l.at 0 (l.block * 1024) l.self.ends.items;
}

-- and the lanes of this one so far
abbrev pub invariant-loop-lane : goal.invariant-loop-lane
invariant-loop-lane l = record {
  busy : AreBusy l.at l.from l.lane l.self.ends.items;
  least : (k : ℕ) → l.from ≤ k → k < l.lane → l.least ≤ slice_index l.self.ends.items k;
}
