use Rattle.std.proofs.Common.{◌≡◌, List, ℕ, map, take}
use Rattle.nl_reports.specs.Lasting.{is_among, is_held}
use Rattle.nl_reports.proofs.last_entries.names_of.Given as goal

-- the names before this one
abbrev pub invariant-loop-name : goal.invariant-loop-name
invariant-loop-name l = (name : List ℕ) → is_held l.set.keys name ≡ is_among name (map (λ n. n.now) (take l.name-index l.names))
