use Rattle.std.proofs.Common.{◌≡◌, ◌++◌, drop}
use Rattle.std.specs.List.{flat_map}
use Rattle.nl_tool_doubt.specs.There.{FitEntries, learned, pair_by}
use Rattle.nl_tool_doubt.proofs.files.times_of.Given as goal

abbrev pub invariant-loop-it : goal.invariant-loop-it
invariant-loop-it l =
    record {
      items : l.times.items ++ flat_map (learned pair_by) (drop l.it-index l.looked) ≡ flat_map (learned pair_by) l.fn.looked;
      fit : FitEntries l.times.items;
    }
