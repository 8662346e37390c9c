use Rattle.std.proofs.Common.{◌++◌, ◌∷◌, [], drop, map}
use Rattle.std.specs.List.{flat_map, zip}
use Rattle.nl_reports.specs.Jobs.{seen, told}
use Rattle.nl_reports.specs.Rows.{spans}
use Rattle.nl_reports.specs.Trace.{behind_commas, events_of, scoped_text}
use Rattle.nl_tool_texts.specs.Writing.{HoldsAllBut}
use Rattle.nl_reports.proofs.trace.trace_builds.Given as goal

-- all is written but what is held, the events of the commands from this one on, and the end
abbrev pub invariant-loop-i : goal.invariant-loop-i
invariant-loop-i g l =
    HoldsAllBut (g.W.Write.contents l.fn.writer) (g.W.Write.contents l.writer) (scoped_text l.fn.scope (told l.fn.from))
    (l.held.items ++ (behind_commas (flat_map (events_of l.build (spans (map seen l.jobs))) (drop l.i (zip (map seen l.jobs) l.lanes))) ++ 93 ∷ []))
