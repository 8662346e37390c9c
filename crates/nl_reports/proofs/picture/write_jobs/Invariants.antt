use Rattle.std.proofs.Common.{◌≡◌, ◌++◌, List, ℕ, drop, length, map}
use Rattle.std.specs.List.{zip}
use Rattle.nl_reports.specs.Bars.{bars_from, short_bars}
use Rattle.nl_reports.specs.Jobs.{seen, told}
use Rattle.nl_reports.specs.Picture.{end, known_in, picture}
use Rattle.nl_reports.specs.Reaches.{rans_of}
use Rattle.nl_reports.specs.Rows.{spans}
use Rattle.nl_tool_texts.specs.Writing.{HoldsAllBut}
use Rattle.nl_reports.proofs.picture.write_jobs.Given as goal

-- all up to the end is written but what is held, and the bars that are left
abbrev pub invariant-loop-i : goal.invariant-loop-i
invariant-loop-i g l = record {
  text : List ℕ;
  holds : HoldsAllBut (g.W.Write.contents l.fn.writer) (g.W.Write.contents l.writer) text
      (l.held.items ++ bars_from l.frame l.shorts.items (drop l.i (zip (map seen l.jobs) l.lanes)));
  is : text ++ end l.frame l.lanes (rans_of l.fn.path) (spans (map seen l.fn.jobs)) (map seen l.fn.jobs) ≡ picture (known_in l.fn.scope (told l.fn.from)) (rans_of l.fn.path) (map seen l.fn.jobs);
  lanes : length l.lanes ≡ length l.jobs;
}

-- all up to the end is written but what is held, and the bars of short commands in the lanes that follow
abbrev pub invariant-loop-lane : goal.invariant-loop-lane
invariant-loop-lane g l = record {
  text : List ℕ;
  holds : HoldsAllBut (g.W.Write.contents l.fn.writer) (g.W.Write.contents l.writer) text
      (l.held.items ++ short_bars l.frame l.lane (drop l.lane l.shorts));
  is : text ++ end l.frame l.lanes (rans_of l.fn.path) (spans (map seen l.fn.jobs)) (map seen l.fn.jobs) ≡ picture (known_in l.fn.scope (told l.fn.from)) (rans_of l.fn.path) (map seen l.fn.jobs);
}
