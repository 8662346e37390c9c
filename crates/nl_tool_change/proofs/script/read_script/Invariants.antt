use Rattle.std.proofs.Common.{◌<◌, ◌≤◌, ◌+◌, ◌-◌}
use Rattle.nl_lines.specs.Lines.{IsReading, max_log}
use Rattle.nl_tool_change.proofs.ScriptLemmas.{Scripted}
use Rattle.nl_tool_change.proofs.script.read_script.Given as goal

-- the lines so far are a script with the events so far; each has a newline, so its number is no larger than the bytes of all so far
abbrev pub invariant-lines : goal.invariant-lines
invariant-lines g l = record {
  scripted : Scripted (g.R.Read.remaining l.initial.source.reader) l.lines (g.R.Read.remaining l.source.reader) l.script.events.items;
  reading : IsReading l.lines;
  from_one : 0 < l.number;
  counted : l.number ≤ l.lines.position + 1;
  fits : l.lines.position ≤ max_log;
}

abbrev pub decreases-lines : goal.decreases-lines
decreases-lines g l = max_log - l.lines.position
