use Rattle.std.proofs.Common.{◌≡◌, ◌++◌, drop, map}
use Rattle.nl_reports.specs.Critical.{ran_lines, told_path}
use Rattle.nl_reports.specs.Reaches.{ran_seen}
use Rattle.nl_reports.proofs.critical.critical_lines.Given as goal

-- the lines so far, and those of what is left
abbrev pub invariant-loop-ran : goal.invariant-loop-ran
invariant-loop-ran l = l.lines.items ++ ran_lines l.screen l.before (map ran_seen (drop l.ran-index l.found.path.commands.items))
    ≡ told_path l.screen l.found.path.length (map ran_seen l.found.path.commands.items)
