use Rattle.std.proofs.Common.{◌≡◌, drop, map}
use Rattle.nl_tool_texts.specs.Columns.{widest}
use Rattle.nl_tool_texts.proofs.columns.widest.Given as goal

-- the lines that are left make of the width so far what all of them make of none
abbrev pub invariant-loop-line : goal.invariant-loop-line
invariant-loop-line l = widest l.count l.place (map (λ line. line.now) (drop l.line-index l.lines)) l.found
    ≡ widest l.count l.place (map (λ line. line.now) l.lines) 0
