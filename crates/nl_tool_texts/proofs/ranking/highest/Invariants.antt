use Rattle.std.proofs.Common.{◌≡◌, take}
use Rattle.nl_tool_texts.specs.Falling.{falling}
use Rattle.nl_tool_texts.proofs.ranking.highest.Given as goal

-- the highest of the items before this one
abbrev pub invariant-loop-item : goal.invariant-loop-item
invariant-loop-item g l = l.kept.items ≡ take l.most (falling (g.R.Ranking.rank l.by) (take l.item-index l.items))
