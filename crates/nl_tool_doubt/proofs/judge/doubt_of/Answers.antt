use Rattle.std.proofs.Common.{rules}
use Rattle.nl_tool_doubt.proofs.judge.doubt_of.Goals as goal

pub returns-in-OfStart : goal.returns-in-OfStart
returns-in-OfStart c = record { value = rw (c.in-Written.is, c.in-OfStart.is) (search rules) }
