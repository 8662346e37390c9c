use Rattle.std.proofs.Common.{◌≡◌, drop}
use Rattle.nl_tool_texts.specs.Steps.{step_in, step_of}
use Rattle.nl_tool_texts.proofs.text.step_of.Given as goal

abbrev pub invariant-loop-step : goal.invariant-loop-step
invariant-loop-step l = step_in l.wall (drop l.step-index l.step-items) ≡ step_of l.wall
