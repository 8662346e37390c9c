-- The axis of time, with a line at each round step.
use Rattle.std.specs.Prelude.{ℕ, zero, suc, ◌+◌, ◌*◌, ◌/◌, List, [], ◌∷◌, ◌++◌, codes, decimal}
use Rattle.nl_reports.specs.declared.frame.Frame.{Frame}
use Rattle.nl_reports.specs.Frame.{foot_of, x_of}
use Rattle.nl_tool_texts.specs.Steps.{step_of}
use Rattle.nl_tool_texts.specs.Texts.{joined, time_text}

-- the time stands above the line
abbrev pub tick : Frame → ℕ → List ℕ
tick f ms = joined (codes "<path class=\"g\" d=\"M" ∷ decimal (x_of f ms) ∷ codes " 1000V" ∷ decimal (foot_of f) ∷ codes "\"/><text class=\"m\" x=\""
    ∷ decimal (x_of f ms) ∷ codes "\" y=\"950\" text-anchor=\"middle\">" ∷ time_text ms ∷ codes "</text>\n" ∷ [])

unfoldable pub ticks_of : Frame → ℕ → ℕ → List ℕ
ticks_of f step zero = []
ticks_of f step (suc i) = ticks_of f step i ++ tick f (i * step)

abbrev pub ticks : Frame → List ℕ
ticks f = ticks_of f (step_of f.wall) (f.wall / step_of f.wall + 1)
