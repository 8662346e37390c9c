-- The curve of how many commands run.
use Rattle.std.specs.Prelude.{ℕ, zero, suc, ◌+◌, ◌-◌, ◌*◌, ◌/◌, List, [], ◌∷◌, ◌++◌, codes, decimal}
use Rattle.nl_reports.specs.Sweep.{running}
use Rattle.nl_reports.specs.declared.moments.Span.{Span}
use Rattle.nl_reports.specs.Frame.{foot_of}
use Rattle.nl_tool_texts.specs.Texts.{joined}
use Rattle.nl_reports.specs.declared.frame.Frame.{Frame}

-- the curve is taken at 480 moments of the build, three pixels apart
abbrev pub moment_at : Frame → ℕ → ℕ
moment_at f i = f.began + i * f.wall / 480

-- the curve is eighty pixels high where as many commands run as there are lanes
abbrev pub height_of : Frame → ℕ → ℕ
height_of f count = foot_of f - count * 800 / (f.top + 1)

-- a step: up or down, and on to the next moment
abbrev pub point : Frame → List Span → ℕ → List ℕ
point f cs i = joined (codes "V" ∷ decimal (height_of f (running cs (moment_at f i))) ∷ codes "H" ∷ decimal (1030 + i * 30) ∷ [])

unfoldable pub points : Frame → List Span → ℕ → List ℕ
points f cs zero = []
points f cs (suc i) = points f cs i ++ point f cs i

-- the curve goes from its foot to its foot, and its axis beside it has the number of lanes
abbrev pub curve_start : Frame → List ℕ
curve_start f = joined (codes "<path class=\"q\" d=\"M1000 " ∷ decimal (foot_of f) ∷ [])

abbrev pub curve_end_text : ℕ → ℕ → ℕ → List ℕ
curve_end_text foot y lanes = joined (codes "V" ∷ decimal foot ∷ codes "z\"/>\n<text class=\"m\" x=\"950\" y=\"" ∷ decimal y
    ∷ codes "\" text-anchor=\"end\">" ∷ decimal lanes ∷ codes " at a time</text>\n<text class=\"m\" x=\"950\" y=\"" ∷ decimal foot
    ∷ codes "\" text-anchor=\"end\">0</text>\n" ∷ [])

abbrev pub curve_end : Frame → List ℕ
curve_end f = curve_end_text (foot_of f) (foot_of f - 720) (f.top + 1)

abbrev pub curve : Frame → List Span → List ℕ
curve f cs = curve_start f ++ points f cs 480 ++ curve_end f
