-- What a build gains if a command of its critical path took half as long (docs/CLI.md, "summary").
use Rattle.std.specs.Prelude.{◌≡◌, ℕ, ◌+◌, ◌-◌, ◌/◌, ◌==◌, ◌&&◌, nat_lt, Bool, List, [], ◌∷◌, take, codes, if◌then◌else◌, ◌++◌}
use Rattle.nl_reports.specs.Critical.{Ran, keyed_line, path_rans, weight}
use Rattle.nl_reports.specs.Jobs.{Job}
use Rattle.nl_tool_texts.specs.Graphs.{Graph}
use Rattle.nl_reports.specs.Paths.{IsLongest, length_of}
use Rattle.nl_tool_texts.specs.Falling.{falling}
use Rattle.nl_reports.specs.Spans.{time_of}
use Rattle.nl_tool_texts.specs.Texts.{took_text}
use Rattle.nl_reports.specs.declared.moments.Span.{Span}

-- a command in half its time, rounded down, and commands of which the one at a place is so
abbrev pub half_span : Span → Span
half_span s = record { began = s.began; ended = s.began + time_of s / 2 }

abbrev pub span_if : Bool → Span → Span
span_if half s = if half then half_span s else s

abbrev pub job_if : Bool → Job → Job
job_if half j = record { span = span_if half j.span; hash = j.hash; outputs = j.outputs }

abbrev pub halved_from : ℕ → ℕ → List Job → List Job
halved_from at place [] = []
halved_from at place (j ∷ js) = job_if (at == place) j ∷ halved_from (at + 1) place js

abbrev pub halved : ℕ → List Job → List Job
halved place js = halved_from 0 place js

-- a line: by how much the critical path gets shorter, and the output
abbrev pub gain_line : Bool → ℕ → Ran → List ℕ
gain_line screen gain r = keyed_line screen (codes "gain" ∷ took_text screen gain ∷ r.name ∷ [])

abbrev pub heading : Bool → ℕ → List ℕ
heading screen most = if screen && nat_lt 0 most then codes "\nSaved if a command took half\nSaved\tOutput\n" else []

-- how long the critical path is, if the command took half
pub record IsHalfPath (g : Graph) (js : List Job) (r : Ran) (length : ℕ) : Type 0 where
  pub path : List (List ℕ)
  pub longest : IsLongest g.edges (weight g.nodes (halved r.place js)) path
  pub length_is : length ≡ length_of (weight g.nodes (halved r.place js)) path

-- the line of a command of a critical path that is so long, after a text
pub record IsGain (screen : Bool) (g : Graph) (js : List Job) (long : ℕ) (r : Ran) (before text : List ℕ) : Type 0 where
  pub half : ℕ
  pub is_half : IsHalfPath g js r half
  pub is : text ≡ before ++ gain_line screen (long - half) r

-- the lines of these commands
abbrev pub AreGains : Bool → Graph → List Job → ℕ → List Ran → List ℕ → List ℕ → Type 0
AreGains screen g js long [] before text = text ≡ before
AreGains screen g js long (r ∷ rs) before text = (more : List ℕ) × IsGain screen g js long r before more × AreGains screen g js long rs more text

-- so many commands of the path, those that took the longest
abbrev pub longest_rans : ℕ → List Ran → List Ran
longest_rans most rs = take most (falling (λ (r : Ran). time_of r.span) rs)

pub record AreGainsOf (screen : Bool) (g : Graph) (js : List Job) (most : ℕ) (text : List ℕ) : Type 0 where
  pub path : List (List ℕ)
  pub longest : IsLongest g.edges (weight g.nodes js) path
  pub are : AreGains screen g js (length_of (weight g.nodes js) path) (longest_rans most (path_rans g js path)) (heading screen most) text
