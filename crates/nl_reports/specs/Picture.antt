-- The text of `picture`: builds as SVG (docs/CLI.md, "picture").
use Rattle.std.specs.Prelude.{◌≡◌, ℕ, ◌+◌, ◌-◌, ◌*◌, ◌/◌, ◌%◌, ◌==◌, max, min, List, [], ◌∷◌, ◌++◌, Option, None, Some, get_or, is_some, length, replicate, take, codes, decimal, if◌then◌else◌}
use Rattle.std.specs.List.{flat_map, zip}
use Rattle.nl_builds.specs.Builds.{Told}
use Rattle.nl_reports.specs.Bars.{bars_from, no_short}
use Rattle.nl_reports.specs.Choice.{chosen}
use Rattle.nl_reports.specs.Critical.{IsFoundPath, Ran}
use Rattle.nl_reports.specs.Curve.{curve}
use Rattle.nl_tool_texts.specs.Escape.{label}
use Rattle.nl_reports.specs.Frame.{frame_of, height, line_at, x_at, y_at}
use Rattle.nl_reports.specs.Jobs.{Job, first_name}
use Rattle.nl_reports.specs.Lanes.{lanes}
use Rattle.nl_tool_texts.specs.Graphs.{Graph}
use Rattle.nl_reports.specs.Rows.{spans}
use Rattle.nl_tool_texts.specs.Falling.{falling}
use Rattle.nl_reports.specs.Spans.{closed_of, time_of}
use Rattle.nl_reports.specs.Summary.{taken_in}
use Rattle.nl_tool_texts.specs.Texts.{joined, time_text}
use Rattle.nl_reports.specs.Ticks.{ticks}
use Rattle.nl_reports.specs.Times.{share_of, times_of, total}
use Rattle.nl_reports.specs.Turns.{jobs_in_turn}
use Rattle.nl_tool_texts.specs.Work.{place, word}
use Rattle.nl_reports.specs.declared.choice.Scope.{Scope}
use Rattle.nl_reports.specs.declared.choice.Scope.TheVariants.{Last, Numbered, All}
use Rattle.nl_reports.specs.declared.frame.Frame.{Frame}
use Rattle.nl_reports.specs.declared.moments.Span.{Span}
use Rattle.nl_reports.specs.declared.kinds.Times.{Times}
use Rattle.nl_tool_texts.specs.declared.kind.Work.{Work}
use Rattle.nl_tool_texts.specs.declared.kind.Work.TheVariants.{Compile, Link, Archive, Generate, Test, Other}

-- what was built: how many commands, how long it took, and how many ran at a time, with one digit after the point
abbrev pub plural : ℕ → List ℕ
plural n = if n == 1 then [] else codes "s"

abbrev pub name_of : ℕ → ℕ → ℕ → List ℕ
name_of commands wall tenths = joined (decimal commands ∷ codes " command" ∷ plural commands ∷ codes " in " ∷ time_text wall ∷ codes ", " ∷ decimal (tenths / 10) ∷ codes "."
    ∷ decimal (tenths % 10) ∷ codes " at a time" ∷ [])

abbrev pub name : Frame → Times → ℕ → List ℕ
name f t commands = name_of commands f.wall (total t * 10 / max 1 f.wall)

-- how what is drawn is known, if there is more to tell than that it is as written: a build that was found again, and how many of its outputs
-- later builds may have taken, or all builds, of which some were found again; or that there is no build of that number, but so many builds
abbrev pub found_line : ℕ → List ℕ
found_line taken = joined (codes "<text class=\"m\" x=\"15400\" y=\"380\" text-anchor=\"end\">found again: later builds may have taken "
    ∷ decimal taken ∷ codes " of its outputs</text>\n" ∷ [])

abbrev pub again_line : Scope → Option ℕ → List ℕ
again_line scope None = []
again_line Last (Some taken) = found_line taken
again_line (Numbered number) (Some taken) = found_line taken
again_line All (Some taken) = codes "<text class=\"m\" x=\"15400\" y=\"380\" text-anchor=\"end\">builds were found again</text>\n"

abbrev pub missing_line : ℕ → List ℕ
missing_line builds = joined (codes "<text class=\"m\" x=\"15400\" y=\"380\" text-anchor=\"end\">no such build; builds: " ∷ decimal builds
    ∷ codes "</text>\n" ∷ [])

abbrev pub known_in : Scope → Told → List ℕ
known_in scope t = if is_some (chosen scope t) then again_line scope (taken_in scope t) else missing_line (length t.builds)

-- the name, which a screen reader tells and which is shown too, stands first, and the colours after the name
abbrev pub root : List ℕ
root = codes "\" role=\"img\" aria-labelledby=\"t\" font-family=\"sans-serif\" font-size=\"120\">\n<title id=\"t\">"

abbrev pub style : List ℕ
style = codes "</title>\n<style>svg{fill:#222;background:#fff}.p{fill:#fff}.m{fill:#666}.g{stroke:#ddd;stroke-width:10}.q{fill:#cfd8e3}.t{fill:#111}.t text{pointer-events:none}.k0{fill:#56b4e9}.k1{fill:#e69f00}.k2{fill:#f0e442}.k3{fill:#009e73}.k4{fill:#cc79a7}.k5{fill:#bbb}@media(prefers-color-scheme:dark){svg{fill:#eee;background:#1b1b1b}.p{fill:#1b1b1b}.m{fill:#aaa}.g{stroke:#444}.q{fill:#3b4656}}</style>\n<rect class=\"p\" width=\"100%\" height=\"100%\"/>\n<text x=\"1000\" y=\"380\" font-size=\"220\">"

abbrev pub root_start : ℕ → List ℕ
root_start height = joined (codes "<svg xmlns=\"http://www.w3.org/2000/svg\" width=\"1600\" height=\"" ∷ decimal (height / 10)
    ∷ codes "\" viewBox=\"0 0 16000 " ∷ decimal height ∷ root ∷ [])

abbrev pub head : Frame → Times → ℕ → List ℕ → List ℕ
head f t commands known = root_start (line_at f (min commands 10 + 1)) ++ name f t commands ++ style ++ name f t commands ++ codes "</text>\n" ++ known

-- the colour of a kind and its part of the time; and of all
abbrev pub legend_text : ℕ → List ℕ → ℕ → List ℕ
legend_text kind name share = joined (codes "<rect class=\"k" ∷ decimal kind ∷ codes "\" x=\"" ∷ decimal (1000 + kind * 1800)
    ∷ codes "\" y=\"540\" width=\"140\" height=\"140\"/><text x=\"" ∷ decimal (1000 + kind * 1800 + 200) ∷ codes "\" y=\"655\">" ∷ name
    ∷ codes " " ∷ decimal share ∷ codes " %</text>\n" ∷ [])

abbrev pub legend_kind : Times → Work → List ℕ
legend_kind t w = legend_text (place w) (word w) (share_of t w)

abbrev pub legend : Times → List ℕ
legend t = legend_kind t Compile ++ legend_kind t Link ++ legend_kind t Archive ++ legend_kind t Generate ++ legend_kind t Test ++ legend_kind t Other

-- what stands before the bars
abbrev pub start_with : Frame → List ℕ → Times → ℕ → List ℕ
start_with f known t commands = head f t commands known ++ legend t ++ ticks f ++ codes "<g class=\"t\" font-size=\"110\">\n"

abbrev pub start : Frame → List ℕ → List Job → List ℕ
start f known js = start_with f known (times_of js) (length js)

-- the bars: those of commands, and those of short ones together
abbrev pub bars : Frame → List (Job × ℕ) → List ℕ
bars f pairs = bars_from f (replicate (f.top + 1) no_short) pairs

-- the ten commands that took the longest, each in a line, and the end
abbrev pub long_start : ℕ → ℕ → List ℕ
long_start y time = joined (codes "<text x=\"1900\" y=\"" ∷ decimal y ∷ codes "\" text-anchor=\"end\">" ∷ time_text time
    ∷ codes "</text><text x=\"2050\" y=\"" ∷ decimal y ∷ codes "\">" ∷ [])

abbrev pub long_line : Frame → ℕ → Job → List ℕ
long_line f line j = long_start (line_at f line) (time_of j.span) ++ label (first_name j.outputs) ++ codes "</text>\n"

abbrev pub long_lines : Frame → ℕ → List Job → List ℕ
long_lines f line [] = []
long_lines f line (j ∷ js) = long_line f line j ++ long_lines f (line + 1) js

abbrev pub long_jobs : List Job → List Job
long_jobs js = take 10 (falling (λ (j : Job). time_of j.span) js)

abbrev pub long_head_text : ℕ → List ℕ
long_head_text y = joined (codes "<text x=\"1000\" y=\"" ∷ decimal y ∷ codes "\">The commands that took the longest:</text>\n" ∷ [])

abbrev pub long_head : Frame → List ℕ
long_head f = long_head_text (line_at f 0)

abbrev pub longest : Frame → List Job → List ℕ
longest f js = long_head f ++ long_lines f 1 (long_jobs js) ++ codes "</svg>\n"

-- an outline around the bar of a command, which is a pixel wide at the least, in these lanes; and of a critical path those of its commands
abbrev pub edge_at : Frame → ℕ → ℕ
edge_at f at = x_at f (min at 4294967295)

abbrev pub outline_text : Frame → ℕ → ℕ → ℕ → List ℕ
outline_text f lane x until = joined (codes "<rect class=\"c\" x=\"" ∷ decimal x ∷ codes "\" y=\"" ∷ decimal (y_at f lane)
    ∷ codes "\" width=\"" ∷ decimal (max 10 (until - x)) ∷ codes "\" height=\"" ∷ decimal (height f) ∷ codes "\"/>\n" ∷ [])

abbrev pub outline : Frame → List ℕ → Ran → List ℕ
outline f ls r = outline_text f (get_or ls r.place 0) (edge_at f r.span.began) (edge_at f (closed_of r.span))

abbrev pub outlined_style : List ℕ
outlined_style = codes "<style>.c{fill:none;stroke:#d00000;stroke-width:30;pointer-events:none}@media(prefers-color-scheme:dark){.c{stroke:#ff6b6b}}</style>\n<rect class=\"c\" x=\"11800\" y=\"540\" width=\"140\" height=\"140\"/><text x=\"12000\" y=\"655\">critical path</text>\n"

abbrev pub outlined : Frame → List ℕ → Option (List Ran) → List ℕ
outlined f ls None = []
outlined f ls (Some rans) = outlined_style ++ flat_map (outline f ls) rans

-- what stands after the bars
abbrev pub end : Frame → List ℕ → Option (List Ran) → List Span → List Job → List ℕ
end f ls path cs js = codes "</g>\n" ++ curve f cs ++ outlined f ls path ++ longest f js

-- the frame of commands, each in its lane, their bars, and the whole picture
abbrev pub frame : List Job → Frame
frame js = frame_of (spans js) (lanes (spans js))

abbrev pub bars_of : List Job → List ℕ
bars_of js = bars (frame js) (zip js (lanes (spans js)))

abbrev pub picture : List ℕ → Option (List Ran) → List Job → List ℕ
picture known path js = start (frame js) known js ++ bars_of js ++ end (frame js) (lanes (spans js)) path (spans js) js

-- the picture of the builds that are asked for, one after another, with their critical path by a graph
pub record IsOutlined (g : Graph) (known : List ℕ) (js : List Job) (text : List ℕ) : Type 0 where
  pub length : ℕ
  pub rans : List Ran
  pub is_path : IsFoundPath g js length rans
  pub is : text ≡ picture known (Some rans) js

abbrev pub IsDrawn : Option Graph → List ℕ → List Job → List ℕ → Type 0
IsDrawn None known js text = text ≡ picture known None js
IsDrawn (Some g) known js text = IsOutlined g known js text

abbrev pub IsPicture : Scope → Option Graph → Told → List ℕ → Type 0
IsPicture scope g t text = IsDrawn g (known_in scope t) (jobs_in_turn scope t) text
