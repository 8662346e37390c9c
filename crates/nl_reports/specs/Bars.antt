-- The bars of commands.
use Rattle.std.specs.Prelude.{ℕ, ◌+◌, ◌-◌, ◌*◌, ◌/◌, ◌==◌, Bool, min, nat_lt, List, [], ◌∷◌, ◌++◌, get_or, length, set, codes, decimal, if◌then◌else◌}
use Rattle.nl_reports.specs.Spans.{closed_of, time_of}
use Rattle.nl_reports.specs.Jobs.{Job, first_name}
use Rattle.nl_tool_texts.specs.Escape.{cut_name, label}
use Rattle.nl_tool_texts.specs.Kind.{base_of}
use Rattle.nl_reports.specs.Frame.{height, is_named, x_at, y_at}
use Rattle.nl_tool_texts.specs.Work.{place, work_of}
use Rattle.nl_tool_texts.specs.Texts.{rest_text, seconds}
use Rattle.nl_tool_texts.specs.Texts.{joined as parts}
use Rattle.nl_reports.specs.declared.frame.Frame.{Frame}
use Rattle.nl_reports.specs.declared.frame.Short.{Short}

abbrev pub kind_of : Job → ℕ
kind_of j = place (work_of (first_name j.outputs))

-- a rectangle in a lane, up to its title
abbrev pub rect : Frame → ℕ → ℕ → ℕ → ℕ → List ℕ
rect f lane x width kind = parts (codes "<rect class=\"k" ∷ decimal kind ∷ codes "\" x=\"" ∷ decimal x ∷ codes "\" y=\"" ∷ decimal (y_at f lane)
    ∷ codes "\" width=\"" ∷ decimal width ∷ codes "\" height=\"" ∷ decimal (height f) ∷ codes "\"><title>" ∷ [])

abbrev pub more_outputs : ℕ → List ℕ
more_outputs n = rest_text (codes " and ") n (codes " more")

-- the end of a title: how long a command ran, and from when on
abbrev pub times_text : List ℕ → List ℕ → List ℕ
times_text time start = codes "\n" ++ time ++ codes " s from " ++ start ++ codes " s</title></rect>\n"

-- a title: the first output and how many more, and the times
abbrev pub title : Frame → Job → List ℕ
title f j = label (first_name j.outputs) ++ more_outputs (length j.outputs - 1)
    ++ times_text (seconds (time_of j.span)) (seconds (j.span.began - f.began))

-- how wide the bar of a command is, and how wide it is drawn, with a gap behind it
abbrev pub width_of : Frame → Job → ℕ
width_of f j = x_at f (closed_of j.span) - x_at f j.span.began

abbrev pub drawn_width : ℕ → ℕ
drawn_width width = if nat_lt width 20 then width else width - 6

-- so many bytes of it stand in a bar; and the name, if some do
abbrev pub room_of : ℕ → ℕ
room_of width = min 22 ((width - 80) / 70)

abbrev pub named : Frame → ℕ → ℕ → ℕ → List ℕ → List ℕ
named f lane x room name = parts (codes "<text x=\"" ∷ decimal (x + 40) ∷ codes "\" y=\"" ∷ decimal (y_at f lane + 135) ∷ codes "\">" ∷ [])
    ++ cut_name room (base_of name) ++ codes "</text>\n"

abbrev pub name_text : Frame → ℕ → ℕ → ℕ → List ℕ → List ℕ
name_text f lane x width name = if nat_lt (room_of width) 4 then [] else (if is_named f then named f lane x (room_of width) name else [])

-- half a pixel is too short for a bar
abbrev pub is_short : Frame → Job → Bool
is_short f j = nat_lt (width_of f j) 5

-- the bar of a command in its lane, and its name
abbrev pub long_bar : Frame → Job → ℕ → List ℕ
long_bar f j lane = rect f lane (x_at f j.span.began) (drawn_width (width_of f j)) (kind_of j) ++ title f j
    ++ name_text f lane (x_at f j.span.began) (width_of f j) (first_name j.outputs)

-- the pixel at which a command begins
abbrev pub pixel_of : Frame → Job → ℕ
pixel_of f j = x_at f j.span.began / 10

-- short commands of a lane that begin at one pixel have one bar, a pixel wide, in the colour of the first of them
abbrev pub short_text : Frame → ℕ → Short → List ℕ
short_text f lane s = rect f lane (s.pixel * 10) 10 s.kind ++ decimal s.count ++ codes " short</title></rect>\n"

abbrev pub short_bar : Frame → ℕ → Short → List ℕ
short_bar f lane s = if s.count == 0 then [] else short_text f lane s

abbrev pub no_short : Short
no_short = record { pixel = 0; kind = 0; count = 0 }

-- those of a lane that aren't drawn yet; and with one more
abbrev pub short_in : List Short → ℕ → Short
short_in shorts lane = get_or shorts lane no_short

abbrev pub with_short : Frame → Short → Job → Short
with_short f s j = if s.pixel == pixel_of f j then record { pixel = s.pixel; kind = s.kind; count = min (s.count + 1) 18446744073709551615 }
    else record { pixel = pixel_of f j; kind = kind_of j; count = 1 }

-- as a short command comes, those of its lane that begin at another pixel are drawn
abbrev pub bar_before : Frame → Short → Job → ℕ → List ℕ
bar_before f s j lane = if s.pixel == pixel_of f j then [] else short_bar f lane s

abbrev pub bar : Frame → List Short → Job × ℕ → List ℕ
bar f shorts p = if is_short f p.0 then bar_before f (short_in shorts p.1) p.0 p.1 else long_bar f p.0 p.1

abbrev pub opened : Frame → List Short → Job × ℕ → List Short
opened f shorts p = if is_short f p.0 then set shorts p.1 (with_short f (short_in shorts p.1) p.0) else shorts

-- those of each lane, from this lane on
abbrev pub short_bars : Frame → ℕ → List Short → List ℕ
short_bars f lane [] = []
short_bars f lane (s ∷ ss) = short_bar f lane s ++ short_bars f (lane + 1) ss

abbrev pub bars_from : Frame → List Short → List (Job × ℕ) → List ℕ
bars_from f shorts [] = short_bars f 0 shorts
bars_from f shorts (p ∷ ps) = bar f shorts p ++ bars_from f (opened f shorts p) ps
