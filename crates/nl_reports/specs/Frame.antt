-- Where things stand in a picture, in tenths of a pixel.
use Rattle.std.specs.Prelude.{ℕ, ◌+◌, ◌-◌, ◌*◌, ◌/◌, ◌<◌, ◌^◌, max, min, Bool, nat_lt, if◌then◌else◌, List, [], ◌∷◌}
use Rattle.std.specs.List.{fold}
use Rattle.nl_reports.specs.Spans.{closed_of}
use Rattle.nl_reports.specs.declared.moments.Span.{Span}
use Rattle.nl_reports.specs.declared.frame.Frame.{Frame}

-- the commands are in the order of START
abbrev pub first_began : List Span → ℕ
first_began [] = 0
first_began (c ∷ cs) = c.began

abbrev pub last_closed : List Span → ℕ
last_closed cs = fold (λ at c. max at (closed_of c)) 0 cs

abbrev pub top_of : List ℕ → ℕ
top_of lanes = fold (λ top lane. max top lane) 0 lanes

abbrev pub frame_of : List Span → List ℕ → Frame
frame_of cs lanes = record { began = first_began cs; wall = last_closed cs - first_began cs; top = top_of lanes }

-- the frame has the times of commands
pub record IsFrame (f : Frame) : Type 0 where
  pub began : f.began < 2 ^ 32
  pub wall : f.wall < 2 ^ 32

-- all of the build is 14400 wide
abbrev pub across : Frame → ℕ → ℕ
across f ms = min 14400 (ms * 14400 / max 1 f.wall)

-- `ms` counts from the beginning of the build
abbrev pub x_of : Frame → ℕ → ℕ
x_of f ms = 1000 + across f ms

abbrev pub x_at : Frame → ℕ → ℕ
x_at f at = x_of f (at - f.began)

-- up to 64 lanes are high enough for names; more lanes are as high together as a screen
abbrev pub is_named : Frame → Bool
is_named f = nat_lt f.top 64

abbrev pub pitch : Frame → ℕ
pitch f = if is_named f then 220 else max 1 (8000 / (f.top + 1))

abbrev pub height : Frame → ℕ
height f = pitch f - pitch f / 8

-- the lanes stand above the curve, and the list below it
abbrev pub y_at : Frame → ℕ → ℕ
y_at f lane = 1100 + lane * pitch f

abbrev pub foot_of : Frame → ℕ
foot_of f = y_at f f.top + pitch f + 1200

abbrev pub line_at : Frame → ℕ → ℕ
line_at f line = foot_of f + 600 + line * 180
