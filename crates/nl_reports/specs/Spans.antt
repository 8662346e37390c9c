-- When commands ran (docs/FORMAT.md, "Entry line").
use Rattle.std.specs.Prelude.{ℕ, ◌-◌, ◌<◌, ◌^◌, max}
use Rattle.nl_builds.specs.declared.command.Command.{Command}
use Rattle.nl_reports.specs.declared.moments.Span.{Span}

abbrev pub span_of : Command → Span
span_of c = record { began = c.began; ended = c.ended }

-- each moment of a command is below 2 ^ 32
pub record IsEarly (s : Span) : Type 0 where
  pub began : s.began < 2 ^ 32
  pub ended : s.ended < 2 ^ 32

-- 0 if it ended before it began
abbrev pub time_of : Span → ℕ
time_of s = s.ended - s.began

abbrev pub began_of : Span → ℕ
began_of s = s.began

-- the command doesn't run any more from this moment on
abbrev pub closed_of : Span → ℕ
closed_of s = max s.began s.ended
