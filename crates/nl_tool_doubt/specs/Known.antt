-- What is kept of the lines of a log to find their moments.
use Rattle.std.specs.Prelude.{◌≡◌, Bool, List, map}
use Rattle.std.specs.List.{list_all}
use Rattle.nl_fields.specs.declared.entry.Entry.{Entry}
use Rattle.nl_tool_doubt.specs.Moments.{at_of, is_whole, length_of, lo_of, m_of}
use Rattle.nl_tool_doubt.specs.Spans.{Alike, Rises, one, sums}
use Rattle.nl_tool_doubt.specs.declared.moments.Line.{Line}
use Rattle.nl_tool_doubt.specs.declared.spans.Span.{Span}

-- MTIME of a line, MTIME less START, and MTIME less END
abbrev pub line_of : Entry → Line
line_of e = record { at = at_of e; m = m_of e; lo = lo_of e }

-- MTIME less END, at MTIME
abbrev pub end_span : Entry → Span
end_span e = one (at_of e) (lo_of e)

-- how long the command ran, at MTIME less START
abbrev pub start_span : Entry → Span
start_span e = one (m_of e) (length_of e)

pub record IsKnownOf (ls : List Entry) (coarse : Bool) (lows moments : List Span) : Type 0 where
  pub tick : coarse ≡ list_all is_whole ls
  pub sorted : List Span
  pub ends : Alike sorted (map end_span ls)
  pub rises : Rises sorted
  pub bounds : lows ≡ sums 0 sorted
  pub starts : Alike moments (map start_span ls)
  pub starts_rise : Rises moments
