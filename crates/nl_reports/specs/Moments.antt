-- When commands begin and end.
use Rattle.std.specs.Prelude.{List, map}
use Rattle.std.specs.List.Sorted.{IsPermutation}
use Rattle.nl_reports.specs.Spans.{began_of, closed_of}
use Rattle.nl_reports.specs.SweepSteps.{Rises}
use Rattle.nl_reports.specs.declared.moments.Moments.{Moments}
use Rattle.nl_reports.specs.declared.moments.Span.{Span}

-- the starts of these commands are in order, and so are their ends
pub record AreMoments (cs : List Span) (m : Moments) : Type 0 where
  pub starts : IsPermutation (map began_of cs) m.starts.items
  pub ends : IsPermutation (map closed_of cs) m.ends.items
  pub starts_rise : Rises m.starts.items
  pub ends_rise : Rises m.ends.items
