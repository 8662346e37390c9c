-- The shares of commands, as they are found.
use Rattle.std.specs.Prelude.{◌≡◌, List, length}
use Rattle.nl_reports.specs.Moments.{AreMoments}
use Rattle.nl_reports.specs.SweepSteps.{IsSwept, Swept}
use Rattle.nl_reports.specs.declared.moments.Shares.{Shares}
use Rattle.nl_reports.specs.declared.moments.Span.{Span}

abbrev pub swept_of : Shares → Swept
swept_of s = record { sums = s.sums; at_starts = s.at_starts.items; at_ends = s.at_ends.items }

-- the sweep went over all starts and ends of these commands
pub record AreSharesOf (cs : List Span) (s : Shares) : Type 0 where
  pub moments : AreMoments cs s.moments
  pub swept : IsSwept s.moments.starts.items s.moments.ends.items (swept_of s)
  pub begun : length s.at_starts.items ≡ length s.moments.starts.items
  pub ended : length s.at_ends.items ≡ length s.moments.ends.items
