use Rattle.std.proofs.Common.{◌≡◌, ◌∙◌, ℕ, ap, get_or, subst, sym}
use Rattle.std.specs.List.{Contains}
use Rattle.nl_reports.specs.Spans.{closed_of}
use Rattle.nl_reports.specs.SweepSteps.{shares_before}
use Rattle.nl_reports.proofs.SharesLemmas.{end_there, ends_shares, found_share, start_there, starts_shares, weight_is}
use Rattle.nl_reports.proofs.moments.Shares.weight.Goals as goal

pub returns : goal.returns
returns c = record {
  value = λ cs are among.
      let s = c.args.self.now in
      let span = c.args.span.now in
      let f = shares_before s.moments.starts.items s.moments.ends.items in
      let begun = rw c.as_slice.ensures.value at c.up_to-near.ensures in
      let ended = rw c.as_slice-2.ensures.value at c.up_to-near-2.ensures in
      let before : c.item_at-before.result ≡ f span.began = c.item_at-before.ensures
      ∙ ap (λ (n : ℕ). get_or c.deref.result.now n 0) c.saturating_sub.ensures
      ∙ found_share s.moments.starts.items _ span.began _ f are.moments.starts_rise (c.deref.ensures.value ∙ starts_shares cs s are)
      begun.within (begun.before are.moments.starts_rise) (begun.after are.moments.starts_rise) (start_there cs s are span among) in
      let after : c.item_at-after.result ≡ f (closed_of span) = c.item_at-after.ensures
      ∙ ap (λ (n : ℕ). get_or c.deref-2.result.now n 0) c.saturating_sub-2.ensures
      ∙ found_share s.moments.ends.items _ c.closed.result _ f are.moments.ends_rise (c.deref-2.ensures.value ∙ ends_shares cs s are)
      ended.within (ended.before are.moments.ends_rise) (ended.after are.moments.ends_rise) (subst (Contains s.moments.ends.items) (sym c.closed.ensures.value) (end_there cs s are span among))
      ∙ ap f c.closed.ensures.value in
      c.saturating_sub-3.ensures ∙ (rw (before, after) (weight_is cs s are span among));
}
