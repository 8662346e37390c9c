use Rattle.std.proofs.Common.{arith}
use Rattle.nl_reports.proofs.MomentLemmas.{counted_up_to, running_is}
use Rattle.nl_reports.proofs.moments.Moments.running_near.Goals as goal

pub returns : goal.returns
returns c = record {
  value = λ cs are.
      let begun = rw c.as_slice.ensures.value at c.up_to-near.ensures in
      let ended = rw c.as_slice-2.ensures.value at c.up_to-near-2.ensures in
      omega (
        arith,
        c.saturating_sub.ensures,
        counted_up_to _ _ _ begun.within (begun.before are.starts_rise) (begun.after are.starts_rise),
        counted_up_to _ _ _ ended.within (ended.before are.ends_rise) (ended.after are.ends_rise),
        running_is cs c.args.self.now c.args.at are,
      );
}
