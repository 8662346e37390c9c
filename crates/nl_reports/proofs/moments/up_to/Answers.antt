use Rattle.std.proofs.Common.{◌<◌, ◌≤◌, ℕ, length, get_or, rules, arith}
use Rattle.std.specs.Prelude.{nat_le}
use Rattle.std.proofs.lemmas.Bool.{leb-false, leb-true}
use Rattle.std.proofs.lemmas.List.{get_or_default}
use Rattle.std.proofs.lemmas.List.Sorted.{IsPartitionedBy-leb, IsPartitionPoint-from_clause}
use Rattle.nl_reports.specs.SweepSteps.{Rises}
use Rattle.nl_reports.proofs.moments.up_to.Goals as goal

pub returns : goal.returns
returns c =
    let moments = c.args.moments.now in
    let order : Rises moments → (i j d : ℕ) → i ≤ j → j < length moments → get_or moments i d ≤ get_or moments j d =
    λ rise i j d before within. omega (arith, rise.order i j before within, get_or_default moments i d 0 (omega (arith, before, within)), get_or_default moments j d 0 within) in
    let point = λ (rise : Rises moments). IsPartitionPoint-from_clause (λ (m : ℕ). nat_le m c.args.at) moments c.partition_point.result
    c.partition_point.ensures.partitioned (IsPartitionedBy-leb (λ (m : ℕ). m) moments c.args.at (order rise)) (λ a r next called. search rules) in
    record {
      within = c.partition_point.ensures.bound;
      before = λ rise k below. leb-true (get_or moments k 0) c.args.at ((point rise).0 k 0 (omega arith) below);
      after = λ rise k above there. leb-false (get_or moments k 0) c.args.at ((point rise).1 k 0 above there);
    }
