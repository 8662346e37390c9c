use Rattle.std.proofs.Common.{◌≤◌, ◌^◌, ℕ, rules}
use Rattle.std.specs.List.{All}
use Rattle.nl_reports.proofs.moments.Moments.of.Goals as goal

pub returns : goal.returns
returns c =
    let starts : All (λ (m : ℕ). m ≤ 2 ^ 32) c.in_ok-collect.field-0.items = search rules in
    let ends : All (λ (m : ℕ). m ≤ 2 ^ 32) c.in_ok-collect-2.field-0.items = search rules in
    record {
      value = record {
        starts = search rules;
        ends = search rules;
        starts_rise = c.rising-starts.ensures.order starts;
        ends_rise = c.rising-ends.ensures.order ends;
      };
    }
