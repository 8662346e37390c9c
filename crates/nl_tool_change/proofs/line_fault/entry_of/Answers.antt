use Rattle.std.proofs.Common.{ℕ, List, subst, inr, rules}
use Rattle.nl_fields.specs.Name.{HasFault}
use Rattle.nl_tool_change.proofs.line_fault.entry_of.Goals as goal

pub returns-in-Err-clause-faults : goal.returns-in-Err-clause-faults
returns-in-Err-clause-faults c = inr (
  record {
    start_is = record { number = c.in-Some.start_ms; fits = search rules; is = search rules };
    end_is = record { number = c.in-Some-read_i32.end_ms; fits = search rules; is = search rules };
    mtime_is = record { number = c.in-Some-read_i64.mtime; fits = search rules; is = search rules };
  },
  record {
    why = c.in-Err.fault;
    has = subst (λ (bytes : List ℕ). HasFault bytes c.in-Err.fault) c.as_bytes-4.ensures.value c.in-Err.ensures.fault.0;
    refused = c.in-Err.ensures.fault.1;
    is = c.of_name_fault.ensures;
  },
)
