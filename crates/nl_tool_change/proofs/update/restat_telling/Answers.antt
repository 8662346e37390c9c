use Rattle.std.proofs.Common.{◌≡◌, inl, inr, refl, ap, Err}
use Rattle.nl_tool_texts.specs.declared.fault.ToolFault.TheVariants.{BadLine}
use Rattle.nl_tool_change.proofs.update.restat_telling.Goals as goal

pub returns-in-Ok-clause-call : goal.returns-in-Ok-clause-call
returns-in-Ok-clause-call g c = inr (record { parts = c.in-Ok.times.items; said = c.in-Ok.ensures.value; holds = c.change.ensures.call })

pub returns-in-Err-clause-call : goal.returns-in-Err-clause-call
returns-in-Err-clause-call g c = inl (record {
  refused = c.in-Err.ensures.faults;
  bad_line = λ number is. let named : c.in-Err.fault ≡ BadLine number = cc is in c.in-Err.ensures.bad_line number (ap Err named);
  stays = refl;
})
