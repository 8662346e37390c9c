use Rattle.std.proofs.Common.{◌≡◌, inl, inr, refl, ap, Err}
use Rattle.nl_tool_texts.specs.declared.fault.ToolFault.TheVariants.{BadLine}
use Rattle.nl_tool_change.proofs.KeepLemmas.{kept}
use Rattle.nl_tool_change.proofs.update.recompact_telling.Goals as goal

pub returns-in-Ok-of-clause-call : goal.returns-in-Ok-of-clause-call
returns-in-Ok-of-clause-call g c =
    let told = c.in-Ok.ensures.value in
    inr (kept c.in-Ok-of.keep (λ m. g.P.LogPlace.changes m c.change.result.1 c.args.folder c.change.result.0)
    (record { bytes = told.bytes; given = told.given; holds = (_, told.holds, c.in-Ok-of.ensures) }) c.change.ensures.call)

pub returns-in-Err-of-clause-call : goal.returns-in-Err-of-clause-call
returns-in-Err-of-clause-call g c = inl (record { refused = tt; bad_line = λ number is. absurd (cc is); stays = refl })

pub returns-in-Err-clause-call : goal.returns-in-Err-clause-call
returns-in-Err-clause-call g c = inl (record {
  refused = c.in-Err.ensures.faults;
  bad_line = λ number is. let named : c.in-Err.fault ≡ BadLine number = cc is in c.in-Err.ensures.bad_line number (ap Err named);
  stays = refl;
})
