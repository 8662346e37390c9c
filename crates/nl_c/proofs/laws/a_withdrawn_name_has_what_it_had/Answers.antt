-- The entry that was told is the one that is recorded again.
use Rattle.std.proofs.Common.{◌∙◌, sym, inl, refl}
use Rattle.nl_session.specs.LogView.{view_of}
use Rattle.nl_c.proofs.PlanLemmas.{had_entry, recorded_entry}
use Rattle.nl_c.proofs.laws.a_withdrawn_name_has_what_it_had.Goals as goal

pub returns-clause-planned : goal.returns-clause-planned
returns-clause-planned c name intent anew stamps first planned is plan =
    recorded_entry name intent first.written planned.written is ((plan.done (inl refl)).begun (inl refl))

pub returns-clause-withdrawn : goal.returns-clause-withdrawn
returns-clause-withdrawn c name intent anew stamps first planned last new is plan stands withdrawal =
    recorded_entry name stamps.1 last.written new.written is (withdrawal.done stands).keeps.call
    ∙ sym (had_entry (view_of first.written.log).table name stamps.0 stamps.1 (plan.done (inl refl)).told)
