use Rattle.std.proofs.Common.{[], ◌∷◌, ◌∙◌, refl}
use Rattle.nl_session.specs.declared.events.Event.TheVariants.{Sync, Stop}
use Rattle.nl_session.specs.declared.events.Reply.TheVariants.{Done, Refused}
use Rattle.nl_tool_change.proofs.AnswerLemmas.{ends_by, sync_failed, two_exchanged}
use Rattle.nl_tool_change.proofs.answers.end_log.Goals as goal

pub returns-in-Done-clause-ended : goal.returns-in-Done-clause-ended
returns-in-Done-clause-ended g c =
    let first = c.in-Done.ensures.answered in
    record {
      exchanges = (Sync, Done) ∷ (Stop, first.stopped) ∷ [];
      ends = ends_by _ _ _ (λ closed. c.in_default.not-Closed (c.state.ensures ∙ closed)) (first.stopped, refl);
      exchanged = two_exchanged _ _ _ Done first.stopped first.sync first.stop;
    }

pub returns-in-Refused-clause-ended : goal.returns-in-Refused-clause-ended
returns-in-Refused-clause-ended g c =
    let first = c.in-Refused.ensures.answered in
    record {
      exchanges = (Sync, Refused c.in-Refused.field-0) ∷ (Stop, first.stopped) ∷ [];
      ends = ends_by _ _ _ (λ closed. c.in_default.not-Closed (c.state.ensures ∙ closed)) (c.in-Refused.field-0, first.stopped, refl);
      exchanged = two_exchanged _ _ _ (Refused c.in-Refused.field-0) first.stopped first.sync first.stop;
    }

pub returns-in-Refused-clause-cause : goal.returns-in-Refused-clause-cause
returns-in-Refused-clause-cause g c = λ is mode.
    let first = c.in-Refused.ensures.answered in
    sync_failed _ _ _ c.in-Refused.field-0 first.stopped first.sync first.stop mode
