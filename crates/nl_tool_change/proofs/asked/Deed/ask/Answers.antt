use Rattle.std.proofs.Common.{[], ◌∷◌, ◌∙◌, List, ℕ, Some, Option, inr, sym}
use Rattle.nl_session.proofs.Names.{◌≡◌, refl, subst, view_of, rules, is_dead_by, on_err_weaker, IsErrOf, Result, reply_of, survivors}
use Rattle.nl_session.proofs.Names.{CallOf, StepsBy, Opens, Recompacts}
use Rattle.nl_session.specs.declared.fault.LogFault.{LogFault}
use Rattle.nl_session.specs.declared.fault.LogFault.TheVariants.{Fault}
use Rattle.nl_session.specs.Answers.{Answered}
use Rattle.nl_session.specs.Calls as calls
use Rattle.nl_session.specs.declared.events.Event.{Event}
use Rattle.nl_session.specs.declared.events.Event.TheVariants.{Open as OpenLog, Recompact, Stop, Sync}
use Rattle.nl_session.specs.declared.events.Reply.{Reply}
use Rattle.nl_session.proofs.RunLemmas.{open_moves, open_sound, breaks_by_fault, other_moves, rewrite_leaves, answered_open, stayed}
use Rattle.nl_session.specs.Headline.{Exchange}
use Rattle.nl_tool_change.specs.Applying.{DoesEvent}
use Rattle.nl_tool_change.specs.Deeds.{SetsFor}
use Rattle.nl_tool_change.specs.Replay.{reply_line}
use Rattle.nl_tool_change.proofs.DeedLemmas.{does_so}
use Rattle.nl_tool_change.proofs.asked.Deed.ask.Goals as goal
use Rattle.nl_tool_change.proofs.asked.Deed.ask.Goals.{in_default-via-in-Open+in_default, in_default-via-in-Recompact+in_default}
use Rattle.nl_tool_change.proofs.asked.Deed.ask.Goals.{in_default-via-in-Stop+in_default, in_default-via-in_default}

pub returns-in-Open-Some-default : goal.returns-in-Open-Some-default
returns-in-Open-Some-default g c =
    let old = view_of c.args.log.now in
    let new = view_of c.open.new.self in
    let keep = c.in-Open-Some-default.field-0-0 in
    let kept = c.in-Open-Some-default.kept in
    let sets = subst (λ (it : Event). SetsFor it (Some kept)) c.in-Open-Some-default.is-0
    (subst (λ (it : Option (List (List ℕ))). SetsFor c.self.inside.event it) c.in-Open-Some-default.is-1 c.self.invariant) in
    let r = c.open.result in
    let call = subst (λ dead. calls.Opens dead r old new) sets c.open.ensures.call in
    let step = subst (λ dead. StepsBy (Opens dead) (reply_of r) old new) sets c.open.ensures.step in
    let called : (r : Result (Unit {0}) LogFault) × (reply_of c.open.result ≡ reply_of r) × CallOf (OpenLog keep) r old new = (r, refl, call) in
    let moves = open_moves keep r old new (g.met.F.Folder.is_disk c.args.log.now.reader.folder) call in
    let sound = open_sound (is_dead_by keep) r old new call in
    let answered : Answered (OpenLog keep) (reply_of r) old new
    = search (rules, called, step, moves, sound, breaks_by_fault r old new call.opened call.unchanged) in
    let does = does_so (OpenLog keep) (subst (λ (it : Reply). Answered (OpenLog keep) it old new) (sym c.reply_of.ensures.value) answered) (λ is. absurd (cc is)) in
    record {
      answered = subst (λ (it : Event). (said : List Exchange) × DoesEvent it old new said (reply_line c.reply_of.result))
          (sym c.in-Open-Some-default.is-0 ∙ c.self.view_is) does;
    }

pub returns-in-Recompact-Some-default : goal.returns-in-Recompact-Some-default
returns-in-Recompact-Some-default g c =
    let old = view_of c.args.log.now in
    let new = view_of c.recompact.new.self in
    let keep = c.in-Recompact-Some-default.field-0-0 in
    let kept = c.in-Recompact-Some-default.kept in
    let sets = subst (λ (it : Event). SetsFor it (Some kept)) c.in-Recompact-Some-default.is-0
    (subst (λ (it : Option (List (List ℕ))). SetsFor c.self.inside.event it) c.in-Recompact-Some-default.is-1 c.self.invariant) in
    let r = c.recompact.result in
    let call = subst (λ dead. calls.Recompacts dead r old new) sets c.recompact.ensures.call in
    let step = subst (λ dead. StepsBy (Recompacts dead) (reply_of r) old new) sets c.recompact.ensures.step in
    let event = Recompact keep in
    let same = λ (other : IsErrOf r Fault → ⊥). on_err_weaker r (stayed _ _) (c.recompact.ensures.unchanged other) in
    let answered : Answered event (reply_of r) old new
    = search (answered_open event r old new call.mode call.count same step
    (λ sound. other_moves event (reply_of r) _ _ (g.met.F.Folder.is_disk c.args.log.now.reader.folder) (λ d try. try) (λ c. absurd c)
    (rewrite_leaves event (survivors (is_dead_by keep)) r old new (λ ok. ok)
    (λ fault. fault) call.mode call.contents call.left same sound)) (search rules) (λ is. absurd (cc)) call) in
    let does = does_so event (subst (λ (it : Reply). Answered event it old new) (sym c.reply_of-in-Recompact-Some-default.ensures.value) answered) (λ is. absurd (cc is)) in
    record {
      answered = subst (λ (it : Event). (said : List Exchange) × DoesEvent it old new said (reply_line c.reply_of-in-Recompact-Some-default.result))
          (sym c.in-Recompact-Some-default.is-0 ∙ c.self.view_is) does;
    }

pub returns-in-Stop-default-Open : goal.returns-in-Stop-default-Open
returns-in-Stop-default-Open g c = record {
  answered = (
    (Sync, c.sync_first.result) ∷ (Stop, c.sync_first.ensures.answered.stopped) ∷ [],
    inr (record {
      stop = sym c.self.view_is ∙ c.in-Stop-default-Open.is-0;
      opened = cc;
      synced = c.sync_first.result;
      first = c.sync_first.ensures.answered;
      are = refl;
      is = refl;
    }),
  );
}

pub returns-in_default : goal.returns-in_default
returns-in_default g c =
    let old = view_of c.args.log.now in
    let new = view_of c.reply_to_event.new.log in
    record {
      answered = does_so c.args.self.now
          (subst (λ (it : Event). Answered it c.reply_to_event.result old new) c.self.view_is c.reply_to_event.ensures.answered) (λ stop opened.
          elim c.in_default.branch [
            | in_default-via-in-Open+in_default w ↦ absurd (cc (w.in_default.is-0, c.self.view_is, stop))
            | in_default-via-in-Recompact+in_default w ↦ absurd (cc (w.in_default.is-0, c.self.view_is, stop))
            | in_default-via-in-Stop+in_default w ↦ w.in_default.not-Open-2 (c.state.ensures ∙ opened)
            | in_default-via-in_default w ↦ w.in_default.not-Stop-0 (c.self.view_is ∙ stop)
          ]);
    }
