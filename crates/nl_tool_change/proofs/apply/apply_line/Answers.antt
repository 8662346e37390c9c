use Rattle.std.proofs.Common.{◌∙◌, subst, sym}
use Rattle.std.specs.Prelude.{IfErr, OnOk, Ok, Err}
use Rattle.nl_tool_change.specs.Applying.{IsPlain, IsSeenAnew, IsTold, IsTurnedAway}
use Rattle.nl_tool_change.specs.Seen.{seen_of}
use Rattle.nl_tool_change.proofs.ApplyLemmas.{not_plain, opens_so, plain_other, turn_anew, turn_away, turn_plainly, turn_told}
use Rattle.nl_tool_change.proofs.apply.apply_line.Goals as goal
use Rattle.nl_tool_change.proofs.apply.apply_line.Goals.{in_default-via-in-Doubts+else-closed, in_default-via-in-Does+else-closed-2}
use Rattle.nl_tool_change.proofs.apply.apply_line.Goals.{in_default-via-in_default}

pub distrusted-log-requires : goal.distrusted-log-requires
distrusted-log-requires g c = record {
  closed = sym c.state.ensures.value
      ∙ not_plain c.args.what c.state.result c.asks_closed-closed.result c.asks_closed-closed.ensures c.if-closed.true;
}

pub look_again-log-requires : goal.look_again-log-requires
look_again-log-requires g c = record {
  closed = sym c.state.ensures.value
      ∙ not_plain c.args.what c.state.result c.asks_closed-closed.result c.asks_closed-closed.ensures c.if-closed-2.true;
}

pub returns-in-Ok-clause-turn : goal.returns-in-Ok-clause-turn
returns-in-Ok-clause-turn g c line asks =
    let old = seen_of c.args.log in
    let new = seen_of c.distrusted-log.result.0 in
    turn_told c.args.asked c.args.what old new _ _ c.say_entries.result line asks
    (Ok c.in-Ok.table) c.in-Doubts.is (subst (IsTold c.args.asked old new) c.in-Ok.is c.distrusted-log.ensures.told) c.say_entries.ensures.says

pub returns-in-Doubts-clause-turn : goal.returns-in-Doubts-clause-turn
returns-in-Doubts-clause-turn g c line asks =
    let old = seen_of c.args.log in
    let new = seen_of c.distrusted-log.result.0 in
    turn_told c.args.asked c.args.what old new _ _ c.say_reply.result line asks
    (Err c.in-Err.why) c.in-Doubts.is (subst (IsTold c.args.asked old new) c.in-Err.is c.distrusted-log.ensures.told) c.say_reply.ensures.says

pub returns-in-Ok-looked-clause-turn : goal.returns-in-Ok-looked-clause-turn
returns-in-Ok-looked-clause-turn g c line asks =
    let old = seen_of c.args.log in
    let mid = seen_of c.look_again-log.result.0 in
    let opens = opens_so c.args.what c.in-Does.field-0 c.state.result c.asks_closed-closed.result c.asks_closed-closed.ensures
    c.if-closed-2.true c.in-Does.is in
    turn_anew c.args.asked c.args.what old _ _ _ c.answer-said.result line asks mid opens
    (subst (λ looked. OnOk looked (IsSeenAnew c.args.asked old mid)) c.in-Ok-looked.is c.look_again-log.ensures.anew)
    c.answer-said.ensures.version c.answer-said.ensures.serves

pub returns-in-Does-clause-turn : goal.returns-in-Does-clause-turn
returns-in-Does-clause-turn g c line asks =
    let old = seen_of c.args.log in
    let new = seen_of c.look_again-log.result.0 in
    let opens = opens_so c.args.what c.in-Does.field-0 c.state.result c.asks_closed-closed.result c.asks_closed-closed.ensures
    c.if-closed-2.true c.in-Does.is in
    turn_away c.args.asked c.args.what old new _ _ c.say_reply-in-Err-looked.result line asks
    c.in-Err-looked.why opens (subst (λ looked. IfErr looked (IsTurnedAway c.args.asked old new)) c.in-Err-looked.is c.look_again-log.ensures.turned)
    c.say_reply-in-Err-looked.ensures.says

pub returns-clause-turn : goal.returns-clause-turn
returns-clause-turn g c line asks =
    let what = c.args.what in
    let plain : IsPlain what c.state.result = elim c.in_default.branch [
      | in_default-via-in-Doubts+else-closed w ↦ c.asks_closed-closed.ensures.0 w.if-closed.false
      | in_default-via-in-Does+else-closed-2 w ↦ c.asks_closed-closed.ensures.0 w.if-closed-2.false
      | in_default-via-in_default w ↦ plain_other what c.state.result w.in_default.not-Doubts w.in_default.not-Does
    ] in
    turn_plainly c.args.asked what _ _ _ _ c.answer-said-in_default.result line asks
    (subst (IsPlain what) c.state.ensures.value plain)
    c.answer-said-in_default.ensures.version c.answer-said-in_default.ensures.serves
