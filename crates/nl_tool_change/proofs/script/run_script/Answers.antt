use Rattle.std.proofs.Common.{◌≡◌, ◌∙◌, ◌++◌, ◌<◌, ◌+◌, List, Some, [], take, get_or, length, ap, subst, sym, arith}
use Rattle.std.specs.List.{flat_map}
use Rattle.std.proofs.lemmas.List.{flat_map_more, take_all, take_more}
use Rattle.nl_folder.specs.DiskState.{durable_disk, empty_file}
use Rattle.nl_folder.specs.FolderView.{FolderView}
use Rattle.nl_folder.specs.MemFolder.{disk_of}
use Rattle.nl_session.specs.declared.events.Event.{Event}
use Rattle.nl_session.specs.declared.events.Reply.{Reply}
use Rattle.nl_session.specs.declared.events.Reply.TheVariants.{Done}
use Rattle.nl_tool_change.specs.Replay.{IsReplayOf, printed, reply_line}
use Rattle.nl_tool_change.proofs.ReplayLemmas.{printed_is, replayed}
use Rattle.nl_tool_change.proofs.script.run_script.Goals as goal

pub loop-reply-preserved : goal.loop-reply-preserved
loop-reply-preserved c =
    let replies = c.deref-reply-items.result.now in
    let i = c.loop-reply.reply-index in
    let there : i < length replies = omega (arith, c.loop-reply-test.true) in
    let more : flat_map reply_line (take (i + 1) replies) ≡ flat_map reply_line (take i replies) ++ reply_line (get_or replies i Done)
    = ap (flat_map reply_line) (take_more replies i Done there)
    ∙ sym (flat_map_more reply_line [] (take i replies) (get_or replies i Done)) in
    cc (c.in_ok-append_reply.ensures.ok, more)

pub returns : goal.returns
returns c =
    let run = c.run_events-folder in
    let begun = c.set_up-folder in
    let replies = c.deref-reply-items.result.now in
    let log = c.log_bytes-log.result.now in
    let empty : Some (disk_of begun.result.0) ≡ Some (durable_disk [] empty_file) = ap (λ (s : FolderView). s.disk) begun.ensures.state in
    let each = rw c.in-Whole.is at run.ensures.outcome in
    let lines = c.loop-reply.invariant ∙ ap (flat_map reply_line) (take_all c.loop-reply.reply-index replies (omega arith)) in
    let is = printed_is replies log _ _ _ _ lines c.in_ok-append_with.ensures.items c.in_ok-push.ensures.items c.in_ok-extend_from_slice.ensures.items in
    let text = c.extend_from_slice.new.self.items in
    let value = replayed _ _ _ (disk_of run.result.0) _ text empty run.ensures.headline run.ensures.run each run.ensures.memory
    (is ∙ ap (λ (replies : List Reply). printed replies log) c.deref-reply-items.ensures.value
    ∙ ap (printed run.result.1.items) c.log_bytes-log.ensures.value) in
    record { value = subst (λ (events : List Event). IsReplayOf events text) (c.deref.ensures.value ∙ begun.ensures.events) value }
