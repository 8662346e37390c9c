use Rattle.std.proofs.Common.{◌+◌, drop}
use Rattle.nl_tool_texts.proofs.TerminalLemmas.{parted, sends}
use Rattle.nl_tool_texts.proofs.terminal_writer.TerminalWriter.send.Goals as goal

pub loop-self-preserved : goal.loop-self-preserved
loop-self-preserved g c =
    let self = c.loop-self.self in
    let count = c.in_ok-count.count in
    let waiting = self.waiting.items in
    record {
      same = sends _ _ _ _ _ (drop (self.sent + count) waiting) (parted count self.sent waiting c.as_slice.result.now c.as_slice.ensures.value)
          c.loop-self.invariant.same c.in_ok-count.ensures.bytes;
      plain = c.loop-self.invariant.plain;
      begun = c.loop-self.invariant.begun;
      waiting = c.loop-self.invariant.waiting;
    }
