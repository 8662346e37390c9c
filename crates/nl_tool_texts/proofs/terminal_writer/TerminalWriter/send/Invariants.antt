use Rattle.std.proofs.Common.{◌≡◌, ◌-◌, length}
use Rattle.std.specs.Io.KnownBytes.{Keeps}
use Rattle.nl_tool_texts.specs.Terminal.{showing_of}
use Rattle.nl_tool_texts.proofs.terminal_writer.TerminalWriter.send.Given as goal

-- the writer has more of what waited, and nothing else is changed
abbrev pub invariant-loop-self : goal.invariant-loop-self
invariant-loop-self g l = record {
  same : Keeps (showing_of g.W.Write.contents l.initial.self).shown (showing_of g.W.Write.contents l.self).shown;
  plain : l.self.at_terminal ≡ l.initial.self.at_terminal;
  begun : l.self.begun ≡ l.initial.self.begun;
  waiting : l.self.waiting ≡ l.initial.self.waiting;
}

abbrev pub decreases-loop-self : goal.decreases-loop-self
decreases-loop-self g l = length l.self.waiting.items - l.self.sent
