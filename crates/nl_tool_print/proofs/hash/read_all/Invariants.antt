use Rattle.std.proofs.Common.{◌<◌, ◌≤◌, length}
use Rattle.std.specs.Io.KnownBytes.{Consumes}
use Rattle.nl_tool_print.proofs.hash.read_all.Given as goal

-- what was read is held, and there is room to ask for more
abbrev pub invariant-pieces : goal.invariant-pieces
invariant-pieces g l = record {
  read : Consumes (g.S.Source.ahead l.initial.source) (g.S.Source.ahead l.source) l.all.items;
  room : 0 < length l.piece.items;
  rises : g.S.Source.failures l.initial.source ≤ g.S.Source.failures l.source;
  relation : g.S.Source.keeps l.initial.source l.source;
}
