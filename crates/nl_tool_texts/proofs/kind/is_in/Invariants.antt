use Rattle.std.proofs.Common.{◌≡◌, drop, map}
use Rattle.nl_tool_texts.specs.Work.{is_in}
use Rattle.nl_tool_texts.proofs.kind.is_in.Given as goal

abbrev pub invariant-loop-word : goal.invariant-loop-word
invariant-loop-word l = is_in l.extension (map (λ w. w.now) (drop l.word-index l.words)) ≡ is_in l.extension (map (λ w. w.now) l.words)
