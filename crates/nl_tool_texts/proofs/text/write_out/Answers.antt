use Rattle.std.proofs.Common.{◌++◌, take}
use Rattle.nl_tool_texts.proofs.OutputLemmas.{prefix-grows}
use Rattle.std.proofs.KnownBytes.{Appends-trans}
use Rattle.nl_tool_texts.proofs.text.write_out.Goals as goal

pub loop-rest-preserved : goal.loop-rest-preserved
loop-rest-preserved g c =
    let held = c.loop-rest.invariant in (
      held.0 ++ take c.in-Ok.n c.loop-rest.rest.now,
      prefix-grows _ _ _ c.in-Ok.n held.1,
      Appends-trans _ _ _ held.0 (take c.in-Ok.n c.loop-rest.rest.now) held.2 c.in-Ok.ensures.bytes,
    )
