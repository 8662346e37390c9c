use Rattle.std.proofs.Common.{◌≡◌, ◌<◌, ◌⊎◌, ℕ, Bool, true, false, List, Option, Result, Err, ap, inl, inr, arith, length, subst, sym}
use Rattle.std.proofs.lemmas.Bool.{ltb-false, ltb-true}
use Rattle.std.specs.Prelude.{flat_map, nat_lt}
use Rattle.std.specs.Io.KnownBytes.{Keeps}
use Rattle.nl_tool_doubt.specs.Doubts.{IsDoubts, damaged_by, doubt_line}
use Rattle.nl_tool_doubt.specs.declared.doubts.Doubts.{Doubts}
use Rattle.nl_tool_doubt.specs.declared.files.FileState.{FileState}
use Rattle.nl_tool_texts.specs.Output.{AppendsPrefixOf}
use Rattle.nl_tool_texts.specs.declared.fault.ToolFault.{ToolFault}
use Rattle.nl_tool_texts.specs.declared.fault.ToolFault.TheVariants.{Memory, Write}
use Rattle.nl_tool.specs.Ending.{verdict_of}
use Rattle.nl_tool.specs.Printed.{TellsDoubts}
use Rattle.nl_tool.specs.declared.program.Verdict.{Verdict}
use Rattle.nl_tool.specs.declared.program.Verdict.TheVariants.{Found}
use Rattle.nl_tool.proofs.doubting.tell_doubts.Goals as goal

abbrev failed : ToolFault → Result Bool ToolFault
failed fault = Err fault

found_iff : (count : ℕ) (found : Bool) (outcome : Verdict) → found ≡ nat_lt 0 count → outcome ≡ verdict_of found
    → (outcome ≡ Found → 0 < count) × (0 < count → outcome ≡ Found)
found_iff count true outcome some is = ((λ _. ltb-true 0 count (sym some)), (λ _. is))
found_iff count false outcome none is =
    let few = ltb-false 0 count (sym none) in ((λ found. absurd (cc (found, is))), (λ some. absurd (omega (arith, some, few))))

told_failed : (states : Option (List ℕ → FileState)) (log : List ℕ) (from to : Option (List ℕ)) (doubts : Doubts) (fault : ToolFault)
    → IsDoubts (damaged_by false log) log states doubts → (fault ≡ Write) ⊎ (fault ≡ Memory)
    → (fault ≡ Write → AppendsPrefixOf from to (flat_map doubt_line doubts.named.items)) → (fault ≡ Memory → Keeps from to)
    → TellsDoubts states log from to (Err fault)
told_failed states log from to doubts fault are (inl is) part kept =
    subst (λ f. TellsDoubts states log from to (Err f)) (sym is) (doubts, are, part is)
told_failed states log from to doubts fault are (inr is) part kept =
    subst (λ f. TellsDoubts states log from to (Err f)) (sym is) (kept is)

pub returns-in-Ok-clause-tells : goal.returns-in-Ok-clause-tells
returns-in-Ok-clause-tells g c =
    let ok = rw c.as_slice.ensures.value at c.in-Ok.ensures.ok in
    let count = length c.in_ok-doubts.doubts.named.items in
    (c.in_ok-doubts.doubts, c.in_ok-doubts.ensures.value, ok.0, found_iff count c.in-Ok.found c.of.result ok.1 c.of.ensures.value)

pub returns-clause-tells : goal.returns-clause-tells
returns-clause-tells g c =
    told_failed _ c.args.log.now _ _ c.in_ok-doubts.doubts c.in-Err.fault c.in_ok-doubts.ensures.value c.in-Err.ensures.faults
    (λ is. (rw c.as_slice.ensures.value at c.in-Err.ensures.prefix) (ap failed is)) (λ is. c.in-Err.ensures.memory (ap failed is))
