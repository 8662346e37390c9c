-- The status after a command line.
use Rattle.std.proofs.Common.{◌≡◌, ℕ, List, [], ◌∷◌, Option, None, Some, Result, Ok, Err, refl, sym, inl, inr, subst}
use Rattle.std.specs.Prelude.{◌⊎◌, IfOk, IsErrOf, OnOk}
use Rattle.clap.specs.Words.{HasKind, Kinds, Row, Text, kind_of}
use Rattle.clap.specs.declared.error.Error.{Error}
use Rattle.nl_tool_texts.specs.declared.fault.ToolFault.{ToolFault}
use Rattle.nl_tool.specs.Ending.{IsEnded, IsStatusBy, IsStatusOfKind, NamesFinding, status_after}
use Rattle.nl_tool_texts.specs.declared.fault.ToolFault.TheVariants.{Write}
use Rattle.nl_tool.specs.Faults.{CanBeDone, CanFind}
use Rattle.nl_tool.specs.declared.program.Verdict.{Verdict}
use Rattle.nl_tool.specs.declared.program.Verdict.TheVariants.{Done, Found}
use Rattle.nl_tool_words.specs.CommandLine.{IsSaid}
use Rattle.nl_tool_words.specs.declared.words.Changing.TheVariants.{Prune, Retime}
use Rattle.nl_tool_words.specs.declared.words.Reading.TheVariants.{Damage, Doubt}
use Rattle.nl_tool_words.specs.declared.words.Words.{Words}
use Rattle.nl_tool_words.specs.declared.words.Words.TheVariants.{Read, Change, Mend}

pub IsStatusBy_kind : (kinds : Kinds) (entered : Option (Text × List Row)) (e : Error) (status : ℕ) → HasKind kinds e
    → IsStatusOfKind (kind_of e) status → IsStatusBy kinds entered status
IsStatusBy_kind [] entered e status (inl memory) s = inl (inr (subst (λ k. IsStatusOfKind k status) memory s))
IsStatusBy_kind [] entered e status (inr among) s = absurd among
IsStatusBy_kind (k ∷ ks) entered e status (inl memory) s = inl (subst (λ k. IsStatusOfKind k status) memory s)
IsStatusBy_kind (k ∷ ks) entered e status (inr among) s = inr (kind_of e, among, s)

-- only those words ask for what they find
names_finding : (w : Words) (entered : Option (Text × List Row)) → IsSaid w entered → CanFind w → NamesFinding entered
names_finding w None said asks = absurd (subst CanFind said asks)
names_finding (Read Damage log choices) (Some p) said asks = inl (sym said.0)
names_finding (Read Doubt log choices) (Some p) said asks = inr (inl (sym said.0))
names_finding (Mend log choices) (Some p) said asks = inr (inr (inl (sym said.0)))
names_finding (Change Prune log file) (Some p) said asks = inr (inr (inr (inl (sym said.0))))
names_finding (Change Retime log file) (Some p) said asks = inr (inr (inr (inr (sym said.0))))
names_finding _ (Some p) said asks = absurd asks

-- the status after a command
pub command_ended : (kinds : Kinds) (w : Words) (entered : Option (Text × List Row)) (answer : Result Verdict ToolFault) (status : ℕ)
    → kinds ≡ [] → IsSaid w entered → IfOk answer (λ outcome. outcome ≡ Found → CanFind w) → status ≡ status_after answer
    → IsStatusBy kinds entered status
command_ended kinds w entered answer status none said only is =
    subst (λ (ks : Kinds). IsStatusBy ks entered status) (sym none) (ended answer only is)
  where
    ended : (answer : Result Verdict ToolFault) → IfOk answer (λ outcome. outcome ≡ Found → CanFind w)
        → status ≡ status_after answer → IsEnded entered status
    ended (Ok Done) only is = inl (inl is)
    ended (Ok Found) only is = inr (is, names_finding w entered said (only refl))
    ended (Err fault) only is = inl (inr is)

-- what was held back of a text may fail to be written
pub ended_so : (answer last : Result Verdict ToolFault) (w : Words) → (last ≡ answer) ⊎ IsErrOf last Write → OnOk answer (CanBeDone w)
    → IfOk answer (λ outcome. outcome ≡ Found → CanFind w) → IfOk last (λ outcome. CanBeDone w × (outcome ≡ Found → CanFind w))
ended_so (Ok outcome) last w (inl same) done finds = subst (λ r. IfOk r (λ outcome. CanBeDone w × (outcome ≡ Found → CanFind w))) (sym same) (done, finds)
ended_so (Err fault) last w (inl same) done finds = subst (λ r. IfOk r (λ outcome. CanBeDone w × (outcome ≡ Found → CanFind w))) (sym same) tt
ended_so answer last w (inr failed) done finds = subst (λ r. IfOk r (λ outcome. CanBeDone w × (outcome ≡ Found → CanFind w))) (sym failed) tt
