-- What lets what it holds go, as a call that takes its type asks it: of the theorem of its own `drop`. Assumes `Logic`.
use Rattle.std.proofs.Common.{[], refl}
use borrow.Fn.Glue.{glue_by, glue_ps}
use borrow.Fn.Impl.{method_Known, via_longer}
use borrow.Fn.Kinds.{ended_of, stays, r_unit}
use borrow.Fn.Run.{Over}
use borrow.Fn.World.{World}
use contract.Running.{Running}
use denote.Param.{layouts}
use denote.Param.Glue.{Met}
use denote.Triple.Carry.{AllWithin}
use denote.Triple.Clauses.{Lasts, lasts, at_exit}
use denote.Triple.Walked.{Fit}
use mir.Syntax.{Callee, method}
use prog.Model.{Model}
use prog.Wired.{Wired}
use seplogic.Ra.Ura.{Ura}
use types.Logic.{Logic}
use Rattle.nl_c.proofs.BoxedLog.{Log, log_laws, log_drop}
use Rattle.nl_c.proofs.nl_c++handle++Held+Destruct.drop.Kinds.{ps, r}
use Rattle.nl_c.proofs.nl_c++handle++Held+Destruct.drop.Met as dropped
use Rattle.nl_c.proofs.nl_c++handle++Held+Destruct.drop.Reads as reads
use Rattle.nl_c.proofs.nl_c++handle++Held+Destruct.drop.Symbol as symbol

abbrev key : Callee
key = method log_drop 0 (layouts [] tt)

pub log_dropped : {M : Type 1} (𝓤 : Ura M) (𝓛 : Logic 𝓤) (𝓜 : Model 𝓤 𝓛.H) (𝓡 : Running 𝓤 𝓛.H 𝓜) → Wired 𝓡.env symbol.code
    → Met 𝓛 𝓜 𝓡 𝓡.env Log log_drop
log_dropped {M} 𝓤 𝓛 𝓜 𝓡 wired =
    let w : World = record { M = M; 𝓤 = 𝓤; 𝓛 = 𝓛; 𝓜 = 𝓜; 𝓡 = 𝓡 } in
    glue_by Log log_laws w log_drop 𝓡.env (λ κs a. Lasts (ended_of 0 ps r) tt a) (λ κs a. lasts (ended_of 0 ps r) tt a)
    (λ κs a x ws. Fit (ended_of 0 ps r) (stays ps) tt a ws × reads.Learnt tt a x (at_exit (ended_of 0 ps r) tt a ws))
    (λ κs a. AllWithin 1 (κs.0, tt) (Log.lives, tt) × Unit {0}) 0 tt (λ κs a h. ((h, tt), tt))
    (via_longer 𝓛 (Over 𝓛 𝓜 𝓡 𝓡.env) 1
    (glue_ps Log log_laws) r_unit (λ κs a. Lasts (ended_of 0 ps r) tt a) (λ κs a. lasts (ended_of 0 ps r) tt a)
    (λ κs a x ws. Fit (ended_of 0 ps r) (stays ps) tt a ws × reads.Learnt tt a x (at_exit (ended_of 0 ps r) tt a ws))
    (λ κs a. AllWithin 1 (κs.0, tt) (Log.lives, tt) × Unit {0}) key 0 tt (λ κs. tt) (λ κs a. reads.Asked tt a) (λ κs a p. (tt, tt))
    (λ κs bd within a vss qs. method_Known 0 ps r reads.requires reads.ensures reads.Asked reads.Learnt reads.known w symbol.name key
    (symbol.as_method 𝓡.env wired key refl) (dropped.met 𝓤 𝓛 𝓜 𝓡 wired) ((tt, qs, tt, a, vss), tt)))
