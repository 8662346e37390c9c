-- The machine value of a `Kept`: what is owned tells it, and is made of nothing.
use Rattle.std.proofs.Common.{◌≡◌, ℕ, zero, suc, List, [], ◌∷◌, ◌++◌, refl, sym, ◌∙◌, lit<, true≢false}
use Rattle.std.specs.Prelude.{Option, Some, None, IsSome}
use seplogic.Ra.Ura.{Ura}
use mir.Syntax.{ty_ptr, ty_struct, tcons, tnil}
use mir.Val.{Val, vstruct, vcons, vnil, of_list}
use base.Logic.{ent, emp}
use base.Fml.{Fml}
use types.Logic.{Logic, sem}
use denote.RawPtr.{Ptr, RawPtr, block_ptr, null_ptr, ptr_val}
use denote.Builtin.{unit}
use denote.Signature.{Slot, plain}
use denote.Shadow.{shadow, makes_shadow}
use denote.Struct.Struct.{Struct}
use Rattle.core.proofs.cell.Inside.{Good}

pub ptr_typed : (p : Ptr) → Good ty_ptr (ptr_val p)
ptr_typed (block_ptr b o) = (tt, tt)
ptr_typed null_ptr = (tt, record { fits = lit< tt })

abbrev pub kept_val : Ptr → Val
kept_val p = vstruct (vcons (ptr_val p) vnil)

abbrev pub kept_own : Ptr → List Val → Fml
kept_own p = (Struct (record { name = []; args = []; types = []; fields = RawPtr ∷ [] })).own_val (p, tt)

pub kept_told : (p : Ptr) (vs : List Val) → shadow (kept_own p vs) → vs ≡ kept_val p ∷ []
kept_told p vs s = s.1.0 ∙ (λ i. vstruct (of_list (s.1.1.0 i ++ [])) ∷ [])

pub kept_made : {M : Type 1} {𝓤 : Ura M} (𝓛 : Logic 𝓤) (p : Ptr) → ent 𝓤 (emp 𝓤) (sem 𝓛 (kept_own p (kept_val p ∷ [])))
kept_made 𝓛 p = makes_shadow 𝓛 (kept_own p (kept_val p ∷ [])) (λ _. (tt, (tt, tt))) ((ptr_val p ∷ [], tt), (refl, (refl, tt)))

pub kept_typed : (p : Ptr) → Good (ty_struct [] (tcons ty_ptr tnil)) (kept_val p)
kept_typed (block_ptr b o) = (tt, (tt, tt))
kept_typed null_ptr = (tt, (record { fits = lit< tt }, tt))

abbrev pub slot_at : {n : ℕ} → ℕ → List (Slot n) → Slot n
slot_at k [] = plain (λ _. unit)
slot_at zero (s ∷ ss) = s
slot_at (suc k) (s ∷ ss) = slot_at k ss

pub some_of : {T : Type 0} (o : Option T) → IsSome o → (x : T) × (o ≡ Some x)
some_of None s = absurd (true≢false (sym s))
some_of (Some x) s = (x, refl)
