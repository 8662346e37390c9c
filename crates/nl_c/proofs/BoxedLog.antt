-- A box of what it holds on the heap, as the calls that take one apart and make one see it: the two types as arguments of a call, with
-- their laws.
--     Log, Heap        the log's type and the heap's.        log_lasts, heap_lasts     neither has a lifetime in it
--     boxed, TheBox    the box of them
--     held_at, freed_at     what the box owns at its pointer, and of that the right to free the block
use Rattle.std.proofs.Common.{[], ◌∷◌, refl}
use base.Fml.{Fml}
use contract.BorrowLft.{◌⊑◌}
use denote.Exit.{no}
use denote.Param.{arg, layout, param}
use denote.Param.Laws.{Laws, arg_laws}
use denote.RattleType.{RattleType}
use denote.RawPtr.{Ptr}
use mir.Raw.{raw}
use mir.Syntax.{Dict, Ty, impl, tcons, tnil, dnil}
use Rattle.std_alloc.specs.Box.Ownership.{box_owns}
use Rattle.std_alloc.proofs.BoxSteps.Form.{Bx, B}
use Rattle.std.specs.contracts.alloc.Global as heap
use Rattle.std.specs.contracts.impls.GlobalAllocator.TheImpl as global
use Rattle.std.proofs.alloc.Global.TheLaws as of_heap
use Rattle.nl_c.specs.Kept.{heap as the_heap}
use Rattle.nl_c.specs.declared.handle.Held.{Held}
use Rattle.nl_c.specs.contracts.handle.Held as log
use Rattle.nl_c.proofs.handle.Held.TheLaws as of_log

abbrev log_ty : Ty
log_ty = raw (layout log.the_row)

abbrev heap_ty : Ty
heap_ty = raw (layout heap.the_row)

abbrev pub Log : RattleType
Log = arg log_ty no log.the_row

abbrev pub Heap : RattleType
Heap = arg heap_ty no heap.the_row

abbrev pub log_laws : Laws Log
log_laws = arg_laws log_ty no log.the_row of_log.the_row_laws refl

abbrev pub heap_laws : Laws Heap
heap_laws = arg_laws heap_ty no heap.the_row of_heap.the_row_laws refl

pub log_lasts : [] ⊑ Log.lives
log_lasts = of_log.the_within []

pub heap_lasts : [] ⊑ Heap.lives
heap_lasts = of_heap.the_within []

-- what lets the heap's handle go, and a log
abbrev pub no_drop : Dict
no_drop = impl ("nl_c::Destruct++none::drop" ∷ []) (tcons heap_ty tnil) dnil

abbrev pub log_drop : Dict
log_drop = impl ("nl_c::nl_c++handle++Held+Destruct::drop" ∷ []) tnil dnil

abbrev pub boxed : Bx
boxed =
    record { row = Log; laws = log_laws; al = record { row = Heap; laws = heap_laws; g = global.ghosts; d = global.dict; drops = no_drop } }

abbrev pub TheBox : RattleType
TheBox = B boxed

abbrev pub held_at : Ptr → Held → Fml
held_at p v = box_owns (global.ghosts.dealloc_token the_heap) (param 0 Log) p v

abbrev pub freed_at : Ptr → Fml
freed_at p = global.ghosts.dealloc_token the_heap (raw log_ty) p
