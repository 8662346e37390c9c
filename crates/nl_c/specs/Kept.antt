-- What a handle owns: the log on the heap where there is one, and else nothing.
use Rattle.std.specs.Prelude.{ℕ, Option, Some, None}
use base.Fml.{Fml, ftrue}
use denote.RawPtr.{Ptr}
use Rattle.std.specs.declared.alloc.Global.{Global}
use Rattle.std.specs.contracts.impls.GlobalAllocator.TheImpl as global
use Rattle.std_alloc.specs.Box.Ownership.{box_owns}
use Rattle.nl_c.specs.declared.handle.Held.{Held}
use Rattle.nl_c.specs.contracts.handle.Held.{the_row}

-- the number that stands in a handle with a log
abbrev pub made : ℕ
made = 0x6e6c6f6768616e64

abbrev pub heap : Global
heap = record { memory = record { seal = tt } }

-- the log and the right to free its block, at the pointer
abbrev pub owned_if : Ptr → Option Held → Fml
owned_if at None = ftrue
owned_if at (Some log) = box_owns (global.ghosts.dealloc_token heap) the_row at log
