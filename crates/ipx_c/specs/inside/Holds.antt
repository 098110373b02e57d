-- What a cell owns: nothing, or the memory in which its machine lies, with what the machine owns.
use Rattle.std.specs.Prelude.{Option, None, Some}
use Rattle.std.specs.Box.Ownership.{box_owns}
use Rattle.std.specs.Global.{Global}
use Rattle.std_heap.specs.contracts.GlobalAllocator.TheImpl.{ghosts}
use base.Fml.{Fml, ftrue}
use denote.RattleType.{RattleType}
use denote.RawPtr.{Ptr}

-- a machine lies at that pointer, in memory of that allocator; or there is none
abbrev pub holds : (R : RattleType) → Global → Ptr → Option R.Denot → Fml
holds R alloc at None = ftrue
holds R alloc at (Some machine) = box_owns (ghosts.dealloc_token alloc) R at machine
