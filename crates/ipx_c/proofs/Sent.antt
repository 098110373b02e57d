-- What a cell owns names no thread.
use base.Shift.{Keyless}
use mir.Raw.{raw}
use denote.Memory.{lone}
use denote.Param.Send.{IsSend}
use denote.RattleType.{RattleType}
use denote.RawPtr.{Ptr}
use Rattle.std.specs.Prelude.{Option, None, Some}
use Rattle.std.specs.Global.{Global}
use Rattle.std.proofs.Crossing as heap
use Rattle.std_alloc.proofs.SendSync.{lies}
use Rattle.ipx_c.specs.inside.Holds.{holds}

pub no_thread : (R : RattleType) → IsSend R → (alloc : Global) (at : Ptr) (machine : Option R.Denot) → Keyless (holds R alloc at machine)
no_thread R sent alloc at None = tt
no_thread R sent alloc at (Some machine) = (lies R sent at machine, heap.frees.frees alloc (raw (lone R.mir)) at)
