-- A cell for C may go from thread to thread: what it owns names none.
use denote.Struct.Struct.{exits_of}
use denote.Struct.Owning.{shape, fields, to}
use denote.Param.Send.{IsSend, AllSend, owning_send, struct_send, sendable}
use Rattle.std_alloc.proofs.SendSync.{quiet}
use Rattle.std_heap.proofs.Global.TheSendSync as allocator
use Rattle.ipx_c.proofs.Sent.{no_thread}
use Rattle.ipx_c.specs.contracts.keyed_machine.KeyedMachine as OfMachine
use Rattle.ipx_c.proofs.keyed_machine.KeyedMachine.TheSendSync as machine
use Rattle.ipx_c.specs.contracts.cell.KeyedCell.{the_row, the_type}

pub send : IsSend the_row
send =
    let all : AllSend (fields the_type) = (search sendable, (allocator.the_field_send, tt)) in
    owning_send the_type all (λ cell. no_thread OfMachine.the_row machine.the_send cell.alloc cell.at cell.machine)
    (λ k. quiet (to the_type) (exits_of k (fields the_type)) ((struct_send (shape the_type) all).leaving k))
