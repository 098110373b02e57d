use Rattle.std.proofs.Common.{ℕ, ◌≤◌, arith, List, ◌∷◌, length, length-take, Result, Ok, Err}
use Rattle.ipx_wire.specs.Packet.{Parts, packet_of}
use Rattle.ipx_wire.specs.declared.packet.PacketFault.{PacketFault}
use Rattle.ipx_tunnel.specs.Says.{packet_in}
use Rattle.ipx_keyed.specs.Events.{Datagram}
use Rattle.ipx_keyed.specs.Says.{said}
use Rattle.ipx_keyed.specs.Tables.{clients, waiting}
use Rattle.ipx_keyed.proofs.Counting.{capacity_waiting, share_waiting, once_waiting}
use Rattle.ipx_keyed.proofs.Sending.{count_bounded, own_one}
use Rattle.ipx_keyed.proofs.laws.bounded.Goals as goal

no_longer : (bytes : List ℕ) (r : Result Parts PacketFault) → length (packet_in bytes r) ≤ length bytes
no_longer bytes (Ok packet) = omega (arith, length-take packet.header.length bytes)
no_longer bytes (Err fault) = omega arith

pub returns-clause-count : goal.returns-clause-count
returns-clause-count c = λ setting history. count_bounded setting history

pub returns-clause-own : goal.returns-clause-own
returns-clause-own c = λ setting history from bytes.
    let now = Datagram from bytes ∷ history in
    own_one setting (clients setting now) (waiting setting now) from (said setting.network from bytes)

pub returns-clause-carried : goal.returns-clause-carried
returns-clause-carried c = λ from bytes. no_longer bytes (packet_of bytes)

pub returns-clause-remembered : goal.returns-clause-remembered
returns-clause-remembered c = λ setting history. capacity_waiting setting history

pub returns-clause-share : goal.returns-clause-share
returns-clause-share c = λ setting history place. share_waiting setting history place

pub returns-clause-once : goal.returns-clause-once
returns-clause-once c = λ setting history place. once_waiting setting history place
