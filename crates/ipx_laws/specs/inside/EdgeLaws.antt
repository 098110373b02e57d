-- What the proofs of edges take as given.
use Rattle.std.specs.Prelude.{◌≡◌, ◌≢◌, ℕ, ◌<◌, ◌⊎◌, Bool, true, false, List, None, Some, Ok}
use Rattle.ipx_wire.specs.Numbers.{local_network}
use Rattle.ipx_wire.specs.Packet.{Parts, packet_of}
use Rattle.ipx_router.specs.Heard.{Heard, heard}
use Rattle.ipx_router.specs.Port.{Port, IsPort, port_at}
use Rattle.ipx_edge.specs.Entered.{is_for_neighbours, entered}
use Rattle.ipx_edge.specs.Laws.{IsDirect}
use Rattle.ipx_edge.specs.Numbered.{is_own_service, services_told, numbered}

-- the laws of edges
pub record Edge : Type 0 where
  pub names : (port : Port) (bytes : List ℕ) (q : Parts) → IsPort port → packet_of (numbered port bytes) ≡ Ok q → q.header.source.network.0 ≢ local_network
  pub held : (port : Port) (bytes : List ℕ) (p : Parts) → packet_of bytes ≡ Ok p → is_for_neighbours port p.header ≡ true → p.header.control ≢ 0
      → entered port bytes ≡ None
  pub same : (port : Port) (bytes : List ℕ) (p : Parts) → packet_of bytes ≡ Ok p → (p.header.control ≡ 0) ⊎ (is_for_neighbours port p.header ≡ false)
      → p.header.source.network.0 ≢ local_network → ((k : ℕ) → k < services_told port p → is_own_service k bytes ≡ false)
      → entered port bytes ≡ Some bytes
  pub direct : (ports : List Port) (up : List ℕ) (running : Bool) (number : ℕ) (bytes new : List ℕ) (message : Heard) → IsPort (port_at ports number)
      → entered (port_at ports number) bytes ≡ Some new → heard ports up running number new ≡ Some message → IsDirect bytes
