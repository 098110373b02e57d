-- What a router is after a history: its routes with their ages, and its count towards the next periodic second.
use Rattle.std.proofs.Common.{ℕ, List, [], ◌∷◌, ◌++◌, Bool, true, false, true≢false, sym, refl, arith, replicate}
use Rattle.hex.specs.Hex.{decode_pairs}
use Rattle.ipx_wire.specs.Address.{address_bytes, address_at}
use Rattle.ipx_wire.specs.Crossed.{network_bytes, network_at}
use Rattle.ipx_wire.specs.Header.{header_bytes, header_at}
use Rattle.ipx_wire.specs.Items.{items}
use Rattle.ipx_wire.specs.Name.{name_of, name_field}
use Rattle.ipx_wire.specs.Packet.{packet_of}
use Rattle.ipx_wire.specs.Rip.{rip_of, entry_at, entry_bytes}
use Rattle.ipx_wire.specs.Sap.{sap_of}
use Rattle.ipx_wire.specs.SapEntries.{sap_entry_at}
use Rattle.ipx_wire.specs.WriteServices.{service_bytes}
use Rattle.ipx_router.specs.History.{History, Start, Stop, Second, PortDown}
use Rattle.ipx_router.specs.Stands.{State, StandsFor}
use Rattle.ipx_router.proofs.examples.Words.{node, two_ports, held_route, heard_of_30}

-- network 30h was heard of 75 seconds ago
abbrev after_75_seconds : History
after_75_seconds = heard_of_30 ++ replicate 75 Second

-- the router with a route of that age, and with that count of seconds
abbrev counting : (age seconds : ℕ) → State
counting age seconds = record {
  ports = two_ports;
  running = true;
  up = 0 ∷ 1 ∷ [];
  seconds = seconds;
  routes = held_route 0x30 1 2 1 (node 0xBB) age ∷ [];
  services = [];
}

-- the last period ended 15 seconds ago
pub counts_15 : StandsFor 256 128 (counting 75 15) after_75_seconds
unfolding decode_pairs header_bytes address_bytes entry_bytes network_bytes service_bytes name_field packet_of header_at address_at rip_of entry_at sap_of items sap_entry_at name_of network_at
counts_15 = record { routes_stand = refl; services_stand = refl; runs = refl; ups = refl; counts = λ runs. refl }

-- it doesn't count all seconds
pub not_75 : StandsFor 256 128 (counting 75 75) after_75_seconds → ⊥
not_75 stands = grind arith

-- a full minute is no count
pub not_60 : StandsFor 256 128 (counting 60 60) (heard_of_30 ++ replicate 60 Second) → ⊥
not_60 stands = grind arith

-- the count begins with the last start that found the router stopped; one that found it running counts for nothing
abbrev started_anew : History
started_anew = heard_of_30 ++ replicate 40 Second ++ Stop ∷ Start ∷ replicate 50 Second ++ Start ∷ replicate 25 Second

abbrev anew : Bool → List ℕ → ℕ → State
anew running up seconds = record { ports = two_ports; running = running; up = up; seconds = seconds; routes = []; services = [] }

pub counts_from_the_start : StandsFor 256 128 (anew true (0 ∷ 1 ∷ []) 15) started_anew
unfolding decode_pairs header_bytes address_bytes entry_bytes network_bytes service_bytes name_field packet_of header_at address_at rip_of entry_at sap_of items sap_entry_at name_of network_at
counts_from_the_start = record { routes_stand = refl; services_stand = refl; runs = refl; ups = refl; counts = λ runs. refl }

-- with a port down it counts on
pub counts_with_a_port_down : StandsFor 256 128 (anew true (0 ∷ []) 15) (heard_of_30 ++ replicate 50 Second ++ PortDown 1 ∷ replicate 25 Second)
unfolding decode_pairs header_bytes address_bytes entry_bytes network_bytes service_bytes name_field packet_of header_at address_at rip_of entry_at sap_of items sap_entry_at name_of network_at
counts_with_a_port_down = record { routes_stand = refl; services_stand = refl; runs = refl; ups = refl; counts = λ runs. refl }

-- of a stopped router the count means nothing: a new one stands for the empty history, whatever it counts
pub a_new_one : (seconds : ℕ) → StandsFor 256 128 (anew false [] seconds) []
a_new_one seconds = record { routes_stand = refl; services_stand = refl; runs = refl; ups = refl; counts = λ runs. absurd (true≢false (sym runs)) }
