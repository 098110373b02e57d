-- What a router says to its neighbours comes in as it is.
use Rattle.std.proofs.Common.{◌≡◌, ◌≢◌, refl, ap, arith, ℕ, ◌<◌, ◌&&◌, Bool, true, false, if◌then◌else◌, inl, List, Some, Ok}
use Rattle.ipx_wire.specs.Numbers.{local_network}
use Rattle.ipx_wire.specs.Packet.{packet_of}
use Rattle.ipx_wire.specs.Sap.{sap_of}
use Rattle.ipx_wire.specs.Write.{rip_packet_parts}
use Rattle.ipx_wire.specs.WriteServices.{sap_packet_parts}
use Rattle.ipx_wire.specs.declared.rip.Operation.{Operation}
use Rattle.ipx_wire.specs.declared.rip.RipEntry.{RipEntry}
use Rattle.ipx_wire.specs.declared.service.Service.{Service}
use Rattle.ipx_router.specs.Port.{Port, IsPort, own_address, everyone, own_services, every_server}
use Rattle.ipx_router.specs.Why.{is_near}
use Rattle.ipx_edge.specs.Entered.{entered}
use Rattle.ipx_edge.specs.Numbered.{is_own_service, services_in, services_told}
use Rattle.ipx_edge.proofs.Held.{same}

named : (port : Port) → IsPort port → port.network.0 ≢ local_network
named port is e = omega (arith, is.some_network, e)

never : (b : Bool) → (b && false) ≡ false
never true = refl
never false = refl

-- routes name no services
none_told : (port other : Port) (operation : Operation) (entries : List RipEntry) → services_told port (rip_packet_parts (own_address other) (everyone other) operation entries) ≡ 0
none_told port other operation entries =
    let p = rip_packet_parts (own_address other) (everyone other) operation entries in
    ap (λ (b : Bool). if b then services_in (sap_of p.payload) else 0) (never (is_near port p.header))

nothing_below : (k count : ℕ) → k < count → count ≡ 0 → ⊥
nothing_below k count few none = omega (arith, few, none)

pub routes_come : (port other : Port) (bytes : List ℕ) (operation : Operation) (entries : List RipEntry) → IsPort other
    → packet_of bytes ≡ Ok (rip_packet_parts (own_address other) (everyone other) operation entries) → entered port bytes ≡ Some bytes
routes_come port other bytes operation entries is_port is =
    same port bytes (rip_packet_parts (own_address other) (everyone other) operation entries) is (inl refl) (named other is_port)
    (λ k few. absurd (nothing_below k (services_told port (rip_packet_parts (own_address other) (everyone other) operation entries)) few (none_told port other operation entries)))

pub services_come : (port other : Port) (bytes : List ℕ) (nearest : Bool) (services : List Service) → IsPort other
    → packet_of bytes ≡ Ok (sap_packet_parts (own_services other) (every_server other) nearest services)
    → ((k : ℕ) → k < services_told port (sap_packet_parts (own_services other) (every_server other) nearest services) → is_own_service k bytes ≡ false)
    → entered port bytes ≡ Some bytes
services_come port other bytes nearest services is_port is all_named =
    same port bytes (sap_packet_parts (own_services other) (every_server other) nearest services) is (inl refl) (named other is_port) all_named
