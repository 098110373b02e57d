-- What claims another number for a cable.
use Rattle.std.proofs.Common.{◌≡◌, ◌∙◌, refl, sym, ap, arith, ℕ, ◌==◌, ◌&&◌, not, Bool, true, false, if◌then◌else◌, List, Option, None, Some, Ok, Err, Result, []}
use Rattle.std.proofs.lemmas.Option.{cond_some, none-some}
use Rattle.std.proofs.lemmas.Bool.{eq-eqb, eqb-true}
use Rattle.ipx_wire.specs.Packet.{Parts, packet_of}
use Rattle.ipx_wire.specs.Write.{rip_packet_parts}
use Rattle.ipx_wire.specs.WriteServices.{sap_packet_parts}
use Rattle.ipx_wire.specs.declared.network.Network.{Network}
use Rattle.ipx_wire.specs.declared.packet.PacketFault.{PacketFault}
use Rattle.ipx_wire.specs.declared.rip.Operation.{Operation}
use Rattle.ipx_wire.specs.declared.rip.RipEntry.{RipEntry}
use Rattle.ipx_wire.specs.declared.service.Service.{Service}
use Rattle.ipx_router.specs.Heard.{Heard, heard, heard_in, heard_near}
use Rattle.ipx_router.specs.Port.{Port, port_at, is_local, own_address, everyone, own_services, every_server}
use Rattle.ipx_router.specs.Why.{is_far, is_propagated, why}
use Rattle.ipx_router.specs.declared.why.Why.{Why}
use Rattle.ipx_edge.specs.Claimed.{is_for_routers, is_claim, claimed_in, claimed}

-- ---- another router's broadcasts

-- what all but the first of four tests allow is left to the first
first_of_four : (a b c d : Bool) (x : Option Network) → b ≡ true → c ≡ true → d ≡ true → (if a && b && c && d then x else None) ≡ (if a then x else None)
first_of_four a true true true x b_is c_is d_is = grind arith
first_of_four a b c d x b_is c_is d_is = grind arith

not_local : (local : Bool) (x : Option Network) → (if not local then x else None) ≡ (if local then None else x)
not_local true x = refl
not_local false x = refl

pub routes_claim : (port other : Port) (bytes : List ℕ) (operation : Operation) (entries : List RipEntry)
    → packet_of bytes ≡ Ok (rip_packet_parts (own_address other) (everyone other) operation entries) → claimed port bytes ≡ (if is_local port other.network then None else Some other.network)
routes_claim port other bytes operation entries is =
    let h = (rip_packet_parts (own_address other) (everyone other) operation entries).header in
    ap (claimed_in port) is
    ∙ first_of_four (is_far port h) (is_for_routers h) (h.control == 0) (h.source.network.0 == h.destination.network.0) (Some other.network) refl refl
    (eq-eqb other.network.0 other.network.0 refl)
    ∙ not_local (is_local port other.network) (Some other.network)

pub services_claim : (port other : Port) (bytes : List ℕ) (nearest : Bool) (services : List Service)
    → packet_of bytes ≡ Ok (sap_packet_parts (own_services other) (every_server other) nearest services) → claimed port bytes ≡ (if is_local port other.network then None else Some other.network)
services_claim port other bytes nearest services is =
    let h = (sap_packet_parts (own_services other) (every_server other) nearest services).header in
    ap (claimed_in port) is
    ∙ first_of_four (is_far port h) (is_for_routers h) (h.control == 0) (h.source.network.0 == h.destination.network.0) (Some other.network) refl refl
    (eq-eqb other.network.0 other.network.0 refl)
    ∙ not_local (is_local port other.network) (Some other.network)

-- ---- what a claim isn't

claim_is : (port : Port) (r : Result Parts PacketFault) (network : Network) → claimed_in port r ≡ Some network
    → (p : Parts) × (r ≡ Ok p) × (is_claim port p.header ≡ true) × (p.header.source.network ≡ network)
claim_is port (Ok p) network e = let parts = cond_some (is_claim port p.header) p.header.source.network network e in (p, refl, parts.0, parts.1)
claim_is port (Err fault) network e = absurd (none-some network e)

far_of : (a b c d : Bool) → (a && b && c && d) ≡ true → (a ≡ true) × (d ≡ true)
far_of a b c d e = grind arith

not_near : (propagated local : Bool) → (not propagated && not local) ≡ true → (not propagated && local) ≡ false
not_near propagated local e = grind arith

local_not : (propagated local : Bool) → (not propagated && not local) ≡ true → local ≡ false
local_not propagated local e = grind arith

-- a claim is for another network, and from it
pub is_other : (port : Port) (bytes : List ℕ) (network : Network) → claimed port bytes ≡ Some network → is_local port network ≡ false
is_other port bytes network e =
    let claim = claim_is port (packet_of bytes) network e in
    let h = claim.0.header in
    let both = far_of (is_far port h) (is_for_routers h) (h.control == 0) (h.source.network.0 == h.destination.network.0) claim.2 in
    let same : h.source.network.0 ≡ h.destination.network.0 = eqb-true h.source.network.0 h.destination.network.0 both.1 in
    ap (is_local port) (sym claim.3) ∙ ap (λ (n : ℕ). is_local port (record { 0 = n })) same
    ∙ local_not (is_propagated h) (is_local port h.destination.network) both.0

unheard_in : (port : Port) (reason : Option Why) (r : Result Parts PacketFault) (network : Network) → claimed_in port r ≡ Some network
    → elim reason as (λ _. Option Heard) [ Some it ↦ None | None ↦ elim r as (λ _. Option Heard) [ Ok p ↦ heard_near port p | Err fault ↦ None ] ] ≡ None
unheard_in port (Some it) r network e = refl
unheard_in port None (Err fault) network e = refl
unheard_in port None (Ok p) network e =
    let h = p.header in
    let parts = cond_some (is_claim port h) h.source.network network e in
    let both = far_of (is_far port h) (is_for_routers h) (h.control == 0) (h.source.network.0 == h.destination.network.0) parts.0 in
    ap (λ (b : Bool). if b then heard_in p else None) (not_near (is_propagated h) (is_local port h.destination.network) both.0)

pub unheard : (ports : List Port) (up : List ℕ) (running : Bool) (number : ℕ) (bytes : List ℕ) (network : Network) → claimed (port_at ports number) bytes ≡ Some network
    → heard ports up running number bytes ≡ None
unheard ports up running number bytes network e = unheard_in (port_at ports number) (why ports up [] running number bytes) (packet_of bytes) network e
