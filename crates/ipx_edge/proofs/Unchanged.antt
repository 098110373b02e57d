-- What numbering leaves as it is.
use Rattle.std.proofs.Common.{◌≡◌, ◌≢◌, ◌∙◌, refl, sym, subst, ap, ap₂, arith, ℕ, zero, suc, ◌^◌, ◌<◌, ◌==◌, ◌&&◌, nat_lt, Bool, true, false, if◌then◌else◌, inl, inr, List, length, Ok, Err, Result}
use Rattle.std.specs.Int.{from_be_bytes, w16, w32}
use Rattle.std.proofs.lemmas.Bool.{ne_eqb, eq-eqb, cases_lt, false≢true}
use Rattle.std.proofs.lemmas.List.{length-map}
use Rattle.ipx_wire.specs.Numbers.{local_network}
use Rattle.ipx_wire.specs.Packet.{Parts, packet_of}
use Rattle.ipx_wire.specs.Piece.{piece}
use Rattle.ipx_wire.specs.Sap.{sap_of}
use Rattle.ipx_wire.specs.declared.header.Header.{Header}
use Rattle.ipx_wire.specs.declared.network.Network.{Network}
use Rattle.ipx_wire.specs.declared.packet.PacketFault.{PacketFault}
use Rattle.ipx_wire.specs.declared.sap.Sap.{Sap}
use Rattle.ipx_wire.specs.declared.sap.Sap.TheVariants.{Query, Response}
use Rattle.ipx_wire.specs.declared.sap.SapFault.{SapFault}
use Rattle.ipx_router.specs.Port.{Port, IsPort}
use Rattle.ipx_router.specs.Why.{is_near, is_for_sap}
use Rattle.ipx_edge.specs.Places.{service_place, hops_place}
use Rattle.ipx_edge.specs.Numbered.{is_unnumbered, with_source, is_own_service, with_service, with_services, services_in, services_told, numbered_in, numbered}
use Rattle.ipx_edge.specs.Laws.{own_service, own_services, is_for_services, IsNumbered, IsApart, IsElsewhere, IsReadAgain}
use Rattle.ipx_edge.proofs.Again.{again, length_new, apart_new, service_new, is_numbered, numbered_is, reads_again}
use Rattle.ipx_edge.proofs.Headers.{from_network}
use Rattle.ipx_edge.proofs.Packets.{reads}

-- a port's network is a number of four bytes, and not 0
pub fits : (port : Port) → IsPort port → port.network.0 < 2 ^ 32
fits port is = omega (arith, is.ordinary_network)

some : (port : Port) → IsPort port → port.network.0 ≢ 0
some port is e = omega (arith, is.some_network, e)

pub read_again : (port : Port) (bytes : List ℕ) (p : Parts) → IsPort port → packet_of bytes ≡ Ok p → IsReadAgain port bytes p
read_again port bytes p port_is is = record {
  packet = again port bytes p (fits port port_is) is;
  read = reads_again port bytes p (fits port port_is) is;
  is = is_numbered port bytes p (fits port port_is) is;
}

-- ---- what is no packet, and what names its networks

pub no_packet : (port : Port) (bytes : List ℕ) (fault : PacketFault) → packet_of bytes ≡ Err fault → numbered port bytes ≡ bytes
unfolding numbered
no_packet port bytes fault is = ap (λ (r : Result Parts PacketFault). numbered_in port r bytes) is

none_own : (port : Port) (bytes : List ℕ) (count : ℕ) → ((k : ℕ) → k < count → is_own_service k bytes ≡ false) → with_services port count bytes ≡ bytes
none_own port bytes zero none = refl
none_own port bytes (suc n) none =
    ap (with_service port n) (none_own port bytes n (λ k below. none k (omega (arith, below)))) ∙ rw (none n (omega arith)) refl

pub known : (port : Port) (bytes : List ℕ) (p : Parts) → packet_of bytes ≡ Ok p → p.header.source.network.0 ≢ local_network
    → ((k : ℕ) → k < services_told port p → is_own_service k bytes ≡ false) → numbered port bytes ≡ bytes
unfolding numbered
known port bytes p is named none =
    let number : p.header.source.network.0 ≡ from_be_bytes w32 (piece bytes 18 4) = ap (λ (r : Parts). r.header.source.network.0) (reads bytes p is).parts ∙ from_network bytes in
    let other : is_unnumbered 18 bytes ≡ false = ne_eqb (from_be_bytes w32 (piece bytes 18 4)) local_network (λ e. named (number ∙ e)) in
    let source : with_source port bytes ≡ bytes = rw other refl in
    ap (λ (r : Result Parts PacketFault). numbered_in port r bytes) is
    ∙ ap (with_services port (services_told port p)) source
    ∙ none_own port bytes (services_told port p) none

-- ---- sizes and places, by what is read

pub no_fault : (r : Result Parts PacketFault) (p : Parts) (fault : PacketFault) → r ≡ Ok p → r ≡ Err fault → ⊥
no_fault r p fault one other = grind arith

of_any : (P : List ℕ → Type 0) (port : Port) (bytes : List ℕ) → ((p : Parts) → packet_of bytes ≡ Ok p → P (numbered port bytes)) → ((fault : PacketFault) → packet_of bytes ≡ Err fault → P bytes)
    → (r : Result Parts PacketFault) → packet_of bytes ≡ r → P (numbered port bytes)
of_any P port bytes packet whole (Ok p) is = packet p is
of_any P port bytes packet whole (Err fault) is = subst P (sym (no_packet port bytes fault is)) (whole fault is)

pub size : (port : Port) (bytes : List ℕ) → IsPort port → length (numbered port bytes) ≡ length bytes
size port bytes port_is =
    of_any (λ l. length l ≡ length bytes) port bytes
    (λ p is. ap length (numbered_is port bytes p (fits port port_is) is) ∙ length_new port bytes p (fits port port_is) is) (λ fault is. refl) (packet_of bytes) refl

pub elsewhere : (port : Port) (bytes : List ℕ) (p : Parts) (place count : ℕ) → IsPort port → packet_of bytes ≡ Ok p → IsElsewhere port p place count
    → piece (numbered port bytes) place count ≡ piece bytes place count
elsewhere port bytes p place count port_is is apart =
    ap (λ (l : List ℕ). piece l place count) (numbered_is port bytes p (fits port port_is) is)
    ∙ apart_new port bytes p (fits port port_is) is place count apart.checksum apart.source apart.services

-- ---- nothing of network 0

own_some : (t : Bool) (a b : Network) → t ≡ (b.0 == 0) → a.0 ≢ 0 → (if t then a else b).0 ≢ 0
own_some true a b is other e = other e
own_some false a b is other e = absurd (false≢true (is ∙ eq-eqb b.0 0 e))

source_of : (port : Port) (p q : Parts) → IsPort port → IsNumbered port p q → q.header.source.network.0 ≢ local_network
source_of port p q port_is is e =
    own_some (p.header.source.network.0 == 0) port.network p.header.source.network refl (some port port_is)
    (sym (ap (λ (h : Header). h.source.network.0) is.header) ∙ e)

pub is_packet : (r : Result Parts PacketFault) (p q : Parts) → r ≡ Ok p → r ≡ Ok q → p ≡ q
is_packet r p q one other = grind arith

source_in : (port : Port) (bytes : List ℕ) (q : Parts) → IsPort port → packet_of (numbered port bytes) ≡ Ok q → (r : Result Parts PacketFault) → packet_of bytes ≡ r
    → q.header.source.network.0 ≢ local_network
source_in port bytes q port_is read (Ok p) is =
    let back = read_again port bytes p port_is is in
    subst (λ (r : Parts). r.header.source.network.0 ≢ local_network) (is_packet (packet_of (numbered port bytes)) back.packet q back.read read)
    (source_of port p back.packet port_is back.is)
source_in port bytes q port_is read (Err fault) is =
    absurd (no_fault (packet_of bytes) q fault (ap packet_of (sym (no_packet port bytes fault is)) ∙ read) is)

pub source : (port : Port) (bytes : List ℕ) (q : Parts) → IsPort port → packet_of (numbered port bytes) ≡ Ok q → q.header.source.network.0 ≢ local_network
source port bytes q port_is read = source_in port bytes q port_is read (packet_of bytes) refl

-- as many services are told as before
as_many : (port : Port) (r : Result Sap SapFault) → services_in (own_services port r) ≡ services_in r
as_many port (Ok (Query nearest kind)) = refl
as_many port (Ok (Response nearest entries)) = length-map entries (own_service port)
as_many port (Err fault) = refl

by_told : (t : Bool) (m n : ℕ) → (t ≡ true → m ≡ n) → (if t then m else 0) ≡ (if t then n else 0)
by_told true m n same = same refl
by_told false m n same = refl

still_told : (port : Port) (p q : Parts) → IsNumbered port p q → services_told port q ≡ services_told port p
still_told port p q is =
    ap (λ (h : Header). if is_near port h && is_for_sap h then services_in (sap_of q.payload) else 0) is.header
    ∙ by_told (is_for_services port p) (services_in (sap_of q.payload)) (services_in (sap_of p.payload))
    (λ true_is. ap services_in (is.services true_is) ∙ as_many port (sap_of p.payload))

-- a number that was filled in is none that is to be filled in
filled : (t near : Bool) (a b : ℕ) → t ≡ ((b == 0) && near) → a ≢ 0 → (((if t then a else b) == 0) && near) ≡ false
filled true near a b is other = ap (λ (x : Bool). x && near) (ne_eqb a 0 other)
filled false near a b is other = sym is

-- the hops of a service stand apart from all networks
apart_hops : (k j : ℕ) → IsApart (hops_place k) 2 (service_place j)
apart_hops k j = elim (cases_lt k j) [ inl before ↦ inl (omega (arith, before)) | inr behind ↦ inr (omega (arith, behind)) ]

none_left : (port : Port) (bytes : List ℕ) (p : Parts) → IsPort port → packet_of bytes ≡ Ok p → (k : ℕ) → k < services_told port p
    → is_own_service k (numbered port bytes) ≡ false
none_left port bytes p port_is is k below =
    let small = fits port port_is in
    let hops = apart_new port bytes p small is (hops_place k) 2 (omega arith) (inr (omega arith)) (λ j under. apart_hops k j) in
    ap (is_own_service k) (numbered_is port bytes p small is)
    ∙ ap₂ (λ (m : ℕ) (b : List ℕ). (m == 0) && nat_lt (from_be_bytes w16 b) 2) (service_new port bytes p small is k below) hops
    ∙ filled (is_own_service k bytes) (nat_lt (from_be_bytes w16 (piece bytes (hops_place k) 2)) 2) port.network.0
    (from_be_bytes w32 (piece bytes (service_place k) 4)) refl (some port port_is)

services_in_new : (port : Port) (bytes : List ℕ) (q : Parts) → IsPort port → packet_of (numbered port bytes) ≡ Ok q → (r : Result Parts PacketFault) → packet_of bytes ≡ r
    → (k : ℕ) → k < services_told port q → is_own_service k (numbered port bytes) ≡ false
services_in_new port bytes q port_is read (Ok p) is k below =
    let back = read_again port bytes p port_is is in
    let same = is_packet (packet_of (numbered port bytes)) back.packet q back.read read in
    let many : services_told port q ≡ services_told port p = ap (services_told port) (sym same) ∙ still_told port p back.packet back.is in
    none_left port bytes p port_is is k (omega (arith, below, many))
services_in_new port bytes q port_is read (Err fault) is k below =
    absurd (no_fault (packet_of bytes) q fault (ap packet_of (sym (no_packet port bytes fault is)) ∙ read) is)

pub services : (port : Port) (bytes : List ℕ) (q : Parts) → IsPort port → packet_of (numbered port bytes) ≡ Ok q → (k : ℕ) → k < services_told port q
    → is_own_service k (numbered port bytes) ≡ false
services port bytes q port_is read = services_in_new port bytes q port_is read (packet_of bytes) refl

-- ---- twice is once

pub twice : (port : Port) (bytes : List ℕ) → IsPort port → numbered port (numbered port bytes) ≡ numbered port bytes
twice port bytes port_is =
    of_any (λ l. numbered port l ≡ l) port bytes
    (λ p is.
    let back = read_again port bytes p port_is is in
    known port (numbered port bytes) back.packet back.read (source port bytes back.packet port_is back.read) (services port bytes back.packet port_is back.read))
    (no_packet port bytes) (packet_of bytes) refl
