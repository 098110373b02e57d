-- Two routers on one segment, 20h. A host on 10h announces a file server, as `Servers` plays it: what both routers have then is as they may know
-- it, one and two hops away. Another host, on 20h, is heard by the first router alone: then the second one hasn't got it, though it has a port
-- on 20h too, since a router doesn't tell of a service where it learned it.
use Rattle.std.proofs.Common.{◌≡◌, refl, sym, ◌∙◌, subst, ◌⊎◌, ℕ, List, [], ◌∷◌, inl, inr, Some, Ok, arith, true, false, ap, slice_get}
use Rattle.std.specs.List.{AllByRecursion}
use Rattle.ipx_wire.specs.Address.{address_bytes, address_at}
use Rattle.ipx_wire.specs.Crossed.{network_bytes, network_at}
use Rattle.ipx_wire.specs.Header.{header_bytes, header_at}
use Rattle.ipx_wire.specs.Items.{items}
use Rattle.ipx_wire.specs.Name.{name_field, name_of}
use Rattle.ipx_wire.specs.Packet.{Parts, packet_of}
use Rattle.ipx_wire.specs.Piece.{IsBytes}
use Rattle.ipx_wire.specs.Rip.{entry_bytes, entry_at, rip_of}
use Rattle.ipx_wire.specs.Sap.{sap_of}
use Rattle.ipx_wire.specs.SapEntries.{sap_entry_at}
use Rattle.ipx_wire.specs.WriteServices.{service_bytes, entry_of, sap_packet, sap_packet_parts}
use Rattle.ipx_wire.specs.declared.address.Address.{Address}
use Rattle.ipx_wire.specs.declared.sap.Sap.TheVariants.{Response}
use Rattle.ipx_router.specs.Facts.{services_held, offers}
use Rattle.ipx_router.specs.Heard.{Heard, HeardSap}
use Rattle.ipx_router.specs.History.{Start, Second, Packet}
use Rattle.ipx_router.specs.Port.{is_local, own_services, every_server}
use Rattle.ipx_router.proofs.bytes.ReadInOneWay.{one_read}
use Rattle.ipx_router.specs.declared.service_offer.ServiceOffer.{ServiceOffer}
use Rattle.ipx_internet.specs.BusyTick.{IsBusyTick}
use Rattle.ipx_internet.specs.Internet.{ports_of}
use Rattle.ipx_internet.specs.Queue.{history_of}
use Rattle.ipx_internet.specs.Run.{Step, Happens, Settles, Run, begun, run_of}
use Rattle.ipx_internet.specs.Ticks.{seconds_of}
use Rattle.ipx_internet.proofs.examples.Waiting.{segment}
use Rattle.ipx_internet.proofs.examples.Words.{network, node, port_on, at}
use Rattle.ipx_internet.proofs.lists.FoundInAList.{it_is}
use Rattle.ipx_laws.specs.Announces.{AsksApart, service_of}
use Rattle.ipx_laws.specs.HeardInTicks.{InTicks}
use Rattle.ipx_laws.specs.Meanwhile.{message_of, LeavesPorts, SaysOnly}
use Rattle.ipx_laws.specs.Regular.{HasRoomFor, HaveOneVoice, IsListedName, IsHeard}
use Rattle.ipx_laws.specs.Servers.{Announcer, NamesOnly, Server, at_hops, IsAnnouncedOn, IsSilentOf, SaysAsAnnounced, IsForHere, SaysNoFalse, IsServed, announced, passed_on, IsAway, beside}
use Rattle.ipx_laws.specs.Ups.{ups}
use Rattle.ipx_laws.proofs.examples.Meanwhile.{are_bytes}
use Rattle.ipx_laws.proofs.examples.Ticks.{of_two}

-- ---- a file server at AAh, which the host of that node announces on a network, one hop away

abbrev address : ℕ → Address
address n = record { network = network n; node = node 0xAA; socket = record { 0 = 0x451 } }

abbrev pub server : ℕ → Server
server n = record {
  kind = 4;
  name = 0x46 ∷ [];
  address = address n;
  announcers = record { network = network n; node = node 0xAA; hops = 1 } ∷ [];
}

-- its announcement, for all servers there
abbrev said_to : ℕ → Address → List ℕ
said_to n to = sap_packet (own_services (port_on n 0xAA)) to false (at_hops (server n) 1 ∷ [])

abbrev pub said : ℕ → List ℕ
said n = said_to n (every_server (port_on n 0xAA))

-- both routers run
abbrev pub start : Run
start = begun ((Start ∷ []) ∷ (Start ∷ []) ∷ [])

-- a tick in which a packet comes to a port of the first router
abbrev pub tick : ℕ → List ℕ → List Step
tick port bytes = Happens 0 Second ∷ Happens 0 (Packet port bytes) ∷ Happens 1 Second ∷ Settles ∷ []

-- what a router has after it
abbrev known : ℕ → List ℕ → ℕ → List ServiceOffer
known port bytes router =
    offers (services_held (ports_of segment router) 8 (history_of (run_of segment 8 8 start (tick port bytes)).histories router))

abbrev pub offer : ℕ → ℕ → ℕ → ℕ → ServiceOffer
offer n hops port k = record { service = at_hops (server n) hops; port = port; node = node k }

-- ---- the host on 10h is heard by all routers there are

pub both_have : known 0 (said 0x10) 0 ∷ known 0 (said 0x10) 1 ∷ [] ≡ (offer 0x10 1 0 0xAA ∷ []) ∷ (offer 0x10 2 0 2 ∷ []) ∷ []
unfolding header_bytes address_bytes network_bytes service_bytes name_field packet_of header_at address_at items network_at entry_bytes entry_at rip_of sap_of sap_entry_at name_of
both_have = refl

pub bytes : IsBytes (said 0x10)
unfolding header_bytes address_bytes network_bytes service_bytes name_field
bytes = are_bytes (said 0x10) refl

pub is_tick : IsBusyTick segment 8 8 start (tick 0 (said 0x10))
unfolding header_bytes address_bytes network_bytes service_bytes name_field packet_of header_at address_at items network_at entry_bytes entry_at rip_of sap_of sap_entry_at name_of
is_tick = record {
  happens = ((omega arith, tt, tt), ((omega arith, omega arith, bytes), ((omega arith, tt, tt), (tt, tt))));
  each = of_two (λ router. seconds_of router (tick 0 (said 0x10)) ≡ 1) refl refl;
  quiet = refl;
}

pub leaves : AllByRecursion LeavesPorts (tick 0 (said 0x10))
leaves = (tt, (tt, (tt, (tt, tt))))

is_announced : IsAnnouncedOn (server 0x10) (network 0x10) (node 0xAA) (at_hops (server 0x10) 1)
is_announced = record { which = 0; listed = refl; addressed = refl }

-- whoever it is for, all or the network 0 for short, it says there what is announced there
says_so : (to : Address) → is_local (port_on 0x10 1) to.network ≡ true → packet_of (said_to 0x10 to) ≡ Ok (sap_packet_parts (own_services (port_on 0x10 0xAA)) to false (at_hops (server 0x10) 1 ∷ []))
    → message_of (said_to 0x10 to) ≡ Some (HeardSap (own_services (port_on 0x10 0xAA)) (Response false (entry_of (at_hops (server 0x10) 1) ∷ [])))
    → SaysNoFalse segment (server 0x10) (Happens 0 (Packet 0 (said_to 0x10 to)))
says_so to local read heard m e =
    it_is (λ (h : Heard). AsksApart h × (IsSilentOf (server 0x10) h ⊎ (IsForHere (port_on 0x10 1) (said_to 0x10 to) × SaysAsAnnounced (server 0x10) (network 0x10) h)))
    m (HeardSap (own_services (port_on 0x10 0xAA)) (Response false (entry_of (at_hops (server 0x10) 1) ∷ []))) (sym heard ∙ e) (
      tt,
      inr (
        here,
        (
          (λ name same of. it_is (λ (n : List ℕ). IsAnnouncedOn (server 0x10) (network 0x10) (node 0xAA) (service_of (entry_of (at_hops (server 0x10) 1)) n))
              name (0x46 ∷ []) same is_announced),
          tt,
        ),
      ),
    )
  where
    here : IsForHere (port_on 0x10 1) (said_to 0x10 to)
    here p is = subst (λ (q : Parts). is_local (port_on 0x10 1) q.header.destination.network ≡ true) (one_read (packet_of (said_to 0x10 to)) _ p read is) local

pub says : SaysNoFalse segment (server 0x10) (Happens 0 (Packet 0 (said 0x10)))
unfolding header_bytes address_bytes network_bytes service_bytes name_field packet_of header_at address_at items network_at entry_bytes entry_at rip_of sap_of sap_entry_at name_of
says = says_so (every_server (port_on 0x10 0xAA)) refl refl refl

pub says_to_no_network : SaysNoFalse segment (server 0x10) (Happens 0 (Packet 0 (said_to 0x10 (record (every_server (port_on 0x10 0xAA)) { network = network 0 }))))
unfolding header_bytes address_bytes network_bytes service_bytes name_field packet_of header_at address_at items network_at entry_bytes entry_at rip_of sap_of sap_entry_at name_of
says_to_no_network = says_so (record (every_server (port_on 0x10 0xAA)) { network = network 0 }) refl refl refl

-- so both may know it as they have it
first_may : IsServed segment (ups segment start.histories) (server 0x10) 0 (offer 0x10 1 0 0xAA)
first_may = announced refl is_announced

pub second_may : IsServed segment (ups segment start.histories) (server 0x10) 1 (offer 0x10 2 0 2)
second_may = passed_on (at 0 1) (offer 0x10 1 0 0xAA) (λ e. absurd (omega (arith, e))) refl refl refl refl refl (omega arith) first_may

-- ---- the host is heard, with one number of hops, and there is room

abbrev pub names : List (ℕ × List ℕ)
names = (4, 0x46 ∷ []) ∷ []

pub room : HasRoomFor segment 8 names
room = record { table = omega arith; shares = (((omega arith), ((omega arith), tt)), ((((omega arith), ((omega arith), tt)), tt))) }

pub names_it : SaysOnly (NamesOnly (IsListedName names)) (Happens 0 (Packet 0 (said 0x10)))
unfolding header_bytes address_bytes network_bytes service_bytes name_field packet_of header_at address_at items network_at entry_bytes entry_at rip_of sap_of sap_entry_at name_of
names_it = ((λ name same. it_is (λ (n : List ℕ). IsListedName names (4, n)) name (0x46 ∷ []) same (0, refl)), tt)

pub is_heard : InTicks segment 8 8 (IsHeard segment 8 8 (server 0x10) (at 0 0) (record { network = network 0x10; node = node 0xAA; hops = 1 })) start (tick 0 (said 0x10) ∷ [])
unfolding header_bytes address_bytes network_bytes service_bytes name_field packet_of header_at address_at items network_at entry_bytes entry_at rip_of sap_of sap_entry_at name_of
is_heard = inr (inl (refl, refl, HeardSap (own_services (port_on 0x10 0xAA)) (Response false (entry_of (at_hops (server 0x10) 1) ∷ [])), refl, (refl, 0, refl)))

pub the_host : (which : ℕ) (host : Announcer) → slice_get (server 0x10).announcers which ≡ Some host → host ≡ record { network = network 0x10; node = node 0xAA; hops = 1 }
the_host which host e = grind arith

pub one_voice : HaveOneVoice (server 0x10)
one_voice a b host other one two network node = ap (λ (h : Announcer). h.hops) (the_host a host one) ∙ sym (ap (λ (h : Announcer). h.hops) (the_host b other two))

-- ---- the host on 20h is heard by the first router alone

pub one_has : known 1 (said 0x20) 0 ∷ known 1 (said 0x20) 1 ∷ [] ≡ (offer 0x20 1 1 0xAA ∷ []) ∷ [] ∷ []
unfolding header_bytes address_bytes network_bytes service_bytes name_field packet_of header_at address_at items network_at entry_bytes entry_at rip_of sap_of sap_entry_at name_of
one_has = refl

pub quiet : (run_of segment 8 8 start (tick 1 (said 0x20))).waiting ≡ []
unfolding header_bytes address_bytes network_bytes service_bytes name_field packet_of header_at address_at items network_at entry_bytes entry_at rip_of sap_of sap_entry_at name_of
quiet = refl

pub still_beside : IsAway segment (ups segment start.histories) (server 0x20) 1 1
still_beside = beside 0 0 _ refl refl refl
