-- The second router of `Hosts` is beside no host that announces the file server: its fewest hops there are two, one more than the first router's,
-- and so it has it. Where both routers have one node on the segment between them, the second one never hears the first: it has nothing, though
-- the way is there.
use Rattle.std.proofs.Common.{◌≡◌, refl, ap, ◌∙◌, ℕ, ◌≤◌, List, [], ◌∷◌, arith}
use Rattle.ipx_wire.specs.Address.{address_bytes, address_at}
use Rattle.ipx_wire.specs.Crossed.{network_bytes, network_at}
use Rattle.ipx_wire.specs.Header.{header_bytes, header_at}
use Rattle.ipx_wire.specs.Items.{items}
use Rattle.ipx_wire.specs.Name.{name_field, name_of}
use Rattle.ipx_wire.specs.Packet.{packet_of}
use Rattle.ipx_wire.specs.Rip.{entry_bytes, entry_at, rip_of}
use Rattle.ipx_wire.specs.Sap.{sap_of}
use Rattle.ipx_wire.specs.SapEntries.{sap_entry_at}
use Rattle.ipx_wire.specs.WriteServices.{service_bytes}
use Rattle.ipx_router.specs.Facts.{services_held, offers}
use Rattle.ipx_router.specs.declared.service_offer.ServiceOffer.{ServiceOffer}
use Rattle.ipx_internet.specs.Internet.{Internet, network_of, ports_of}
use Rattle.ipx_internet.specs.Queue.{history_of}
use Rattle.ipx_internet.specs.Run.{run_of}
use Rattle.ipx_internet.proofs.examples.Waiting.{segment}
use Rattle.ipx_internet.proofs.examples.Words.{port_on, at}
use Rattle.ipx_laws.specs.Servers.{Announcer, IsAway, IsFewest, beside, beyond}
use Rattle.ipx_laws.specs.Ups.{ups}
use Rattle.ipx_laws.proofs.examples.Hosts.{server, said, start, tick, offer, the_host}

-- ---- two hops away

-- the host says one hop, so nobody has it nearer
at_least_one : {router hops : ℕ} → IsAway segment (ups segment start.histories) (server 0x10) router hops → 1 ≤ hops
at_least_one given = grind arith

-- none of the second router's ports is on that host's network
not_beside : (port : ℕ) → (network_of segment (at 1 port)).0 ≡ 0x10 → ⊥
not_beside port e = grind arith

pub second_fewest : IsFewest segment (ups segment start.histories) (server 0x10) 1 2
second_fewest = (beyond 0 (at 0 1) (λ e. absurd (omega (arith, e))) refl refl refl (beside 0 0 _ refl refl refl), least)
  where
    least : (others : ℕ) → IsAway segment (ups segment start.histories) (server 0x10) 1 others → 2 ≤ others
    least others (beside port which host on listed network) =
        absurd (not_beside port (ap (λ n. n.0) (network ∙ ap (λ (h : Announcer). h.network) (the_host which host listed))))
    least others (beyond port from other on there network way) = let one = at_least_one way in omega (arith, one)

-- ---- with one node twice

abbrev twins : Internet
twins = (port_on 0x10 1 ∷ port_on 0x20 2 ∷ []) ∷ (port_on 0x20 2 ∷ port_on 0x30 4 ∷ []) ∷ []

abbrev known : ℕ → List ServiceOffer
known router = offers (services_held (ports_of twins router) 8 (history_of (run_of twins 8 8 start (tick 0 (said 0x10))).histories router))

pub second_has_none : known 0 ∷ known 1 ∷ [] ≡ (offer 0x10 1 0 0xAA ∷ []) ∷ [] ∷ []
unfolding header_bytes address_bytes network_bytes service_bytes name_field packet_of header_at address_at items network_at entry_bytes entry_at rip_of sap_of sap_entry_at name_of
second_has_none = refl

pub quiet : (run_of twins 8 8 start (tick 0 (said 0x10))).waiting ≡ []
unfolding header_bytes address_bytes network_bytes service_bytes name_field packet_of header_at address_at items network_at entry_bytes entry_at rip_of sap_of sap_entry_at name_of
quiet = refl

pub still_two_away : IsAway twins (ups twins start.histories) (server 0x10) 1 2
still_two_away = beyond 0 (at 0 1) (λ e. absurd (omega (arith, e))) refl refl refl (beside 0 0 _ refl refl refl)
