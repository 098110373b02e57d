-- A router hears what another one broadcasts on a common network: a page of entries, or of services.
use Rattle.std.proofs.Common.{◌≡◌, ◌≢◌, refl, ap, ◌∙◌, ℕ, ◌||◌, true, false, List, [], ◌∷◌, ◌++◌, map, Option, Some, None, Result, Ok, Err, arith, rules}
use Rattle.std.proofs.lemmas.Bool.{or_right}
use Rattle.ipx_wire.specs.Packet.{Parts}
use Rattle.ipx_wire.specs.Rip.{rip_of}
use Rattle.ipx_wire.specs.Sap.{sap_of}
use Rattle.ipx_wire.specs.Write.{rip_packet_parts, rip_payload}
use Rattle.ipx_wire.specs.WriteServices.{entry_of, sap_packet_parts, sap_payload}
use Rattle.ipx_wire.specs.declared.node.Node.{Node}
use Rattle.ipx_wire.specs.declared.rip.Operation.TheVariants.{Response}
use Rattle.ipx_wire.specs.declared.rip.RipEntry.{RipEntry}
use Rattle.ipx_wire.specs.declared.sap.Sap.TheVariants.{Response as SapResponse}
use Rattle.ipx_wire.specs.declared.service.Service.{Service}
use Rattle.ipx_wire.specs.declared.packet.PacketFault.{PacketFault}
use Rattle.ipx_router.specs.Heard.{Heard, HeardRip, HeardSap, heard, heard_near}
use Rattle.ipx_router.specs.Port.{Port, broadcast, port_at, is_up, is_local, same_node, own_address, everyone, own_services, every_server}
use Rattle.ipx_router.specs.Why.{checks, first_of, when, is_stopped, is_down_port}
use Rattle.ipx_router.specs.declared.why.Why.{Why}
use Rattle.ipx_router.specs.declared.why.Why.TheVariants.{NotRunning, Malformed, DownPort}
use Rattle.ipx_router.proofs.verdicts.SentOnPassesChecks.{all_checks}
use Rattle.ipx_internet.proofs.packets.PagesReadAgain.{IsRipPage, IsSapPage}
use Rattle.ipx_laws.proofs.records.SameSource.{same_bytes}

-- nodes that differ aren't the same
pub nodes_apart : (a b : Node) → a ≢ b → same_node a b ≡ false
nodes_apart a b apart = search (rules, same_bytes)

module _ (ports : List Port) (up : List ℕ) (number : ℕ) (on : is_up up number ≡ true) (from : Port)
    (network : from.network ≡ (port_at ports number).network) (other : from.node ≢ (port_at ports number).node) (one : from.node ≢ broadcast) where
  here : is_local (port_at ports number) from.network ≡ true
  here = grind arith

  for_all : (same_node broadcast (port_at ports number).node || true) ≡ true
  for_all = or_right (same_node broadcast (port_at ports number).node) true refl

  near_passes : (page : List RipEntry) → rip_of (rip_payload Response page) ≡ Ok (record { operation = Response; entries = page })
      → first_of (all_checks ports up [] (port_at ports number) number (rip_packet_parts (own_address from) (everyone from) Response page)) ≡ None
  near_passes page says = search (rules, here, for_all, nodes_apart)

  near_heard : (page : List RipEntry) → rip_of (rip_payload Response page) ≡ Ok (record { operation = Response; entries = page })
      → heard_near (port_at ports number) (rip_packet_parts (own_address from) (everyone from) Response page)
      ≡ Some (HeardRip (own_address from) (record { operation = Response; entries = page }))
  near_heard page says = grind arith

  judged_by : Option Why → Parts → Option Heard
  judged_by o p = elim o [ Some reason ↦ None | None ↦ heard_near (port_at ports number) p ]

  heard_by : Result Parts PacketFault → Option Heard
  heard_by r =
      elim (first_of (when (is_stopped true) NotRunning ∷ elim r [ Ok p ↦ None | Err fault ↦ Some (Malformed fault) ]
      ∷ (elim r [ Ok p ↦ checks ports up [] (port_at ports number) p | Err fault ↦ [] ] ++ when (is_down_port up number) DownPort ∷ []))) [
        | Some reason ↦ None
        | None ↦ elim r [ Ok p ↦ heard_near (port_at ports number) p | Err fault ↦ None ]
      ]

  -- a page of entries
  pub heard_page : (P : RipEntry → Type 0) (bytes : List ℕ) → (is : IsRipPage P (own_address from) (everyone from) bytes)
      → heard ports up true number bytes ≡ Some (HeardRip (own_address from) (record { operation = Response; entries = is.page }))
  unfolding judged_by heard_by
  heard_page P bytes is =
      let p = rip_packet_parts (own_address from) (everyone from) Response is.page in
      ap heard_by is.read ∙ ap (λ o. judged_by o p) (near_passes is.page is.says) ∙ near_heard is.page is.says

  -- ---- services

  services_pass : (page : List Service) → sap_of (sap_payload false page) ≡ Ok (SapResponse false (map entry_of page))
      → first_of (all_checks ports up [] (port_at ports number) number (sap_packet_parts (own_services from) (every_server from) false page)) ≡ None
  services_pass page says = search (rules, here, for_all, nodes_apart)

  services_near : (page : List Service) → sap_of (sap_payload false page) ≡ Ok (SapResponse false (map entry_of page))
      → heard_near (port_at ports number) (sap_packet_parts (own_services from) (every_server from) false page)
      ≡ Some (HeardSap (own_services from) (SapResponse false (map entry_of page)))
  services_near page says = grind arith

  -- a page of services
  pub heard_services : (Q : Service → Type 0) (bytes : List ℕ) → (is : IsSapPage Q (own_services from) (every_server from) false bytes)
      → heard ports up true number bytes ≡ Some (HeardSap (own_services from) (SapResponse false (map entry_of is.page)))
  unfolding judged_by heard_by
  heard_services Q bytes is =
      let p = sap_packet_parts (own_services from) (every_server from) false is.page in
      ap heard_by is.read ∙ ap (λ o. judged_by o p) (services_pass is.page is.says) ∙ services_near is.page is.says
