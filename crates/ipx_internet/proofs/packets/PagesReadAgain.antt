-- A router's own responses, read again: the pages of entries or of services that were written.
use Rattle.std.proofs.Common.{◌≡◌, refl, subst, ℕ, ◌≤◌, Bool, List, [], length, map, Ok, arith, append-nil}
use Rattle.std.specs.List.{AllByRecursion}
use Rattle.ipx_wire.specs.Packet.{packet_of}
use Rattle.ipx_wire.specs.Piece.{IsBytes}
use Rattle.ipx_wire.specs.Rip.{RipParts, IsEntry, IsRip, rip_of}
use Rattle.ipx_wire.specs.Sap.{IsSap, sap_of}
use Rattle.ipx_wire.specs.Write.{packet_bytes, rip_packet_parts, rip_payload}
use Rattle.ipx_wire.specs.WriteServices.{IsService, entry_of, sap_packet_parts, sap_payload}
use Rattle.ipx_wire.specs.declared.address.Address.{Address}
use Rattle.ipx_wire.specs.declared.rip.Operation.TheVariants.{Response}
use Rattle.ipx_wire.specs.declared.rip.RipEntry.{RipEntry}
use Rattle.ipx_wire.specs.declared.sap.Sap.{Sap}
use Rattle.ipx_wire.specs.declared.sap.Sap.TheVariants.{Response as SapResponse}
use Rattle.ipx_wire.specs.declared.service.Service.{Service}
use Rattle.ipx_router.specs.Numbers.{entries_a_page, services_a_page}
use Rattle.ipx_router.specs.Pages.{pages}
use Rattle.ipx_router.specs.Port.{Port, IsPort, port_at, own_address, everyone, own_services, every_server}
use Rattle.ipx_router.specs.Sends.{entries_sent, rip_sends, services_sent, sap_sends}
use Rattle.ipx_router.proofs.bytes.FieldsAreBytes.{IsPlace, IsTellable, rip_are_bytes, sap_are_bytes, parts_bytes}
use Rattle.ipx_router.proofs.sending.OwnPacketsAreValid.{Writable}
use Rattle.ipx_router.proofs.lists.ItemsOfPages.{IsPage, all_pages}
use Rattle.ipx_router.proofs.bytes.LawsOfLayouts.{Readings, Rereadings, alone}
use Rattle.ipx_internet.proofs.lists.EachElement.{all_then, all-map}

-- the bytes are a page of such entries, told from one address to another
pub record IsRipPage (P : RipEntry → Type 0) (from to : Address) (bytes : List ℕ) : Type 0 where
  pub page : List RipEntry
  pub some : 1 ≤ length page
  pub each : AllByRecursion P page
  pub read : packet_of bytes ≡ Ok (rip_packet_parts from to Response page)
  pub says : rip_of (rip_payload Response page) ≡ Ok (record { operation = Response; entries = page })

-- the bytes are a page of such services
pub record IsSapPage (Q : Service → Type 0) (from to : Address) (nearest : Bool) (bytes : List ℕ) : Type 0 where
  pub page : List Service
  pub some : 1 ≤ length page
  pub each : AllByRecursion Q page
  pub read : packet_of bytes ≡ Ok (sap_packet_parts from to nearest page)
  pub says : sap_of (sap_payload nearest page) ≡ Ok (SapResponse nearest (map entry_of page))

-- a service that can be written, and is such
abbrev pub Tellable : (Service → Type 0) → Service → Type 0
Tellable Q service = IsTellable service × Q service

-- ---- the ports' addresses

pub own_is : (port : Port) → IsPort port → IsPlace (own_address port)
own_is port is = grind arith

pub services_is : (port : Port) → IsPort port → IsPlace (own_services port)
services_is port is = grind arith

pub everyone_is : (port : Port) → IsPort port → IsPlace (everyone port)
everyone_is port is = grind arith

pub every_server_is : (port : Port) → IsPort port → IsPlace (every_server port)
every_server_is port is = grind arith

-- ---- pages

module _ (readings : Readings) (again : Rereadings) (ports : List Port) (number : ℕ) (is_port : IsPort (port_at ports number)) where
  -- a page, read again
  pub rip_again : (P : RipEntry → Type 0) (to : Address) → IsPlace to → (page : List RipEntry) → IsPage entries_a_page (Writable P) page
      → (packet_of (entries_sent ports number to Response page).bytes ≡ Ok (rip_packet_parts (own_address (port_at ports number)) to Response page))
      × (rip_of (rip_payload Response page) ≡ Ok (record { operation = Response; entries = page }))
  rip_again P to to_is page is =
      let from = own_address (port_at ports number) in
      let from_is = own_is (port_at ports number) is_port in
      let entries : AllByRecursion IsEntry page = all_then (Writable P) IsEntry (λ e one. one.0) page is.each in
      let parts = rip_packet_parts from to Response page in
      let read = alone parts (λ further. again.rip_packet_again from to Response page further from_is.ranges to_is.ranges is.most) in
      let bytes : IsBytes (packet_bytes parts) = rip_are_bytes from to Response page from_is.node to_is.node entries in
      let said : RipParts = record { operation = Response; entries = page } in
      let says : IsRip parts.payload said =
      subst (λ payload. IsRip payload said) (append-nil (rip_payload Response page)) (again.rip_again Response page [] entries is.some is.most (omega arith)) in (
        (readings.packet_read (packet_bytes parts) parts bytes).1 read,
        (readings.rip_read parts.payload said (parts_bytes (packet_bytes parts) parts bytes read).payload).1 says,
      )

  rip_page : (P : RipEntry → Type 0) (to : Address) → IsPlace to → (page : List RipEntry) → IsPage entries_a_page (Writable P) page
      → IsRipPage P (own_address (port_at ports number)) to (entries_sent ports number to Response page).bytes
  rip_page P to to_is page is =
      let both = rip_again P to to_is page is in
      record { page = page; some = is.some; each = all_then (Writable P) P (λ e one. one.1) page is.each; read = both.0; says = both.1 }

  pub rip_pages : (P : RipEntry → Type 0) (to : Address) → IsPlace to → (entries : List RipEntry) → AllByRecursion (Writable P) entries
      → AllByRecursion (λ s. IsRipPage P (own_address (port_at ports number)) to s.bytes × (s.port ≡ number)) (rip_sends ports number to Response entries)
  rip_pages P to to_is entries all =
      all-map (IsPage entries_a_page (Writable P)) (λ s. IsRipPage P (own_address (port_at ports number)) to s.bytes × (s.port ≡ number))
      (entries_sent ports number to Response) (λ page is. (rip_page P to to_is page is, refl)) (pages entries_a_page entries)
      (all_pages (Writable P) entries_a_page (omega arith) entries all)

  pub sap_again : (Q : Service → Type 0) (to : Address) → IsPlace to → (nearest : Bool) (page : List Service) → IsPage services_a_page (Tellable Q) page
      → (packet_of (services_sent ports number to nearest page).bytes ≡ Ok (sap_packet_parts (own_services (port_at ports number)) to nearest page))
      × (sap_of (sap_payload nearest page) ≡ Ok (SapResponse nearest (map entry_of page)))
  sap_again Q to to_is nearest page is =
      let from = own_services (port_at ports number) in
      let from_is = services_is (port_at ports number) is_port in
      let tellable : AllByRecursion IsTellable page = all_then (Tellable Q) IsTellable (λ s one. one.0) page is.each in
      let ranges : AllByRecursion IsService page = all_then IsTellable IsService (λ s one. one.ranges) page tellable in
      let parts = sap_packet_parts from to nearest page in
      let read = alone parts (λ further. again.sap_packet_again from to nearest page further from_is.ranges to_is.ranges is.most ranges) in
      let bytes : IsBytes (packet_bytes parts) = sap_are_bytes from to nearest page from_is.node to_is.node tellable in
      let said : Sap = SapResponse nearest (map entry_of page) in
      let says : IsSap parts.payload said =
      subst (λ payload. IsSap payload said) (append-nil (sap_payload nearest page)) (again.sap_again nearest page [] is.some is.most ranges (omega arith)) in (
        (readings.packet_read (packet_bytes parts) parts bytes).1 read,
        (readings.sap_read parts.payload said (parts_bytes (packet_bytes parts) parts bytes read).payload).1 says,
      )

  sap_page : (Q : Service → Type 0) (to : Address) → IsPlace to → (nearest : Bool) (page : List Service) → IsPage services_a_page (Tellable Q) page
      → IsSapPage Q (own_services (port_at ports number)) to nearest (services_sent ports number to nearest page).bytes
  sap_page Q to to_is nearest page is =
      let both = sap_again Q to to_is nearest page is in
      record { page = page; some = is.some; each = all_then (Tellable Q) Q (λ s one. one.1) page is.each; read = both.0; says = both.1 }

  pub sap_pages : (Q : Service → Type 0) (to : Address) → IsPlace to → (nearest : Bool) (services : List Service) → AllByRecursion (Tellable Q) services
      → AllByRecursion (λ s. IsSapPage Q (own_services (port_at ports number)) to nearest s.bytes × (s.port ≡ number)) (sap_sends ports number to nearest services)
  sap_pages Q to to_is nearest services all =
      all-map (IsPage services_a_page (Tellable Q)) (λ s. IsSapPage Q (own_services (port_at ports number)) to nearest s.bytes × (s.port ≡ number))
      (services_sent ports number to nearest) (λ page is. (sap_page Q to to_is nearest page is, refl)) (pages services_a_page services)
      (all_pages (Tellable Q) services_a_page (omega arith) services all)
