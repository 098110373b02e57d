-- The router's own packets are such as the layouts allow, short, and of bytes.
use Rattle.std.proofs.Common.{◌≡◌, refl, subst, ℕ, ◌+◌, ◌*◌, ◌<◌, ◌≤◌, inl, inr, Bool, true, false, length, List, [], ◌++◌, map, arith, lit<}
use Rattle.std.specs.List.{AllByRecursion}
use Rattle.std.proofs.lemmas.List.{append-nil, length-map}
use Rattle.ipx_wire.specs.Numbers.{rip_type, sap_type}
use Rattle.ipx_wire.specs.Packet.{Parts, IsPacket}
use Rattle.ipx_wire.specs.Piece.{IsBytes}
use Rattle.ipx_wire.specs.Rip.{IsEntry, IsRip, RipParts}
use Rattle.ipx_wire.specs.Sap.{IsSap}
use Rattle.ipx_wire.specs.Write.{own_header, packet_bytes, rip_packet_parts, rip_payload, query_packet, query_packet_parts, query_payload}
use Rattle.ipx_wire.specs.WriteServices.{IsService, entry_of, sap_packet_parts, sap_payload}
use Rattle.ipx_wire.specs.declared.address.Address.{Address}
use Rattle.ipx_wire.specs.declared.rip.Operation.{Operation}
use Rattle.ipx_wire.specs.declared.rip.RipEntry.{RipEntry}
use Rattle.ipx_wire.specs.declared.sap.Sap.TheVariants.{Query, Response}
use Rattle.ipx_wire.specs.declared.service.Service.{Service}
use Rattle.ipx_router.specs.Numbers.{every_service, entries_a_page, services_a_page, most_own_length}
use Rattle.ipx_router.specs.Packets.{IsRouting, EachEntryIs, IsAdvertising, IsBroadcast}
use Rattle.ipx_router.specs.Pages.{pages}
use Rattle.ipx_router.specs.Port.{Port, IsPort, broadcast, port_at, is_up, own_address, everyone, own_services, every_server, reply_to}
use Rattle.ipx_router.specs.Relays.{Sent}
use Rattle.ipx_router.specs.Sends.{entries_sent, rip_sends, services_sent, sap_sends, sap_broadcast, broadcasts, services_query}
use Rattle.ipx_router.proofs.bytes.FieldsAreBytes.{IsPlace, IsTellable, rip_are_bytes, query_are_bytes, sap_are_bytes}
use Rattle.ipx_router.proofs.lists.EachElement.{all_then, all-map}
use Rattle.ipx_router.proofs.lists.ItemsOfPages.{IsPage, all_pages}
use Rattle.ipx_router.proofs.port_values.PortOfEachNumber.{port-all, one_up}
use Rattle.ipx_router.proofs.bytes.ReadInOneWay.{entries_as_said, no_entries}
use Rattle.ipx_router.proofs.tables.HeldWasOffered.{all-append}
use Rattle.ipx_router.proofs.bytes.LawsOfLayouts.{Readings, Rereadings, whole, alone}

-- such a packet of the router's own, of bytes, of no more than such a packet has, and its entries, if it has any, are such
pub record IsOwned (P : RipEntry → Type 0) (ports : List Port) (up : List ℕ) (Own : Sent → Type 0) (s : Sent) : Type 0 where
  pub own : Own s
  pub short : length s.bytes ≤ most_own_length
  pub bytes : IsBytes s.bytes
  pub entries : EachEntryIs P ports up s

-- an entry that can be written, and is such
abbrev pub Writable : (RipEntry → Type 0) → RipEntry → Type 0
Writable P entry = IsEntry entry × P entry

-- ---- the ports' addresses

own_is : (port : Port) → IsPort port → IsPlace (own_address port)
own_is port is = grind arith

services_is : (port : Port) → IsPort port → IsPlace (own_services port)
services_is port is = grind arith

everyone_is : (port : Port) → IsPort port → IsPlace (everyone port)
everyone_is port is = grind arith

every_server_is : (port : Port) → IsPort port → IsPlace (every_server port)
every_server_is port is = grind arith

pub reply_is : (port : Port) (source : Address) → IsPort port → IsPlace source → IsPlace (reply_to port source)
reply_is port source is from = grind arith

-- the header of such a packet counts its data
header_of : (kind : ℕ) (from to : Address) (size : ℕ) (p : Parts) {bytes : List ℕ} → IsPacket bytes p → p.header ≡ own_header kind from to size
    → p.header ≡ own_header kind from to (length p.payload)
header_of kind from to size p is e = grind arith

-- ---- one packet

module _ (readings : Readings) (again : Rereadings) (P : RipEntry → Type 0) (ports : List Port) (are : AllByRecursion IsPort ports)
    (up : List ℕ) (within : AllByRecursion (λ j. j < length ports) up) (number : ℕ) (there : is_up up number ≡ true) where
  pub is_port : IsPort (port_at ports number)
  is_port = port-all IsPort ports number are (one_up (λ j. j < length ports) up number within there)

  entries_owned : (to : Address) (operation : Operation) (page : List RipEntry) → IsPlace to → IsPage entries_a_page (Writable P) page
      → IsOwned P ports up (IsRouting ports up to) (entries_sent ports number to operation page)
  entries_owned to operation page to_is is =
      let from = own_address (port_at ports number) in
      let entries : AllByRecursion IsEntry page = all_then (Writable P) IsEntry (λ e is. is.0) page is.each in
      let such : AllByRecursion P page = all_then (Writable P) P (λ e is. is.1) page is.each in
      let parts = rip_packet_parts from to operation page in
      let read : (further : List ℕ) → IsPacket (packet_bytes parts ++ further) parts =
      λ further. again.rip_packet_again from to operation page further (own_is (port_at ports number) is_port).ranges to_is.ranges is.most in
      let sent = entries_sent ports number to operation page in
      let bytes : IsBytes sent.bytes = rip_are_bytes from to operation page is_port.bytes to_is.node entries in
      let said : RipParts = record { operation = operation; entries = page } in
      let says : IsRip parts.payload said =
      subst (λ payload. IsRip payload said) (append-nil (rip_payload operation page)) (again.rip_again operation page [] entries is.some is.most (omega arith)) in
      let size = whole readings parts read in
      let counted = (alone parts read).counted in
      let few = is.most in
      record {
        own = record {
          packet = parts;
          own = record {
            on = there;
            link = refl;
            is = alone parts read;
            whole = size;
            header = header_of rip_type from to (2 + 8 * length page) parts (alone parts read) refl;
          };
          said = said;
          says = says;
          ends = omega (arith, counted);
        };
        short = omega (arith, size, few);
        bytes = bytes;
        entries = entries_as_said readings P ports up sent bytes parts (alone parts read) said says such;
      }

  services_owned : (to : Address) (nearest : Bool) (page : List Service) → IsPlace to → IsPage services_a_page IsTellable page
      → IsOwned P ports up (IsAdvertising ports up to) (services_sent ports number to nearest page)
  services_owned to nearest page to_is is =
      let from = own_services (port_at ports number) in
      let ranges = all_then IsTellable IsService (λ s is. is.ranges) page is.each in
      let parts = sap_packet_parts from to nearest page in
      let read : (further : List ℕ) → IsPacket (packet_bytes parts ++ further) parts =
      λ further. again.sap_packet_again from to nearest page further (services_is (port_at ports number) is_port).ranges to_is.ranges is.most ranges in
      let sent = services_sent ports number to nearest page in
      let bytes : IsBytes sent.bytes = sap_are_bytes from to nearest page is_port.bytes to_is.node is.each in
      let size = whole readings parts read in
      let counted = (alone parts read).counted in
      let few = is.most in
      record {
        own = record {
          packet = parts;
          own = record {
            on = there;
            link = refl;
            is = alone parts read;
            whole = size;
            header = header_of sap_type from to (2 + 64 * length page) parts (alone parts read) refl;
          };
          said = Response nearest (map entry_of page);
          says =
              subst (λ payload. IsSap payload (Response nearest (map entry_of page))) (append-nil (sap_payload nearest page))
              (again.sap_again nearest page [] is.some is.most ranges (omega arith));
          ends = omega (arith, counted, length-map page entry_of);
        };
        short = omega (arith, size, few);
        bytes = bytes;
        entries = no_entries readings P ports up sent bytes parts (alone parts read) (inl (λ (e : 4 ≡ 1). omega (arith, e)));
      }

  abbrev query : Sent
  query = record {
    port = number;
    link = broadcast;
    bytes = query_packet (own_services (port_at ports number)) (every_server (port_at ports number)) false every_service;
  }

  pub query_owned : AllByRecursion (IsOwned P ports up (IsBroadcast ports up)) (services_query ports number)
  query_owned =
      let from = own_services (port_at ports number) in
      let to = every_server (port_at ports number) in
      let parts = query_packet_parts from to false every_service in
      let read : (further : List ℕ) → IsPacket (packet_bytes parts ++ further) parts =
      λ further. again.query_packet_again from to false every_service further
      (services_is (port_at ports number) is_port).ranges (every_server_is (port_at ports number) is_port).ranges in
      let bytes : IsBytes query.bytes = query_are_bytes from to false every_service is_port.bytes (every_server_is (port_at ports number) is_port).node in
      let size = whole readings parts read in
      let counted = (alone parts read).counted in (
        record {
          own = inr (record {
            packet = parts;
            own = record {
              on = there;
              link = refl;
              is = alone parts read;
              whole = size;
              header = header_of sap_type from to 4 parts (alone parts read) refl;
            };
            said = Query false every_service;
            says =
                subst (λ payload. IsSap payload (Query false every_service)) (append-nil (query_payload false every_service))
                (again.query_again false every_service [] (lit< tt));
            ends = omega (arith, counted);
          });
          short = omega (arith, size);
          bytes = bytes;
          entries = no_entries readings P ports up query bytes parts (alone parts read) (inl (λ (e : 4 ≡ 1). omega (arith, e)));
        },
        tt,
      )

  -- ---- pages of them

  pub rip_owned : (Own : Sent → Type 0) (to : Address) (operation : Operation) (entries : List RipEntry)
      → ((page : List RipEntry) → IsRouting ports up to (entries_sent ports number to operation page) → Own (entries_sent ports number to operation page))
      → IsPlace to → AllByRecursion (Writable P) entries → AllByRecursion (IsOwned P ports up Own) (rip_sends ports number to operation entries)
  rip_owned Own to operation entries own to_is fit =
      all-map (IsPage entries_a_page (Writable P)) (IsOwned P ports up Own) (entries_sent ports number to operation)
      (λ page is.
      let one = entries_owned to operation page to_is is in
      record { own = own page one.own; short = one.short; bytes = one.bytes; entries = one.entries })
      (pages entries_a_page entries) (all_pages (Writable P) entries_a_page (omega arith) entries fit)

  pub sap_owned : (Own : Sent → Type 0) (to : Address) (nearest : Bool) (services : List Service)
      → ((page : List Service) → IsAdvertising ports up to (services_sent ports number to nearest page) → Own (services_sent ports number to nearest page))
      → IsPlace to → AllByRecursion IsTellable services → AllByRecursion (IsOwned P ports up Own) (sap_sends ports number to nearest services)
  sap_owned Own to nearest services own to_is fit =
      all-map (IsPage services_a_page IsTellable) (IsOwned P ports up Own) (services_sent ports number to nearest)
      (λ page is.
      let one = services_owned to nearest page to_is is in
      record { own = own page one.own; short = one.short; bytes = one.bytes; entries = one.entries })
      (pages services_a_page services) (all_pages IsTellable services_a_page (omega arith) services fit)

  pub everyone_owned : (operation : Operation) (entries : List RipEntry) → AllByRecursion (Writable P) entries
      → AllByRecursion (IsOwned P ports up (IsBroadcast ports up)) (rip_sends ports number (everyone (port_at ports number)) operation entries)
  everyone_owned operation entries fit =
      rip_owned (IsBroadcast ports up) (everyone (port_at ports number)) operation entries (λ page is. inl is) (everyone_is (port_at ports number) is_port) fit

  pub servers_owned : (services : List Service) → AllByRecursion IsTellable services
      → AllByRecursion (IsOwned P ports up (IsBroadcast ports up)) (sap_broadcast ports number services)
  servers_owned services fit =
      sap_owned (IsBroadcast ports up) (every_server (port_at ports number)) false services (λ page is. inr is)
      (every_server_is (port_at ports number) is_port) fit

  pub broadcasts_owned : (entries : List RipEntry) (services : List Service) → AllByRecursion (Writable P) entries → AllByRecursion IsTellable services
      → AllByRecursion (IsOwned P ports up (IsBroadcast ports up)) (broadcasts ports number entries services)
  broadcasts_owned entries services fit fits = grind (arith, all-append, everyone_owned, servers_owned)
