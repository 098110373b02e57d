-- What a packet weighs that is for the network on which it comes, and so a router's own pages: by what the process reads that they are for.
use Rattle.std.proofs.Common.{◌≡◌, refl, sym, ap, ◌∙◌, ℕ, zero, suc, ◌+◌, ◌-◌, ◌*◌, ◌<◌, ◌≤◌, ◌==◌, max, if◌then◌else◌, Bool, true, false, List, [], ◌∷◌, length, map, flat_map, Option, Some, None, Result, Ok, Err, arith, mul-le-mul_left, mul-le-mul_right, mul-add, one-mul}
use Rattle.std.specs.List.{AllByRecursion, sum_by}
use Rattle.std.proofs.lemmas.List.{length-map}
use Rattle.std.proofs.lemmas.List.Sums.{sum_by-cons, sum_by-append}
use Rattle.ipx_wire.specs.Numbers.{crossed_places}
use Rattle.ipx_wire.specs.Packet.{Parts, packet_of}
use Rattle.ipx_wire.specs.Rip.{rip_of}
use Rattle.ipx_wire.specs.Sap.{sap_of}
use Rattle.ipx_wire.specs.Write.{rip_packet_parts, rip_payload}
use Rattle.ipx_wire.specs.WriteServices.{entry_of, sap_packet_parts, sap_payload}
use Rattle.ipx_wire.specs.declared.address.Address.{Address}
use Rattle.ipx_wire.specs.declared.network.Network.{Network}
use Rattle.ipx_wire.specs.declared.packet.PacketFault.{PacketFault}
use Rattle.ipx_wire.specs.declared.rip.Operation.{Operation}
use Rattle.ipx_wire.specs.declared.rip.Operation.TheVariants.{Request, Response}
use Rattle.ipx_wire.specs.declared.rip.RipEntry.{RipEntry}
use Rattle.ipx_wire.specs.declared.sap.Sap.TheVariants.{Query, Response as SapResponse}
use Rattle.ipx_wire.specs.declared.service.Service.{Service}
use Rattle.ipx_router.specs.Heard.{Heard, HeardRip, HeardSap, heard_in}
use Rattle.ipx_router.specs.Numbers.{most_routers, unreachable, rip_socket, sap_socket, entries_a_page, services_a_page}
use Rattle.ipx_router.specs.Port.{Port, IsPort, port_at, is_local, own_address, own_services}
use Rattle.ipx_router.specs.Relays.{Sent}
use Rattle.ipx_router.specs.Sends.{entries_sent, services_sent}
use Rattle.ipx_router.specs.Why.{is_propagated}
use Rattle.ipx_router.proofs.bytes.FieldsAreBytes.{IsPlace as IsWritten}
use Rattle.ipx_router.proofs.sending.OwnPacketsAreValid.{Writable}
use Rattle.ipx_router.proofs.lists.ItemsOfPages.{IsPage}
use Rattle.ipx_router.proofs.port_values.PortOfEachNumber.{port-all}
use Rattle.ipx_internet.specs.Delivery.{receives, delivered}
use Rattle.ipx_internet.specs.Internet.{Internet, Place, IsInternet, IsPlace, network_of, ports_of, port_of}
use Rattle.ipx_internet.specs.InternetWeight.{most_hearers, weight_in_reach, entry_weight, routes_weight, services_weight, request_weight, query_weight, is_for_process, message_weight, said_weight, packet_weight, delivery_weight}
use Rattle.ipx_internet.specs.Most.{most, most_on_network}
use Rattle.ipx_internet.specs.Queue.{Delivery, deliveries_of}
use Rattle.ipx_internet.proofs.lists.EachElement.{all-map}
use Rattle.ipx_internet.proofs.packets.PagesReadAgain.{Tellable, rip_again, sap_again}
use Rattle.ipx_internet.proofs.packets.SentOnOrReply.{Layouts}
use Rattle.ipx_internet.proofs.places.EachPortOnce.{delivered_within}
use Rattle.ipx_internet.proofs.places.OneReceiverOfANode.{ports_at, receives_is}
use Rattle.ipx_internet.proofs.trees.RootOutweighsItsList.{some_of}
use Rattle.ipx_internet.proofs.weights.PagesWeighTheirItems.{sum_few}

-- a port's own network is local to it
pub home_local : (port : Port) (network : Network) → network ≡ port.network → is_local port network ≡ true
home_local port network home = grind arith

module _ (net : Internet) where
  -- what may be taken by more routers weighs more
  pub reach_rises : (n m : ℕ) → n ≤ m → weight_in_reach net n ≤ weight_in_reach net m
  reach_rises zero m less = omega arith
  reach_rises (suc n) zero less = absurd (omega (arith, less))
  reach_rises (suc n) (suc m) less =
      let rest = mul-le-mul_left (most_hearers net) (reach_rises n m (omega (arith, less))) in
      omega (arith, rest)

  pub farther_lighter : (near far : ℕ) → near ≤ far → entry_weight net far ≤ entry_weight net near
  farther_lighter near far less = reach_rises (unreachable - far) (unreachable - near) (omega (arith, less))

  module _ (most_routes most_services : ℕ) where
    abbrev pub w : Delivery → ℕ
    w d = delivery_weight net most_routes most_services d

    abbrev pub said : Parts → ℕ
    said p = said_weight net most_routes most_services p

    -- ---- what a delivery weighs, by its packet

    abbrev far_weight : Parts → ℕ
    far_weight p = (most_routers - p.header.control) + max 1 (most_on_network net - 1) * said p

    pub as_read : (d : Delivery) (p : Parts) → packet_of d.bytes ≡ Ok p → w d ≡ packet_weight net most_routes most_services (port_of net d.to) p
    as_read d p read = grind arith

    pub plain_weighs : (d : Delivery) (p : Parts) (local : Bool) → packet_of d.bytes ≡ Ok p → is_propagated p.header ≡ false
        → is_local (port_of net d.to) p.header.destination.network ≡ local → w d ≡ (if local then said p else far_weight p)
    plain_weighs d p local read plain is = grind arith

    -- each weighs something
    some_message : (m : Heard) → 1 ≤ message_weight net most_routes most_services m
    some_message (HeardRip source rip) = of_operation rip.operation
      where
        of_operation : (o : Operation) → 1 ≤ elim o [ Response ↦ 1 + routes_weight net rip.entries | Request ↦ request_weight net most_routes source.socket.0 ]
        of_operation Response = omega arith
        of_operation Request = omega arith
    some_message (HeardSap source (Query nearest kind)) = of_query nearest
      where
        of_query : (nearest : Bool) → 1 ≤ query_weight net most_services nearest source.socket.0
        of_query true = omega arith
        of_query false = omega arith
    some_message (HeardSap source (SapResponse nearest entries)) = of_response nearest
      where
        of_response : (nearest : Bool) → 1 ≤ (if nearest then 1 else 1 + services_weight net entries)
        of_response true = omega arith
        of_response false = omega arith

    some_said : (p : Parts) → 1 ≤ said p
    some_said p = by (is_for_process p.header) (heard_in p)
      where
        by : (process : Bool) (o : Option Heard) → 1 ≤ (if process then elim o [ Some message ↦ message_weight net most_routes most_services message | None ↦ 1 ] else 1)
        by false o = omega arith
        by true None = omega arith
        by true (Some m) = some_message m

    pub at_least_one : (d : Delivery) → 1 ≤ w d
    at_least_one d = read_as (packet_of d.bytes)
      where
        by : (p : Parts) (all local : Bool) → 1 ≤ (if all then most net (crossed_places - p.header.control) else if local then said p else far_weight p)
        by p true local = some_of _ (crossed_places - p.header.control)
        by p false true = some_said p
        by p false false =
            let some = some_said p in
            let times : 1 ≤ max 1 (most_on_network net - 1) = omega arith in
            let product = mul-le-mul_right (said p) times in
            let once = one-mul (said p) in
            omega (arith, some, product, once)

        read_as : (r : Result Parts PacketFault) → 1 ≤ elim r [ Ok p ↦ packet_weight net most_routes most_services (port_of net d.to) p | Err fault ↦ 1 ]
        read_as (Err fault) = omega arith
        read_as (Ok p) = by p (is_propagated p.header) (is_local (port_of net d.to) p.header.destination.network)

    -- ---- one packet to all that receive it

    module _ (router : ℕ) where
      pub one_packet : (s : Sent) (each few : ℕ) → length (delivered net (record { router = router; port = s.port }) s.link) ≤ few
          → ((to : Place) → network_of net to ≡ network_of net (record { router = router; port = s.port }) → w (record { to = to; bytes = s.bytes }) ≤ each)
          → sum_by w (deliveries_of net router s) ≤ few * each
      one_packet s each few received light =
          let from : Place = record { router = router; port = s.port } in
          let to_delivery : Place → Delivery = λ to. record { to = to; bytes = s.bytes } in
          let same = length-map (delivered net from s.link) to_delivery in
          let all =
          sum_few w each (deliveries_of net router s)
          (all-map (λ to. IsPlace net to × (receives net from s.link to ≡ true)) (λ d. w d ≤ each) to_delivery
          (λ to there. light to (receives_is net from s.link to there.1).network) (delivered net from s.link) (delivered_within net from s.link)) in
          let product = mul-le-mul_right each received in
          let whole = ap (λ (count : ℕ). count * each) same in
          omega (arith, all, product, whole)

      -- ---- a router's own pages

      module _ (laws : Layouts) (is : IsInternet net) (number : ℕ) (within : number < length (ports_of net router)) (to : Address) (to_is : IsWritten to)
          (home : to.network ≡ (port_at (ports_of net router) number).network) (few : ℕ)
          (received : length (delivered net (record { router = router; port = number }) to.node) ≤ few) where
        abbrev ports : List Port
        ports = ports_of net router

        abbrev port : Port
        port = port_at ports number

        is_port : IsPort port
        is_port = port-all IsPort ports number (ports_at net is router) within

        module _ (P : RipEntry → Type 0) (lands : List RipEntry → ℕ)
            (page_lands : (page : List RipEntry) → IsPage entries_a_page (Writable P) page
            → rip_of (rip_payload Response page) ≡ Ok (record { operation = Response; entries = page })
            → said (rip_packet_parts (own_address port) to Response page) ≤ lands page) where
          one_page : (page : List RipEntry) → IsPage entries_a_page (Writable P) page
              → sum_by w (deliveries_of net router (entries_sent ports number to Response page)) ≤ few * lands page
          one_page page is_page =
              let again = rip_again laws.readings laws.again ports number is_port P to to_is page is_page in
              let p = rip_packet_parts (own_address port) to Response page in
              let s = entries_sent ports number to Response page in
              one_packet s (lands page) few received (λ at same.
              let weighs = plain_weighs (record { to = at; bytes = s.bytes }) p true again.0 refl (home_local (port_of net at) to.network (home ∙ sym same)) in
              let light = page_lands page is_page again.1 in
              omega (arith, weighs, light))

          pub pages_land : (pages : List (List RipEntry)) → AllByRecursion (IsPage entries_a_page (Writable P)) pages
              → sum_by w (flat_map (deliveries_of net router) (map (entries_sent ports number to Response) pages)) ≤ few * sum_by lands pages
          pages_land [] all = omega arith
          pages_land (page ∷ pages) all = grind (arith, pages_land pages all.1, one_page, sum_by-append, sum_by-cons, mul-add)

        module _ (Q : Service → Type 0) (nearest : Bool) (lands : List Service → ℕ)
            (page_lands : (page : List Service) → IsPage services_a_page (Tellable Q) page → sap_of (sap_payload nearest page) ≡ Ok (SapResponse nearest (map entry_of page))
            → said (sap_packet_parts (own_services port) to nearest page) ≤ lands page) where
          one_list : (page : List Service) → IsPage services_a_page (Tellable Q) page
              → sum_by w (deliveries_of net router (services_sent ports number to nearest page)) ≤ few * lands page
          one_list page is_page =
              let again = sap_again laws.readings laws.again ports number is_port Q to to_is nearest page is_page in
              let p = sap_packet_parts (own_services port) to nearest page in
              let s = services_sent ports number to nearest page in
              one_packet s (lands page) few received (λ at same.
              let weighs = plain_weighs (record { to = at; bytes = s.bytes }) p true again.0 refl (home_local (port_of net at) to.network (home ∙ sym same)) in
              let light = page_lands page is_page again.1 in
              omega (arith, weighs, light))

          pub lists_land : (pages : List (List Service)) → AllByRecursion (IsPage services_a_page (Tellable Q)) pages
              → sum_by w (flat_map (deliveries_of net router) (map (services_sent ports number to nearest) pages)) ≤ few * sum_by lands pages
          lists_land [] all = omega arith
          lists_land (page ∷ pages) all = grind (arith, lists_land pages all.1, one_list, sum_by-append, sum_by-cons, mul-add)

    -- ---- pages that come to the process that they are written for

    pub rip_heard : (from to : Address) (page : List RipEntry) → (to.socket.0 == rip_socket) ≡ true
        → rip_of (rip_payload Response page) ≡ Ok (record { operation = Response; entries = page })
        → said (rip_packet_parts from to Response page) ≡ 1 + routes_weight net page
    rip_heard from to page for_rip says = rw (for_rip, says) refl

    pub sap_heard : (from to : Address) (page : List Service) → (to.socket.0 == rip_socket) ≡ false → (to.socket.0 == sap_socket) ≡ true
        → sap_of (sap_payload false page) ≡ Ok (SapResponse false (map entry_of page))
        → said (sap_packet_parts from to false page) ≡ 1 + services_weight net (map entry_of page)
    sap_heard from to page other for_sap says = rw (other, for_sap, says) refl
