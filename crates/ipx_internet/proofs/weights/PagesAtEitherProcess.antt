-- What a router's own pages weigh, whichever process reads them: an answer goes to the asker's socket, and entries of routes may be read
-- there as services, or services as routes.
use Rattle.std.proofs.Common.{◌≡◌, refl, sym, ap, ◌∙◌, subst, ℕ, ◌+◌, ◌-◌, ◌*◌, ◌/◌, ◌<◌, ◌≤◌, ◌==◌, nat_lt, if◌then◌else◌, Bool, true, false, List, [], length, map, take, drop, slice_get, Option, Some, None, Result, Ok, Err, inl, inr, arith, append-nil}
use Rattle.std.specs.Int.{from_be_bytes, w16}
use Rattle.std.specs.List.{AllByRecursion, sum_by, flat_map}
use Rattle.std.proofs.lemmas.Bool.{cases_Bool, cases_lt, lt-ltb, le-ltb}
use Rattle.std.proofs.lemmas.List.{drop-drop}
use Rattle.std.proofs.lemmas.Option.{slice_get_within}
use Rattle.ipx_wire.specs.Items.{items}
use Rattle.ipx_wire.specs.Rip.{RipParts, IsEntry, entry_bytes, entry_at, operation_field, operation_of, operated, rip_of}
use Rattle.ipx_wire.specs.Sap.{numbered_of, response_of, sap_of}
use Rattle.ipx_wire.specs.SapEntries.{sap_entry_at, sap_entries_at}
use Rattle.ipx_wire.specs.Write.{rip_packet_parts, rip_payload}
use Rattle.ipx_wire.specs.WriteServices.{IsService, entry_of, sap_packet_parts, sap_payload, service_bytes}
use Rattle.ipx_wire.specs.declared.address.Address.{Address}
use Rattle.ipx_wire.specs.declared.rip.Operation.TheVariants.{Response}
use Rattle.ipx_wire.specs.declared.rip.RipEntry.{RipEntry}
use Rattle.ipx_wire.specs.declared.rip.RipFault.{RipFault}
use Rattle.ipx_wire.specs.declared.sap.Sap.{Sap}
use Rattle.ipx_wire.specs.declared.sap.Sap.TheVariants.{Response as SapResponse}
use Rattle.ipx_wire.specs.declared.sap.SapFault.{SapFault}
use Rattle.ipx_wire.specs.declared.sap_entries.SapEntry.{SapEntry}
use Rattle.ipx_wire.specs.declared.service.Service.{Service}
use Rattle.ipx_wire.proofs.Entries.{length-entry_bytes, entry_again}
use Rattle.ipx_wire.proofs.Items.{length-items, items_again, slice_get-items, length-written}
use Rattle.ipx_wire.proofs.Services.{length-service_bytes}
use Rattle.ipx_router.specs.Heard.{Heard, HeardRip, HeardSap}
use Rattle.ipx_router.specs.Numbers.{rip_socket, sap_socket, entries_a_page, services_a_page}
use Rattle.ipx_router.proofs.sending.OwnPacketsAreValid.{Writable}
use Rattle.ipx_router.proofs.lists.ItemsOfPages.{IsPage}
use Rattle.ipx_internet.specs.Internet.{Internet}
use Rattle.ipx_internet.specs.InternetWeight.{entry_weight, routes_weight, services_weight, entries_a_service, message_weight}
use Rattle.ipx_internet.proofs.lists.EachElement.{all_of, all_then, all_listed}
use Rattle.ipx_internet.proofs.lists.FoundInAList.{it_is}
use Rattle.ipx_internet.proofs.packets.PagesReadAgain.{Tellable}
use Rattle.ipx_internet.proofs.trees.RootOutweighsItsList.{all_get}
use Rattle.ipx_internet.proofs.weights.PagesAtTheirProcess.{said, farther_lighter, rip_heard, sap_heard}
use Rattle.ipx_internet.proofs.weights.PagesWeighTheirItems.{sum_few, sum_mapped}

-- an entry that a router tells: at least one hop away, and one tick
abbrev pub IsTold : RipEntry → Type 0
IsTold e = (1 ≤ e.hops) × (1 ≤ e.ticks)

-- a service that it tells
abbrev pub IsToldService : Service → Type 0
IsToldService s = 1 ≤ s.hops

-- how many of a page of services the process of routes reads: it reads no full page
abbrev pub short : List Service → ℕ
short page = if nat_lt (length page) services_a_page then length page else 0

-- ---- sizes

length-entries : (page : List RipEntry) → length (rip_payload Response page) ≡ 2 + 8 * length page
length-entries page =
    let entries = length-written entry_bytes (λ e. Unit {0}) 8 (λ e is. length-entry_bytes e) page (all_of (λ e. Unit {0}) (λ e. tt) page) in
    omega (arith, entries)

length-services : (nearest : Bool) (page : List Service) → AllByRecursion IsService page → length (sap_payload nearest page) ≡ 2 + 64 * length page
length-services nearest page are = by nearest
  where
    services : length (flat_map service_bytes page) ≡ 64 * length page
    services = length-written service_bytes IsService 64 length-service_bytes page are

    by : (nearest : Bool) → length (sap_payload nearest page) ≡ 2 + 64 * length page
    by true = omega (arith, services)
    by false = omega (arith, services)

module _ (net : Internet) (most_routes most_services : ℕ) where
  -- ---- what either process reads of data

  abbrev weight_heard : Option Heard → ℕ
  weight_heard o = elim o [ Some m ↦ message_weight net most_routes most_services m | None ↦ 1 ]

  abbrev by_rip : Address → Result RipParts RipFault → ℕ
  by_rip source r = weight_heard (elim r [ Ok rip ↦ Some (HeardRip source rip) | Err fault ↦ None ])

  abbrev by_sap : Address → Result Sap SapFault → ℕ
  by_sap source r = weight_heard (elim r [ Ok sap ↦ Some (HeardSap source sap) | Err fault ↦ None ])

  sap_reads : (source : Address) (payload : List ℕ) (each : ℕ) → operation_field payload ≡ 2
      → AllByRecursion (λ e. entry_weight net e.hops ≤ each) (sap_entries_at ((length payload - 2) / 64) (drop 2 payload))
      → by_sap source (sap_of payload) ≤ 1 + ((length payload - 2) / 64) * each
  unfolding sap_of
  sap_reads source payload each is light = elim (cases_Bool (nat_lt (length payload) 2)) [
    | inl e ↦ rw e (omega arith)
    | inr e ↦ rw e (subst (λ (k : ℕ). by_sap source (numbered_of k payload) ≤ 1 + ((length payload - 2) / 64) * each) (sym is) response)
  ]
    where
      whole : 1 + services_weight net (sap_entries_at ((length payload - 2) / 64) (drop 2 payload)) ≤ 1 + ((length payload - 2) / 64) * each
      whole =
          let few = sum_few (λ (e : SapEntry). entry_weight net e.hops) each (sap_entries_at ((length payload - 2) / 64) (drop 2 payload)) light in
          let count = ap (λ (n : ℕ). n * each) (length-items sap_entry_at 64 ((length payload - 2) / 64) (drop 2 payload)) in
          omega (arith, few, count)

      response : by_sap source (response_of false payload) ≤ 1 + ((length payload - 2) / 64) * each
      response = elim (cases_Bool (nat_lt (length payload) 66)) [
        | inl e ↦ rw e (omega arith)
        | inr e ↦ elim (cases_Bool (nat_lt 513 (length payload))) [
          | inl f ↦ rw (e, f) (omega arith)
          | inr f ↦ rw (e, f) whole
        ]
      ]

  -- a response to a query for the nearest is nothing to a router
  sap_reads_nearest : (source : Address) (payload : List ℕ) → operation_field payload ≡ 4 → by_sap source (sap_of payload) ≤ 1
  unfolding sap_of
  sap_reads_nearest source payload is = elim (cases_Bool (nat_lt (length payload) 2)) [
    | inl e ↦ rw e (omega arith)
    | inr e ↦ rw e (subst (λ (k : ℕ). by_sap source (numbered_of k payload) ≤ 1) (sym is) response)
  ]
    where
      response : by_sap source (response_of true payload) ≤ 1
      response = elim (cases_Bool (nat_lt (length payload) 66)) [
        | inl e ↦ rw e (omega arith)
        | inr e ↦ elim (cases_Bool (nat_lt 513 (length payload))) [
          | inl f ↦ rw (e, f) (omega arith)
          | inr f ↦ rw (e, f) (omega arith)
        ]
      ]

  rip_reads : (source : Address) (payload : List ℕ) → operation_field payload ≡ 2
      → by_rip source (rip_of payload) ≤ 1 + (if nat_lt 409 (length payload) then 0 else (length payload - 2) / 8) * entry_weight net 0
  unfolding rip_of
  rip_reads source payload is = elim (cases_Bool (nat_lt (length payload) 2)) [
    | inl e ↦ rw e (omega arith)
    | inr e ↦ rw e (subst (λ (k : ℕ). by_rip source (operated k (operation_of k) payload)
        ≤ 1 + (if nat_lt 409 (length payload) then 0 else (length payload - 2) / 8) * entry_weight net 0) (sym is) response)
  ]
    where
      entries : List RipEntry
      entries = items (λ b. entry_at b 0) 8 ((length payload - 2) / 8) (drop 2 payload)

      whole : 1 + routes_weight net (items (λ b. entry_at b 0) 8 ((length payload - 2) / 8) (drop 2 payload)) ≤ 1 + ((length payload - 2) / 8) * entry_weight net 0
      whole =
          let these = items (λ b. entry_at b 0) 8 ((length payload - 2) / 8) (drop 2 payload) in
          let few = sum_few (λ (e : RipEntry). entry_weight net e.hops) (entry_weight net 0) these
          (all_of (λ e. entry_weight net e.hops ≤ entry_weight net 0) (λ e. farther_lighter net 0 e.hops (omega arith)) these) in
          let count = ap (λ (n : ℕ). n * entry_weight net 0) (length-items (λ b. entry_at b 0) 8 ((length payload - 2) / 8) (drop 2 payload)) in
          omega (arith, few, count)

      response : by_rip source (operated 2 (operation_of 2) payload) ≤ 1 + (if nat_lt 409 (length payload) then 0 else (length payload - 2) / 8) * entry_weight net 0
      response = elim (cases_Bool (nat_lt (length payload) 10)) [
        | inl e ↦ rw e (omega arith)
        | inr e ↦ elim (cases_Bool (nat_lt 409 (length payload))) [
          | inl f ↦ rw (e, f) (omega arith)
          | inr f ↦ rw (e, f) whole
        ]
      ]

  rip_reads_nearest : (source : Address) (payload : List ℕ) → operation_field payload ≡ 4 → by_rip source (rip_of payload) ≤ 1
  unfolding rip_of
  rip_reads_nearest source payload is = grind arith

  -- ---- entries of routes, read as services: the ticks of each eighth stand where a service has its hops

  eighth : (page : List RipEntry) → AllByRecursion (Writable IsTold) page → (k : ℕ) → k < length page / 8
      → 1 ≤ (sap_entry_at (drop (64 * k) (flat_map entry_bytes page))).hops
  unfolding entry_at sap_entry_at
  eighth page all k within =
      let bytes = flat_map entry_bytes page in
      let at = 8 * k + 7 in
      let there : at < length page = omega (arith, within) in
      let entries = items_again (λ b. entry_at b 0) entry_bytes IsEntry 8 (λ e is. length-entry_bytes e) (λ e further is. entry_again e further is) page []
      (all_then (Writable IsTold) IsEntry (λ e both. both.0) page all) in
      let same : items (λ b. entry_at b 0) 8 (length page) bytes ≡ page = ap (λ b. items (λ b. entry_at b 0) 8 (length page) b) (sym (append-nil bytes)) ∙ entries in
      let got : slice_get page at ≡ Some (entry_at (drop (8 * at) bytes) 0) =
      ap (λ es. slice_get es at) (sym same) ∙ slice_get-items (λ b. entry_at b 0) 8 (length page) at bytes there in
      let is : IsTold (entry_at (drop (8 * at) bytes) 0) =
      all_get net IsTold page at (entry_at (drop (8 * at) bytes) 0) (all_then (Writable IsTold) IsTold (λ e both. both.1) page all) got in
      let ticks : 1 ≤ from_be_bytes w16 (take 2 (drop 6 (drop (8 * at) bytes))) = is.1 in
      let place : 8 * at + 6 ≡ 64 * k + 62 = omega arith in
      let one : drop 6 (drop (8 * at) bytes) ≡ drop 62 (drop (64 * k) bytes) =
      drop-drop 6 (8 * at) bytes ∙ ap (λ (n : ℕ). drop n bytes) place ∙ sym (drop-drop 62 (64 * k) bytes) in
      subst (λ (bs : List ℕ). 1 ≤ from_be_bytes w16 (take 2 bs)) one ticks

  few_hops : (page : List RipEntry) → AllByRecursion (Writable IsTold) page → AllByRecursion (λ e. entry_weight net e.hops ≤ entry_weight net 1)
      (sap_entries_at (length page / 8) (flat_map entry_bytes page))
  few_hops page all =
      let n = length page / 8 in
      let bytes = flat_map entry_bytes page in
      all_listed (λ e. entry_weight net e.hops ≤ entry_weight net 1) (sap_entries_at n bytes) (λ k e got.
      let size = length-items sap_entry_at 64 n bytes in
      let within : k < n = let some = slice_get_within (sap_entries_at n bytes) k e got in omega (arith, size, some) in
      it_is (λ x. entry_weight net x.hops ≤ entry_weight net 1) e (sap_entry_at (drop (64 * k) bytes)) (sym (slice_get-items sap_entry_at 64 n k bytes within) ∙ got)
      (farther_lighter net 1 (sap_entry_at (drop (64 * k) bytes)).hops (eighth page all k within)))

  -- ---- a page of routes, by the socket that it comes to

  pub rip_page_lands : (from to : Address) (page : List RipEntry) → IsPage entries_a_page (Writable IsTold) page
      → rip_of (rip_payload Response page) ≡ Ok (record { operation = Response; entries = page })
      → said net most_routes most_services (rip_packet_parts from to Response page)
      ≤ 1 + (if to.socket.0 == rip_socket then routes_weight net page
      else if to.socket.0 == sap_socket then (length page / entries_a_service) * entry_weight net 1
      else 0)
  rip_page_lands from to page is says = elim (cases_Bool (to.socket.0 == rip_socket)) [
    | inl rip ↦
        let heard = rip_heard net most_routes most_services from to page rip says in
        let lands : read_as ≡ routes_weight net page = rw rip refl in
        omega (arith, heard, lands)
    | inr other ↦ elim (cases_Bool (to.socket.0 == sap_socket)) [
      | inl sap ↦
          let heard : said net most_routes most_services (rip_packet_parts from to Response page) ≡ by_sap from (sap_of payload) = rw (other, sap) refl in
          let lands : read_as ≡ (length page / entries_a_service) * entry_weight net 1 = rw (other, sap) refl in
          let size = length-entries page in
          let count : (length payload - 2) / 64 ≡ length page / 8 = omega (arith, size) in
          let reads = sap_reads from payload (entry_weight net 1) refl
          (subst (λ (n : ℕ). AllByRecursion (λ e. entry_weight net e.hops ≤ entry_weight net 1) (sap_entries_at n (drop 2 payload))) (sym count) (few_hops page is.each)) in
          let same = ap (λ (n : ℕ). n * entry_weight net 1) count in
          omega (arith, heard, lands, reads, same)
      | inr none ↦
          let heard : said net most_routes most_services (rip_packet_parts from to Response page) ≡ 1 = rw (other, none) refl in
          omega (arith, heard)
    ]
  ]
    where
      payload : List ℕ
      payload = rip_payload Response page

      read_as : ℕ
      read_as =
          if to.socket.0 == rip_socket then routes_weight net page
          else if to.socket.0 == sap_socket then (length page / entries_a_service) * entry_weight net 1
          else 0

  -- ---- a page of services, likewise

  pub sap_page_lands : (from to : Address) (page : List Service) → IsPage services_a_page (Tellable IsToldService) page
      → sap_of (sap_payload false page) ≡ Ok (SapResponse false (map entry_of page))
      → said net most_routes most_services (sap_packet_parts from to false page)
      ≤ 1 + (if to.socket.0 == rip_socket then (short page * entries_a_service) * entry_weight net 0
      else if to.socket.0 == sap_socket then sum_by (λ s. entry_weight net s.hops) page
      else 0)
  sap_page_lands from to page is says = elim (cases_Bool (to.socket.0 == rip_socket)) [
    | inl rip ↦
        let heard : said net most_routes most_services (sap_packet_parts from to false page) ≡ by_rip from (rip_of payload) = rw rip refl in
        let lands : read_as ≡ (short page * entries_a_service) * entry_weight net 0 = rw rip refl in
        let reads = rip_reads from payload refl in
        let same = ap (λ (n : ℕ). n * entry_weight net 0) read_few in
        omega (arith, heard, lands, reads, same)
    | inr other ↦ elim (cases_Bool (to.socket.0 == sap_socket)) [
      | inl sap ↦
          let heard = sap_heard net most_routes most_services from to page other sap says in
          let lands : read_as ≡ sum_by (λ s. entry_weight net s.hops) page = rw (other, sap) refl in
          let same = sum_mapped (λ (e : SapEntry). entry_weight net e.hops) entry_of page in
          omega (arith, heard, lands, same)
      | inr none ↦
          let heard : said net most_routes most_services (sap_packet_parts from to false page) ≡ 1 = rw (other, none) refl in
          omega (arith, heard)
    ]
  ]
    where
      payload : List ℕ
      payload = sap_payload false page

      read_as : ℕ
      read_as =
          if to.socket.0 == rip_socket then (short page * entries_a_service) * entry_weight net 0
          else if to.socket.0 == sap_socket then sum_by (λ s. entry_weight net s.hops) page
          else 0

      read_few : (if nat_lt 409 (length (sap_payload false page)) then 0 else (length (sap_payload false page) - 2) / 8) ≡ short page * entries_a_service
      read_few =
          let size = length-services false page (all_then (Tellable IsToldService) IsService (λ s both. both.0.ranges) page is.each) in
          elim (cases_lt (length page) services_a_page) [
            | inl less ↦
                let fits : nat_lt 409 (length (sap_payload false page)) ≡ false = le-ltb 409 (length (sap_payload false page)) (omega (arith, size, less)) in
                let all : short page ≡ length page = rw (lt-ltb (length page) services_a_page less) refl in
                let count : (if nat_lt 409 (length (sap_payload false page)) then 0 else (length (sap_payload false page) - 2) / 8) ≡ (length (sap_payload false page) - 2) / 8 = rw fits refl in
                omega (arith, count, all, size)
            | inr full ↦
                let over : nat_lt 409 (length (sap_payload false page)) ≡ true = lt-ltb 409 (length (sap_payload false page)) (omega (arith, size, full)) in
                let none : short page ≡ 0 = rw (le-ltb (length page) services_a_page full) refl in
                let count : (if nat_lt 409 (length (sap_payload false page)) then 0 else (length (sap_payload false page) - 2) / 8) ≡ 0 = rw over refl in
                omega (arith, count, none)
          ]

  -- an answer for the nearest is nothing to either process
  pub nearest_lands : (from to : Address) (page : List Service) → said net most_routes most_services (sap_packet_parts from to true page) ≤ 1
  nearest_lands from to page = elim (cases_Bool (to.socket.0 == rip_socket)) [
    | inl rip ↦
        let heard : said net most_routes most_services (sap_packet_parts from to true page) ≡ by_rip from (rip_of (sap_payload true page)) = rw rip refl in
        let reads = rip_reads_nearest from (sap_payload true page) refl in
        omega (arith, heard, reads)
    | inr other ↦ elim (cases_Bool (to.socket.0 == sap_socket)) [
      | inl sap ↦
          let heard : said net most_routes most_services (sap_packet_parts from to true page) ≡ by_sap from (sap_of (sap_payload true page)) = rw (other, sap) refl in
          let reads = sap_reads_nearest from (sap_payload true page) refl in
          omega (arith, heard, reads)
      | inr none ↦
          let heard : said net most_routes most_services (sap_packet_parts from to true page) ≡ 1 = rw (other, none) refl in
          omega (arith, heard)
    ]
  ]
