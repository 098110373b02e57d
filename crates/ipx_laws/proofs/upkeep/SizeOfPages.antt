-- How many packets a broadcast of entries and services takes, and how many bytes.
use Rattle.std.proofs.Common.{◌≡◌, refl, ap, ◌∙◌, ℕ, ◌+◌, ◌-◌, ◌*◌, ◌<◌, ◌≤◌, Bool, false, List, [], ◌∷◌, ◌++◌, length, map, arith, inl, inr, length-append}
use Rattle.std.specs.List.{AllByRecursion, sum_by}
use Rattle.std.proofs.lemmas.Bool.{cases_lt, lt-ltb, le-ltb}
use Rattle.std.proofs.lemmas.List.{length-map}
use Rattle.std.proofs.lemmas.List.Sums.{sum_by-append, sum_by-cons}
use Rattle.ipx_wire.specs.Address.{IsAddress}
use Rattle.ipx_wire.specs.Write.{rip_packet}
use Rattle.ipx_wire.specs.WriteServices.{IsService, sap_packet}
use Rattle.ipx_wire.specs.declared.address.Address.{Address}
use Rattle.ipx_wire.specs.declared.rip.Operation.{Operation}
use Rattle.ipx_wire.specs.declared.rip.Operation.TheVariants.{Response}
use Rattle.ipx_wire.specs.declared.rip.RipEntry.{RipEntry}
use Rattle.ipx_wire.specs.declared.service.Service.{Service}
use Rattle.ipx_router.specs.Numbers.{entries_a_page, services_a_page}
use Rattle.ipx_router.specs.Pages.{pages_from, pages, sheets}
use Rattle.ipx_router.specs.Port.{Port, IsPort, port_at, everyone, every_server}
use Rattle.ipx_router.specs.Relays.{Sent}
use Rattle.ipx_router.specs.Sends.{entries_sent, services_sent, rip_broadcast, sap_broadcast, broadcasts}
use Rattle.ipx_router.proofs.lists.ItemsOfPages.{IsPage, all_pages}
use Rattle.ipx_internet.proofs.packets.PagesReadAgain.{own_is, services_is, everyone_is, every_server_is}
use Rattle.ipx_laws.specs.Upkeep.{upkeep_packets, upkeep_bytes}

-- ---- pages

-- the items of all pages are those of the list, and those of the page that was begun
all_items : {X : Type 0} (n : ℕ) (page xs : List X) → sum_by (λ p. length p) (pages_from n page xs) ≡ length page + length xs
all_items n [] [] = refl
all_items n (p ∷ page) [] = omega arith
all_items n page (x ∷ xs) = elim (cases_lt (length page) n) [
  | inl room ↦
      let more = length-append page (x ∷ []) in
      let rest = all_items n (page ++ x ∷ []) xs in
      rw (lt-ltb (length page) n room) (omega (arith, more, rest))
  | inr full ↦
      let rest = all_items n (x ∷ []) xs in
      let first = sum_by-cons (λ (p : List _). length p) page (pages_from n (x ∷ []) xs) in
      rw (le-ltb (length page) n full) (omega (arith, rest, first))
]

items_of : {X : Type 0} (n : ℕ) (xs : List X) → sum_by (λ p. length p) (pages n xs) ≡ length xs
items_of n xs = all_items n [] xs ∙ (omega arith)

-- a page is no longer than stated, and each but the last one is as long
full_pages : {X : Type 0} (n : ℕ) (page xs : List X) → 0 < n → length page ≤ n
    → (length (pages_from n page xs) * n ≤ length page + length xs + (n - 1)) × (length page + length xs ≤ length (pages_from n page xs) * n)
full_pages n [] [] some few = (omega arith, omega arith)
full_pages n (p ∷ page) [] some few = (omega (arith, some, few), omega (arith, few))
full_pages n page (x ∷ xs) some few = elim (cases_lt (length page) n) [
  | inl room ↦
      let more = length-append page (x ∷ []) in
      let rest = full_pages n (page ++ x ∷ []) xs some (omega (arith, more, room)) in
      let most = rest.0 in
      let least = rest.1 in
      rw (lt-ltb (length page) n room) (omega (arith, more, most), omega (arith, more, least))
  | inr full ↦
      let rest = full_pages n (x ∷ []) xs some (omega (arith, some)) in
      let most = rest.0 in
      let least = rest.1 in
      rw (le-ltb (length page) n full) (omega (arith, most, full), omega (arith, least, few))
]

fifty : {X : Type 0} (xs : List X) → length (pages entries_a_page xs) ≡ sheets entries_a_page (length xs)
fifty xs = omega (arith, full_pages)

seven : {X : Type 0} (xs : List X) → length (pages services_a_page xs) ≡ sheets services_a_page (length xs)
seven xs = omega (arith, full_pages)

-- ---- broadcasts

pub counted : (ports : List Port) (number : ℕ) (entries : List RipEntry) (services : List Service)
    → length (broadcasts ports number entries services) ≡ upkeep_packets (length entries) (length services)
counted ports number entries services = grind (arith, length-append, length-map, fifty, seven)

-- how long each packet is
pub record Sizes : Type 0 where
  pub rip : (from to : Address) (operation : Operation) (entries : List RipEntry) → IsAddress from → IsAddress to
      → length (rip_packet from to operation entries) ≡ 32 + 8 * length entries
  pub sap : (from to : Address) (nearest : Bool) (services : List Service) → IsAddress from → IsAddress to → AllByRecursion IsService services
      → length (sap_packet from to nearest services) ≡ 32 + 64 * length services

module _ (sizes : Sizes) (ports : List Port) (number : ℕ) (is : IsPort (port_at ports number)) where
  abbrev port : Port
  port = port_at ports number

  rip_bytes : (ps : List (List RipEntry))
      → sum_by (λ s. length s.bytes) (map (entries_sent ports number (everyone port) Response) ps) ≡ 32 * length ps + 8 * sum_by (λ p. length p) ps
  rip_bytes [] = refl
  rip_bytes (p ∷ ps) = omega (arith, rip_bytes ps, own_is, everyone_is, sum_by-cons)

  sap_bytes : (ps : List (List Service)) → AllByRecursion (IsPage services_a_page IsService) ps
      → sum_by (λ s. length s.bytes) (map (services_sent ports number (every_server port) false) ps) ≡ 32 * length ps + 64 * sum_by (λ p. length p) ps
  sap_bytes [] all = refl
  sap_bytes (p ∷ ps) all = omega (arith, sap_bytes ps all.1, services_is, every_server_is, sum_by-cons)

  pub sized : (entries : List RipEntry) (services : List Service) → AllByRecursion IsService services
      → sum_by (λ s. length s.bytes) (broadcasts ports number entries services) ≡ upkeep_bytes (length entries) (length services)
  sized entries services all =
      let rips = pages entries_a_page entries in
      let saps = pages services_a_page services in
      let size : Sent → ℕ = λ s. length s.bytes in
      let both : sum_by size (broadcasts ports number entries services) ≡ sum_by size (rip_broadcast ports number entries) + sum_by size (sap_broadcast ports number services) =
      sum_by-append size (rip_broadcast ports number entries) (sap_broadcast ports number services) in
      let rip : sum_by size (rip_broadcast ports number entries) ≡ 32 * sheets entries_a_page (length entries) + 8 * length entries =
      rip_bytes rips ∙ ap (λ n. 32 * n + 8 * sum_by (λ p. length p) rips) (fifty entries)
      ∙ ap (λ n. 32 * sheets entries_a_page (length entries) + 8 * n) (items_of entries_a_page entries) in
      let sap : sum_by size (sap_broadcast ports number services) ≡ 32 * sheets services_a_page (length services) + 64 * length services =
      sap_bytes saps (all_pages IsService services_a_page (omega arith) services all) ∙ ap (λ n. 32 * n + 64 * sum_by (λ p. length p) saps) (seven services)
      ∙ ap (λ n. 32 * sheets services_a_page (length services) + 64 * n) (items_of services_a_page services) in
      both ∙ ap (λ n. n + sum_by size (sap_broadcast ports number services)) rip
      ∙ ap (λ n. 32 * sheets entries_a_page (length entries) + 8 * length entries + n) sap
      ∙ together (sheets entries_a_page (length entries)) (sheets services_a_page (length services)) (length entries) (length services)
    where
      together : (a b e n : ℕ) → 32 * a + 8 * e + (32 * b + 64 * n) ≡ 32 * (a + b) + 8 * e + 64 * n
      together a b e n = omega arith
