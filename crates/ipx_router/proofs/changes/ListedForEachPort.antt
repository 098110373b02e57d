-- Changes are advertised port by port: what is listed for a port, its one packet, and the room that it leaves.
use Rattle.std.proofs.Common.{◌≡◌, sym, ap, ◌∙◌, subst, ℕ, ◌+◌, ◌-◌, ◌*◌, ◌<◌, ◌≤◌, List, [], ◌∷◌, ◌++◌, length, map, take, get_or, arith, append-nil, append_assoc, length-append, Bool, true, ◌==◌}
use Rattle.std.specs.List.{flat_map}
use Rattle.std.proofs.lemmas.Bool.{ne_eqb}
use Rattle.std.proofs.lemmas.Grind.{flat_map-append, common_steps}
use Rattle.std.proofs.lemmas.List.{take_more, map-append}
use Rattle.ipx_router.specs.Bounds.{most_packets, most_length}
use Rattle.ipx_router.specs.Changes.{Change, changes}
use Rattle.ipx_router.specs.History.{Packet}
use Rattle.ipx_router.specs.News.{same_route, same_service, route_told, service_told}
use Rattle.ipx_router.specs.Numbers.{most_own_length}
use Rattle.ipx_router.specs.Outbox.{Contents, HasRoom, Fits, Appends}
use Rattle.ipx_router.specs.Pages.{pages_from, pages}
use Rattle.ipx_router.specs.Port.{Port}
use Rattle.ipx_router.specs.Relays.{Sent}
use Rattle.ipx_router.specs.Routes.{network_order}
use Rattle.ipx_router.specs.Sends.{news_on, rip_broadcast, sap_broadcast}
use Rattle.ipx_router.specs.Services.{service_order}
use Rattle.ipx_router.specs.inside.Touched.{Touches, changes_noted}
use Rattle.ipx_router.specs.declared.route_offer.RouteOffer.{RouteOffer}
use Rattle.ipx_router.specs.declared.service_offer.ServiceOffer.{ServiceOffer}
use Rattle.ipx_router.specs.declared.learning.touched.Touched.{Touched}
use Rattle.ipx_router.proofs.bounds.PacketsOfEachEvent.{network_total, service_total}
use Rattle.ipx_router.proofs.lists.CountOfPages.{room_left}
use Rattle.ipx_router.proofs.sending.OneAfterAnother.{appends_then}
use Rattle.ipx_router.proofs.telling.LawsOfTold.{no_route_news, no_service_news, route-same, service-same}
use Rattle.ipx_router.proofs.changes.TouchedGivesAllChanges.{changes_touched}

-- a list that was found empty
pub no_items : {X : Type 0} (xs : List X) {empty : Bool} → empty ≡ (length xs == 0) → empty ≡ true → xs ≡ []
no_items xs is found = grind (arith, common_steps, ne_eqb)

-- ---- a list, change by change

-- one item more
pub flat_map_more : {X Y : Type 0} (f : X → List Y) (xs : List X) (k : ℕ) (d : X) → k < length xs
    → flat_map f (take (k + 1) xs) ≡ flat_map f (take k xs) ++ f (get_or xs k d)
flat_map_more f xs k d below = grind (arith, common_steps, take_more, flat_map-append, append-nil)

pub map_more : {X Y Z : Type 0} (f : Y → List Z) (g : X → Y) (xs : List X) (k : ℕ) (d : X) (now next : List Z) → k < length xs
    → now ≡ flat_map f (map g (take k xs)) → next ≡ now ++ f (g (get_or xs k d)) → next ≡ flat_map f (map g (take (k + 1) xs))
map_more f g xs k d now next below before step = grind (arith, common_steps, append-nil, take_more, map-append, flat_map-append)

-- ---- one packet

-- what one page has room for is one page
short_from : {X : Type 0} (n : ℕ) (page xs : List X) → length page + length xs ≤ n → pages_from n page xs ≡ pages_from n (page ++ xs) []
short_from n page [] few = ap (λ p. pages_from n p []) (sym (append-nil page))
short_from n page (x ∷ xs) few =
    room_left n page x xs (omega (arith, few))
    ∙ short_from n (page ++ x ∷ []) xs (omega (arith, few, length-append page (x ∷ [])))
    ∙ ap (λ p. pages_from n p []) (append_assoc page (x ∷ []) xs)

pub one_page : {X : Type 0} (n : ℕ) (xs : List X) → length xs ≤ n → 1 ≤ length xs → pages n xs ≡ xs ∷ []
one_page n xs few some = grind (arith, short_from)

pub one_fits : (o : Contents) (packet : Sent) (most : ℕ) → HasRoom o 1 most → length packet.bytes ≤ most → Fits o (packet ∷ [])
one_fits o packet most room short = grind arith

-- the room that a packet leaves
pub one_left : {a b : Contents} (packet : Sent) (most : ℕ) → Appends a b (packet ∷ []) → length packet.bytes ≤ most
    → (packets bytes : ℕ) → HasRoom a (packets + 1) (bytes + most) → HasRoom b packets bytes
one_left {a} {b} packet most appends short packets bytes room = grind arith

pub less_room : {o : Contents} (m n j k : ℕ) → HasRoom o n k → m ≤ n → j ≤ k → HasRoom o m j
less_room m n j k room fewer shorter = grind arith

-- ---- port by port

-- the room for those to come, where one of them is next
pub room_next : {o : Contents} (n k most : ℕ) → k < n → HasRoom o (n - k) ((n - k) * most) → HasRoom o ((n - (k + 1)) + 1) ((n - (k + 1)) * most + most)
room_next {o} n k most below room =
    let left : n - k ≡ (n - (k + 1)) + 1 = omega (arith, below) in
    let bytes : (n - k) * most ≡ (n - (k + 1)) * most + most = ap (λ m. m * most) left ∙ one_more (n - (k + 1)) in
    less_room ((n - (k + 1)) + 1) (n - k) ((n - (k + 1)) * most + most) ((n - k) * most) room (omega (arith, left)) (omega (arith, bytes))
  where
    one_more : (m : ℕ) → (m + 1) * most ≡ m * most + most
    one_more m = omega arith

pub room_one : {o : Contents} (n k most : ℕ) → k < n → HasRoom o (n - k) ((n - k) * most) → HasRoom o 1 most
room_one n k most below room = grind arith

pub sent_next : {a b c : Contents} (f : ℕ → List Sent) (up : List ℕ) (k d : ℕ) → k < length up → Appends a b (flat_map f (take k up))
    → Appends b c (f (get_or up k d)) → Appends a c (flat_map f (take (k + 1) up))
sent_next {a} {b} {c} f up k d below before step =
    subst (λ (ps : List Sent). Appends a c ps) (sym (flat_map_more f up k d below)) (appends_then before step)

-- ---- news of one table alone

each_same : {X Y : Type 0} (f g : X → List Y) → ((x : X) → f x ≡ g x) → (xs : List X) → flat_map f xs ≡ flat_map g xs
each_same f g same xs = grind arith

module _ (ports : List Port) (up : List ℕ) (before after : List RouteOffer) (services : List ServiceOffer) where
  pub route_news : (changed : List (Change RouteOffer)) → changed ≡ changes (λ r. r.network) network_order same_route before after
      → flat_map (λ j. rip_broadcast ports j (flat_map (route_told ports j) changed)) up
      ≡ flat_map (news_on ports (record { up = up; routes = before; services = services }) (record { up = up; routes = after; services = services })) up
  route_news changed is = grind (arith, each_same, append-nil, no_service_news)

module _ (ports : List Port) (up : List ℕ) (routes : List RouteOffer) (before after : List ServiceOffer) where
  pub service_news : (changed : List (Change ServiceOffer)) → changed ≡ changes (λ s. (s.service.kind, s.service.name)) service_order same_service before after
      → flat_map (λ j. sap_broadcast ports j (flat_map (service_told j) changed)) up
      ≡ flat_map (news_on ports (record { up = up; routes = routes; services = before }) (record { up = up; routes = routes; services = after })) up
  service_news changed is = grind (arith, each_same, no_route_news)

-- ---- nothing was touched

pub no_route_change : (before after : List RouteOffer) (touched : List (Touched RouteOffer)) → touched ≡ []
    → Touches (λ r. r.network) network_order before after touched → [] ≡ changes (λ r. r.network) network_order same_route before after
no_route_change before after touched none touches =
    sym (ap (changes_noted (λ r. r.network) network_order same_route) none)
    ∙ changes_touched (λ r. r.network) network_order same_route network_total before after route-same touched touches

pub no_service_change : (before after : List ServiceOffer) (touched : List (Touched ServiceOffer)) → touched ≡ []
    → Touches (λ s. (s.service.kind, s.service.name)) service_order before after touched
    → [] ≡ changes (λ s. (s.service.kind, s.service.name)) service_order same_service before after
no_service_change before after touched none touches =
    sym (ap (changes_noted (λ s. (s.service.kind, s.service.name)) service_order same_service) none)
    ∙ changes_touched (λ s. (s.service.kind, s.service.name)) service_order same_service service_total before after service-same touched touches

-- ---- the room that a packet's event has

-- it is enough for one packet a port
pub learn_room : {o : Contents} (ports routes services number : ℕ) (bytes : List ℕ) (up : List ℕ) → length up ≤ ports
    → HasRoom o (most_packets ports routes services (Packet number bytes)) (most_packets ports routes services (Packet number bytes) * most_length (Packet number bytes))
    → HasRoom o (length up) (length up * most_own_length)
learn_room ports routes services number bytes up few room = grind arith
