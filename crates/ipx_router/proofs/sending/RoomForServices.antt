-- Room for the next packet of services that are written where it lies.
use Rattle.std.proofs.lemmas.Grind.{common_steps}
use Rattle.std.proofs.Common.{◌≡◌, ℕ, ◌+◌, ◌<◌, ◌≤◌, Bool, false, nat_eq, ◌==◌, if◌then◌else◌, Option, Some, None, List, [], ◌∷◌, ◌++◌, length, take, drop, sym, subst, arith, append-nil, length-append, length-take}
use Rattle.std.proofs.lemmas.Bool.{cases_lt, ne_eqb}
use Rattle.std.proofs.lemmas.List.{drop_all, take-append-drop}
use Rattle.std.specs.List.{flat_map}
use Rattle.ipx_wire.specs.WriteServices.{service_bytes, sap_packet}
use Rattle.ipx_wire.specs.declared.service.Service.{Service}
use Rattle.ipx_wire.proofs.Headers.{length-header_bytes}
use Rattle.ipx_router.specs.Changes.{Change}
use Rattle.ipx_router.specs.News.{service_now, service_told}
use Rattle.ipx_router.specs.Numbers.{services_a_page}
use Rattle.ipx_router.specs.Outbox.{Contents, Fits}
use Rattle.ipx_router.specs.Told.{dead_service}
use Rattle.ipx_router.specs.inside.Envelope.{services_in}
use Rattle.ipx_router.specs.inside.Owed.{owed}
use Rattle.ipx_router.specs.inside.Putting.{packet_size}
use Rattle.ipx_router.specs.declared.advertising.envelope.Envelope.{Envelope}
use Rattle.ipx_router.specs.declared.service_offer.ServiceOffer.{ServiceOffer}
use Rattle.ipx_router.proofs.sending.OneAfterAnother.{pays_none}
use Rattle.ipx_router.proofs.sending.PagesFilledFirst.{filled_fits, one_packet}

-- how long a response is, by the bytes of its services
length-response : (envelope : Envelope) (page : List Service) → length envelope.to.node.0 ≡ 6 → length envelope.from.node.0 ≡ 6
    → length (sap_packet envelope.from envelope.to false page) ≡ 32 + length (flat_map service_bytes page)
length-response envelope page to from = grind (arith, length-append, length-header_bytes)

-- where all that is owed fits, the next packet has its place and its bytes
pub next_fits : (envelope : Envelope) (left : List Service) {o : Contents} → length envelope.to.node.0 ≡ 6 → length envelope.from.node.0 ≡ 6
    → Fits o (owed services_a_page (services_in false envelope) [] left) → (1 ≤ length left → 1 ≤ o.places) × (packet_size left ≤ o.spare)
next_fits envelope [] to from fits = ((λ some. absurd (omega (arith, some))), omega arith)
next_fits envelope (s ∷ ss) {o} to from fits =
    let packet = services_in false envelope in
    let left = s ∷ ss in
    let page = take services_a_page left in
    let long = length-take services_a_page left in
    let few : length page ≤ services_a_page = omega (arith, long) in
    let filled : false ≡ nat_eq (length page) 0 = sym (ne_eqb (length page) 0 (λ none. omega (arith, none, long))) in
    let one : Fits o (packet page ∷ []) =
    subst (Fits o) (one_packet services_a_page packet (omega arith) page few filled)
    (filled_fits services_a_page packet (omega arith) left left page (drop services_a_page left) (sym (take-append-drop services_a_page left)) few
    (λ less. drop_all services_a_page left (omega (arith, less, long))) (pays_none o (owed services_a_page packet [] left)) fits) in
    let places = one.places in
    let spare = one.spare in
    ((λ some. omega (arith, places)), omega (arith, spare, length-response envelope page to from))

-- one or none
at_most_one : {X : Type 0} (is : Bool) (x : X) → length (if is then [] else x ∷ []) ≤ 1
at_most_one is x = grind arith

-- of each change at most one service is told
pub told_at_most : (number : ℕ) (change : Change ServiceOffer) → length (service_told number change) ≤ 1
told_at_most number change = of_each change.after change.before
  where
    of_each : (after before : Option ServiceOffer) → length (service_told number (record { before = before; after = after })) ≤ 1
    of_each (Some offer) before = at_most_one (offer.port == number) (service_now offer)
    of_each None (Some offer) = at_most_one (offer.port == number) (dead_service offer.service)
    of_each None None = omega arith

pub told_few : (number : ℕ) (changes : List (Change ServiceOffer)) → length (flat_map (service_told number) changes) ≤ length changes
told_few number [] = omega arith
told_few number (change ∷ changes) = grind (arith, told_few number changes)

nothing : {X : Type 0} (xs : List X) → length xs ≡ 0 → xs ≡ []
nothing xs none = grind (arith, common_steps)

-- as many services as one packet may have were all sent in it
pub all_sent : {left services leaves : List Service} {count : ℕ} → left ≡ services ++ leaves → length services ≡ count → length left ≤ services_a_page
    → (count < services_a_page → leaves ≡ []) → left ≡ services
all_sent {left} {services} {leaves} {count} whole counted few last = grind (arith, cases_lt, nothing, length-append, append-nil)
