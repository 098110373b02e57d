-- Laws of what is told and sent.
use Rattle.std.proofs.Common.{◌≡◌, refl, ap, ℕ, ◌==◌, Bool, true, not, ◌&&◌, nat_eq, List, [], ◌∷◌, ◌++◌, map, filter, Option, None, Some, arith, rules}
use Rattle.std.specs.Cmp.Lexicographic.{pointwise}
use Rattle.std.proofs.lemmas.Bool.{eq-eqb, and_from}
use Rattle.std.specs.declared.cmp.Ordering.{Ordering}
use Rattle.ipx_router.specs.Changes.{change_at, differs, offer_of, same_or_none}
use Rattle.ipx_router.specs.News.{news, news_services, same_route, same_service}
use Rattle.ipx_router.specs.Port.{Port, port_at}
use Rattle.ipx_router.specs.Told.{told, told_services, is_reached_on, told_at, direct, by_network, by_name, entry_of, farther}
use Rattle.ipx_router.specs.declared.route_offer.RouteOffer.{RouteOffer}
use Rattle.ipx_router.specs.declared.service_offer.ServiceOffer.{ServiceOffer}

-- ---- split horizon

-- a filter that asks for more than another may come after it
filter-twice : {X : Type 0} (p q : X → Bool) (xs : List X) → filter (λ x. p x && q x) (filter p xs) ≡ filter (λ x. p x && q x) xs
filter-twice p q [] = refl
filter-twice p q (x ∷ xs) = grind (arith, filter-twice p q xs)

pub told-elsewhere : (ports : List Port) (up : List ℕ) (routes : List RouteOffer) (number : ℕ)
    → told ports up (filter (λ r. not (r.port == number)) routes) number ≡ told ports up routes number
told-elsewhere ports up routes number =
    ap (λ rs. by_network (map (told_at (port_at ports number).cost) (direct ports up number ++ map entry_of rs)))
    (filter-twice (λ r. not (r.port == number)) (λ r. is_reached_on r.hops) routes)

pub services_told-elsewhere : (services : List ServiceOffer) (number : ℕ)
    → told_services (filter (λ s. not (s.port == number)) services) number ≡ told_services services number
services_told-elsewhere services number =
    ap (λ ss. by_name (map (λ s. farther s.service) ss)) (filter-twice (λ s. not (s.port == number)) (λ s. is_reached_on s.service.hops) services)

-- ---- no news

pointwise-same : (xs : List ℕ) → pointwise nat_eq xs xs ≡ true
pointwise-same xs = search (rules, and_from, eq-eqb)

none_differ : {O K : Type 0} (key_of : O → K) (order : K → K → Ordering) (same : O → O → Bool) → ((o : O) → same o o ≡ true)
    → (offers : List O) (keys : List K) → filter (differs key_of order same) (map (change_at key_of order same offers offers) keys) ≡ []
none_differ key_of order same alike offers [] = refl
none_differ key_of order same alike offers (key ∷ keys) =
    let itself = one (offer_of key_of order same key offers) in
    rw itself (none_differ key_of order same alike offers keys)
  where
    one : (o : Option _) → same_or_none key_of order same o o ≡ true
    one None = refl
    one (Some o) = alike o

pub route-same : (r : RouteOffer) → same_route r r ≡ true
route-same r = grind (arith, eq-eqb, pointwise-same)

pub service-same : (s : ServiceOffer) → same_service s s ≡ true
service-same s = grind (arith, eq-eqb, pointwise-same)

pub no_route_news : (ports : List Port) (routes : List RouteOffer) (number : ℕ) → news ports routes routes number ≡ []
no_route_news ports routes number = grind (arith, none_differ, route-same)

pub no_service_news : (services : List ServiceOffer) (number : ℕ) → news_services services services number ≡ []
no_service_news services number = grind (arith, none_differ, service-same)
