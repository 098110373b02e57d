-- The words of routers that have a service with the fewest hops: one hop more than that, whatever else they say, and never that it ended.
use Rattle.std.proofs.Common.{◌≡◌, refl, sym, ap, ap₂, ◌∙◌, subst, ℕ, suc, ◌<◌, ◌≤◌, ◌==◌, Bool, true, List, [], ◌∷◌, filter, find, length, map, option_map, Option, None, Some, inl, inr, arith, true≢false, Ordering, Less, Equal, Greater, is_eq}
use Rattle.std.specs.List.{AllByRecursion}
use Rattle.std.specs.Ordering.{nat_cmp, ordering_then}
use Rattle.std.proofs.lemmas.Bool.{cases_Bool, both_ways, lt-ltb}
use Rattle.ipx_wire.specs.Name.{name_order}
use Rattle.ipx_wire.specs.declared.service.Service.{Service}
use Rattle.ipx_wire.proofs.NameOrder.{equal_is}
use Rattle.ipx_table.specs.Accepted.{marked}
use Rattle.ipx_table.specs.Alive.{alive}
use Rattle.ipx_table.specs.Facts.{Fact}
use Rattle.ipx_table.specs.declared.held.Held.{Held}
use Rattle.ipx_table.proofs.Living.{kept}
use Rattle.ipx_table.proofs.Order.{is_equal}
use Rattle.ipx_table.proofs.Standing.{rules_total}
use Rattle.ipx_router.specs.Changes.{Change, change_at, changes, differs, put_keys}
use Rattle.ipx_router.specs.Facts.{service_facts, services_held, offers}
use Rattle.ipx_router.specs.History.{History}
use Rattle.ipx_router.specs.News.{service_now, service_told, news_services, same_service}
use Rattle.ipx_router.specs.Numbers.{unreachable}
use Rattle.ipx_router.specs.Port.{Port}
use Rattle.ipx_router.specs.Services.{service_reading, service_order, service_rules}
use Rattle.ipx_router.specs.Told.{name_before, is_reached_on, farther, dead_service, is_service_told, told_services}
use Rattle.ipx_router.specs.declared.service_offer.ServiceOffer.{ServiceOffer}
use Rattle.ipx_router.proofs.bounds.PacketsOfEachEvent.{service_total}
use Rattle.ipx_router.proofs.lists.EachElement.{all_sorted}
use Rattle.ipx_router.proofs.tables.HeldWasOffered.{all_in_order, all_offers}
use Rattle.ipx_internet.specs.Internet.{Internet}
use Rattle.ipx_internet.proofs.lists.EachElement.{all_of, all_then, all-filter, all-map, all-flat_map}
use Rattle.ipx_internet.proofs.lists.FoundInAList.{nothing, it_is, found}
use Rattle.ipx_internet.proofs.packets.AdvertisedIsHeld.{unless}
use Rattle.ipx_internet.proofs.records.KeptOrOffered.{among_alive}
use Rattle.ipx_laws.specs.Servers.{Server, IsOf, at_hops, known_of, IsFewest}
use Rattle.ipx_laws.proofs.lists.SomeElement.{only_found}
use Rattle.ipx_laws.proofs.records.KeysHaveRoom.{itself}
use Rattle.ipx_laws.proofs.tables.RoomForEachNetwork.{same_where_equal}

-- ---- keys

pub one_name : (a b : ℕ × List ℕ) → is_eq (service_order a b) ≡ true → a ≡ b
one_name a b e = by (nat_cmp a.0 b.0) refl
  where
    by : (r : Ordering) → nat_cmp a.0 b.0 ≡ r → a ≡ b
    by Less is = absurd (true≢false (sym e ∙ ap (λ (o : Ordering). is_eq (ordering_then o (name_order a.1 b.1))) is))
    by Greater is = absurd (true≢false (sym e ∙ ap (λ (o : Ordering). is_eq (ordering_then o (name_order a.1 b.1))) is))
    by Equal is =
        let kinds : a.0 ≡ b.0 = same_where_equal a.0 b.0 (ap is_eq is) in
        let names : is_eq (name_order a.1 b.1) ≡ true = sym (ap (λ (o : Ordering). is_eq (ordering_then o (name_order a.1 b.1))) is) ∙ e in
        ap₂ (λ (kind : ℕ) (name : List ℕ). (kind, name)) kinds (equal_is a.1 b.1 (is_equal (name_order a.1 b.1) names))

-- ---- lists

-- what holds for each of something
pub all_given : {A X : Type 0} (P : A → X → Type 0) (xs : List X) → ((a : A) → AllByRecursion (P a) xs) → AllByRecursion (λ x. (a : A) → P a x) xs
all_given P [] all = tt
all_given P (x ∷ xs) all = ((λ a. (all a).0), all_given P xs (λ a. (all a).1))

-- ---- the service is held once

module _ (server : Server) where
  abbrev key : ℕ × List ℕ
  key = (server.kind, server.name)

  abbrev is_of : ServiceOffer → Bool
  is_of s = is_eq (service_order (s.service.kind, s.service.name) key)

  of_is : (s : ServiceOffer) → IsOf server s.service → is_of s ≡ true
  of_is s of =
      let same : ◌≡◌ {A = ℕ × List ℕ} (s.service.kind, s.service.name) key = ap₂ (λ (kind : ℕ) (name : List ℕ). (kind, name)) of.0 of.1 in
      subst (λ (k : ℕ × List ℕ). is_eq (service_order k key) ≡ true) (sym same) (itself service_reading service_order service_total one_name key)

  module _ (ports : List Port) (most_services : ℕ) (history : History) where
    abbrev held_now : List ServiceOffer
    held_now = offers (services_held ports most_services history)

    abbrev facts : List (Fact ServiceOffer)
    facts = service_facts ports history

    abbrev records : List (Held ServiceOffer)
    records = alive (service_rules ports most_services) (marked (service_rules ports most_services) facts)

    abbrev shares : List ℕ
    shares = map (λ p. p.service_share) ports

    held_once : (s : ServiceOffer) → find is_of held_now ≡ Some s → AllByRecursion (λ o. is_of o ≡ true → o ≡ s) held_now
    held_once s some =
        by (find (λ h. is_of h.offer) records) refl
        (sym (among_alive service_reading service_order service_total most_services shares key facts) ∙ some)
      where
        Is : ServiceOffer → Type 0
        Is o = is_of o ≡ true → o ≡ s

        by : (k : Option (Held ServiceOffer)) → find (λ h. is_of h.offer) records ≡ k → option_map (λ h. h.offer) k ≡ Some s → AllByRecursion Is held_now
        by None none e = nothing e
        by (Some h) is e =
            let same : h.offer ≡ s = it_is (λ (o : ServiceOffer). h.offer ≡ o) s h.offer e refl in
            let passes = (found (λ x. Unit {0}) (λ x. is_of x.offer) records h (all_of (λ x. Unit {0}) (λ x. tt) records) is).1 in
            let named = one_name (h.offer.service.kind, h.offer.service.name) key passes in
            let few : length (filter (λ x. is_of x.offer) records) ≤ 1 =
            subst (λ (k : ℕ × List ℕ). length (filter (λ x. is_eq (service_order (x.offer.service.kind, x.offer.service.name) k)) records) ≤ 1) named
            ((kept (service_rules ports most_services) (rules_total service_reading service_order service_total most_services shares) facts).distinct h.offer) in
            all_offers Is (services_held ports most_services history)
            (all_in_order Is (service_rules ports most_services).by_key records
            (all_then (λ x. is_of x.offer ≡ true → x ≡ h) (λ x. Is x.offer) (λ x one this. ap (λ (y : Held ServiceOffer). y.offer) (one this) ∙ same) records
            (only_found (λ x. is_of x.offer) records h few is)))

    -- what a router has of it is what is known
    pub only_so : (s : Service) → known_of server held_now ≡ Some s → AllByRecursion (λ o. IsOf server o.service → o.service ≡ s) held_now
    only_so s is_known = by (find is_of held_now) refl is_known
      where
        by : (k : Option ServiceOffer) → find is_of held_now ≡ k → option_map (λ o. o.service) k ≡ Some s
            → AllByRecursion (λ o. IsOf server o.service → o.service ≡ s) held_now
        by None none e = nothing e
        by (Some o) is e =
            all_then (λ x. is_of x ≡ true → x ≡ o) (λ x. IsOf server x.service → x.service ≡ s)
            (λ x one of. ap (λ (y : ServiceOffer). y.service) (one (of_is x of)) ∙ it_is (λ (z : Service). o.service ≡ z) s o.service e refl) held_now
            (held_once o is)

  -- ---- what is said of it

  module _ (hops : ℕ) (near : suc hops < unreachable) (services : List ServiceOffer) (is_known : known_of server services ≡ Some (at_hops server hops))
      (only : AllByRecursion (λ s. IsOf server s.service → s.service ≡ at_hops server hops) services) where
    abbrev Is : ServiceOffer → Type 0
    Is s = IsOf server s.service → s.service ≡ at_hops server hops

    -- one hop more
    abbrev So : Service → Type 0
    So s = IsOf server s → s ≡ at_hops server (suc hops)

    farther_so : (s : ServiceOffer) → Is s → So (farther s.service)
    farther_so s one of = grind arith

    pub told_so : (j : ℕ) → AllByRecursion So (told_services services j)
    told_so j =
        all_sorted So name_before (map (λ s. farther s.service) (filter (is_service_told j) services))
        (all-map Is So (λ s. farther s.service) farther_so (filter (is_service_told j) services) (all-filter Is (is_service_told j) services only))

    now_so : (s : ServiceOffer) → Is s → So (service_now s)
    now_so s one = elim (cases_Bool (is_reached_on s.service.hops)) [
      | inl reached ↦ rw reached (farther_so s one)
      | inr far ↦ rw far (λ of. absurd (both_ways (is_reached_on s.service.hops) far (lt-ltb s.service.hops 15 (few (one of)))))
    ]
      where
        few : s.service ≡ at_hops server hops → s.service.hops < 15
        few same =
            let is = ap (λ (x : Service). x.hops) same in
            omega (arith, is, near)

    -- it is said to have ended by nobody
    dead_so : (before : List ServiceOffer) (k : ℕ × List ℕ) (s : ServiceOffer)
        → find (λ o. is_eq (service_order (o.service.kind, o.service.name) k)) before ≡ Some s
        → find (λ o. is_eq (service_order (o.service.kind, o.service.name) k)) services ≡ None → So (dead_service s.service)
    dead_so before k s was none of =
        let passes = (found (λ x. Unit {0}) (λ o. is_eq (service_order (o.service.kind, o.service.name) k)) before s
        (all_of (λ x. Unit {0}) (λ x. tt) before) was).1 in
        let this : ◌≡◌ {A = ℕ × List ℕ} (s.service.kind, s.service.name) key = ap₂ (λ (kind : ℕ) (name : List ℕ). (kind, name)) of.0 of.1 in
        let same : k ≡ key = sym (one_name (s.service.kind, s.service.name) k passes) ∙ this in
        let gone : find is_of services ≡ None =
        subst (λ (x : ℕ × List ℕ). find (λ o. is_eq (service_order (o.service.kind, o.service.name) x)) services ≡ None) same none in
        nothing (sym (ap (option_map (λ o. o.service)) gone) ∙ is_known)

    pub news_so : (before : List ServiceOffer) (j : ℕ) → AllByRecursion So (news_services before services j)
    news_so before j =
        all-flat_map Said So (service_told j) (λ c said. said) (changes (λ s. (s.service.kind, s.service.name)) service_order same_service before services)
        (all-filter Said (differs (λ s. (s.service.kind, s.service.name)) service_order same_service)
        (map (change_at (λ s. (s.service.kind, s.service.name)) service_order same_service before services) keys)
        (all-map (λ k. Unit {0}) Said (change_at (λ s. (s.service.kind, s.service.name)) service_order same_service before services)
        (λ k here. each k (offer_at k before) refl (offer_at k services) refl) keys (all_of (λ k. Unit {0}) (λ k. tt) keys)))
      where
        Said : Change ServiceOffer → Type 0
        Said c = AllByRecursion So (service_told j c)

        keys : List (ℕ × List ℕ)
        keys =
            put_keys (λ s. (s.service.kind, s.service.name)) service_order same_service before
            (put_keys (λ s. (s.service.kind, s.service.name)) service_order same_service services [])

        offer_at : ℕ × List ℕ → List ServiceOffer → Option ServiceOffer
        offer_at k os = find (λ o. is_eq (service_order (o.service.kind, o.service.name) k)) os

        each : (k : ℕ × List ℕ) (old : Option ServiceOffer) → offer_at k before ≡ old → (new : Option ServiceOffer) → offer_at k services ≡ new
            → Said (record { before = offer_at k before; after = offer_at k services })
        each k old was (Some s) is =
            subst (λ (o : Option ServiceOffer). Said (record { before = offer_at k before; after = o })) (sym is)
            (unless So (s.port == j) (service_now s)
            (λ other. now_so s (found Is (λ o. is_eq (service_order (o.service.kind, o.service.name) k)) services s only is).0))
        each k (Some s) was None none =
            subst (λ (o : Option ServiceOffer). Said (record { before = offer_at k before; after = o })) (sym none)
            (subst (λ (o : Option ServiceOffer). Said (record { before = o; after = None })) (sym was)
            (unless So (s.port == j) (dead_service s.service) (λ other. dead_so before k s was none)))
        each k None was None none =
            subst (λ (o : Option ServiceOffer). Said (record { before = offer_at k before; after = o })) (sym none)
            (subst (λ (o : Option ServiceOffer). Said (record { before = o; after = None })) (sym was) tt)

-- ---- where all that are nearer are right

module _ (net : Internet) (up : ℕ → List ℕ) (server : Server) (most_services far : ℕ) (reached : far < unreachable) where
  -- the router's fewest hops are fewer than that
  pub record IsNearer (router : ℕ) : Type 0 where
    pub hops : ℕ
    pub near : hops < far
    pub fewest : IsFewest net up server router hops

  -- what such a router says of it
  abbrev pub Words : ℕ → Service → Type 0
  Words router s = (nearer : IsNearer router) → IsOf server s → s ≡ at_hops server (suc nearer.hops)

  pub few : (router : ℕ) (nearer : IsNearer router) → suc nearer.hops < unreachable
  few router nearer = grind arith
