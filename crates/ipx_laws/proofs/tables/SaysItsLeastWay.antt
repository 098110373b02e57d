-- What a router says of a network of which it has the least way: that way, gone on; and it says so in each periodic broadcast.
use Rattle.std.proofs.Common.{◌≡◌, ◌≢◌, refl, sym, ap, ◌∙◌, subst, ◌⊎◌, ℕ, ◌+◌, ◌<◌, ◌≤◌, ◌==◌, nat_lt, Bool, true, not, List, [], ◌∷◌, ◌++◌, length, map, filter, flat_map, find, Option, Some, None, IfSome, inl, inr, arith, is_eq}
use Rattle.std.specs.List.{AllByRecursion}
use Rattle.std.proofs.lemmas.Bool.{cases_Bool}
use Rattle.ipx_wire.specs.declared.network.Network.{Network}
use Rattle.ipx_wire.specs.declared.rip.Operation.TheVariants.{Response}
use Rattle.ipx_wire.specs.declared.rip.RipEntry.{RipEntry}
use Rattle.ipx_router.specs.Changes.{Change, change_at, changes, differs, put_keys}
use Rattle.ipx_router.specs.News.{route_told, news, same_route}
use Rattle.ipx_router.specs.Numbers.{entries_a_page}
use Rattle.ipx_router.specs.Pages.{pages_from, pages}
use Rattle.ipx_router.specs.Port.{Port, IsPort, broadcast, port_at, is_up, own_address, everyone}
use Rattle.ipx_router.specs.Relays.{Sent}
use Rattle.ipx_router.specs.Routes.{network_order}
use Rattle.ipx_router.specs.Sends.{Holding, second_on, news_on, rip_broadcast, entries_sent}
use Rattle.ipx_router.specs.Told.{network_before, told_at, direct_entry, direct, entry_of, is_route_told, learned, told}
use Rattle.ipx_router.specs.declared.route_offer.RouteOffer.{RouteOffer}
use Rattle.ipx_router.proofs.lists.EachElement.{all-find, all_sorted}
use Rattle.ipx_router.proofs.sending.OwnPacketsAreValid.{Writable}
use Rattle.ipx_router.proofs.lists.ItemsOfPages.{IsPage, all_pages}
use Rattle.ipx_router.proofs.port_values.PortOfEachNumber.{members}
use Rattle.ipx_router.proofs.bytes.LawsOfLayouts.{Readings, Rereadings}
use Rattle.ipx_internet.proofs.lists.EachElement.{all_of, all_then, all_passed, all-append, all-filter, all-map, all-flat_map}
use Rattle.ipx_internet.proofs.packets.PagesReadAgain.{IsRipPage, everyone_is, rip_again}
use Rattle.ipx_internet.proofs.places.OneReceiverOfANode.{same_number}
use Rattle.ipx_laws.specs.Least.{Way, way_of}
use Rattle.ipx_laws.proofs.lists.SomeElement.{found_with, AnyIs, any_and_all, any_in_front, any_behind, any-map, any-filter, any-flat_map, any-sorted}
use Rattle.ipx_laws.proofs.tables.RoomForEachNetwork.{same_where_equal}

-- ---- pages

any_pages_from : {X : Type 0} (P : X → Type 0) (n : ℕ) (page xs : List X) → AnyIs P page ⊎ AnyIs P xs → AnyIs (λ p. AnyIs P p) (pages_from n page xs)
any_pages_from P n [] [] (inl any) = absurd any
any_pages_from P n [] [] (inr any) = absurd any
any_pages_from P n (p ∷ page) [] (inl any) = inl any
any_pages_from P n (p ∷ page) [] (inr any) = absurd any
any_pages_from P n page (x ∷ xs) any = elim (cases_Bool (nat_lt (length page) n)) [
  | inl short ↦ rw short (any_pages_from P n (page ++ x ∷ []) xs (elim any [
    | inl begun ↦ inl (any_in_front P page (x ∷ []) begun)
    | inr (inl here) ↦ inl (any_behind P page (x ∷ []) (inl here))
    | inr (inr behind) ↦ inr behind
  ]))
  | inr full ↦ rw full (elim any [
    | inl begun ↦ inl begun
    | inr (inl here) ↦ inr (any_pages_from P n (x ∷ []) xs (inl (inl here)))
    | inr (inr behind) ↦ inr (any_pages_from P n (x ∷ []) xs (inr behind))
  ])
]

pub any-pages : {X : Type 0} (P : X → Type 0) (n : ℕ) (xs : List X) → AnyIs P xs → AnyIs (λ p. AnyIs P p) (pages n xs)
any-pages P n xs any = any_pages_from P n [] xs (inr any)

module _ (ports : List Port) (network : Network) (u : Way) where
  -- the entry that says so on a port
  abbrev pub word : ℕ → RipEntry
  word j = record { network = network; hops = u.hops + 1; ticks = u.ticks + (port_at ports j).cost }

  -- an entry is that, if it is of the network
  abbrev pub IsWord : ℕ → RipEntry → Type 0
  IsWord j e = e.network ≡ network → e ≡ word j

  abbrev pub HasWay : RouteOffer → Type 0
  HasWay r = r.network ≡ network → way_of r ≡ u

  module _ (few_ticks : (j : ℕ) → u.ticks + (port_at ports j).cost < 65535) where
    told_word : (j : ℕ) (e : RipEntry) → e.hops ≡ u.hops → e.ticks ≡ u.ticks → IsWord j (told_at (port_at ports j).cost e)
    told_word j e hops ticks named = grind arith

    route_word : (j : ℕ) (r : RouteOffer) → HasWay r → IsWord j (told_at (port_at ports j).cost (entry_of r))
    route_word j r has named = grind arith

    -- ---- all that is advertised

    pub told_words : (up : List ℕ) (routes : List RouteOffer)
        → ((other : ℕ) → is_up up other ≡ true → (port_at ports other).network ≡ network → (u.hops ≡ 0) × (u.ticks ≡ (port_at ports other).cost))
        → AllByRecursion HasWay routes → (j : ℕ) → AllByRecursion (IsWord j) (told ports up routes j)
    told_words up routes own all j =
        let cost = (port_at ports j).cost in
        let others = filter (λ other. not (other == j)) up in
        let Told : RipEntry → Type 0 = λ e. IsWord j (told_at cost e) in
        all_sorted (IsWord j) network_before (map (told_at cost) (direct ports up j ++ learned routes j))
        (all-map Told (IsWord j) (told_at cost) (λ e is. is) (direct ports up j ++ learned routes j)
        (all-append Told (direct ports up j) (learned routes j)
        (all-map (λ other. (is_up up other ≡ true) × (not (other == j) ≡ true)) Told (direct_entry ports)
        (λ other both named.
        let way = own other both.0 named in
        told_word j (direct_entry ports other) (sym way.0) (sym way.1) named) others
        (all_passed (λ other. is_up up other ≡ true) (λ other. not (other == j)) up (members up)))
        (all-map HasWay Told entry_of (λ r has. route_word j r has) (filter (is_route_told j) routes) (all-filter HasWay (is_route_told j) routes all))))

    -- ---- changes

    abbrev there : List RouteOffer → Option RouteOffer
    there routes = find (λ o. is_eq (network_order o.network network)) routes

    -- of a change, what is there afterwards has the way; and what is no longer there is of another network
    abbrev IsFine : Change RouteOffer → Type 0
    IsFine c = IfSome c.after HasWay × (c.after ≡ None → IfSome c.before (λ r. r.network ≢ network))

    module _ (near : u.hops ≤ 14) where
      each : (j : ℕ) (old new : Option RouteOffer) → IfSome new HasWay → (new ≡ None → IfSome old (λ r. r.network ≢ network))
          → AllByRecursion (IsWord j) (route_told ports j (record { before = old; after = new }))
      each j old new has gone = grind arith

      pub news_words : (before after : List RouteOffer) → AllByRecursion HasWay after → AllByRecursion (λ r. r.network ≡ network → there after ≡ None → ⊥) before
          → (j : ℕ) → AllByRecursion (IsWord j) (news ports before after j)
      news_words before after all lasting j =
          all-flat_map IsFine (IsWord j) (route_told ports j) (λ c fine. each j c.before c.after fine.0 fine.1)
          (changes (λ r. r.network) network_order same_route before after)
          (all-filter IsFine (differs (λ r. r.network) network_order same_route) (map (change_at (λ r. r.network) network_order same_route before after) keys)
          (all-map (λ key. Unit {0}) IsFine (change_at (λ r. r.network) network_order same_route before after) (λ key here. fine key) keys
          (all_of (λ key. Unit {0}) (λ key. tt) keys)))
        where
          keys : List Network
          keys = put_keys (λ r. r.network) network_order same_route before (put_keys (λ r. r.network) network_order same_route after [])

          gone : (key : Network) (o : Option RouteOffer) → find (λ r. is_eq (network_order r.network key)) before ≡ o
              → find (λ r. is_eq (network_order r.network key)) after ≡ None → IfSome o (λ r. r.network ≢ network)
          gone key None e none = tt
          gone key (Some r) e none = λ named.
              let found = found_with (λ r. r.network ≡ network → there after ≡ None → ⊥) (λ r. is_eq (network_order r.network key)) before r lasting e in
              let same : key ≡ network = sym (same_number r.network key (same_where_equal r.network.0 key.0 found.1)) ∙ named in
              found.0 named (ap (λ k. find (λ r. is_eq (network_order r.network k)) after) (sym same) ∙ none)

          fine : (key : Network) → IsFine (change_at (λ r. r.network) network_order same_route before after key)
          fine key = (all-find HasWay (λ r. is_eq (network_order r.network key)) after all, λ none. gone key (find (λ r. is_eq (network_order r.network key)) before) refl none)

  -- ---- a periodic broadcast has it

  abbrev IsOf : RipEntry → Type 0
  IsOf e = e.network ≡ network

  pub told_route : (up : List ℕ) (routes : List RouteOffer) (j : ℕ) → AnyIs (λ r. (r.network ≡ network) × (is_route_told j r ≡ true)) routes
      → AnyIs IsOf (told ports up routes j)
  told_route up routes j any =
      let cost = (port_at ports j).cost in
      any-sorted IsOf network_before (map (told_at cost) (direct ports up j ++ learned routes j))
      (any-map IsOf IsOf (told_at cost) (λ e is. is) (direct ports up j ++ learned routes j)
      (any_behind IsOf (direct ports up j) (learned routes j)
      (any-map (λ r. (r.network ≡ network) × (is_route_told j r ≡ true)) IsOf entry_of (λ r is. is.0) (filter (is_route_told j) routes)
      (any-filter (λ r. (r.network ≡ network) × (is_route_told j r ≡ true)) (is_route_told j) (λ r is. is.1) routes any))))

  pub told_direct : (up : List ℕ) (routes : List RouteOffer) (j : ℕ)
      → AnyIs (λ other. ((port_at ports other).network ≡ network) × (not (other == j) ≡ true)) up → AnyIs IsOf (told ports up routes j)
  told_direct up routes j any =
      let cost = (port_at ports j).cost in
      any-sorted IsOf network_before (map (told_at cost) (direct ports up j ++ learned routes j))
      (any-map IsOf IsOf (told_at cost) (λ e is. is) (direct ports up j ++ learned routes j)
      (any_in_front IsOf (direct ports up j) (learned routes j)
      (any-map (λ other. ((port_at ports other).network ≡ network) × (not (other == j) ≡ true)) IsOf (direct_entry ports) (λ other is. is.0)
      (filter (λ other. not (other == j)) up)
      (any-filter (λ other. ((port_at ports other).network ≡ network) × (not (other == j) ≡ true)) (λ other. not (other == j)) (λ other is. is.1) up any))))

  -- a packet with such an entry leaves on a port, to all
  pub record Tells (P : RipEntry → Type 0) (j : ℕ) (s : Sent) : Type 0 where
    pub port : s.port ≡ j
    pub link : s.link ≡ broadcast
    pub page : IsRipPage P (own_address (port_at ports j)) (everyone (port_at ports j)) s.bytes
    pub has : AnyIs IsOf page.page

  module _ (readings : Readings) (again : Rereadings) (j : ℕ) (is_port : IsPort (port_at ports j)) (P : RipEntry → Type 0) where
    pub rip_tells : (entries : List RipEntry) → AllByRecursion (Writable P) entries → AnyIs IsOf entries → AnyIs (Tells P j) (rip_broadcast ports j entries)
    rip_tells entries all any =
        any-map (λ page. AnyIs IsOf page × IsPage entries_a_page (Writable P) page) (Tells P j) (entries_sent ports j (everyone (port_at ports j)) Response)
        (λ page both.
        let read = rip_again readings again ports j is_port P (everyone (port_at ports j)) (everyone_is (port_at ports j) is_port) page both.1 in
        record {
          port = refl;
          link = refl;
          page = record { page = page; some = both.1.some; each = all_then (Writable P) P (λ e one. one.1) page both.1.each; read = read.0; says = read.1 };
          has = both.0;
        })
        (pages entries_a_page entries)
        (any_and_all (λ page. AnyIs IsOf page) (IsPage entries_a_page (Writable P)) (pages entries_a_page entries) (any-pages IsOf entries_a_page entries any)
        (all_pages (Writable P) entries_a_page (omega arith) entries all))

    -- on one port that is up, of all that is advertised or of what changed
    at_port : (f : ℕ → List Sent) (up : List ℕ) → AnyIs (λ k. k ≡ j) up → AnyIs (Tells P j) (f j) → AnyIs (Tells P j) (flat_map f up)
    at_port f up on here = any-flat_map (λ k. k ≡ j) (Tells P j) f (λ k same. subst (λ (i : ℕ). AnyIs (Tells P j) (f i)) (sym same) here) up on

    module _ (before after : Holding) (on : AnyIs (λ k. k ≡ j) after.up) (changed : AllByRecursion (Writable P) (news ports before.routes after.routes j)) where
      abbrev rest : List RipEntry
      rest = told ports after.up after.routes j

      abbrev gone : List RipEntry
      gone = news ports before.routes after.routes j

      pub news_tell : AnyIs IsOf gone → AnyIs (Tells P j) (flat_map (news_on ports before after) after.up)
      news_tell any = grind (arith, at_port, any_in_front, rip_tells)

      module _ (all : AllByRecursion (Writable P) rest) where
        periodic_tells : AnyIs IsOf rest ⊎ AnyIs IsOf gone → AnyIs (Tells P j) (second_on ports before after true j)
        periodic_tells any = grind (arith, any_in_front, rip_tells, all_sorted, Writable, all-append, any-sorted, any_behind)

        pub second_tells : AnyIs IsOf rest → AnyIs (Tells P j) (flat_map (second_on ports before after true) after.up)
        second_tells any = at_port (second_on ports before after true) after.up on (periodic_tells (inl any))

        pub change_tells : (periodic : Bool) → AnyIs IsOf gone → AnyIs (Tells P j) (flat_map (second_on ports before after periodic) after.up)
        change_tells periodic any = grind (arith, at_port, periodic_tells, news_tell)
