-- What a tunnel keeps stands for one event more.
use Rattle.std.proofs.Common.{◌≡◌, ◌∙◌, refl, sym, ap, ap₂, ℕ, Bool, true, false, ◌&&◌, not, nat_lt, if◌then◌else◌, inl, inr, List, [], ◌∷◌, ◌++◌, map, filter, arith, rules}
use Rattle.std.specs.List.{AllByRecursion}
use Rattle.std.proofs.lemmas.Bool.{cases_Bool}
use Rattle.std.proofs.lemmas.List.{append-nil, map-append}
use Rattle.ipx_wire.specs.declared.node.Node.{Node}
use Rattle.ipx_tunnel.specs.declared.client.Client.{Client}
use Rattle.ipx_tunnel.specs.declared.sender.Sender.{Sender}
use Rattle.ipx_tunnel.specs.declared.setting.Setting.{Setting}
use Rattle.ipx_tunnel.specs.Events.{Datagram, Second, Send, History}
use Rattle.ipx_tunnel.specs.Says.{said}
use Rattle.ipx_tunnel.specs.Clients.{lasts_by, lasts, is_there, is_open, newcomers, clients}
use Rattle.ipx_tunnel.specs.Own.{ping_to, own}
use Rattle.ipx_tunnel.specs.Stands.{State, Stands, client_at}
use Rattle.ipx_tunnel.specs.inside.Kept.{places_of, fresh, refreshed, admitted, later, stays, pings_now}
use Rattle.ipx_tunnel.proofs.Lists.{filter-map, map-map, map-agree, map-one, each-append, each-filter, each-weaker, filter-each}
use Rattle.ipx_tunnel.proofs.Nodes.{same_itself}

-- ---- one place, over plain values

-- who is there stays there through what is said
pub there_more : (lasts left : ℕ) → nat_lt 0 left ≡ true → nat_lt 0 (if nat_lt 0 lasts then lasts else left) ≡ true
there_more lasts left there = elim (cases_Bool (nat_lt 0 lasts)) [ inl e ↦ rw (e, e) refl | inr e ↦ rw e there ]

pub there_now : (lasts left : ℕ) → nat_lt 0 lasts ≡ true → nat_lt 0 (if nat_lt 0 lasts then lasts else left) ≡ true
there_now lasts left some = rw (some, some) refl

fresh_by : (is_sender : Bool) (lasts left : ℕ) (place now kept : Node) → is_sender ≡ true → nat_lt 0 lasts ≡ true
    → ◌≡◌ {A = Client} (record { place = place; cookie = now; seconds_left = lasts })
    (record {
      place = place;
      cookie = if nat_lt 0 (if is_sender then lasts else 0) then now else kept;
      seconds_left = if nat_lt 0 (if is_sender then lasts else 0) then (if is_sender then lasts else 0) else left;
    })
fresh_by is_sender lasts left place now kept is some = grind arith

-- who comes in is there
newcomer : (P : Node → Type 0) (place : Node) (some is_open : Bool) → (some ≡ true → P place) → AllByRecursion P (if some && is_open then place ∷ [] else [])
newcomer P place some is_open there = grind arith

module _ (setting : Setting) where
  -- a place's own word lasts as long as what it says
  pub lasts_own : (from : Sender) (bytes : List ℕ)
      → lasts setting from.place (Datagram from bytes) ≡ lasts_by from.is_trusted (said setting.network from bytes)
  lasts_own from bytes = rw (same_itself from.place) refl

  -- ---- each client is there

  pub each_there : (history : History) → AllByRecursion (λ place. is_there setting place history ≡ true) (clients setting history)
  each_there [] = tt
  each_there (Datagram from bytes ∷ earlier) = search (rules, each-append, each-filter, newcomer, there_now)
  each_there (Second ∷ earlier) = each-append _ _ _ (each-filter (λ place. is_there setting place (Second ∷ earlier)) (clients setting earlier)) tt
  each_there (Send to bytes ∷ earlier) = each-append _ _ _ (each-filter (λ place. is_there setting place (Send to bytes ∷ earlier)) (clients setting earlier)) tt

  -- ---- clients after one event more

  pub clients_heard : (from : Sender) (bytes : List ℕ) (earlier : History)
      → clients setting (Datagram from bytes ∷ earlier) ≡ clients setting earlier ++ newcomers setting (clients setting earlier) (Datagram from bytes)
  clients_heard from bytes earlier = grind (arith, each-weaker, there_more, each_there, filter-each)

  pub clients_second : (earlier : History) → clients setting (Second ∷ earlier) ≡ filter (λ place. is_there setting place (Second ∷ earlier)) (clients setting earlier)
  clients_second earlier = append-nil _

  pub clients_sent : (to : Node) (bytes : List ℕ) (earlier : History) → clients setting (Send to bytes ∷ earlier) ≡ clients setting earlier
  clients_sent to bytes earlier = append-nil _ ∙ filter-each (λ place. is_there setting place earlier) (clients setting earlier) (each_there earlier)

  -- ---- what is kept after one event more

  pub places-at : (history : History) (places : List Node) → places_of (map (client_at setting history) places) ≡ places
  places-at history [] = refl
  places-at history (place ∷ places) = ap (λ l. place ∷ l) (places-at history places)

  quiet : (from : Sender) (bytes : List ℕ) (earlier : History) → nat_lt 0 (lasts_by from.is_trusted (said setting.network from bytes)) ≡ false
      → (place : Node) → client_at setting earlier place ≡ client_at setting (Datagram from bytes ∷ earlier) place
  quiet from bytes earlier none place = grind arith

  heard : (from : Sender) (bytes : List ℕ) (earlier : History) → nat_lt 0 (lasts_by from.is_trusted (said setting.network from bytes)) ≡ true
      → (place : Node) → refreshed from (lasts_by from.is_trusted (said setting.network from bytes)) (client_at setting earlier place)
      ≡ client_at setting (Datagram from bytes ∷ earlier) place
  heard from bytes earlier some place = grind arith

  fresh_is : (from : Sender) (bytes : List ℕ) (earlier : History) → nat_lt 0 (lasts_by from.is_trusted (said setting.network from bytes)) ≡ true
      → fresh from (lasts_by from.is_trusted (said setting.network from bytes)) ≡ client_at setting (Datagram from bytes ∷ earlier) from.place
  fresh_is from bytes earlier some = grind (arith, fresh_by, same_itself)

  pub stands_heard : (from : Sender) (bytes : List ℕ) (earlier : History)
      → admitted setting from (lasts_by from.is_trusted (said setting.network from bytes)) (map (client_at setting earlier) (clients setting earlier))
      ≡ map (client_at setting (Datagram from bytes ∷ earlier)) (clients setting (Datagram from bytes ∷ earlier))
  stands_heard from bytes earlier =
      let l = lasts_by from.is_trusted (said setting.network from bytes) in
      let before = clients setting earlier in
      let at = client_at setting (Datagram from bytes ∷ earlier) in
      let open_now = is_open setting from.place before in
      let come = λ (b : Bool). map at (before ++ (if b && open_now then from.place ∷ [] else [])) in
      let after : come (nat_lt 0 l) ≡ map at (clients setting (Datagram from bytes ∷ earlier)) =
      ap come (ap (nat_lt 0) (sym (lasts_own from bytes))) ∙ ap (map at) (sym (clients_heard from bytes earlier)) in
      elim (cases_Bool (nat_lt 0 l)) [
        | inl some ↦
            rw some (
            ap₂ (λ (one two : List Client). one ++ two)
            (map-map (refreshed from l) (client_at setting earlier) before
            ∙ map-agree (λ place. refreshed from l (client_at setting earlier place)) at (heard from bytes earlier some) before)
            (ap₂ (λ (b : Bool) (c : Client). if b then c ∷ [] else []) (ap (is_open setting from.place) (places-at earlier before)) (fresh_is from bytes earlier some)
            ∙ sym (map-one at from.place open_now))
            ∙ sym (map-append at before (if open_now then from.place ∷ [] else []))
            ∙ ap come (sym some) ∙ after)
        | inr none ↦
            rw none (
            map-agree (client_at setting earlier) at (quiet from bytes earlier none) before
            ∙ ap (map at) (sym (append-nil before)) ∙ ap come (sym none) ∙ after)
      ]

  -- ---- a tunnel

  pub places_stand : (state : State) (history : History) → state.clients ≡ map (client_at setting history) (clients setting history)
      → places_of state.clients ≡ clients setting history
  places_stand state history stands = ap places_of stands ∙ places-at history (clients setting history)

  pub later-at : (earlier : History) (places : List Node)
      → map later (map (client_at setting earlier) places) ≡ map (client_at setting (Second ∷ earlier)) places
  later-at earlier places = map-map later (client_at setting earlier) places

  pub stands_second : (earlier : History)
      → filter stays (map later (map (client_at setting earlier) (clients setting earlier)))
      ≡ map (client_at setting (Second ∷ earlier)) (clients setting (Second ∷ earlier))
  stands_second earlier = grind (arith, later-at, filter-map, clients_second)

  pub left_second : (earlier : History)
      → places_of (filter (λ c. not (stays c)) (map later (map (client_at setting earlier) (clients setting earlier))))
      ≡ filter (λ place. not (is_there setting place (Second ∷ earlier))) (clients setting earlier)
  left_second earlier = grind (arith, later-at, filter-map, places-at)

  pub pings_second : (earlier : History)
      → map (λ c. ping_to setting.network c.place c.cookie) (filter pings_now (map (client_at setting (Second ∷ earlier)) (clients setting (Second ∷ earlier))))
      ≡ own setting (Second ∷ earlier)
  pings_second earlier = grind (arith, filter-map, map-map)

-- the same, of whole tunnels
pub stands_after : (before after : State) (from : Sender) (bytes : List ℕ) (history : History) (lasts : ℕ)
    → after.setting ≡ before.setting → lasts ≡ lasts_by from.is_trusted (said before.setting.network from bytes)
    → after.clients ≡ admitted before.setting from lasts before.clients → Stands before history → Stands after (Datagram from bytes ∷ history)
stands_after before after from bytes history lasts same counts done stands = grind (arith, stands_heard)

pub stands_later : (before after : State) (history : History) → after.setting ≡ before.setting → after.clients ≡ filter stays (map later before.clients)
    → Stands before history → Stands after (Second ∷ history)
stands_later before after history same done stands = grind (arith, stands_second)

-- what is kept after somebody was heard
pub admitted_new : (setting : Setting) (from : Sender) (lasts : ℕ) (clients : List Client) → nat_lt 0 lasts ≡ true → is_open setting from.place (places_of clients) ≡ true
    → map (refreshed from lasts) clients ++ fresh from lasts ∷ [] ≡ admitted setting from lasts clients
admitted_new setting from lasts clients some new = grind arith

pub admitted_known : (setting : Setting) (from : Sender) (lasts : ℕ) (clients : List Client) → nat_lt 0 lasts ≡ true → is_open setting from.place (places_of clients) ≡ false
    → map (refreshed from lasts) clients ≡ admitted setting from lasts clients
admitted_known setting from lasts clients some new = grind (arith, append-nil)

-- what is worked out of a tunnel's clients is what its history says
module _ {X : Type 0} (of : Setting → List Node → X) (lent items : List Client) (setting : Setting) (state : State) (history : History) where
  pub seen : lent ≡ items → ◌≡◌ {A = State} (record { setting = setting; clients = items }) state → Stands state history
      → of setting (places_of lent) ≡ of state.setting (clients state.setting history)
  seen is view stands = grind (arith, places_stand)

  pub seen_before : (before : Setting) → lent ≡ items → ◌≡◌ {A = State} (record { setting = setting; clients = items }) state → state.setting ≡ before
      → Stands state history → of setting (places_of lent) ≡ of before (clients before history)
  seen_before before is view same stands = seen is view stands ∙ ap (λ (s : Setting). of s (clients s history)) same
