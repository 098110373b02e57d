-- Who is among the clients, and how many there are.
use Rattle.std.proofs.Common.{◌≡◌, ◌∙◌, refl, sym, ap, ap₂, arith, ℕ, ◌<◌, ◌≤◌, ◌⊎◌, Bool, true, false, ◌&&◌, not, nat_lt, if◌then◌else◌, inl, inr, List, [], ◌∷◌, ◌++◌, length, filter, length-append}
use Rattle.std.proofs.lemmas.Bool.{cases_Bool, lt-ltb}
use Rattle.std.proofs.lemmas.List.Folds.{list_any-append}
use Rattle.std.proofs.Math.Bool.{or-true}
use Rattle.ipx_wire.specs.declared.node.Node.{Node}
use Rattle.ipx_tunnel.specs.declared.sender.Sender.{Sender}
use Rattle.ipx_tunnel.specs.declared.setting.Setting.{Setting}
use Rattle.ipx_tunnel.specs.Places.{same_node, same_address, is_among, of_address}
use Rattle.ipx_tunnel.specs.Events.{Event, Datagram, History}
use Rattle.ipx_tunnel.specs.Clients.{lasts, is_there, is_open, newcomers, clients, seconds_left}
use Rattle.ipx_tunnel.specs.Laws.{copies, is_client, IsThereThrough}
use Rattle.ipx_tunnel.proofs.Members.{count-append, count-filter, count_few, no_copies, among-filter, of_same_address}
use Rattle.ipx_tunnel.proofs.Nodes.{same_is, same_itself}
use Rattle.ipx_tunnel.proofs.Standing.{there_now}

-- ---- who comes in

-- nobody comes in, or one place for which there is room
abbrev Coming : Setting → List Node → List Node → Type 0
Coming setting before new = (new ≡ []) ⊎ ((place : Node) × (new ≡ place ∷ []) × (is_open setting place before ≡ true))

come_by : (setting : Setting) (before : List Node) (place : Node) (counts room : Bool) → is_open setting place before ≡ room
    → Coming setting before (if counts && room then place ∷ [] else [])
come_by setting before place counts room is = grind arith

module _ (setting : Setting) where
  pub record Room (place : Node) (before : List Node) : Type 0 where
    pub new : is_among place before ≡ false
    pub few : length before < setting.capacity
    pub fewer : of_address place before < setting.share

  pub room_of : (place : Node) (before : List Node) → is_open setting place before ≡ true → Room place before
  room_of place before is = grind arith

  coming : (before : List Node) (event : Event) → Coming setting before (newcomers setting before event)
  coming before event = grind (arith, come_by)

  -- ---- how many there are

  module _ (P : List Node → Type 0) (before kept new : List Node) where
    -- what holds of those that stay, and with one more for which there is room, holds of the next clients
    by_coming : Coming setting before new → P (kept ++ []) → ((place : Node) → Room place before → P (kept ++ place ∷ [])) → P (kept ++ new)
    by_coming coming stay one = grind arith

  pub once : (history : History) (place : Node) → copies place (clients setting history) ≤ 1
  once [] place = omega arith
  once (event ∷ earlier) place =
      let before = clients setting earlier in
      let stays = λ (p : Node). is_there setting p (event ∷ earlier) in
      let kept = filter stays before in
      let few : copies place kept ≤ 1 = omega (arith, count-filter (λ p. same_node p place) stays before, once earlier place) in
      by_coming (λ l. copies place l ≤ 1) before kept (newcomers setting before event) (coming before event)
      (omega (arith, few, count-append (λ p. same_node p place) kept []))
      (λ new room. elim (cases_Bool (same_node new place)) [
        | inl same ↦
            let none : copies place before ≡ 0 = no_copies place before (ap (λ p. is_among p before) (sym (same_is new place same)) ∙ room.new) in
            let one : copies place (new ∷ []) ≤ 1 = count_few (λ p. same_node p place) (new ∷ []) in
            omega (arith, none, one, count-filter (λ p. same_node p place) stays before, count-append (λ p. same_node p place) kept (new ∷ []))
        | inr other ↦
            let none : copies place (new ∷ []) ≡ 0 = rw other refl in
            omega (arith, none, few, count-append (λ p. same_node p place) kept (new ∷ []))
      ])

  pub capacity : (history : History) → length (clients setting history) ≤ setting.capacity
  capacity [] = omega arith
  capacity (event ∷ earlier) = grind (arith, capacity earlier, by_coming, coming, count_few, length-append)

  pub share : (history : History) (place : Node) → of_address place (clients setting history) ≤ setting.share
  share [] place = omega arith
  share (event ∷ earlier) place =
      let before = clients setting earlier in
      let stays = λ (p : Node). is_there setting p (event ∷ earlier) in
      let kept = filter stays before in
      let counted = λ (p : Node). same_address p place in
      let few : of_address place kept ≤ of_address place before = count-filter counted stays before in
      by_coming (λ l. of_address place l ≤ setting.share) before kept (newcomers setting before event) (coming before event)
      (omega (arith, few, share earlier place, count-append counted kept []))
      (λ new room. elim (cases_Bool (same_address new place)) [
        | inl same ↦
            let one : of_address place (new ∷ []) ≤ 1 = count_few counted (new ∷ []) in
            omega (arith, few, one, room.fewer, of_same_address new place before same, count-append counted kept (new ∷ []))
        | inr other ↦
            let none : of_address place (new ∷ []) ≡ 0 = rw other refl in
            omega (arith, none, few, share earlier place, count-append counted kept (new ∷ []))
      ])

  -- ---- who is one

  pub stays_on : (event : Event) (earlier : History) (place : Node) → is_client setting place earlier ≡ true → is_there setting place (event ∷ earlier) ≡ true
      → is_client setting place (event ∷ earlier) ≡ true
  stays_on event earlier place client there = grind (arith, list_any-append, among-filter)

  pub stays_through : (place : Node) (events : List Event) (history : History) → is_client setting place history ≡ true
      → IsThereThrough setting place events history → is_client setting place (events ++ history) ≡ true
  stays_through place [] history client there = client
  stays_through place (event ∷ events) history client there = grind (arith, stays_through place events history client there.1, stays_on)

  comes_in : (from : Sender) (bytes : List ℕ) (earlier : History) → nat_lt 0 (lasts setting from.place (Datagram from bytes)) ≡ true
      → is_open setting from.place (clients setting earlier) ≡ true → is_client setting from.place (Datagram from bytes ∷ earlier) ≡ true
  comes_in from bytes earlier counts room = grind (arith, same_itself, list_any-append, or-true)

  pub comes : (from : Sender) (bytes : List ℕ) (earlier : History) → nat_lt 0 (lasts setting from.place (Datagram from bytes)) ≡ true
      → length (clients setting earlier) < setting.capacity → of_address from.place (clients setting earlier) < setting.share
      → is_client setting from.place (Datagram from bytes ∷ earlier) ≡ true
  comes from bytes earlier counts few fewer =
      elim (cases_Bool (is_client setting from.place earlier)) [
        | inl client ↦ stays_on (Datagram from bytes) earlier from.place client
            (there_now (lasts setting from.place (Datagram from bytes)) (seconds_left setting from.place earlier) counts)
        | inr new ↦ comes_in from bytes earlier counts
            (ap (λ (b : Bool). not b && nat_lt (length (clients setting earlier)) setting.capacity && nat_lt (of_address from.place (clients setting earlier)) setting.share) new
            ∙ ap₂ (λ (a b : Bool). a && b) (lt-ltb (length (clients setting earlier)) setting.capacity few) (lt-ltb (of_address from.place (clients setting earlier)) setting.share fewer))
      ]
