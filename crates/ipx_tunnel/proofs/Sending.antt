-- How much is sent, and to whom.
use Rattle.std.proofs.Common.{◌≡◌, ◌∙◌, ap, arith, ◌+◌, ◌*◌, ◌≤◌, ◌==◌, Bool, true, false, ◌&&◌, ◌||◌, not, nat_lt, max, if◌then◌else◌, inl, inr, List, [], ◌∷◌, length, filter, rules}
use Rattle.std.proofs.lemmas.Bool.{cases_Bool}
use Rattle.std.proofs.lemmas.List.{length-map}
use Rattle.ipx_wire.specs.declared.header.Header.{Header}
use Rattle.ipx_wire.specs.declared.node.Node.{Node}
use Rattle.ipx_tunnel.specs.declared.own.Own.{Own}
use Rattle.ipx_tunnel.specs.declared.said.Said.{Said}
use Rattle.ipx_tunnel.specs.declared.said.Said.TheVariants.{Nothing, Registers, Answers, Speaks}
use Rattle.ipx_tunnel.specs.declared.sender.Sender.{Sender}
use Rattle.ipx_tunnel.specs.declared.setting.Setting.{Setting}
use Rattle.ipx_tunnel.specs.Numbers.{tunnel_socket}
use Rattle.ipx_tunnel.specs.Places.{same_node, broadcast, is_among, is_here, of_address}
use Rattle.ipx_tunnel.specs.Events.{Event, Second, History}
use Rattle.ipx_tunnel.specs.Clients.{is_open, cookie, clients}
use Rattle.ipx_tunnel.specs.Own.{answer_to, ping_to, own_for, own, is_ping, is_silent}
use Rattle.ipx_tunnel.specs.Receivers.{is_for, to_for, receivers, is_heard_of}
use Rattle.ipx_tunnel.specs.Laws.{copies, is_client, own_to, came_from, sent_to_stranger, came_from_stranger}
use Rattle.ipx_tunnel.proofs.Lists.{filter-map}
use Rattle.ipx_tunnel.proofs.Members.{count-filter, count_few, no_copies, others_fewer}

-- ---- who spoke

-- what is carried was said by a client, in a packet of that header
pub record Spoke (places : List Node) (from : Sender) (s : Said) : Type 0 where
  pub header : Header
  pub is : s ≡ Speaks header
  pub client : is_among from.place places ≡ true

pub left_of : (a b : Bool) → (a && b) ≡ true → a ≡ true
left_of a b is = grind arith

pub router_hears : (setting : Setting) (places : List Node) (from : Sender) (s : Said) → is_heard_of setting places from s ≡ true → Spoke places from s
router_hears setting places from s is = grind arith

pub clients_hear : (setting : Setting) (places : List Node) (from : Sender) (place : Node) (s : Said) → is_among place (to_for setting places from s) ≡ true → Spoke places from s
clients_hear setting places from place s is = grind arith

-- ---- the packet that is carried

if_few : (p f : Node → Bool) (b : Bool) (places : List Node) → length (filter p (if b then filter f places else [])) ≤ length (filter p places)
if_few p f b places = grind (arith, count-filter)

to_few : (setting : Setting) (places : List Node) (from : Sender) (s : Said) (p : Node → Bool)
    → length (filter p (to_for setting places from s)) ≤ length (filter p places)
to_few setting places from s p = grind (arith, if_few)

-- ---- datagrams of the tunnel's own

own_goes : (setting : Setting) (places : List Node) (from : Sender) (s : Said) (place : Node)
    → own_to place (own_for setting places from s) ≤ 2 * (if same_node from.place place then 1 else 0)
own_goes setting places from s place = grind arith

-- how many they are
one_at_most : {X : Type 0} (b : Bool) (x : X) → length (if b then x ∷ [] else []) ≤ 1
one_at_most b x = grind arith

two_at_most : {X : Type 0} (b : Bool) (x y : X) → length (if b then x ∷ y ∷ [] else []) ≤ 2
two_at_most b x y = grind arith

some_at_most : (b : Bool) (f : Node → Bool) (places : List Node) → length (if b then filter f places else []) ≤ length places
some_at_most b f places = grind (arith, count_few)

pub right_of : (a b : Bool) → (a && b) ≡ true → b ≡ true
right_of a b is = grind arith

-- a ping goes to all others
ping_fewer : (setting : Setting) (header : Header) (sender : Node) (places : List Node) → is_among sender places ≡ true → is_ping setting.network header ≡ true
    → length (filter (is_for header.destination.node sender) places) + 1 ≤ length places
ping_fewer setting header sender places client is =
    let to_all : same_node header.destination.node broadcast ≡ true =
    right_of (header.destination.socket.0 == tunnel_socket) _ (right_of (is_here setting.network header.destination.network) _ is) in
    let same = ap (λ (b : Bool). length (filter (λ p. if b then not (same_node p sender) else same_node p header.destination.node) places)) to_all in
    omega (arith, same, others_fewer sender places client)

all_bounded : (setting : Setting) (places : List Node) (from : Sender) (s : Said)
    → length (own_for setting places from s) + length (to_for setting places from s) ≤ max 2 (length places)
all_bounded setting places from Nothing = omega arith
all_bounded setting places from Registers = omega (
  arith,
  two_at_most (is_among from.place places || is_open setting from.place places)
      (answer_to setting from.place) (ping_to setting.network from.place from.cookies.current),
)
all_bounded setting places from Answers = omega arith
all_bounded setting places from (Speaks header) =
    let here = is_here setting.network header.destination.network in
    let meant = is_for header.destination.node from.place in
    elim (cases_Bool (is_among from.place places)) [
      | inl client ↦ elim (cases_Bool (is_ping setting.network header)) [
        | inl ping ↦
            rw (client, ping, left_of here _ ping) (omega (arith, ping_fewer setting header from.place places client ping))
        | inr other ↦ rw (client, other) (omega (arith, some_at_most here meant places))
      ]
      | inr none ↦
          let has_room = nat_lt (length places) setting.capacity && nat_lt (of_address from.place places) setting.share in
          rw none (omega (arith, one_at_most has_room (ping_to setting.network from.place from.cookies.current)))
    ]

module _ (setting : Setting) where
  -- receivers are clients
  pub receivers_few : (history : History) (p : Node → Bool) → length (filter p (receivers setting history)) ≤ length (filter p (clients setting history))
  receivers_few history p = grind (arith, to_few, count-filter)

  pub carried_none : (history : History) (place : Node) → is_client setting place history ≡ false → copies place (receivers setting history) ≡ 0
  carried_none history place none = omega (arith, receivers_few, no_copies)

  -- ---- the tunnel's own datagrams

  pub pings_none : (earlier : History) (place : Node) → is_client setting place (Second ∷ earlier) ≡ false → own_to place (own setting (Second ∷ earlier)) ≡ 0
  pings_none earlier place none =
      let places = clients setting (Second ∷ earlier) in
      let ping = λ (p : Node). ping_to setting.network p (cookie setting p (Second ∷ earlier)) in
      let silent = filter (is_silent setting (Second ∷ earlier)) places in
      let same = ap length (filter-map (λ (o : Own). same_node o.place place) ping silent) ∙ length-map (filter (λ p. same_node p place) silent) ping in
      omega (arith, same, count-filter (λ p. same_node p place) (is_silent setting (Second ∷ earlier)) places, no_copies place places none)

  pub own_few : (event : Event) (earlier : History) (place : Node) → is_client setting place (event ∷ earlier) ≡ false
      → own_to place (own setting (event ∷ earlier)) ≤ 2 * came_from place event
  own_few event earlier place none = search (rules, own_goes, pings_none)

  pub sent_few : (history : History) (place : Node) → sent_to_stranger setting place history ≤ 2 * came_from_stranger setting place history
  sent_few [] place = omega arith
  sent_few (event ∷ earlier) place =
      let rest = sent_few earlier place in
      elim (cases_Bool (is_client setting place (event ∷ earlier))) [
        | inl client ↦ rw client (omega (arith, rest))
        | inr none ↦ rw none (omega (arith, rest, carried_none (event ∷ earlier) place none, own_few event earlier place none))
      ]

  -- ---- all datagrams of an event

  pub count_bounded : (history : History) → length (own setting history) + length (receivers setting history) ≤ max 2 (length (clients setting history))
  count_bounded history = grind (arith, all_bounded, length-map, count_few)
