-- How much is sent, and to whom.
use Rattle.std.proofs.Common.{◌≡◌, ◌∙◌, refl, ap, arith, ◌+◌, ◌≤◌, Bool, true, false, ◌&&◌, not, if◌then◌else◌, List, [], ◌∷◌, length, filter, length-append}
use Rattle.std.proofs.lemmas.List.{length-map}
use Rattle.ipx_wire.specs.declared.header.Header.{Header}
use Rattle.ipx_wire.specs.declared.node.Node.{Node}
use Rattle.ipx_tunnel.specs.Laws.{copies}
use Rattle.ipx_tunnel.specs.Places.{same_node, broadcast, is_among, is_here}
use Rattle.ipx_tunnel.specs.Own.{ping_to}
use Rattle.ipx_tunnel.specs.Receivers.{is_for}
use Rattle.ipx_tunnel.proofs.Members.{count-filter, count_few, no_copies}
use Rattle.ipx_keyed.specs.declared.client.Client.{Client}
use Rattle.ipx_keyed.specs.declared.said.Said.{Said}
use Rattle.ipx_keyed.specs.declared.said.Said.TheVariants.{Nothing, Registers, Answers, Speaks}
use Rattle.ipx_keyed.specs.declared.sender.Sender.{Sender}
use Rattle.ipx_keyed.specs.declared.setting.Setting.{Setting}
use Rattle.ipx_keyed.specs.Events.{Datagram, Second, Send, History}
use Rattle.ipx_keyed.specs.Says.{said}
use Rattle.ipx_keyed.specs.Members.{places_of, nodes_of, is_client_as, is_welcome}
use Rattle.ipx_keyed.specs.Tables.{clients, waiting}
use Rattle.ipx_keyed.specs.Own.{own_for, pings_now, pings_of, is_due, due_to, due_of, own}
use Rattle.ipx_keyed.specs.Receivers.{for_whom, to_for, is_heard_of, receivers}
use Rattle.ipx_keyed.specs.Laws.{is_there}
use Rattle.ipx_keyed.proofs.Counting.{place_counted, once}

-- ---- who spoke

-- what is carried was said by a client, in a packet of that header
pub record Spoke (list : List Client) (from : Sender) (s : Said) : Type 0 where
  pub header : Header
  pub is : s ≡ Speaks header
  pub client : is_client_as from.place header.source.node list ≡ true

pub router_hears : (setting : Setting) (list : List Client) (from : Sender) (s : Said) → is_heard_of setting list from s ≡ true → Spoke list from s
router_hears setting list from s is = grind arith

pub clients_hear : (setting : Setting) (list : List Client) (from : Sender) (place : Node) (s : Said) → is_among place (to_for setting list from s) ≡ true → Spoke list from s
clients_hear setting list from place s is = grind arith

-- ---- the packet that is carried

whom_few : (p : Client → Bool) (place : Node) (list : List Client) → copies place (places_of (filter p list)) ≤ copies place (places_of list)
whom_few p place list = omega (
  arith,
  place_counted place (filter p list),
  place_counted place list,
  count-filter (λ (c : Client). same_node c.place place) p list,
)

whom_fewer : (p : Client → Bool) (list : List Client) → length (places_of (filter p list)) ≤ length list
whom_fewer p list = omega (arith, length-map (filter p list) (λ (c : Client). c.place), count_few p list)

if_few : (place : Node) (b : Bool) (p : Client → Bool) (list : List Client) → copies place (if b then places_of (filter p list) else []) ≤ copies place (places_of list)
if_few place true p list = whom_few p place list
if_few place false p list = omega arith

if_fewer : (b : Bool) (p : Client → Bool) (list : List Client) → length (if b then places_of (filter p list) else []) ≤ length list
if_fewer true p list = whom_fewer p list
if_fewer false p list = omega arith

to_few : (setting : Setting) (list : List Client) (from : Sender) (s : Said) (place : Node) → copies place (to_for setting list from s) ≤ copies place (places_of list)
to_few setting list from Nothing place = omega arith
to_few setting list from Registers place = omega arith
to_few setting list from (Answers node) place = omega arith
to_few setting list from (Speaks header) place =
    if_few place (is_client_as from.place header.source.node list && is_here setting.network header.destination.network)
    (λ (c : Client). is_for header.destination.node header.source.node c.node) list

to_fewer : (setting : Setting) (list : List Client) (from : Sender) (s : Said) → length (to_for setting list from s) ≤ length list
to_fewer setting list from Nothing = omega arith
to_fewer setting list from Registers = omega arith
to_fewer setting list from (Answers node) = omega arith
to_fewer setting list from (Speaks header) =
    if_fewer (is_client_as from.place header.source.node list && is_here setting.network header.destination.network)
    (λ (c : Client). is_for header.destination.node header.source.node c.node) list

-- ---- the tunnel's own

one_at_most : {X : Type 0} (b : Bool) (x : X) → length (if b then x ∷ [] else []) ≤ 1
one_at_most true x = omega arith
one_at_most false x = omega arith

one_of_two : {X : Type 0} (a b d : Bool) (x y : X) → length (if a then (if b then x ∷ [] else []) else if d then y ∷ [] else []) ≤ 1
one_of_two true b d x y = one_at_most b x
one_of_two false b d x y = one_at_most d y

pub own_one : (setting : Setting) (list waits : List Client) (from : Sender) (s : Said) → length (own_for setting list waits from s) ≤ 1
own_one setting list waits from Nothing = omega arith
own_one setting list waits from Registers = one_at_most (is_welcome setting from list) _
own_one setting list waits from (Answers node) = omega arith
own_one setting list waits from (Speaks header) = one_of_two (is_client_as from.place header.source.node list) _ _ _ _

module _ (setting : Setting) where
  -- receivers are clients
  pub receivers_few : (history : History) (place : Node) → copies place (receivers setting history) ≤ copies place (places_of (clients setting history))
  receivers_few [] place = omega arith
  receivers_few (Datagram from bytes ∷ earlier) place = to_few setting (clients setting (Datagram from bytes ∷ earlier)) from (said setting.network from bytes) place
  receivers_few (Second ∷ earlier) place = omega arith
  receivers_few (Send to bytes ∷ earlier) place = whom_few (λ (c : Client). is_for to setting.node c.node) place (clients setting earlier)

  pub nobody_twice : (history : History) (place : Node) → copies place (receivers setting history) ≤ 1
  nobody_twice history place = omega (arith, receivers_few history place, once setting history place)

  pub carried_none : (history : History) (place : Node) → is_there setting place history ≡ false → copies place (receivers setting history) ≡ 0
  carried_none history place none = omega (arith, receivers_few history place, no_copies place (places_of (clients setting history)) none)

  receivers_fewer : (history : History) → length (receivers setting history) ≤ length (clients setting history)
  receivers_fewer [] = omega arith
  receivers_fewer (Datagram from bytes ∷ earlier) = to_fewer setting (clients setting (Datagram from bytes ∷ earlier)) from (said setting.network from bytes)
  receivers_fewer (Second ∷ earlier) = omega arith
  receivers_fewer (Send to bytes ∷ earlier) = whom_fewer (λ (c : Client). is_for to setting.node c.node) (clients setting earlier)

  pings_few : (list waits : List Client) → length (pings_of setting list waits) ≤ length list
  pings_few list waits = omega (arith, length-map (filter (pings_now waits) list) (λ (c : Client). ping_to setting.network c.place c.cookie), count_few (pings_now waits) list)

  due_few : (waits : List Client) → length (due_of setting waits) ≤ length waits
  due_few waits = omega (arith, length-map (filter is_due waits) (due_to setting), count_few is_due waits)

  pub count_bounded : (history : History)
      → length (own setting history) + length (receivers setting history) ≤ length (clients setting history) + length (waiting setting history) + 1
  count_bounded [] = omega arith
  count_bounded (Datagram from bytes ∷ earlier) =
      let now = Datagram from bytes ∷ earlier in
      omega (arith, own_one setting (clients setting now) (waiting setting now) from (said setting.network from bytes), receivers_fewer now)
  count_bounded (Second ∷ earlier) =
      let now = Second ∷ earlier in
      let pings = pings_of setting (clients setting now) (waiting setting now) in
      let due = due_of setting (waiting setting now) in
      omega (arith, length-append pings due, pings_few (clients setting now) (waiting setting now), due_few (waiting setting now))
  count_bounded (Send to bytes ∷ earlier) = omega (arith, receivers_fewer (Send to bytes ∷ earlier))

-- what is for all but the tunnel's own node is for every client
pub all_but_own : (node : Node) (list : List Client) → is_among node (nodes_of list) ≡ false → filter (λ c. not (same_node c.node node)) list ≡ list
all_but_own node [] none = refl
all_but_own node (c ∷ list) none = grind (arith, all_but_own node list)

pub to_everybody : (to sender : Node) (list : List Client) → same_node to broadcast ≡ true → is_among sender (nodes_of list) ≡ false → for_whom to sender list ≡ places_of list
to_everybody to sender list all none =
    ap (λ (b : Bool). places_of (filter (λ c. if b then not (same_node c.node sender) else same_node c.node to) list)) all ∙ ap places_of (all_but_own sender list none)
