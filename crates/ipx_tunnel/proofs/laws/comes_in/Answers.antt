use Rattle.std.proofs.Common.{◌≡◌, ◌≢◌, ◌∙◌, refl, sym, ap, ap₂, ◌⊎◌, inl, inr, Bool, true, false, ◌==◌, ◌&&◌, ◌||◌, not, nat_lt, if◌then◌else◌, ℕ, List, [], ◌∷◌, ◌++◌}
use Rattle.std.proofs.lemmas.Bool.{cases_Bool, eq-eqb}
use Rattle.std.proofs.lemmas.List.{append-nil}
use Rattle.std.proofs.Math.Bool.{or-true}
use Rattle.ipx_wire.specs.Numbers.{local_network, all_routes}
use Rattle.ipx_wire.specs.declared.header.Header.{Header}
use Rattle.ipx_wire.specs.declared.network.Network.{Network}
use Rattle.ipx_wire.specs.declared.node.Node.{Node}
use Rattle.ipx_wire.specs.declared.socket.Socket.{Socket}
use Rattle.ipx_tunnel.specs.declared.said.Said.{Said}
use Rattle.ipx_tunnel.specs.declared.said.Said.TheVariants.{Nothing, Registers, Answers, Speaks}
use Rattle.ipx_tunnel.specs.declared.sender.Sender.{Sender}
use Rattle.ipx_tunnel.specs.declared.setting.Setting.{Setting}
use Rattle.ipx_tunnel.specs.Numbers.{tunnel_socket}
use Rattle.ipx_tunnel.specs.Places.{same_node, broadcast, nobody, is_among, is_here}
use Rattle.ipx_tunnel.specs.Events.{History, Datagram}
use Rattle.ipx_tunnel.specs.Says.{said_in, is_to, names}
use Rattle.ipx_tunnel.specs.Clients.{lasts, lasts_by, is_open, clients}
use Rattle.ipx_tunnel.specs.Own.{answer_to, ping_to, own_for, is_ping}
use Rattle.ipx_tunnel.proofs.Clients.{comes, room_of}
use Rattle.ipx_tunnel.proofs.Nodes.{same_is, same_itself}
use Rattle.ipx_tunnel.proofs.Sending.{right_of}
use Rattle.ipx_tunnel.proofs.Standing.{lasts_own, clients_heard}
use Rattle.ipx_tunnel.proofs.laws.comes_in.Goals as goal

-- ---- who asks

-- what doesn't count leaves the clients as they were
unchanged : (setting : Setting) (history : History) (from : Sender) (bytes : List ℕ) → nat_lt 0 (lasts setting from.place (Datagram from bytes)) ≡ false
    → clients setting (Datagram from bytes ∷ history) ≡ clients setting history
unchanged setting history from bytes none =
    let before = clients setting history in
    clients_heard setting from bytes history
    ∙ ap (λ (b : Bool). before ++ (if b && is_open setting from.place before then from.place ∷ [] else [])) none ∙ append-nil before

-- who registers is pinged, whether it comes in by this already or there is room
registers : (setting : Setting) (history : History) (from : Sender) (bytes : List ℕ) → is_open setting from.place (clients setting history) ≡ true
    → (let after = clients setting (Datagram from bytes ∷ history) in is_among from.place after || is_open setting from.place after) ≡ true
registers setting history from bytes room =
    elim (cases_Bool (nat_lt 0 (lasts setting from.place (Datagram from bytes)))) [
      | inl counts ↦
          let has = room_of setting from.place (clients setting history) room in
          ap (λ (b : Bool). b || is_open setting from.place (clients setting (Datagram from bytes ∷ history)))
          (comes setting from bytes history counts has.few has.fewer)
      | inr none ↦
          ap (λ (l : List Node). is_among from.place l || is_open setting from.place l) (unchanged setting history from bytes none)
          ∙ ap (λ (b : Bool). is_among from.place (clients setting history) || b) room ∙ or-true (is_among from.place (clients setting history))
    ]

pub returns-clause-asked : goal.returns-clause-asked
returns-clause-asked c = λ setting history from bytes asks room.
    ap (own_for setting (clients setting (Datagram from bytes ∷ history)) from) asks
    ∙ ap (λ (b : Bool). if b then answer_to setting from.place ∷ ping_to setting.network from.place from.cookies.current ∷ [] else [])
    (registers setting history from bytes room)

-- a stranger for whom there is room is pinged
pinged : (setting : Setting) (places : List Node) (from : Sender) (header : Header) → is_among from.place places ≡ false → is_open setting from.place places ≡ true
    → own_for setting places from (Speaks header) ≡ ping_to setting.network from.place from.cookies.current ∷ []
pinged setting places from header new room =
    ap₂ (λ (a b : Bool).
    if a then (if is_ping setting.network header then answer_to setting from.place ∷ [] else [])
    else if b then ping_to setting.network from.place from.cookies.current ∷ [] else []) new room

pub returns-clause-stranger : goal.returns-clause-stranger
returns-clause-stranger c = λ setting history from bytes header speaks distrusted room.
    let none : nat_lt 0 (lasts setting from.place (Datagram from bytes)) ≡ false =
    ap (nat_lt 0) (lasts_own setting from bytes ∙ ap₂ (λ (b : Bool) (s : Said). lasts_by b s) distrusted speaks) in
    let has = room_of setting from.place (clients setting history) room in
    ap₂ (λ (l : List Node) (s : Said). own_for setting l from s) (unchanged setting history from bytes none) speaks
    ∙ pinged setting (clients setting history) from header has.new room

-- each network means itself
here_itself : (network : Network) → is_here network network ≡ true
here_itself network =
    ap (λ (b : Bool). (network.0 == local_network) || (network.0 == all_routes) || b) (eq-eqb network.0 network.0 refl)
    ∙ or-true ((network.0 == local_network) || (network.0 == all_routes))

pub returns-clause-ping : goal.returns-clause-ping
returns-clause-ping c = λ network place cookie.
    (refl, ap₂ (λ (a b : Bool). a && b) (here_itself network) (same_itself broadcast), refl)

-- ---- who answers

-- nothing is for two nodes
not_to : (header : Header) (node other : Node) → header.destination.node ≡ node → node ≢ other → is_to header other ≡ false
not_to header node other is different = elim (cases_Bool (is_to header other)) [
  | inl same ↦ absurd (different (sym is ∙ same_is header.destination.node other (right_of (header.destination.socket.0 == tunnel_socket) _ same)))
  | inr e ↦ e
]

to_it : (header : Header) (node : Node) → header.destination.node ≡ node → header.destination.socket.0 ≡ tunnel_socket → is_to header node ≡ true
to_it header node is socket =
    ap₂ (λ (n : ℕ) (m : Node). (n == tunnel_socket) && same_node m node) socket is ∙ same_itself node

-- what a packet says by its words
by_words : (registers named current previous : Bool) (header : Header) → registers ≡ false → named ≡ true → (current ≡ true) ⊎ (previous ≡ true)
    → (if registers then Registers else if not named then Nothing else if current || previous then Answers else Speaks header) ≡ Answers
by_words true named current previous header new is to = cc
by_words false false current previous header new is to = cc
by_words false true true previous header new is to = refl
by_words false true false true header new is to = refl
by_words false true false false header new is to = elim to [ inl e ↦ cc | inr e ↦ cc ]

pub returns-clause-answered : goal.returns-clause-answered
returns-clause-answered c = λ network from bytes packet cookie is node socket source here whose some.
    let header = packet.header in
    let number : header.destination.socket.0 ≡ tunnel_socket = ap (λ (s : Socket). s.0) socket in
    let named : names network from.place header ≡ true =
    ap₂ (λ (n : Node) (b : Bool). same_node n from.place && b) source here ∙ ap (λ (b : Bool). b && true) (same_itself from.place) in
    let to : (is_to header from.cookies.current ≡ true) ⊎ (is_to header from.cookies.previous ≡ true) =
    elim whose [
      | inl e ↦ inl (to_it header from.cookies.current (node ∙ e) number)
      | inr e ↦ inr (to_it header from.cookies.previous (node ∙ e) number)
    ] in
    ap (said_in network from) is
    ∙ by_words (is_to header nobody) (names network from.place header) (is_to header from.cookies.current) (is_to header from.cookies.previous) header
    (not_to header cookie nobody node some) named to
