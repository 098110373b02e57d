use Rattle.std.proofs.Common.{◌≡◌, ◌≢◌, ◌∙◌, refl, sym, ap, ap₂, subst, inl, inr, ◌⊎◌, ◌==◌, Bool, true, false, ◌&&◌, ◌||◌, not, if◌then◌else◌, ℕ, List, [], ◌∷◌, ◌++◌, map}
use Rattle.std.proofs.lemmas.Bool.{cases_Bool, false≢true}
use Rattle.std.proofs.lemmas.List.{append-nil}
use Rattle.std.proofs.Math.Bool.{or-true, and-false}
use Rattle.ipx_wire.specs.declared.header.Header.{Header}
use Rattle.ipx_wire.specs.declared.network.Network.{Network}
use Rattle.ipx_wire.specs.declared.node.Node.{Node}
use Rattle.ipx_wire.specs.declared.socket.Socket.{Socket}
use Rattle.ipx_tunnel.specs.Numbers.{tunnel_socket}
use Rattle.ipx_tunnel.specs.Own.{ping_to}
use Rattle.ipx_tunnel.specs.Places.{same_node, nobody, is_among, is_here, is_from_here}
use Rattle.ipx_tunnel.specs.Says.{is_to}
use Rattle.ipx_tunnel.proofs.Nodes.{same_is, same_itself}
use Rattle.ipx_tunnel.proofs.Sending.{right_of}
use Rattle.ipx_keyed.specs.declared.client.Client.{Client}
use Rattle.ipx_keyed.specs.declared.said.Said.{Said}
use Rattle.ipx_keyed.specs.declared.said.Said.TheVariants.{Nothing, Registers, Answers, Speaks}
use Rattle.ipx_keyed.specs.declared.sender.Sender.{Sender}
use Rattle.ipx_keyed.specs.declared.setting.Setting.{Setting}
use Rattle.ipx_keyed.specs.Numbers.{waits}
use Rattle.ipx_keyed.specs.Events.{History, Datagram}
use Rattle.ipx_keyed.specs.Says.{said, said_in, names, node_in}
use Rattle.ipx_keyed.specs.Members.{places_of, is_client_as, is_remembered, is_open, is_welcome, is_kept, fresh}
use Rattle.ipx_keyed.specs.Tables.{proves, refreshed, registers, remembered, tables, clients, waiting}
use Rattle.ipx_keyed.specs.Own.{answer_to, own_for}
use Rattle.ipx_keyed.specs.Receivers.{for_whom, to_for, is_for_router, is_heard_of}
use Rattle.ipx_keyed.proofs.At.{as_place}
use Rattle.ipx_keyed.proofs.Counting.{room_of}
use Rattle.ipx_keyed.proofs.Entering.{kept_open, nobody_comes, welcome_after, remembers_more, comes, comes_as}
use Rattle.ipx_keyed.proofs.Shown.{either}
use Rattle.ipx_keyed.proofs.laws.comes_in.Goals as goal

-- ---- who asks

-- what a registration gets, by whether its sender is welcome
asks : (setting : Setting) (history : History) (from : Sender) (bytes : List ℕ) (welcome : Bool) → said setting.network from bytes ≡ Registers
    → is_welcome setting from (clients setting history) ≡ welcome → let now = Datagram from bytes ∷ history in
    own_for setting (clients setting now) (waiting setting now) from (said setting.network from bytes) ≡ (if welcome then answer_to setting from.place from.node ∷ [] else [])
asks setting history from bytes welcome registered is =
    let now = Datagram from bytes ∷ history in
    ap (own_for setting (clients setting now) (waiting setting now) from) registered
    ∙ ap (λ (b : Bool). if b then answer_to setting from.place from.node ∷ [] else []) (welcome_after setting from bytes history registered ∙ is)

forgotten : (new : Client) (registered welcome kept : Bool) (list : List Client) → welcome ≡ false
    → list ++ (if registered && welcome && kept then new ∷ [] else []) ≡ list
forgotten new registered welcome kept list none = rw (none, and-false registered) (append-nil list)

pub returns-clause-asked : goal.returns-clause-asked
returns-clause-asked c = λ setting history from bytes registered welcome. asks setting history from bytes true registered welcome

pub returns-clause-refused : goal.returns-clause-refused
returns-clause-refused c = λ setting history from bytes registered refused. (
  asks setting history from bytes false registered refused,
  forgotten (fresh from from.node waits) (registers (said setting.network from bytes)) (is_welcome setting from (clients setting (Datagram from bytes ∷ history)))
      (is_kept setting from.place (waiting setting history)) (waiting setting history) (welcome_after setting from bytes history registered ∙ refused),
)

-- who is answered is welcome
welcomed : (setting : Setting) (from : Sender) (list held : List Client) (s : Said) → s ≡ Registers → own_for setting list held from s ≢ []
    → is_welcome setting from list ≡ true
welcomed setting from list held s registered some =
    elim (cases_Bool (is_welcome setting from list)) [
      | inl is ↦ is
      | inr none ↦ absurd (some (ap (own_for setting list held from) registered ∙ ap (λ (b : Bool). if b then answer_to setting from.place from.node ∷ [] else []) none))
    ]

pub returns-clause-open_to : goal.returns-clause-open_to
returns-clause-open_to c = λ setting history from bytes registered some.
    let now = Datagram from bytes ∷ history in
    either (is_client_as from.place from.node (clients setting now)) (is_open setting from.place from.node (clients setting now))
    (welcomed setting from (clients setting now) (waiting setting now) (said setting.network from bytes) registered some)

pub returns-clause-remembered : goal.returns-clause-remembered
returns-clause-remembered c = λ setting history from bytes r. remembers_more setting from bytes history r

-- ---- strangers

-- what a word brings somebody who is no client
pinged : (setting : Setting) (list held : List Client) (from : Sender) (header : Header) → is_client_as from.place header.source.node list ≡ false
    → is_open setting from.place header.source.node list ≡ true → is_among from.place (places_of held) ≡ false
    → own_for setting list held from (Speaks header) ≡ ping_to setting.network from.place from.cookies.current ∷ []
pinged setting list held from header stranger room forgotten = rw (stranger, room, forgotten) refl

not_remembered : (place node : Node) (list : List Client) → is_among place (places_of list) ≡ false → is_remembered place node list ≡ false
not_remembered place node list none =
    elim (cases_Bool (is_remembered place node list)) [
      | inl is ↦ absurd (false≢true (sym none ∙ as_place place node list is))
      | inr other ↦ other
    ]

-- where there is room for a place, nobody of it is a client
no_client : (setting : Setting) (place node : Node) (list : List Client) → is_open setting place node list ≡ true → is_client_as place node list ≡ false
no_client setting place node list room =
    elim (cases_Bool (is_client_as place node list)) [
      | inl client ↦ absurd (false≢true (sym (room_of setting place node list room).new ∙ as_place place node list client))
      | inr none ↦ none
    ]

unproven : (from : Sender) (list : List Client) (header : Header) → from.is_trusted ≡ false → is_among from.place (places_of list) ≡ false
    → proves from list (Speaks header) ≡ false
unproven from list header distrusted forgotten =
    ap₂ (λ (a b : Bool). a || (same_node header.source.node from.node && b)) distrusted (not_remembered from.place from.node list forgotten)
    ∙ and-false (same_node header.source.node from.node)

pub returns-clause-stranger : goal.returns-clause-stranger
returns-clause-stranger c = λ setting history from bytes header speaks distrusted forgotten room.
    let s = said setting.network from bytes in
    let before = clients setting history in
    let kept = map (refreshed from s) before in
    let node = header.source.node in
    let none : proves from (waiting setting history) s ≡ false =
    ap (proves from (waiting setting history)) speaks ∙ unproven from (waiting setting history) header distrusted forgotten in
    let same : clients setting (Datagram from bytes ∷ history) ≡ kept = nobody_comes setting from s (tables setting history) none in
    let held : waiting setting (Datagram from bytes ∷ history) ≡ waiting setting history =
    ap (λ s. remembered setting from s (clients setting (Datagram from bytes ∷ history)) (waiting setting history)) speaks ∙ append-nil (waiting setting history) in
    let open_now : is_open setting from.place node kept ≡ true = kept_open setting from.place node from s before ∙ room in
    ap (own_for setting (clients setting (Datagram from bytes ∷ history)) (waiting setting (Datagram from bytes ∷ history)) from) speaks
    ∙ ap₂ (λ (a b : List Client). own_for setting a b from (Speaks header)) same held
    ∙ pinged setting kept (waiting setting history) from header (no_client setting from.place node kept open_now) open_now forgotten

-- ---- who answers

-- nothing is for two nodes
not_to : (header : Header) (node other : Node) → header.destination.node ≡ node → node ≢ other → is_to header other ≡ false
not_to header node other is different =
    elim (cases_Bool (is_to header other)) [
      | inl both ↦ absurd (different (sym is ∙ same_is header.destination.node other (right_of (header.destination.socket.0 == tunnel_socket) _ both)))
      | inr none ↦ none
    ]

to_it : (header : Header) (node : Node) → header.destination.node ≡ node → header.destination.socket.0 ≡ tunnel_socket → is_to header node ≡ true
to_it header node is socket =
    ap₂ (λ (n : ℕ) (k : Node). (n == tunnel_socket) && same_node k node) socket is ∙ same_itself node

answer_words : (may registered named current previous : Bool) (header : Header) → registered ≡ false → named ≡ true → (current ≡ true) ⊎ (previous ≡ true)
    → (if registered then (if may then Registers else Nothing) else if not named then Nothing
    else if current || previous then Answers header.source.node else Speaks header) ≡ Answers header.source.node
answer_words may true named current previous header new is to = cc
answer_words may false false current previous header new is to = cc
answer_words may false true true previous header new is to = refl
answer_words may false true false true header new is to = refl
answer_words may false true false false header new is to = elim to [ inl e ↦ cc | inr e ↦ cc ]

named_by : (network : Network) (from : Sender) (header : Header) → (header.source.node ≡ from.node) ⊎ (header.source.node ≡ from.former)
    → is_from_here network header.source.network ≡ true → names network from header ≡ true
named_by network from header whose here =
    elim whose [
      | inl now ↦
          ap₂ (λ (a b : Bool). (a || same_node header.source.node from.former) && b) (ap (λ n. same_node n from.node) now ∙ same_itself from.node) here
      | inr before ↦
          ap₂ (λ (a b : Bool). (same_node header.source.node from.node || a) && b) (ap (λ n. same_node n from.former) before ∙ same_itself from.former) here
          ∙ ap (λ (b : Bool). b && true) (or-true (same_node header.source.node from.node))
    ]

pub returns-clause-answered : goal.returns-clause-answered
returns-clause-answered c = λ network from bytes packet cookie is node socket whose here which some.
    let header = packet.header in
    let number : header.destination.socket.0 ≡ tunnel_socket = ap (λ (s : Socket). s.0) socket in
    let to : (is_to header from.cookies.current ≡ true) ⊎ (is_to header from.cookies.previous ≡ true) =
    elim which [
      | inl e ↦ inl (to_it header from.cookies.current (node ∙ e) number)
      | inr e ↦ inr (to_it header from.cookies.previous (node ∙ e) number)
    ] in
    ap (said_in network from) is
    ∙ answer_words from.may_register (is_to header nobody) (names network from header) (is_to header from.cookies.current) (is_to header from.cookies.previous) header
    (not_to header cookie nobody node some) (named_by network from header whose here) to

-- ---- who was told his node

-- a word by the node that its sender is remembered with
word_proves : (from : Sender) (list : List Client) (header : Header) → header.source.node ≡ from.node → is_remembered from.place from.node list ≡ true
    → proves from list (Speaks header) ≡ true
word_proves from list header named kept =
    ap (λ (b : Bool). from.is_trusted || b) (ap₂ (λ (a b : Bool). a && b) (ap (λ n. same_node n from.node) named ∙ same_itself from.node) kept) ∙ or-true from.is_trusted

-- what a packet of the node says
by_words : (from : Sender) (list : List Client) (header : Header) (registered named answers : Bool) → registered ≡ false → named ≡ true
    → header.source.node ≡ from.node → is_remembered from.place from.node list ≡ true
    → let s = if registered then (if from.may_register then Registers else Nothing) else if not named then Nothing else if answers then Answers header.source.node else Speaks header in
    (proves from list s ≡ true) × (node_in from s ≡ from.node)
by_words from list header true named answers new is node kept = cc
by_words from list header false false answers new is node kept = cc
by_words from list header false true true new is node kept = (refl, node)
by_words from list header false true false new is node kept = (word_proves from list header node kept, node)

names_it : (setting : Setting) (from : Sender) (header : Header) → header.source.node ≡ from.node → is_from_here setting.network header.source.network ≡ true
    → names setting.network from header ≡ true
names_it setting from header node here =
    ap₂ (λ (a b : Bool). (a || same_node header.source.node from.former) && b) (ap (λ n. same_node n from.node) node ∙ same_itself from.node) here

pub returns-clause-told : goal.returns-clause-told
returns-clause-told c = λ setting history from bytes packet is node here other kept room.
    let header = packet.header in
    let list = waiting setting history in
    let says : (proves from list (said setting.network from bytes) ≡ true) × (node_in from (said setting.network from bytes) ≡ from.node) =
    subst (λ (s : Said). (proves from list s ≡ true) × (node_in from s ≡ from.node)) (sym (ap (said_in setting.network from) is))
    (by_words from list header (is_to header nobody) (names setting.network from header) (is_to header from.cookies.current || is_to header from.cookies.previous)
    other (names_it setting from header node here) node kept) in
    comes_as setting from bytes history from.node says.0 says.1 room

pub returns-clause-barred : goal.returns-clause-barred
returns-clause-barred c = λ network from bytes packet is registers barred.
    ap (said_in network from) is
    ∙ ap (λ (b : Bool). if b then (if from.may_register then Registers else Nothing) else if not (names network from packet.header) then Nothing
    else if is_to packet.header from.cookies.current || is_to packet.header from.cookies.previous then Answers packet.header.source.node else Speaks packet.header) registers
    ∙ ap (λ (b : Bool). if b then Registers else Nothing) barred

pub returns-clause-word : goal.returns-clause-word
returns-clause-word c = λ setting history from bytes header speaks named kept room here.
    let now = Datagram from bytes ∷ history in
    let s = said setting.network from bytes in
    let node : node_in from s ≡ from.node = ap (node_in from) speaks ∙ named in
    let proven : proves from (waiting setting history) s ≡ true = ap (proves from (waiting setting history)) speaks ∙ word_proves from (waiting setting history) header named kept in
    let comes_as : is_client_as from.place (node_in from s) (clients setting now) ≡ true =
    comes setting from bytes history proven (ap (λ n. is_open setting from.place n (clients setting history)) node ∙ room) in
    let client : is_client_as from.place from.node (clients setting now) ≡ true = ap (λ n. is_client_as from.place n (clients setting now)) (sym node) ∙ comes_as in
    let speaker : is_client_as from.place header.source.node (clients setting now) ≡ true = ap (λ n. is_client_as from.place n (clients setting now)) named ∙ client in
    let to = λ (b : Bool). if b && is_here setting.network header.destination.network then for_whom header.destination.node header.source.node (clients setting now) else [] in (
      client,
      ap (to_for setting (clients setting now) from) speaks ∙ ap to speaker
          ∙ ap (λ (b : Bool). if b then for_whom header.destination.node header.source.node (clients setting now) else []) here
          ∙ ap (λ n. for_whom header.destination.node n (clients setting now)) named,
      ap (is_heard_of setting (clients setting now) from) speaks ∙ ap (λ (b : Bool). b && is_for_router setting header) speaker,
    )
