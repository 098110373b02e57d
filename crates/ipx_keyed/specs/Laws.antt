-- The words of the laws: what holds of every history by the definitions alone.
use Rattle.std.specs.Prelude.{◌≡◌, ◌≢◌, ℕ, ◌+◌, ◌≤◌, ◌⊎◌, Bool, true, false, ◌&&◌, if◌then◌else◌, List, [], ◌∷◌, ◌++◌, length, Ok}
use Rattle.std.specs.List.{filter, AllByRecursion}
use Rattle.ipx_wire.specs.Packet.{Parts, packet_of}
use Rattle.ipx_wire.specs.declared.header.Header.{Header}
use Rattle.ipx_wire.specs.declared.node.Node.{Node}
use Rattle.ipx_tunnel.specs.declared.own.Own.{Own}
use Rattle.ipx_tunnel.specs.Laws.{copies}
use Rattle.ipx_tunnel.specs.Places.{same_node, same_address, broadcast, is_among, is_from_here}
use Rattle.ipx_keyed.specs.declared.client.Client.{Client}
use Rattle.ipx_keyed.specs.declared.said.Said.{Said}
use Rattle.ipx_keyed.specs.declared.said.Said.TheVariants.{Nothing, Registers, Answers, Speaks}
use Rattle.ipx_keyed.specs.declared.sender.Sender.{Sender}
use Rattle.ipx_keyed.specs.declared.setting.Setting.{Setting}
use Rattle.ipx_keyed.specs.Numbers.{waits}
use Rattle.ipx_keyed.specs.Events.{Event, Datagram, Second, Send, History}
use Rattle.ipx_keyed.specs.Says.{said, node_in}
use Rattle.ipx_keyed.specs.Members.{places_of, is_it, is_client_as, is_remembered, is_welcome, is_kept}
use Rattle.ipx_keyed.specs.Tables.{prolongs, lasts, clients, waiting}
use Rattle.ipx_keyed.specs.Own.{answer_to, own}
use Rattle.ipx_keyed.specs.Receivers.{receivers}

-- ---- counting

-- how many seconds passed
abbrev pub seconds : History → ℕ
seconds [] = 0
seconds (Datagram from bytes ∷ earlier) = seconds earlier
seconds (Second ∷ earlier) = seconds earlier + 1
seconds (Send to bytes ∷ earlier) = seconds earlier

-- those of a list at a place
abbrev pub at_place : Node → List Client → List Client
at_place place list = filter (λ c. same_node c.place place) list

-- the datagrams of the tunnel's own that go to a place
abbrev pub own_to : Node → List Own → List Own
own_to place own = filter (λ o. same_node o.place place) own

-- ---- what was said

-- what shows that a place hears, by its node: it answered a cookie, or is trusted and said something, or spoke by the node that it is
-- remembered with
abbrev pub Shows : Sender → List Client → Node → Said → Type 0
Shows from waiting node s =
    (s ≡ Answers node) ⊎ ((from.is_trusted ≡ true) × (s ≢ Nothing) × (node_in from s ≡ node))
    ⊎ ((header : Header) × (s ≡ Speaks header) × (header.source.node ≡ node) × (from.node ≡ node) × (is_remembered from.place node waiting ≡ true))

-- the event keeps the client in
abbrev pub renews : Setting → Client → Event → Bool
renews setting c (Datagram from bytes) =
    let s = said setting.network from bytes in prolongs from s && is_it from.place (node_in from s) c
renews setting c Second = false
renews setting c (Send to bytes) = false

-- the latest event by which a client is one: since then nothing came that keeps it in. Its cookie and its seconds are of then
pub record LastHeard (setting : Setting) (c : Client) (history : History) : Type 0 where
  pub later : History
  pub from : Sender
  pub bytes : List ℕ
  pub earlier : History
  pub event : history ≡ later ++ Datagram from bytes ∷ earlier
  pub sender : from.place ≡ c.place
  pub shows : Shows from (waiting setting earlier) c.node (said setting.network from bytes)
  pub silence : AllByRecursion (λ e. renews setting c e ≡ false) later
  pub cookie : c.cookie ≡ from.cookies.current
  pub left : c.seconds_left + seconds later ≡ lasts from

-- the registration by which somebody is remembered, at most nine seconds ago: he was given this node
pub record Registered (setting : Setting) (c : Client) (history : History) : Type 0 where
  pub later : History
  pub from : Sender
  pub bytes : List ℕ
  pub earlier : History
  pub event : history ≡ later ++ Datagram from bytes ∷ earlier
  pub sender : from.place ≡ c.place
  pub node : from.node ≡ c.node
  pub said : said setting.network from bytes ≡ Registers
  pub given : own setting (Datagram from bytes ∷ earlier) ≡ answer_to setting c.place c.node ∷ []
  pub cookie : c.cookie ≡ from.cookies.current
  pub left : c.seconds_left + seconds later ≡ waits

-- at most nine seconds ago somebody registered at the place, and was given the node
pub record Given (setting : Setting) (place node : Node) (history : History) : Type 0 where
  pub later : History
  pub from : Sender
  pub bytes : List ℕ
  pub earlier : History
  pub event : history ≡ later ++ Datagram from bytes ∷ earlier
  pub sender : from.place ≡ place
  pub said : said setting.network from bytes ≡ Registers
  pub given : own setting (Datagram from bytes ∷ earlier) ≡ answer_to setting place node ∷ []
  pub recent : seconds later ≤ waits

module _ (setting : Setting) where
  -- a client is at the place, and one is there under that node
  abbrev pub is_there : Node → History → Bool
  is_there place history = is_among place (places_of (clients setting history))

  abbrev pub is_client : Node → Node → History → Bool
  is_client place node history = is_client_as place node (clients setting history)

  -- how a client came in with that datagram: by an answer to its cookie, by a word of a trusted place, or by a word that names the node which
  -- was given to its place at most nine seconds ago
  abbrev pub ComesBy : Sender → List ℕ → History → Node → Type 0
  ComesBy from bytes history node =
      let s = said setting.network from bytes in
      (s ≡ Answers node) ⊎ ((header : Header) × (s ≡ Speaks header) × (header.source.node ≡ node)
      × ((from.is_trusted ≡ true) ⊎ ((from.node ≡ node) × Given setting from.place node history)))

-- ---- who registers

-- the datagram registers, its sender is welcome, and there is room to remember him
pub record Remembers (setting : Setting) (from : Sender) (bytes : List ℕ) (earlier : History) : Type 0 where
  pub registers : said setting.network from bytes ≡ Registers
  pub welcome : is_welcome setting from (clients setting earlier) ≡ true
  pub kept : is_kept setting from.place (waiting setting earlier) ≡ true

-- it is a ping for that place, by what it says: it is for all
abbrev pub is_ping_to : Node → Own → Bool
is_ping_to place o = same_node o.place place && same_node o.destination.node broadcast

-- ---- who said what

-- the bytes are a packet that a client sent, from its place and under its node, which its sender has or had; on this network
pub record IsHonest (setting : Setting) (history : History) (from : Sender) (bytes : List ℕ) : Type 0 where
  pub packet : Parts
  pub is_packet : packet_of bytes ≡ Ok packet
  pub client : is_client setting from.place packet.header.source.node history ≡ true
  pub source : (packet.header.source.node ≡ from.node) ⊎ (packet.header.source.node ≡ from.former)
  pub network : is_from_here setting.network packet.header.source.network ≡ true

-- ---- where everybody is

-- the places are named anew: different ones stay different, and who shares an address does so again
pub record IsRenaming (to : Node → Node) : Type 0 where
  pub places : (a b : Node) → same_node (to a) (to b) ≡ same_node a b
  pub addresses : (a b : Node) → same_address (to a) (to b) ≡ same_address a b

-- the same event with its sender elsewhere: nodes, cookies and bytes stay
abbrev pub elsewhere : (Node → Node) → Event → Event
elsewhere to (Datagram from bytes) = Datagram (record from { place = to from.place }) bytes
elsewhere to Second = Second
elsewhere to (Send node bytes) = Send node bytes

abbrev pub sent_elsewhere : (Node → Node) → Own → Own
sent_elsewhere to o = record o { place = to o.place }

-- ---- what goes to a place

-- the datagrams that came from there
abbrev pub ever_came : Node → History → ℕ
ever_came place [] = 0
ever_came place (Datagram from bytes ∷ earlier) = (if same_node from.place place then 1 else 0) + ever_came place earlier
ever_came place (Second ∷ earlier) = ever_came place earlier
ever_came place (Send to bytes ∷ earlier) = ever_came place earlier

module _ (setting : Setting) where
  -- all datagrams that went there while no client was there
  abbrev pub sent_to_stranger : Node → History → ℕ
  sent_to_stranger place [] = 0
  sent_to_stranger place (event ∷ earlier) =
      (if is_there setting place (event ∷ earlier) then 0
      else length (own_to place (own setting (event ∷ earlier))) + copies place (receivers setting (event ∷ earlier)))
      + sent_to_stranger place earlier
