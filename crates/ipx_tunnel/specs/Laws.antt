-- The words of the laws: what holds of every history by the definitions alone.
use Rattle.std.specs.Prelude.{◌≡◌, ◌≢◌, ℕ, ◌+◌, ◌<◌, Bool, true, false, ◌||◌, not, if◌then◌else◌, List, [], ◌∷◌, ◌++◌, length, Ok}
use Rattle.std.specs.List.{filter, AllByRecursion}
use Rattle.ipx_wire.specs.Numbers.{local_network, all_routes}
use Rattle.ipx_wire.specs.Packet.{Parts, packet_of}
use Rattle.ipx_wire.specs.declared.network.Network.{Network}
use Rattle.ipx_wire.specs.declared.node.Node.{Node}
use Rattle.ipx_tunnel.specs.declared.said.Said.TheVariants.{Nothing, Answers}
use Rattle.ipx_tunnel.specs.declared.own.Own.{Own}
use Rattle.ipx_tunnel.specs.declared.sender.Sender.{Sender}
use Rattle.ipx_tunnel.specs.declared.setting.Setting.{Setting}
use Rattle.ipx_tunnel.specs.Numbers.{answer_lasts, trust_lasts}
use Rattle.ipx_tunnel.specs.Places.{same_node, is_among, is_from_here}
use Rattle.ipx_tunnel.specs.Events.{Event, Datagram, Second, Send, History}
use Rattle.ipx_tunnel.specs.Says.{said}
use Rattle.ipx_tunnel.specs.Clients.{lasts, is_there, clients}
use Rattle.ipx_tunnel.specs.Own.{own}
use Rattle.ipx_tunnel.specs.Receivers.{receivers}

-- ---- counting

-- how often a place stands in a list
abbrev pub copies : Node → List Node → ℕ
copies place places = length (filter (λ p. same_node p place) places)

-- how many seconds passed
abbrev pub seconds : History → ℕ
seconds [] = 0
seconds (Datagram from bytes ∷ earlier) = seconds earlier
seconds (Second ∷ earlier) = seconds earlier + 1
seconds (Send to bytes ∷ earlier) = seconds earlier

-- ---- who is there

-- less than 30 seconds ago the place answered its cookie
pub record Answered (setting : Setting) (place : Node) (history : History) : Type 0 where
  pub later : History
  pub from : Sender
  pub bytes : List ℕ
  pub earlier : History
  pub event : history ≡ later ++ Datagram from bytes ∷ earlier
  pub sender : from.place ≡ place
  pub said : said setting.network from bytes ≡ Answers
  pub recent : seconds later < answer_lasts

-- less than 180 seconds ago the place was trusted, and said something
pub record Trusted (setting : Setting) (place : Node) (history : History) : Type 0 where
  pub later : History
  pub from : Sender
  pub bytes : List ℕ
  pub earlier : History
  pub event : history ≡ later ++ Datagram from bytes ∷ earlier
  pub sender : from.place ≡ place
  pub trusted : from.is_trusted ≡ true
  pub said : said setting.network from bytes ≢ Nothing
  pub recent : seconds later < trust_lasts

-- the latest event that counts for the place: since then nothing came that does
pub record LastHeard (setting : Setting) (place : Node) (history : History) : Type 0 where
  pub later : History
  pub from : Sender
  pub bytes : List ℕ
  pub earlier : History
  pub event : history ≡ later ++ Datagram from bytes ∷ earlier
  pub counts : 0 < lasts setting place (Datagram from bytes)
  pub silence : AllByRecursion (λ e. lasts setting place e ≡ 0) later

module _ (setting : Setting) where
  abbrev pub is_client : Node → History → Bool
  is_client place history = is_among place (clients setting history)

  -- after each of these events the place is there
  abbrev pub IsThereThrough : Node → List Event → History → Type 0
  IsThereThrough place [] history = Unit
  IsThereThrough place (event ∷ events) history = (is_there setting place (event ∷ events ++ history) ≡ true) × IsThereThrough place events history

  -- after each of them it has answered its cookie less than 30 seconds ago
  abbrev pub AnswersThrough : Node → List Event → History → Type 0
  AnswersThrough place [] history = Unit
  AnswersThrough place (event ∷ events) history = Answered setting place (event ∷ events ++ history) × AnswersThrough place events history

  -- after each of them it was trusted and said something less than 180 seconds ago
  abbrev pub SpeaksThrough : Node → List Event → History → Type 0
  SpeaksThrough place [] history = Unit
  SpeaksThrough place (event ∷ events) history = Trusted setting place (event ∷ events ++ history) × SpeaksThrough place events history

-- the event is no datagram of the place, or the place is trusted in it
abbrev pub comes_trusted : Node → Event → Bool
comes_trusted place (Datagram from bytes) = not (same_node place from.place) || from.is_trusted
comes_trusted place Second = true
comes_trusted place (Send to bytes) = true

abbrev pub IsAlwaysTrusted : Node → History → Type 0
IsAlwaysTrusted place history = AllByRecursion (λ event. comes_trusted place event ≡ true) history

-- the event is a second, or a datagram of the place
abbrev pub concerns : Node → Event → Bool
concerns place (Datagram from bytes) = same_node place from.place
concerns place Second = true
concerns place (Send to bytes) = false

-- ---- who said what

-- the bytes are a packet that a client sent, which names the client's place as its source, on this network
pub record IsHonest (setting : Setting) (history : History) (from : Sender) (bytes : List ℕ) : Type 0 where
  pub packet : Parts
  pub is_packet : packet_of bytes ≡ Ok packet
  pub client : is_client setting from.place history ≡ true
  pub source : packet.header.source.node ≡ from.place
  pub network : is_from_here setting.network packet.header.source.network ≡ true

-- ---- what goes to a place

-- the datagrams of the tunnel's own that go there
abbrev pub own_to : Node → List Own → ℕ
own_to place own = length (filter (λ o. same_node o.place place) own)

-- the datagrams that came from there
abbrev pub came_from : Node → Event → ℕ
came_from place (Datagram from bytes) = if same_node place from.place then 1 else 0
came_from place Second = 0
came_from place (Send to bytes) = 0

module _ (setting : Setting) where
  -- all datagrams that went there while no client was there
  abbrev pub sent_to_stranger : Node → History → ℕ
  sent_to_stranger place [] = 0
  sent_to_stranger place (event ∷ earlier) =
      (if is_client setting place (event ∷ earlier) then 0
      else own_to place (own setting (event ∷ earlier)) + copies place (receivers setting (event ∷ earlier)))
      + sent_to_stranger place earlier

  -- all datagrams that came from there while no client was there; the one by which it came in isn't among them
  abbrev pub came_from_stranger : Node → History → ℕ
  came_from_stranger place [] = 0
  came_from_stranger place (event ∷ earlier) =
      (if is_client setting place (event ∷ earlier) then 0 else came_from place event) + came_from_stranger place earlier

-- ---- copies for another network

-- the number is one that a network may have: neither the one that stands for the network at hand nor the one that stands for all
pub record IsOrdinary (network : Network) : Type 0 where
  pub some : local_network < network.0
  pub ordinary : network.0 < all_routes
