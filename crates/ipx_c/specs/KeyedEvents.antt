-- What an event does to what a handle of a tunnel with keyed nodes has.
use Rattle.std.specs.Prelude.{◌≡◌, ℕ, ℤ, pos, List, [], ◌∷◌, ◌++◌, length, Option, None, Some}
use Rattle.ipx_wire.specs.declared.node.Node.{Node}
use Rattle.ipx_tunnel.specs.declared.own.Own.{Own}
use Rattle.ipx_keyed.specs.Events.{Event, Datagram, Second, Send, History}
use Rattle.ipx_keyed.specs.Own.{pings_of, own}
use Rattle.ipx_keyed.specs.Receivers.{receivers, is_heard, carried}
use Rattle.ipx_keyed.specs.Says.{said}
use Rattle.ipx_keyed.specs.Stands.{Stands, leaving}
use Rattle.ipx_keyed.specs.Tables.{clients, waiting}
use Rattle.ipx_keyed.specs.declared.client.Client.{Client}
use Rattle.ipx_keyed.specs.declared.said.Said.{Said}
use Rattle.ipx_keyed.specs.declared.said.Said.TheVariants.{Nothing, Registers, Answers, Speaks}
use Rattle.ipx_keyed.specs.declared.sender.Sender.{Sender}
use Rattle.ipx_keyed.specs.declared.setting.Setting.{Setting}
use Rattle.ipx_c.specs.Codes.{fault_code, done}
use Rattle.ipx_c.specs.declared.fault.Fault.TheVariants.{NoTunnel}
use Rattle.ipx_c.specs.declared.keyed_machine.KeyedMachine.{KeyedMachine}

-- how many bytes of a datagram are its packet; what the router sends is not handed to the tunnel
abbrev pub carried_of : Event → ℕ
carried_of (Datagram from bytes) = length (carried (Datagram from bytes))
carried_of Second = 0
carried_of (Send to bytes) = 0

-- the pings of clients, with which a second's own datagrams begin
abbrev pub pings_with : Setting → History → List Own
pings_with setting [] = []
pings_with setting (Datagram from bytes ∷ earlier) = []
pings_with setting (Second ∷ earlier) = pings_of setting (clients setting (Second ∷ earlier)) (waiting setting (Second ∷ earlier))
pings_with setting (Send to bytes ∷ earlier) = []

-- the clients that left with the latest event: a second passed, and they have no time left
abbrev pub left_with : Setting → History → List Client
left_with setting [] = []
left_with setting (Datagram from bytes ∷ earlier) = []
left_with setting (Second ∷ earlier) = leaving (clients setting earlier)
left_with setting (Send to bytes ∷ earlier) = []

-- the tunnel took the event: whatever history it stood for, it stands for that history with the event, and what came of it is told
pub record CameOf (m n : KeyedMachine) (event : Event) : Type 0 where
  pub setting : n.tunnel.setting ≡ m.tunnel.setting
  pub stands : (history : History) → Stands m.tunnel history → Stands n.tunnel (event ∷ history)
  pub own : (history : History) → Stands m.tunnel history → n.pings.items ++ n.due.items ≡ own m.tunnel.setting (event ∷ history)
  pub pings : (history : History) → Stands m.tunnel history → n.pings.items ≡ pings_with m.tunnel.setting (event ∷ history)
  pub receivers : (history : History) → Stands m.tunnel history → n.to.items ≡ receivers m.tunnel.setting (event ∷ history)
  pub left : (history : History) → Stands m.tunnel history → n.left.items ≡ left_with m.tunnel.setting (event ∷ history)
  pub carried : n.carried ≡ carried_of event
  pub heard : (history : History) → Stands m.tunnel history → n.is_heard ≡ is_heard m.tunnel.setting (event ∷ history)

-- the router sends a packet, whatever its bytes: the tunnel stays as it was
pub record Sent (m n : KeyedMachine) (to : Node) : Type 0 where
  pub tunnel : n.tunnel ≡ m.tunnel
  pub came : (bytes : List ℕ) → CameOf m n (Send to bytes)

-- ---- what a handle has before an event and after it, and the number that C hears: with no tunnel there is none afterwards

-- what a datagram said
abbrev pub said_code : Said → ℤ
said_code Nothing = pos 0
said_code Registers = pos 1
said_code (Answers node) = pos 2
said_code (Speaks header) = pos 3

-- a datagram came
abbrev pub Hears : Option KeyedMachine → Option KeyedMachine → Sender → List ℕ → ℤ → Type 0
Hears None after from bytes answer = (after ≡ None) × (answer ≡ fault_code NoTunnel)
Hears (Some m) after from bytes answer =
    (n : KeyedMachine) × (after ≡ Some n) × (answer ≡ said_code (said m.tunnel.setting.network from bytes)) × CameOf m n (Datagram from bytes)

-- a second passed
abbrev pub Passes : Option KeyedMachine → Option KeyedMachine → ℤ → Type 0
Passes None after answer = (after ≡ None) × (answer ≡ fault_code NoTunnel)
Passes (Some m) after answer = (n : KeyedMachine) × (after ≡ Some n) × (answer ≡ done) × CameOf m n Second

-- the router sends a packet
abbrev pub Sends : Option KeyedMachine → Option KeyedMachine → Node → ℤ → Type 0
Sends None after to answer = (after ≡ None) × (answer ≡ fault_code NoTunnel)
Sends (Some m) after to answer = (n : KeyedMachine) × (after ≡ Some n) × (answer ≡ done) × Sent m n to
