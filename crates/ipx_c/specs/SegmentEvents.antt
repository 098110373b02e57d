-- What an event does to what a handle of a segment has.
use Rattle.std.specs.Prelude.{◌≡◌, ℕ, ℤ, ◌<◌, ◌≤◌, ⊤, Bool, ◌∷◌, Option, None, Some, Result, Ok, Err}
use Rattle.ipx_wire.specs.declared.node.Node.{Node}
use Rattle.ipx_segment.specs.Events.{Event, Changes, Heard, Sends, History}
use Rattle.ipx_segment.specs.Receivers.{receivers, is_heard}
use Rattle.ipx_segment.specs.Stands.{Stands}
use Rattle.ipx_segment.specs.declared.link.Link.{Link}
use Rattle.ipx_c.specs.Codes.{fault_code, done}
use Rattle.ipx_c.specs.Reads.{truth}
use Rattle.ipx_c.specs.SegmentValues.{link_of}
use Rattle.ipx_c.specs.declared.fault.Fault.{Fault}
use Rattle.ipx_c.specs.declared.fault.Fault.TheVariants.{NoSegment, NoLink, BadLink}
use Rattle.ipx_c.specs.declared.segment_machine.SegmentMachine.{SegmentMachine}
use Rattle.ipx_c.specs.declared.segment_values.LinkValues.{LinkValues}

-- the segment took the event: whatever history it stood for, it stands for that history with the event, and the links that get the event's
-- packet are told: none, where it has no packet
pub record Took (m n : SegmentMachine) (event : Event) : Type 0 where
  pub setting : n.segment.setting ≡ m.segment.setting
  pub stands : (history : History) → Stands m.segment history → Stands n.segment (event ∷ history)
  pub receivers : (history : History) → Stands m.segment history → n.to.items ≡ receivers m.segment.setting (event ∷ history)

-- a packet was heard, and whether the router hears it is told
pub record TookHeard (m n : SegmentMachine) (event : Event) (is : Bool) : Type 0 where
  pub took : Took m n event
  pub heard : (history : History) → Stands m.segment history → is ≡ is_heard m.segment.setting (event ∷ history)

-- the router sends a packet: the segment stays as it was
pub record Sent (m n : SegmentMachine) (to : Node) : Type 0 where
  pub segment : n.segment ≡ m.segment
  pub took : Took m n (Sends to)

-- there is a link of that number
abbrev pub HasLink : SegmentMachine → ℕ → Type 0
HasLink m link = link < m.segment.setting.links

-- ---- events at a link: taken, or refused and nothing happened

-- why an event isn't taken: there is no such link
abbrev pub IsNoLink : SegmentMachine → ℕ → Fault → Type 0
IsNoLink m link NoLink = m.segment.setting.links ≤ link
IsNoLink m link fault = ⊥

-- the same of a change; or the link would be of no kind
abbrev pub IsNoChange : SegmentMachine → ℕ → LinkValues → Fault → Type 0
IsNoChange m link values NoLink = m.segment.setting.links ≤ link
IsNoChange m link values BadLink = HasLink m link × (link_of values ≡ None)
IsNoChange m link values fault = ⊥

-- a node comes or leaves
abbrev pub MeetsNode : SegmentMachine → SegmentMachine → ℕ → Event → Result ⊤ Fault → Type 0
MeetsNode m n link event (Ok _) = HasLink m link × Took m n event
MeetsNode m n link event (Err fault) = (n ≡ m) × IsNoLink m link fault

-- a packet is heard
abbrev pub MeetsHeard : SegmentMachine → SegmentMachine → ℕ → Event → Result Bool Fault → Type 0
MeetsHeard m n link event (Ok heard) = HasLink m link × TookHeard m n event heard
MeetsHeard m n link event (Err fault) = (n ≡ m) × IsNoLink m link fault

-- the link goes up or down
abbrev pub MeetsChange : SegmentMachine → SegmentMachine → ℕ → LinkValues → Result ⊤ Fault → Type 0
MeetsChange m n link values (Ok _) = HasLink m link × (to : Link) × (link_of values ≡ Some to) × Took m n (Changes link to)
MeetsChange m n link values (Err fault) = (n ≡ m) × IsNoChange m link values fault

-- ---- what a handle has before an event and after it, and the number that C hears: with no segment there is none afterwards

-- of what was done or not
abbrev pub done_code : Result ⊤ Fault → ℤ
done_code (Ok _) = done
done_code (Err fault) = fault_code fault

-- of what the router hears or not
abbrev pub heard_code : Result Bool Fault → ℤ
heard_code (Ok heard) = truth heard
heard_code (Err fault) = fault_code fault

-- a link goes up or down
abbrev pub ChangesLink : Option SegmentMachine → Option SegmentMachine → ℕ → LinkValues → ℤ → Type 0
ChangesLink None after link values answer = (after ≡ None) × (answer ≡ fault_code NoSegment)
ChangesLink (Some m) after link values answer =
    (n : SegmentMachine) × (became : Result ⊤ Fault) × (after ≡ Some n) × (answer ≡ done_code became) × MeetsChange m n link values became

-- a packet is heard at a link
abbrev pub Hears : Option SegmentMachine → Option SegmentMachine → ℕ → Node → Node → ℤ → Type 0
Hears None after link source destination answer = (after ≡ None) × (answer ≡ fault_code NoSegment)
Hears (Some m) after link source destination answer =
    (n : SegmentMachine) × (became : Result Bool Fault) × (after ≡ Some n) × (answer ≡ heard_code became)
    × MeetsHeard m n link (Heard link source destination) became

-- a node comes to a link or leaves it
abbrev pub TakesNode : Option SegmentMachine → Option SegmentMachine → ℕ → Event → ℤ → Type 0
TakesNode None after link event answer = (after ≡ None) × (answer ≡ fault_code NoSegment)
TakesNode (Some m) after link event answer =
    (n : SegmentMachine) × (became : Result ⊤ Fault) × (after ≡ Some n) × (answer ≡ done_code became) × MeetsNode m n link event became

-- a second passes
abbrev pub Takes : Option SegmentMachine → Option SegmentMachine → Event → ℤ → Type 0
Takes None after event answer = (after ≡ None) × (answer ≡ fault_code NoSegment)
Takes (Some m) after event answer = (n : SegmentMachine) × (after ≡ Some n) × (answer ≡ done) × Took m n event

-- the router sends a packet
abbrev pub SendsTo : Option SegmentMachine → Option SegmentMachine → Node → ℤ → Type 0
SendsTo None after to answer = (after ≡ None) × (answer ≡ fault_code NoSegment)
SendsTo (Some m) after to answer = (n : SegmentMachine) × (after ≡ Some n) × (answer ≡ done) × Sent m n to
