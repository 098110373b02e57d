-- What happens to a client and to what all clients of its address receive, the earliest first; and to a link with frames, which has no address.
use Rattle.std.specs.Prelude.{◌≡◌, ℕ, Bool, true, ◌&&◌, List, [], ◌∷◌}
use Rattle.ipx_fair.specs.States.{State}
use Rattle.ipx_fair.specs.Serving.{Passed}
use Rattle.ipx_fair.specs.Hearing.{hears_from}
use Rattle.ipx_fair.specs.Laws.{AtMost}
use Rattle.ipx_limits.specs.declared.decision.Decision.{Decision}
use Rattle.ipx_limits.specs.declared.decision.Decision.TheVariants.{Passes}
use Rattle.ipx_limits.specs.declared.limits.HouseholdLimits.{HouseholdLimits}
use Rattle.ipx_limits.specs.declared.limits.Limits.{Limits}
use Rattle.ipx_limits.specs.Several.{Asked, Event as AtOne, Passing, Asks}
use Rattle.ipx_limits.specs.Deciding.{passes}
use Rattle.ipx_limits.specs.Receiving.{packet_weight, piece_weight, Reads, ReceivedAtAddress}

pub record Home : Type 0 where
  pub client : Reads
  pub address : State

pub data Event : Type 0 where
  -- so many nanoseconds pass for the client, or for its address
  ForClient : ℕ → Event
  ForAddress : ℕ → Event
  -- somebody says a packet of so many bytes to the client, which counts in its queue there and at the address: there is room for one more
  -- or isn't, for its pieces, and at the address
  Receives : (queue bytes : ℕ) (packets pieces address : Bool) (decision : Decision) → Event
  -- somebody says one that the address doesn't count, in so many frames: it goes on if there is room for it, and nothing else refuses it
  Reading : (queue bytes frames : ℕ) (packets pieces others goes : Bool) → Event
  -- somebody says one to another client of the address
  ToAnother : (queue : ℕ) (hears goes : Bool) → Event

pub record IsReceived (limits : Limits) (household : HouseholdLimits) (queue bytes : ℕ) (packets pieces address : Bool) (decision : Decision)
    (old new : Home) : Type 0 where
  pub has_packets : packets ≡ hears_from old.client.packets queue (packet_weight limits.received 1)
  pub has_pieces : pieces ≡ hears_from old.client.pieces queue (piece_weight limits.received bytes 1)
  pub has_address : address ≡ hears_from old.address queue household.packet
  pub received : ReceivedAtAddress limits household queue queue bytes decision old.client new.client old.address new.address

pub record IsRead (limits : Limits) (queue bytes frames : ℕ) (packets pieces others goes : Bool) (old new : Home) : Type 0 where
  pub of_packets : Asked queue (packet_weight limits.received frames) packets goes old.client.packets new.client.packets
  pub of_pieces : Asked queue (piece_weight limits.received bytes frames) pieces goes old.client.pieces new.client.pieces
  pub decided : goes ≡ packets && pieces && others
  pub same : new.address ≡ old.address

abbrev pub Step : Limits → HouseholdLimits → Event → Home → Home → Type 0
Step limits household (ForClient nanoseconds) old new =
    Passed nanoseconds old.client.packets new.client.packets × Passed nanoseconds old.client.pieces new.client.pieces × (new.address ≡ old.address)
Step limits household (ForAddress nanoseconds) old new = Passed nanoseconds old.address new.address × (new.client ≡ old.client)
Step limits household (Receives queue bytes packets pieces address decision) old new =
    IsReceived limits household queue bytes packets pieces address decision old new
Step limits household (Reading queue bytes frames packets pieces others goes) old new =
    IsRead limits queue bytes frames packets pieces others goes old new
Step limits household (ToAnother queue hears goes) old new =
    Asked queue household.packet hears goes old.address new.address × (new.client ≡ old.client)

-- at most so many queues wait: of packets, of pieces, and at the address
pub record Few (n m l : ℕ) (home : Home) : Type 0 where
  pub packets : AtMost n home.client.packets
  pub pieces : AtMost m home.client.pieces
  pub address : AtMost l home.address

-- the events lead from one state to the other, and of each on the way, of both ends too, something holds
abbrev pub Runs : Limits → HouseholdLimits → (Home → Type 0) → Home → List Event → Home → Type 0
Runs limits household Holds old [] new = Holds old × (new ≡ old)
Runs limits household Holds old (event ∷ events) new =
    Holds old × ((next : Home) × Step limits household event old next × Runs limits household Holds next events new)

-- ---- what all this is to the client's packets, to their pieces, and to its address

abbrev pub to_packets : Limits → List Event → List AtOne
to_packets limits [] = []
to_packets limits (ForClient nanoseconds ∷ events) = Passing nanoseconds ∷ to_packets limits events
to_packets limits (ForAddress nanoseconds ∷ events) = to_packets limits events
to_packets limits (Receives queue bytes packets pieces address decision ∷ events) =
    Asks queue (packet_weight limits.received 1) packets (passes decision) ∷ to_packets limits events
to_packets limits (Reading queue bytes frames packets pieces others goes ∷ events) =
    Asks queue (packet_weight limits.received frames) packets goes ∷ to_packets limits events
to_packets limits (ToAnother queue hears goes ∷ events) = to_packets limits events

abbrev pub to_pieces : Limits → List Event → List AtOne
to_pieces limits [] = []
to_pieces limits (ForClient nanoseconds ∷ events) = Passing nanoseconds ∷ to_pieces limits events
to_pieces limits (ForAddress nanoseconds ∷ events) = to_pieces limits events
to_pieces limits (Receives queue bytes packets pieces address decision ∷ events) =
    Asks queue (piece_weight limits.received bytes 1) pieces (passes decision) ∷ to_pieces limits events
to_pieces limits (Reading queue bytes frames packets pieces others goes ∷ events) =
    Asks queue (piece_weight limits.received bytes frames) pieces goes ∷ to_pieces limits events
to_pieces limits (ToAnother queue hears goes ∷ events) = to_pieces limits events

abbrev pub to_address : HouseholdLimits → List Event → List AtOne
to_address household [] = []
to_address household (ForClient nanoseconds ∷ events) = to_address household events
to_address household (ForAddress nanoseconds ∷ events) = Passing nanoseconds ∷ to_address household events
to_address household (Receives queue bytes packets pieces address decision ∷ events) =
    Asks queue household.packet address (passes decision) ∷ to_address household events
to_address household (Reading queue bytes frames packets pieces others goes ∷ events) = to_address household events
to_address household (ToAnother queue hears goes ∷ events) = Asks queue household.packet hears goes ∷ to_address household events

-- ---- what a speaker says to the client goes on, but for what others than it and its address refuse

abbrev pub ReceivesAll : ℕ → List Event → Type 0
ReceivesAll speaker [] = Unit {0}
ReceivesAll speaker (ForClient nanoseconds ∷ events) = ReceivesAll speaker events
ReceivesAll speaker (ForAddress nanoseconds ∷ events) = ReceivesAll speaker events
ReceivesAll speaker (Receives queue bytes packets pieces address decision ∷ events) = (queue ≡ speaker → decision ≡ Passes) × ReceivesAll speaker events
ReceivesAll speaker (Reading queue bytes frames packets pieces others goes ∷ events) =
    (queue ≡ speaker → others ≡ true → goes ≡ true) × ReceivesAll speaker events
ReceivesAll speaker (ToAnother queue hears goes ∷ events) = ReceivesAll speaker events
