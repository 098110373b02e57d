-- What a client receives, and a link with frames: who speaks to it has a queue there.
use Rattle.std.specs.Prelude.{◌≡◌, ℕ, ◌<◌, ◌-◌, ◌*◌, ◌^◌, min, Bool, ◌&&◌, nat_lt, if◌then◌else◌, length}
use Rattle.ipx_fair.specs.States.{State}
use Rattle.ipx_fair.specs.Hearing.{hears_from}
use Rattle.ipx_fair.specs.Tallies.{receiver_of}
use Rattle.ipx_limits.specs.declared.decision.Decision.{Decision}
use Rattle.ipx_limits.specs.declared.decision.Decision.TheVariants.{Passes, TooMuchForClient, TooMuchForAddress, TooMuchForLink}
use Rattle.ipx_limits.specs.declared.limits.HouseholdLimits.{HouseholdLimits}
use Rattle.ipx_limits.specs.declared.limits.Limits.{Limits}
use Rattle.ipx_limits.specs.declared.reader.Reader.{Reader}
use Rattle.ipx_limits.specs.declared.reader.Reading.{Reading}
use Rattle.ipx_limits.specs.Numbers.{short, middle, short_pieces, middle_pieces, longest_pieces}
use Rattle.ipx_limits.specs.Several.{Counted}
use Rattle.ipx_limits.specs.Deciding.{passes}

-- ---- what a packet weighs

-- pieces of the memory that a system keeps for a packet of so many bytes
abbrev pub pieces : ℕ → ℕ
pieces bytes = if nat_lt middle bytes then longest_pieces else if nat_lt short bytes then middle_pieces else short_pieces

-- no more than a word holds
abbrev pub in_word : ℕ → ℕ
in_word number = min number (2 ^ 64 - 1)

-- nanoseconds of a packet in so many frames, however long it is
abbrev pub packet_weight : Reading → ℕ → ℕ
packet_weight reading frames = in_word (frames * reading.packet)

-- nanoseconds of its pieces
abbrev pub piece_weight : Reading → ℕ → ℕ → ℕ
piece_weight reading bytes frames = in_word (frames * in_word (reading.piece * pieces bytes))

-- ---- who reads packets has two receivers, one for packets and one for their pieces

pub record Reads : Type 0 where
  pub packets : State
  pub pieces : State

abbrev pub reads_of : Reader → Reads
reads_of reader = record { packets = receiver_of reader.packets; pieces = receiver_of reader.pieces }

-- both have that queue
pub record HasQueue (queue : ℕ) (reads : Reads) : Type 0 where
  pub of_packets : queue < length reads.packets.queues
  pub of_pieces : queue < length reads.pieces.queues

-- both hear a packet
abbrev pub both_hear : Reading → ℕ → ℕ → ℕ → Reads → Bool
both_hear reading queue bytes frames reads =
    hears_from reads.packets queue (packet_weight reading frames) && hears_from reads.pieces queue (piece_weight reading bytes frames)

-- both count a packet that goes on
pub record BothCounted (reading : Reading) (queue bytes frames : ℕ) (goes : Bool) (old new : Reads) : Type 0 where
  pub packets : Counted goes queue (packet_weight reading frames) old.packets new.packets
  pub pieces : Counted goes queue (piece_weight reading bytes frames) old.pieces new.pieces

-- ---- a client

-- whose address has no limit
abbrev pub for_client : Bool → Decision
for_client client = if client then Passes else TooMuchForClient

pub record Received (limits : Limits) (queue bytes : ℕ) (decision : Decision) (old new : Reads) : Type 0 where
  pub there : HasQueue queue old
  pub decided : decision ≡ for_client (both_hear limits.received queue bytes 1 old)
  pub of_client : BothCounted limits.received queue bytes 1 (passes decision) old new

-- whose address has a limit: the client is asked first
abbrev pub for_both : Bool → Bool → Decision
for_both client address = if client then (if address then Passes else TooMuchForAddress) else TooMuchForClient

-- a speaker has a queue at the client, and one at the client's address. (what clients of one address say to each other has a limit there
-- with one queue)
pub record ReceivedAtAddress (limits : Limits) (household : HouseholdLimits) (queue other bytes : ℕ) (decision : Decision)
    (old new : Reads) (address address_then : State) : Type 0 where
  pub there : HasQueue queue old
  pub at_address : other < length address.queues
  pub decided : decision ≡ for_both (both_hear limits.received queue bytes 1 old) (hears_from address other household.packet)
  pub of_client : BothCounted limits.received queue bytes 1 (passes decision) old new
  pub of_address : Counted (passes decision) other household.packet address address_then

-- ---- what the router says is dropped by the limit of an address alone; the client counts it if it has room

pub record HeardOfRouter (limits : Limits) (queue bytes : ℕ) (goes : Bool) (old new : Reads) : Type 0 where
  pub there : HasQueue queue old
  pub of_client : BothCounted limits.received queue bytes 1 (goes && both_hear limits.received queue bytes 1 old) old new

abbrev pub for_address : Bool → Decision
for_address heard = if heard then Passes else TooMuchForAddress

pub record ReceivedOfRouter (limits : Limits) (household : HouseholdLimits) (queue bytes : ℕ) (decision : Decision) (old new : Reads)
    (address address_then : State) : Type 0 where
  pub at_address : queue < length address.queues
  pub decided : decision ≡ for_address (hears_from address queue household.packet)
  pub of_address : Counted (passes decision) queue household.packet address address_then
  pub of_client : HeardOfRouter limits queue bytes (passes decision) old new

-- ---- a link with frames: a packet goes out in all its frames or in none

abbrev pub for_link : Bool → Decision
for_link heard = if heard then Passes else TooMuchForLink

pub record Carried (limits : Limits) (queue bytes frames : ℕ) (decision : Decision) (old new : Reads) : Type 0 where
  pub there : HasQueue queue old
  pub decided : decision ≡ for_link (both_hear limits.received queue bytes frames old)
  pub of_link : BothCounted limits.received queue bytes frames (passes decision) old new
