-- What happens on a narrow line, as long as its width and those who are on it stay what they are.
use Rattle.std.specs.Prelude.{◌≡◌, ℕ, ◌+◌, ◌-◌, ◌*◌, ◌<◌, ◌≤◌, min, Bool, true, ◌&&◌, nat_le, if◌then◌else◌, List, [], ◌∷◌, length, map, get_or, set, replicate}
use Rattle.std.specs.List.{AllByRecursion}
use Rattle.ipx_fair.specs.Queues.{lowered}
use Rattle.ipx_fair.specs.Hearing.{queue_of}
use Rattle.ipx_limits.specs.declared.line.Line.{Line}
use Rattle.ipx_limits.specs.declared.line.LineAddress.{LineAddress}
use Rattle.ipx_limits.specs.declared.line_room.LineUse.{LineUse}
use Rattle.ipx_limits.specs.declared.rank.Rank.{Rank}
use Rattle.ipx_limits.specs.declared.rank.Rank.TheVariants.{Beyond, OfAddress, OfSpeaker, Little, Within}
use Rattle.ipx_limits.specs.Numbers.{line_short, room_beyond, room_of_address, room_of_speaker, at_once, said_at_once, own_at_once}
use Rattle.ipx_limits.specs.LineParts.{cost, receivers, speakers, sharers, more, pair_cost, said_cost}
use Rattle.ipx_limits.specs.LineRoom.{rank_of, has_room, most_used, is_little, is_of_part, own_cost}

-- ---- all that goes out

-- how long the line is busy still, and the part of strangers used; for each who speaks, his part of what is said to all; and for each address, the
-- part of its part of each who speaks to it
pub record Busy : Type 0 where
  pub line : ℕ
  pub strangers : ℕ
  pub said : List ℕ
  pub within : List (List ℕ)

-- nobody has said anything yet, of so many, and of so many to each address
abbrev pub none_to : List ℕ → List (List ℕ)
none_to [] = []
none_to (speak ∷ others) = replicate speak 0 ∷ none_to others

abbrev pub quiet : ℕ → List ℕ → Busy
quiet speak speak_to = record { line = 0; strangers = 0; said = replicate speak 0; within = none_to speak_to }

pub data Event : Type 0 where
  Passing : ℕ → Event
  -- a speaker's copy to an address has that rank, and goes out or doesn't
  Copies : (address speaker bytes : ℕ) (rank : Rank) (goes : Bool) → Event
  -- a datagram of the gateway's own goes out, or one to a stranger
  Own : (bytes : ℕ) → Event
  ToStranger : (bytes : ℕ) → Event

abbrev pub busy_then : Line → ℕ → ℕ → ℕ
busy_then line bytes busy = min (busy + cost line bytes) (most_used line)

abbrev pub said_to : List (List ℕ) → ℕ → List ℕ
said_to within address = get_or within address []

-- the speaker is one of those who speak to the address, who are so many
pub record IsPair (line : Line) (speak_to : List ℕ) (address speaker : ℕ) (to : LineAddress) (used : ℕ) (busy : Busy) : Type 0 where
  pub address_there : address < length busy.within
  pub speaker_there : speaker < length (said_to busy.within address)
  pub so_many : sharers line to ≡ get_or speak_to address 0
  pub is_used : used ≡ queue_of (said_to busy.within address) speaker

abbrev pub within_after : Line → LineAddress → ℕ → ℕ → ℕ → List (List ℕ) → List (List ℕ)
within_after line to address speaker bytes within =
    set within address (set (said_to within address) speaker (queue_of (said_to within address) speaker + pair_cost line to bytes))

-- what goes out found room
pub record Copied (line : Line) (speak_to : List ℕ) (address speaker bytes : ℕ) (rank : Rank) (goes : Bool) (old new : Busy) : Type 0 where
  pub to : LineAddress
  pub number : ℕ
  pub used : LineUse
  pub is_of_line : used.line ≡ old.line
  pub is_of_pair : rank ≡ Within → IsPair line speak_to address speaker to used.within old
  pub is_of_speaker : rank ≡ Little → (speaker < length old.said) × (used.said ≡ queue_of old.said speaker)
  pub decided : rank ≡ rank_of line to number bytes used
  pub room : goes ≡ true → has_room line rank used ≡ true
  pub line_then : new.line ≡ (if goes then busy_then line bytes old.line else old.line)
  pub strangers_then : new.strangers ≡ old.strangers
  pub said_then : new.said ≡ (if goes && is_little rank then set old.said speaker (queue_of old.said speaker + said_cost line bytes) else old.said)
  pub within_then : new.within ≡ (if goes && is_of_part rank then within_after line to address speaker bytes old.within else old.within)

-- short ones, which find their part not used
pub record SentOut (line : Line) (bytes : ℕ) (old new : Busy) : Type 0 where
  pub short : bytes ≤ line_short
  pub room : nat_le old.strangers own_at_once ≡ true
  pub is_new : new ≡ record old { line = busy_then line bytes old.line; strangers = old.strangers + own_cost line bytes }

abbrev pub Step : Line → List ℕ → Event → Busy → Busy → Type 0
Step line speak_to (Passing nanoseconds) old new = new ≡ record {
  line = old.line - nanoseconds;
  strangers = old.strangers - nanoseconds;
  said = lowered nanoseconds old.said;
  within = map (lowered nanoseconds) old.within;
}
Step line speak_to (Copies address speaker bytes rank goes) old new = Copied line speak_to address speaker bytes rank goes old new
Step line speak_to (Own bytes) old new = new ≡ record old { line = busy_then line bytes old.line }
Step line speak_to (ToStranger bytes) old new = SentOut line bytes old new

abbrev pub Runs : Line → List ℕ → Busy → List Event → Busy → Type 0
Runs line speak_to old [] new = new ≡ old
Runs line speak_to old (event ∷ events) new = (next : Busy) × Step line speak_to event old next × Runs line speak_to next events new

-- nanoseconds that passed; and those that copies took which went out
abbrev pub elapsed : List Event → ℕ
elapsed [] = 0
elapsed (Passing nanoseconds ∷ events) = nanoseconds + elapsed events
elapsed (Copies address speaker bytes rank goes ∷ events) = elapsed events
elapsed (Own bytes ∷ events) = elapsed events
elapsed (ToStranger bytes ∷ events) = elapsed events

abbrev pub copied : Line → List Event → ℕ
copied line [] = 0
copied line (Passing nanoseconds ∷ events) = copied line events
copied line (Copies address speaker bytes rank goes ∷ events) = (if goes then cost line bytes else 0) + copied line events
copied line (Own bytes ∷ events) = copied line events
copied line (ToStranger bytes ∷ events) = copied line events

-- ---- what some of it fills: a bucket, which time empties

-- the gateway's own datagrams, which have one part in so many
abbrev pub own_fill : Line → ℕ → List Event → ℕ
own_fill line bucket [] = bucket
own_fill line bucket (Passing nanoseconds ∷ events) = own_fill line (bucket - nanoseconds) events
own_fill line bucket (Copies address speaker bytes rank goes ∷ events) = own_fill line bucket events
own_fill line bucket (Own bytes ∷ events) = own_fill line (bucket + own_cost line bytes) events
own_fill line bucket (ToStranger bytes ∷ events) = own_fill line bucket events

-- a rank that comes no later than another
abbrev pub place : Rank → ℕ
place Beyond = 0
place OfAddress = 1
place OfSpeaker = 2
place Little = 3
place Within = 3

abbrev pub comes_first : Rank → Rank → Bool
comes_first rank other = nat_le (place other) (place rank)

-- the room of the rank behind it
abbrev pub room_behind : Rank → ℕ
room_behind Beyond = 0
room_behind OfAddress = room_beyond
room_behind OfSpeaker = room_of_address
room_behind Little = room_of_speaker
room_behind Within = room_of_speaker

-- copies of a rank, and of those that come first, which go out; and the gateway's own datagrams
abbrev pub fill_by : Line → Rank → ℕ → List Event → ℕ
fill_by line rank bucket [] = bucket
fill_by line rank bucket (Passing nanoseconds ∷ events) = fill_by line rank (bucket - nanoseconds) events
fill_by line rank bucket (Copies address speaker bytes other goes ∷ events) =
    fill_by line rank (if goes && comes_first other rank then bucket + cost line bytes else bucket) events
fill_by line rank bucket (Own bytes ∷ events) = fill_by line rank (bucket + cost line bytes) events
fill_by line rank bucket (ToStranger bytes ∷ events) = fill_by line rank (bucket + cost line bytes) events

-- ---- a line that is wide enough for who is on it: a short packet of each speaker to each address takes no longer than all may use at once, and no
-- longer than that of what speakers say to all

pub record IsWide (line : Line) : Type 0 where
  pub of_parts : receivers line * speakers line * (cost line line_short + more (cost line line_short)) ≤ at_once
  pub of_all : said_cost line line_short ≤ said_at_once

-- so many speak, and so many to each address, and the line has a part for each of them
pub record HasParts (line : Line) (speak : ℕ) (speak_to : List ℕ) : Type 0 where
  pub some_receive : 0 < receivers line
  pub all_receive : length speak_to ≤ receivers line
  pub some_speak : 0 < speakers line
  pub all_speak : speak ≤ speakers line
  pub some_to_each : AllByRecursion (λ n. 0 < n) speak_to

-- ---- what one speaker uses of his part of an address' part

pub data Saying : Type 0 where
  Later : ℕ → Saying
  Says : (bytes : ℕ) → Saying

-- a packet takes no more than so much of it
abbrev pub SayingStep : Line → LineAddress → Saying → ℕ → ℕ → Type 0
SayingStep line to (Later nanoseconds) old new = new ≤ old - nanoseconds
SayingStep line to (Says bytes) old new = new ≤ old + pair_cost line to bytes

abbrev pub SayingRuns : Line → LineAddress → ℕ → List Saying → ℕ → Type 0
SayingRuns line to old [] new = new ≤ old
SayingRuns line to old (saying ∷ sayings) new = (next : ℕ) × SayingStep line to saying old next × SayingRuns line to next sayings new

-- the bucket that it fills
abbrev pub said_fill : Line → LineAddress → ℕ → List Saying → ℕ
said_fill line to bucket [] = bucket
said_fill line to bucket (Later nanoseconds ∷ sayings) = said_fill line to (bucket - nanoseconds) sayings
said_fill line to bucket (Says bytes ∷ sayings) = said_fill line to (bucket + pair_cost line to bytes) sayings

-- ---- datagrams to those who are no clients

pub data Stranger : Type 0 where
  Waits : ℕ → Stranger
  Sends : (bytes : ℕ) (goes : Bool) → Stranger

-- each takes so many times its cost of the part, of which so much may be used at once
pub record SentToStranger (line : Line) (parts most bytes : ℕ) (goes : Bool) (old new : ℕ) : Type 0 where
  pub room : goes ≡ true → nat_le old most ≡ true
  pub used : new ≡ (if goes then old + parts * cost line bytes else old)

abbrev pub StrangersStep : Line → ℕ → ℕ → Stranger → ℕ → ℕ → Type 0
StrangersStep line parts most (Waits nanoseconds) old new = new ≡ old - nanoseconds
StrangersStep line parts most (Sends bytes goes) old new = SentToStranger line parts most bytes goes old new

abbrev pub StrangersRun : Line → ℕ → ℕ → ℕ → List Stranger → ℕ → Type 0
StrangersRun line parts most old [] new = new ≡ old
StrangersRun line parts most old (event ∷ events) new = (next : ℕ) × StrangersStep line parts most event old next × StrangersRun line parts most next events new

abbrev pub waited : List Stranger → ℕ
waited [] = 0
waited (Waits nanoseconds ∷ events) = nanoseconds + waited events
waited (Sends bytes goes ∷ events) = waited events

abbrev pub sent : Line → List Stranger → ℕ
sent line [] = 0
sent line (Waits nanoseconds ∷ events) = sent line events
sent line (Sends bytes goes ∷ events) = (if goes then cost line bytes else 0) + sent line events
