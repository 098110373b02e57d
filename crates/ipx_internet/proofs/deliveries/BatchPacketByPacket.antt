-- Deliveries that are put into a batch one packet after another.
use Rattle.std.proofs.Common.{◌≡◌, refl, ℕ, ◌+◌, ◌-◌, ◌*◌, ◌<◌, ◌≤◌, Some, slice_get, List, [], ◌∷◌, ◌++◌, map, drop, flat_map, get_or, length, arith, append_assoc, length-append, rules}
use Rattle.std.proofs.lemmas.List.{drop_more, drop_at, get_or_append_left, map-append}
use Rattle.std.proofs.lemmas.Option.{get_or_from_slice_get}
use Rattle.ipx_router.specs.Port.{Port, broadcast}
use Rattle.ipx_router.specs.Relays.{Sent}
use Rattle.ipx_internet.specs.inside.Stations.{hearers}
use Rattle.ipx_internet.specs.Batches.{deliveries_in, AreWithin, pending_at, reaching, heard}
use Rattle.ipx_internet.specs.Queue.{Delivery}
use Rattle.ipx_internet.specs.declared.batch.Pending.{Pending}
use Rattle.ipx_internet.specs.declared.stations.Station.{Station}
use Rattle.ipx_internet.proofs.lists.EachElement.{all-append, all_then}

-- ---- the deliveries of one packet

module _ (sent : List Sent) (packet : ℕ) (s : Sent) (there : slice_get sent packet ≡ Some s) where
  is_sent : get_or sent packet (record { port = 0; link = broadcast; bytes = [] }) ≡ s
  is_sent = get_or_from_slice_get sent packet s (record { port = 0; link = broadcast; bytes = [] }) there

  -- stations that receive it
  reached : (ts : List Station) → deliveries_in sent (map (pending_at packet) ts) ≡ map (reaching s) ts
  reached [] = refl
  reached (t ∷ ts) = grind (arith, reached ts, is_sent)

  module _ (list : List Station) (ports : List Port) (number : ℕ) (before after : List Pending) (all : List Delivery) where
    -- what was left to do is less by the deliveries of this packet
    pub one_packet : packet < length sent
        → after ≡ before ++ map (pending_at packet) (hearers list ports number s)
        → all ≡ deliveries_in sent before ++ flat_map (heard list ports number) (drop packet sent)
        → all ≡ deliveries_in sent after ++ flat_map (heard list ports number) (drop (packet + 1) sent)
    one_packet lt added so_far = grind (arith, drop_more, is_sent, append_assoc, reached, map-append)

-- ---- what it receives is there

all_within : (sent : List Sent) (packet : ℕ) (ts : List Station) → packet < length sent → AreWithin sent (map (pending_at packet) ts)
all_within sent packet [] lt = tt
all_within sent packet (t ∷ ts) lt = (lt, all_within sent packet ts lt)

pub still_within : (sent : List Sent) (packet : ℕ) (ts : List Station) (before after : List Pending) → packet < length sent
    → after ≡ before ++ map (pending_at packet) ts → AreWithin sent before → AreWithin sent after
still_within sent packet ts before after lt added within = grind (arith, all-append, all_within)

-- ---- room

one_more : (n most : ℕ) → (1 + n) * most ≡ most + n * most
one_more n most = omega arith

one_fewer : (n k most : ℕ) → k < n → (n - k) * most ≡ most + (n - (k + 1)) * most
one_fewer n k most lt = search (rules, one_more)

-- where there is room for what each packet that is left may need, there is for one
pub room_for_one : (used n k most capacity few : ℕ) → k < n → used + (n - k) * most ≤ capacity → few ≤ most → used + few ≤ capacity
room_for_one used n k most capacity few lt room small = omega (arith, one_fewer n k most lt, room, small)

-- and then for the others
pub room_for_others : (used n k most capacity few more new : ℕ) → k < n → used + (n - k) * most ≤ capacity → few ≤ most
    → more ≤ used + few → new ≡ capacity → more + (n - (k + 1)) * most ≤ new
room_for_others used n k most capacity few more new lt room small grown same = omega (arith, one_fewer n k most lt, room, small, grown, same)

-- where each packet may have the most deliveries, there is room for those of at most so many packets
pub room_for_all : (used capacity needed most count before : ℕ) → used ≤ capacity → needed * most ≤ capacity - used → count - before ≤ needed
    → used + (count - before) * most ≤ capacity
room_for_all used capacity needed most count before fits room few = grind arith

-- ---- as more is sent

-- what was received is still there
pub within_longer : (sent more longer : List Sent) (pending : List Pending) → longer ≡ sent ++ more → AreWithin sent pending → AreWithin longer pending
within_longer sent more longer pending e within = grind (arith, length-append, all_then)

-- and is the same
same_deliveries : (sent more : List Sent) (pending : List Pending) → AreWithin sent pending → deliveries_in (sent ++ more) pending ≡ deliveries_in sent pending
same_deliveries sent more [] within = refl
same_deliveries sent more (p ∷ pending) within = grind (arith, same_deliveries sent more pending within.1, get_or_append_left)

-- an event of a router appends the deliveries of what it sends
pub event_delivers : (list : List Station) (ports then : List Port) (number before : ℕ) (sent more longer : List Sent)
    (pending after : List Pending) (all : List Delivery)
    → AreWithin sent pending → longer ≡ sent ++ more → before ≡ length sent → then ≡ ports → all ≡ deliveries_in sent pending
    → deliveries_in longer after ≡ deliveries_in longer pending ++ flat_map (heard list then number) (drop before longer)
    → deliveries_in longer after ≡ all ++ flat_map (heard list ports number) more
event_delivers list ports then number before sent more longer pending after all within e from same view delivered = grind (arith, same_deliveries, drop_at)
