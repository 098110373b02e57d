-- What each call does in memory.
use Rattle.std.specs.Prelude.{ℕ, ◌+◌, ◌-◌, ◌%◌, Bool, ◌==◌, ◌&&◌, not, nat_lt, if◌then◌else◌, List, map, set, get_or, replicate, Option, None, Some}
use Rattle.std.specs.List.{list_any, position}
use Rattle.ipx_peers.specs.declared.opened.Opened.{Opened}
use Rattle.ipx_peers.specs.declared.peer.Peer.{Peer}
use Rattle.ipx_peers.specs.declared.peers.Peers.{Peers}
use Rattle.ipx_peers.specs.declared.verdict.Verdict.{Verdict}
use Rattle.ipx_peers.specs.declared.verdict.Verdict.TheVariants.{Dropped, Greet, Repeated, Heard, New, Full, Again}
use Rattle.ipx_peers.specs.Numbers.{most_places, slots_count, place_lasts}
use Rattle.ipx_peers.specs.Places.{same, is_session}
use Rattle.ipx_peers.specs.Memory.{no_peer}

-- ---- a place

abbrev pub slot_of : ℕ → ℕ
slot_of number = number % slots_count

abbrev pub is_kept_of : List ℕ → Peer → Bool
is_kept_of session peer = same peer.session session

abbrev pub has_room_for : Opened → Peer → Bool
has_room_for opened peer = nat_lt (get_or peer.slots (slot_of opened.number) 0) opened.number

abbrev pub is_newest : Opened → Peer → Bool
is_newest opened peer = nat_lt peer.newest opened.number

abbrev pub heard_in : Opened → Peer → Peer
heard_in opened peer = record {
  session = peer.session;
  address = if is_newest opened peer then opened.address else peer.address;
  left = place_lasts;
  newest = if is_newest opened peer then opened.number else peer.newest;
  slots = set peer.slots (slot_of opened.number) opened.number;
}

abbrev pub first_in : Opened → Peer
first_in opened = record {
  session = opened.session;
  address = opened.address;
  left = place_lasts;
  newest = opened.number;
  slots = set (replicate slots_count 0) (slot_of opened.number) opened.number;
}

abbrev pub is_away_in : Peer → Bool
is_away_in peer = peer.left == 0

abbrev pub yielded_in : List ℕ → Peer → Peer
yielded_in address peer = record {
  session = peer.session;
  address = peer.address;
  left = if same peer.address address then 0 else peer.left;
  newest = peer.newest;
  slots = peer.slots;
}

abbrev pub later_in : Peer → Peer
later_in peer = record { session = peer.session; address = peer.address; left = peer.left - 1; newest = peer.newest; slots = peer.slots }

-- ---- all places

abbrev pub counts_in : Opened → Peers → Bool
counts_in opened peers =
    is_session peers.session && not (opened.number == 0) && is_session opened.session && not (same opened.session peers.session)

abbrev pub peer_at : ℕ → Peers → Peer
peer_at index peers = get_or peers.places index no_peer

abbrev pub verdict_there : Opened → Peers → Option ℕ → Verdict
verdict_there opened peers (Some index) = if has_room_for opened (peer_at index peers) then Heard index else Repeated
verdict_there opened peers None =
    if nat_lt peers.used most_places then New peers.used else if list_any is_away_in peers.places then Again else Full

abbrev pub place_in : Opened → Peers → Option ℕ
place_in opened peers = position (is_kept_of opened.session) peers.places

abbrev pub verdict_in : Opened → Peers → Verdict
verdict_in opened peers =
    if not (counts_in opened peers) then Dropped
    else if not (same opened.echo peers.session) then Greet
    else verdict_there opened peers (place_in opened peers)

abbrev pub with_places : Peers → ℕ → List Peer → Peers
with_places peers used places = record { session = peers.session; sent = peers.sent; used = used; places = places }

abbrev pub peers_after : Opened → Peers → Verdict → Peers
peers_after opened peers Dropped = peers
peers_after opened peers Greet = peers
peers_after opened peers Repeated = peers
peers_after opened peers (Heard index) = with_places peers peers.used (set peers.places index (heard_in opened (peer_at index peers)))
peers_after opened peers (New index) =
    with_places peers (peers.used + 1) (set (map (yielded_in opened.address) peers.places) index (first_in opened))
peers_after opened peers Full = peers
peers_after opened peers Again = peers
