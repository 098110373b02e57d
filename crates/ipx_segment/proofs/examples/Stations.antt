-- Where stations are known, and for how long.
use Rattle.std.proofs.Common.{◌≡◌, refl, false, [], ◌∷◌}
use Rattle.ipx_segment.specs.Events.{Heard, Comes, Leaves, Sends}
use Rattle.ipx_segment.specs.Receivers.{takes, receivers}
use Rattle.ipx_segment.specs.Stations.{heard_at, sure_at, stations}
use Rattle.ipx_segment.proofs.examples.Cables.{node, setting, ready, calls, later}

-- 299 seconds after it was heard a station is known
pub last_second : receivers setting (Sends (node 5) ∷ later 299 (calls 0 (node 5) ∷ ready)) ≡ 0 ∷ []
last_second = refl

-- a second later it isn't
pub too_long : receivers setting (Sends (node 5) ∷ later 300 (calls 0 (node 5) ∷ ready)) ≡ 0 ∷ 1 ∷ 2 ∷ []
too_long = refl

-- unless it was heard again
pub heard_again : receivers setting (Sends (node 5) ∷ later 299 (calls 0 (node 5) ∷ later 299 (calls 0 (node 5) ∷ ready))) ≡ 0 ∷ []
heard_again = refl

-- heard at the other cable, it is there
pub moved : stations setting (calls 1 (node 5) ∷ calls 0 (node 5) ∷ ready) ≡ heard_at 1 (node 5) ∷ []
moved = refl

-- a third of a cable isn't known: nobody is put out for it
pub no_room : stations setting (calls 0 (node 7) ∷ calls 0 (node 6) ∷ calls 0 (node 5) ∷ ready) ≡ heard_at 0 (node 5) ∷ heard_at 0 (node 6) ∷ []
no_room = refl

-- its packets come to it all the same
pub no_room_no_loss : receivers setting (Heard 1 (node 8) (node 7) ∷ calls 0 (node 7) ∷ calls 0 (node 6) ∷ calls 0 (node 5) ∷ ready) ≡ 0 ∷ 2 ∷ []
no_room_no_loss = refl

-- the other cable has room
pub other_share : stations setting (calls 1 (node 7) ∷ calls 0 (node 6) ∷ calls 0 (node 5) ∷ ready) ≡ heard_at 0 (node 5) ∷ heard_at 0 (node 6) ∷ heard_at 1 (node 7) ∷ []
other_share = refl

-- who moves to a full cable is known nowhere
pub moves_to_full : stations setting (calls 0 (node 7) ∷ calls 0 (node 6) ∷ calls 0 (node 5) ∷ calls 1 (node 7) ∷ ready) ≡ heard_at 0 (node 5) ∷ heard_at 0 (node 6) ∷ []
moves_to_full = refl

-- a client that came to the tunnel is there, however long it is silent
pub client : receivers setting (Heard 0 (node 5) (node 8) ∷ later 301 (Comes 2 (node 8) ∷ ready)) ≡ 2 ∷ []
client = refl

-- somebody on a cable speaks in its name: nobody gets that, and the client stays where it is
pub forged : takes setting (calls 0 (node 8) ∷ Comes 2 (node 8) ∷ ready) ≡ false
forged = refl

pub still_there : stations setting (calls 0 (node 8) ∷ Comes 2 (node 8) ∷ ready) ≡ sure_at 2 (node 8) ∷ []
still_there = refl

-- who spoke in its name before it came is known there no longer
pub comes_over : stations setting (Comes 2 (node 8) ∷ calls 0 (node 8) ∷ ready) ≡ sure_at 2 (node 8) ∷ []
comes_over = refl

-- a client that left may be anywhere
pub left : receivers setting (Heard 0 (node 5) (node 8) ∷ Leaves 2 (node 8) ∷ Comes 2 (node 8) ∷ ready) ≡ 1 ∷ 2 ∷ []
left = refl

-- a cable proves nothing: coming there changes nothing
pub comes_to_cable : stations setting (Comes 0 (node 8) ∷ ready) ≡ []
comes_to_cable = refl
