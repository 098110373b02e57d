-- What routers of an internet receive, one reception after the other, with the tables and the ports that are up that each
-- has at that moment.
use Rattle.std.specs.Prelude.{◌≡◌, ℕ, ◌<◌, Bool, true, false, List, [], length, Option, None, Some, slice_index_or}
use Rattle.std.specs.List.{AllByRecursion}
use Rattle.ipx_router.specs.Packets.{IsRelayed}
use Rattle.ipx_router.specs.Port.{Port}
use Rattle.ipx_router.specs.Relays.{Sent, IsTableRoute}
use Rattle.ipx_router.specs.declared.route_offer.RouteOffer.{RouteOffer}
use Rattle.ipx_internet.specs.Delivery.{receives}
use Rattle.ipx_internet.specs.Internet.{Internet, Place, ports_of, IsPlace}

-- one packet sent on: by the reception at a place of the log
pub record Sending : Type 0 where
  pub place : ℕ
  pub sent : Sent

-- bytes come to a port; whether its router acts on them, with which ports up and which routes; and what sent them on, if
-- that was a router of the log
pub record Reception : Type 0 where
  pub to : Place
  pub bytes : List ℕ
  pub acts : Bool
  pub up : List ℕ
  pub routes : List RouteOffer
  pub origin : Option Sending

-- the reception at a place; behind the last, one of nothing, by a router that doesn't act
abbrev pub reception_at : List Reception → ℕ → Reception
reception_at log place =
    slice_index_or log place
    (record { to = record { router = 0; port = 0 }; bytes = []; acts = false; up = []; routes = []; origin = None })

-- the port by which a packet is sent on
abbrev pub outlet : List Reception → Sending → Place
outlet log s = record { router = (reception_at log s.place).to.router; port = s.sent.port }

module _ (net : Internet) (log : List Reception) where
  -- the ports of the router that receives at a place
  abbrev pub ports_at : ℕ → List Port
  ports_at place = ports_of net (reception_at log place).to.router

  -- a forward: what the router that receives at a place sends on of what it received
  pub record IsForward (s : Sending) : Type 0 where
    pub there : s.place < length log
    pub acts : (reception_at log s.place).acts ≡ true
    pub relayed :
        IsRelayed (ports_at s.place) (reception_at log s.place).up (reception_at log s.place).routes (reception_at log s.place).to.port
        (reception_at log s.place).bytes s.sent

  -- what is received at a place was sent on earlier, to that port among others
  pub record IsReceived (place : ℕ) (s : Sending) : Type 0 where
    pub earlier : s.place < place
    pub forward : IsForward s
    pub delivered : receives net (outlet log s) s.sent.link (reception_at log place).to ≡ true
    pub same : (reception_at log place).bytes ≡ s.sent.bytes

  -- receptions by ports of the internet, each with any ports of its router up and any routes that a table may have; one
  -- that has an origin received that forward, and no two received the same one on the same port
  pub record IsLog : Type 0 where
    pub within : (place : ℕ) → place < length log → IsPlace net (reception_at log place).to
    pub ups : (place : ℕ) → place < length log → AllByRecursion (λ j. j < length (ports_at place)) (reception_at log place).up
    pub tables : (place : ℕ) → place < length log → AllByRecursion (IsTableRoute (ports_at place)) (reception_at log place).routes
    pub origins : (place : ℕ) (s : Sending) → place < length log → (reception_at log place).origin ≡ Some s → IsReceived place s
    pub once : (a b : ℕ) (s : Sending) → a < length log → b < length log → (reception_at log a).origin ≡ Some s → (reception_at log b).origin ≡ Some s
        → (reception_at log a).to ≡ (reception_at log b).to → a ≡ b
