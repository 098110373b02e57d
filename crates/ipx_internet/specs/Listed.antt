-- A listing of a tree under way: what is listed so far, and what is left to list.
use Rattle.std.specs.Prelude.{◌≡◌, ℕ, ◌+◌, ◌<◌, ◌≤◌, List, [], ◌∷◌, ◌++◌, length, map, take, drop, None, Some, slice_index_or}
use Rattle.std.specs.List.{AllByRecursion, flat_map}
use Rattle.ipx_router.specs.Port.{Port}
use Rattle.ipx_router.specs.Relays.{Sent}
use Rattle.ipx_router.specs.declared.outcome.Outcome.{Outcome}
use Rattle.ipx_internet.specs.Internet.{IsPlace}
use Rattle.ipx_internet.specs.inside.Stations.{place_of, hearers}
use Rattle.ipx_internet.specs.TraceRoom.{Memory}
use Rattle.ipx_internet.specs.Traced.{Traced, outcome_of, tree, outcome_at}
use Rattle.ipx_internet.specs.Tree.{Router, Copy, net_of, sent_on, next_level}
use Rattle.ipx_internet.specs.declared.fault.TraceFault.{TraceFault}
use Rattle.ipx_internet.specs.declared.fault.TraceFault.TheVariants.{NoSuchPort, Limit, Memory as NoMemory}
use Rattle.ipx_internet.specs.declared.listing.Listed.{Listed}
use Rattle.ipx_internet.specs.declared.listing.Parent.{Parent}
use Rattle.ipx_internet.specs.declared.stations.Station.{Station}

-- ---- as it is kept: the first bytes stand with the caller, the others one behind the other, as they were sent on

module _ (first store : List ℕ) where
  -- the bytes of a reception that is kept
  abbrev pub bytes_in : Listed → List ℕ
  bytes_in l = elim l.parent [ None ↦ first | Some number ↦ take l.size (drop l.start store) ]

  -- the reception
  abbrev pub copy_in : Listed → Copy
  copy_in l = record { parent = l.parent; to = record { router = l.router; port = l.port }; bytes = bytes_in l }

-- its bytes are there
abbrev pub IsIn : List ℕ → Listed → Type 0
IsIn store l = l.start + l.size ≤ length store

abbrev pub AreKept : List ℕ → List Listed → Type 0
AreKept store list = AllByRecursion (IsIn store) list

-- the bytes of packets that were sent
abbrev pub sent_bytes : List Sent → List ℕ
sent_bytes sents = flat_map (λ s. s.bytes) sents

-- the reception of a packet by a station, where the packet's bytes begin there and are that many
abbrev pub child : Parent → ℕ → ℕ → Station → Listed
child parent start size s = record { parent = Some parent.number; router = s.router; port = s.port; start = start; size = size }

module _ (stations : List Station) (ports : List Port) (parent : Parent) where
  -- the receptions of packets, where the bytes of the first of them begin there
  abbrev pub listed_from : ℕ → List Sent → List Listed
  listed_from start [] = []
  listed_from start (s ∷ sents) =
      map (child parent start (length s.bytes)) (hearers stations ports parent.router s) ++ listed_from (start + length s.bytes) sents

-- ---- as its callers see it

-- the receptions that are listed, what became of the packet at the first of them, and the memory that this takes
pub record Listing : Type 0 where
  pub copies : List Copy
  pub outcomes : List Outcome
  pub memory : Memory

-- the reception at a place; behind the last, one of nothing
abbrev pub copy_at : List Copy → ℕ → Copy
copy_at copies number = slice_index_or copies number (record { parent = None; to = record { router = 0; port = 0 }; bytes = [] })

-- the first one that wasn't asked yet what it sends on
abbrev pub waits_next : Listing → Copy
waits_next l = copy_at l.copies (length l.outcomes)

module _ (r : Router) (stations : List Station) where
  -- those of some stations that receive one forward of a reception
  abbrev pub receivers_by : ℕ → Copy → Sent → List Copy
  receivers_by number c s = map (λ to. record { parent = Some number; to = place_of to; bytes = s.bytes }) (hearers stations r.ports c.to.router s)

  -- the receptions of what a router sends on
  abbrev pub children_by : ℕ → Copy → List Copy
  children_by number c = flat_map (receivers_by number c) (sent_on r c.to.port c.bytes)

  -- what waits next was asked, and its receptions are listed
  pub record GoesOn (old new : Listing) : Type 0 where
    pub copies : new.copies ≡ old.copies ++ children_by (length old.outcomes) (waits_next old)
    pub outcomes : new.outcomes ≡ old.outcomes ++ outcome_of r (waits_next old).to.port (waits_next old).bytes ∷ []

-- why not all of a number of receptions are listed: they are more than the limit, or memory ran out for one within it
abbrev pub IsCut : ℕ → ℕ → TraceFault → Type 0
IsCut limit count NoSuchPort = ⊥
IsCut limit count Limit = limit < count
IsCut limit count NoMemory = 0 < limit

-- what is listed begins the tree; some of it is done, and is what the rest was sent on by
pub record IsListed (routers : List Router) (root : Copy) (l : Listing) : Type 0 where
  pub done : List Copy
  pub waiting : List Copy
  pub behind : List Copy
  pub copies : l.copies ≡ done ++ waiting
  pub outcomes : l.outcomes ≡ map (outcome_at routers) done
  pub listed : l.copies ≡ root ∷ next_level routers 0 done
  pub front : tree routers root ≡ l.copies ++ behind
  pub places : AllByRecursion (λ c. IsPlace (net_of routers) c.to) l.copies

-- what is listed is told, each with what became of the packet there
abbrev pub told : List Copy → List Outcome → List Traced
told [] outcomes = []
told (c ∷ copies) [] = []
told (c ∷ copies) (o ∷ outcomes) = record { copy = c; outcome = o } ∷ told copies outcomes

-- ---- a list that grows up to a limit

-- what is listed now and what is left make what was listed first and all that is to be listed
pub record Fills (limit : ℕ) (first now all rest : List Listed) : Type 0 where
  pub whole : now ++ rest ≡ first ++ all
  pub few : length first ≤ limit → length now ≤ limit
