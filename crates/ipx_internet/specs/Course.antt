-- What becomes of a packet in a log: its course, all that descends from one reception, and its paths.
use Rattle.std.specs.Prelude.{◌≡◌, ℕ, ◌<◌, List, [], ◌∷◌, length, map, Some}
use Rattle.ipx_wire.specs.declared.network.Network.{Network}
use Rattle.ipx_internet.specs.Internet.{Internet, network_of}
use Rattle.ipx_internet.specs.Log.{Sending, Reception, reception_at, outlet, IsForward}

-- the course of a reception: itself, and each reception that received a forward of one in it
pub data IsInCourse (log : List Reception) (start : ℕ) : ℕ → Type 0 where
  starts : IsInCourse log start start
  goes_on : {place : ℕ} (s : Sending) → place < length log → (reception_at log place).origin ≡ Some s → IsInCourse log start s.place → IsInCourse log start place

-- a path of a reception, the first forward first: each forward is one of the reception that the forward before it led to;
-- no router needs to receive the last one
pub data IsPath (net : Internet) (log : List Reception) : ℕ → List Sending → Type 0 where
  stays : {start : ℕ} → IsPath net log start []
  leaves : {start : ℕ} (s : Sending) → s.place ≡ start → IsForward net log s → IsPath net log start (s ∷ [])
  leads_on : {start : ℕ} {path : List Sending} (s : Sending) (place : ℕ) → s.place ≡ start → IsForward net log s → place < length log
      → (reception_at log place).origin ≡ Some s → IsPath net log place path → IsPath net log start (s ∷ path)

-- the networks that a path visits: that of the port where it starts, and that of the port of each forward
abbrev pub visited : Internet → List Reception → ℕ → List Sending → List Network
visited net log start path = network_of net (reception_at log start).to ∷ map (λ s. network_of net (outlet log s)) path
