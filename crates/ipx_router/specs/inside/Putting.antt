-- Services that are written into a packet where it lies, one after another, behind the place of its front.
use Rattle.std.specs.Prelude.{◌≡◌, ℕ, ◌+◌, ◌*◌, ◌≤◌, false, List, [], ◌∷◌, ◌++◌, length, take, drop}
use Rattle.std.specs.List.{flat_map}
use Rattle.ipx_wire.specs.Put.{PutsAt}
use Rattle.ipx_wire.specs.WriteServices.{service_bytes}
use Rattle.ipx_wire.specs.declared.service.Service.{Service}
use Rattle.ipx_router.specs.Numbers.{services_a_page}
use Rattle.ipx_router.specs.Outbox.{Contents, Appends}
use Rattle.ipx_router.specs.inside.Envelope.{services_in}
use Rattle.ipx_router.specs.inside.Owed.{owed}
use Rattle.ipx_router.specs.declared.advertising.envelope.Envelope.{Envelope}

-- of the services that were left the first ones, that many, were written behind the 32 bytes of a front; the others are left
pub record PutsServices (left leaves : List Service) (count : ℕ) (old new : List ℕ) : Type 0 where
  pub services : List Service
  pub whole : left ≡ services ++ leaves
  pub counted : length services ≡ count
  pub sizes : length (flat_map service_bytes services) ≡ 64 * count
  pub bytes : new ≡ take 32 old ++ flat_map service_bytes services ++ drop (32 + length (flat_map service_bytes services)) old

-- these services were written behind the front of a packet and `count` others, which makes that many
pub record PutsAfter (count : ℕ) (services : List Service) (counts : ℕ) (old new : List ℕ) : Type 0 where
  pub counted : counts ≡ count + length services
  pub sizes : length (flat_map service_bytes services) ≡ 64 * length services
  pub bytes : PutsAt old (32 + 64 * count) (flat_map service_bytes services) new

-- a page has these services, that many, behind the place of a front
pub record IsPage (services : List Service) (count : ℕ) (page : List ℕ) : Type 0 where
  pub counted : length services ≡ count
  pub few : count ≤ services_a_page
  pub sizes : length (flat_map service_bytes services) ≡ 64 * count
  pub room : 32 + 64 * count ≤ length page
  pub bytes : take (64 * count) (drop 32 page) ≡ flat_map service_bytes services

-- no port has this number
abbrev pub no_port : ℕ
no_port = 256

-- of the services that were left the first ones, that many, were sent in one packet; none, where none is left
pub record SendsServices (envelope : Envelope) (left leaves : List Service) (count : ℕ) (old new : Contents) : Type 0 where
  pub services : List Service
  pub whole : left ≡ services ++ leaves
  pub counted : length services ≡ count
  pub appends : Appends old new (owed services_a_page (services_in false envelope) [] services)
  pub single : old.places ≤ new.places + 1
  pub short : old.spare ≤ new.spare + (32 + 64 * count)

-- how many bytes the next packet of services has; none, where none is left
abbrev pub packet_size : List Service → ℕ
packet_size [] = 0
packet_size (s ∷ ss) = 32 + length (flat_map service_bytes (take services_a_page (s ∷ ss)))
