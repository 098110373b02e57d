-- Lists that are sent page by page: what is still owed of them.
use Rattle.std.specs.Prelude.{◌≡◌, ℕ, List, ◌++◌, map}
use Rattle.ipx_router.specs.Outbox.{Contents, Appends}
use Rattle.ipx_router.specs.Pages.{pages_from}
use Rattle.ipx_router.specs.Relays.{Sent}

-- the packets of a page that is begun and of what follows it, n items a packet
abbrev pub owed : {X : Type 0} → ℕ → (List X → Sent) → List X → List X → List Sent
owed n packet page rest = map packet (pages_from n page rest)

-- of the packets that were owed the first ones were sent, and the others are owed
pub record Pays (old new : Contents) (owed owes : List Sent) : Type 0 where
  pub sent : List Sent
  pub whole : owed ≡ sent ++ owes
  pub appends : Appends old new sent
