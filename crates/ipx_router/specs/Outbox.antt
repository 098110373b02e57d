-- An outbox as its callers see it: the packets that were sent, and the room that is left for more.
use Rattle.std.specs.Prelude.{◌≡◌, ℕ, ◌+◌, ◌*◌, ◌≤◌, max, List, [], ◌∷◌, ◌++◌, length}
use Rattle.std.specs.List.{AllByRecursion}
use Rattle.ipx_router.specs.Relays.{Sent}
use Rattle.ipx_router.specs.declared.outbox.Sent.{Sent as Lent}

-- the memory that an outbox has taken, in packets and in bytes of packets
pub record Memory : Type 0 where
  pub packets : ℕ
  pub bytes : ℕ

-- what was sent, in order; how many more packets and how many more bytes the room is for; and the memory that was taken
pub record Contents : Type 0 where
  pub sent : List Sent
  pub places : ℕ
  pub spare : ℕ
  pub memory : Memory

-- a packet of an outbox, as it is lent
abbrev pub lent : Lent → Sent
lent s = record { port = s.port; link = s.link; bytes = s.bytes.now }

-- the bytes of packets, together
abbrev pub total : List Sent → ℕ
total [] = 0
total (s ∷ sent) = length s.bytes + total sent

-- that many packets and that many bytes fit into the room
pub record HasRoom (o : Contents) (packets bytes : ℕ) : Type 0 where
  pub places : packets ≤ o.places
  pub spare : bytes ≤ o.spare

-- these packets fit into the room
pub record Fits (o : Contents) (packets : List Sent) : Type 0 where
  pub places : length packets ≤ o.places
  pub spare : total packets ≤ o.spare

-- the room that was there is there still
abbrev pub KeepsRoom : Contents → Contents → Type 0
KeepsRoom old new = (packets bytes : ℕ) → HasRoom old packets bytes → HasRoom new packets bytes

-- these packets took no more of the room than they need: where there was room for them and for some more, there is room for these now
abbrev pub LeavesRoom : Contents → Contents → List Sent → Type 0
LeavesRoom old new sent =
    (packets bytes : ℕ) → HasRoom old (length sent + packets) (total sent + bytes) → HasRoom new packets bytes

-- no memory was taken, and none given back
abbrev pub KeepsMemory : Contents → Contents → Type 0
KeepsMemory old new = new.memory ≡ old.memory

-- room for that many more packets and bytes was made: memory for packets was taken only where places for them were missing, and
-- memory for bytes only where bytes were. What there is then is at most twice what there was, or just what is needed with what
-- was sent before
pub record TakesRoom (old new : Contents) (packets bytes : ℕ) : Type 0 where
  pub places_there : packets ≤ old.places → new.memory.packets ≡ old.memory.packets
  pub bytes_there : bytes ≤ old.spare → new.memory.bytes ≡ old.memory.bytes
  pub most_places : new.memory.packets ≤ max (2 * old.memory.packets) (length old.sent + packets)
  pub most_bytes : new.memory.bytes ≤ max (2 * old.memory.bytes) (total old.sent + bytes)

-- these packets were sent; they took just the room that they need, and no memory
pub record Appends (old new : Contents) (packets : List Sent) : Type 0 where
  pub sent : new.sent ≡ old.sent ++ packets
  pub places : old.places ≡ new.places + length packets
  pub spare : old.spare ≡ new.spare + total packets
  pub memory : KeepsMemory old new

-- packets were appended to what was sent before, at most that many, and none longer than that
pub record AppendsAtMost (most longest : ℕ) (before after : List Sent) : Type 0 where
  pub packets : List Sent
  pub appended : after ≡ before ++ packets
  pub few : length packets ≤ most
  pub short : AllByRecursion (λ p. length p.bytes ≤ longest) packets
