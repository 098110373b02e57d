-- Places of a packet's bytes, counted from 0, and bytes that are changed there.
use Rattle.std.specs.Prelude.{ℕ, ◌+◌, ◌*◌, List, ◌++◌, length, take, drop}

-- ---- places (IPX Router Specification)

-- the checksum
abbrev pub checksum_place : ℕ
checksum_place = 0

-- how many bytes header and data have
abbrev pub length_place : ℕ
length_place = 2

-- the network of the source
abbrev pub source_place : ℕ
source_place = 18

-- the network of service number k of a response, counted from 0, and its hops
abbrev pub service_place : ℕ → ℕ
service_place k = 82 + 64 * k

abbrev pub hops_place : ℕ → ℕ
hops_place k = 94 + 64 * k

-- a service with this many hops, or more, was retold by a router
abbrev pub retold : ℕ
retold = 2

-- ---- changes

-- the bytes with others from a place on, and as many as before
unfoldable pub with_at : ℕ → List ℕ → List ℕ → List ℕ
with_at place new bytes = take place bytes ++ new ++ drop (place + length new) bytes
