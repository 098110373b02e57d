-- The bytes of the examples.
use Rattle.std.proofs.Common.{ℕ, List, [], ◌∷◌, ◌++◌}

-- a node asks network 10h for every route
abbrev pub request : List ℕ
request =
    0xFF ∷ 0xFF ∷ 0x00 ∷ 0x28 ∷ 0x00 ∷ 0x01 ∷ [] ++ (0x00 ∷ 0x00 ∷ 0x00 ∷ 0x10 ∷ 0xFF ∷ 0xFF ∷ 0xFF ∷ 0xFF ∷ 0xFF ∷ 0xFF ∷ 0x04 ∷ 0x53 ∷ [])
    ++ (0x00 ∷ 0x00 ∷ 0x00 ∷ 0x10 ∷ 0x00 ∷ 0x00 ∷ 0x00 ∷ 0x00 ∷ 0x00 ∷ 0xAA ∷ 0x04 ∷ 0x53 ∷ [])
    ++ (0x00 ∷ 0x01 ∷ 0xFF ∷ 0xFF ∷ 0xFF ∷ 0xFF ∷ 0xFF ∷ 0xFF ∷ 0xFF ∷ 0xFF ∷ [])

-- to everyone, from node AAh
abbrev pub addresses : List ℕ
addresses = 0xFF ∷ 0xFF ∷ 0xFF ∷ 0xFF ∷ 0xFF ∷ 0xFF ∷ 0x00 ∷ 0x00 ∷ 0x00 ∷ 0x00 ∷ 0x00 ∷ 0xAA ∷ []

-- 54 bytes: the request in a frame of type 8137h
abbrev pub typed : List ℕ
typed = addresses ++ (0x81 ∷ 0x37 ∷ []) ++ request

-- four zeros
abbrev pub zeros : List ℕ
zeros = 0 ∷ 0 ∷ 0 ∷ 0 ∷ []

-- a file's header behind the magic, lowest byte first: version 2.4, longest record 262,144, and the link type
abbrev pub little_fields : ℕ → ℕ → List ℕ
little_fields version link = version ∷ 0 ∷ 4 ∷ 0 ∷ [] ++ zeros ++ zeros ++ (0 ∷ 0 ∷ 4 ∷ 0 ∷ []) ++ (link ∷ 0 ∷ 0 ∷ 0 ∷ [])

-- the magic of times in microseconds, lowest byte first
abbrev pub little_magic : List ℕ
little_magic = 0xD4 ∷ 0xC3 ∷ 0xB2 ∷ 0xA1 ∷ []

abbrev pub little_header : List ℕ
little_header = little_magic ++ little_fields 2 1

-- a record's header, lowest byte first: 54 bytes kept of 54
abbrev pub little_record : List ℕ
little_record = zeros ++ zeros ++ (0x36 ∷ 0 ∷ 0 ∷ 0 ∷ []) ++ (0x36 ∷ 0 ∷ 0 ∷ 0 ∷ [])

-- 94 bytes: a file of one record, lowest byte first
abbrev pub little : List ℕ
little = little_header ++ little_record ++ typed
