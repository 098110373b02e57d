-- Words that are names.
use Rattle.std.specs.Prelude.{ℕ, ◌-◌, Bool, false, ◌==◌, ◌&&◌, ◌||◌, nat_lt, nat_le, if◌then◌else◌, List, [], ◌∷◌, ◌++◌, length, take, drop, replicate, Option, Some, None, not, slice_index, codes}
use Rattle.std.specs.Char.{is_ascii_digit, is_ascii_alphabetic}
use Rattle.std.specs.List.{list_all, list_any}
use Rattle.std.specs.Str.{bytes_eq}
use Rattle.ipx_settings.specs.Cutting.{dot, colon, slash, parts}

-- a name with zeros behind it, in so many bytes
abbrev pub padded : ℕ → List ℕ → List ℕ
padded room name = name ++ replicate (room - length name) 0

-- ---- of an interface, or a TAP

-- bytes of one, with a 0 behind
abbrev pub name_room : ℕ
name_room = 16

abbrev pub is_name_byte : ℕ → Bool
is_name_byte byte = not ((byte == 0) || (byte == 37) || (byte == slash) || (byte == colon))

-- none that Linux would make up or refuse
abbrev pub is_name : List ℕ → Bool
is_name word =
    not (length word == 0) && nat_lt (length word) name_room && list_all is_name_byte word
    && not (bytes_eq word (codes ".")) && not (bytes_eq word (codes ".."))

abbrev pub name_of : List ℕ → Option (List ℕ)
name_of word = if is_name word then Some (padded name_room word) else None

-- ---- of a socket in a file system

-- bytes of one, and those of a host's name with a 0 behind
abbrev pub host_room : ℕ
host_room = 254

abbrev pub longest_path : ℕ
longest_path = 90

abbrev pub is_path_byte : ℕ → Bool
is_path_byte byte = not (byte == 0)

abbrev pub is_path : List ℕ → Bool
is_path word = not (length word == 0) && nat_le (length word) longest_path && list_all is_path_byte word

-- (it has the room of a host's name)
abbrev pub path_of : List ℕ → Option (List ℕ)
path_of word = if is_path word then Some (padded host_room word) else None

-- ---- of a file: a 0 stands behind it in that room

abbrev pub is_file : List ℕ → Bool
is_file word = not (length word == 0) && nat_lt (length word) host_room && list_all is_path_byte word

abbrev pub file_of : List ℕ → Option (List ℕ)
file_of word = if is_file word then Some (padded host_room word) else None

-- ---- of where pages come from

-- bytes of one, with a 0 behind
abbrev pub origin_room : ℕ
origin_room = 89

-- printable, and no slash
abbrev pub is_origin_byte : ℕ → Bool
is_origin_byte byte = nat_le 33 byte && nat_le byte 126 && not (byte == slash)

-- a host, with a port or without
abbrev pub is_authority : List ℕ → Bool
is_authority word = not (length word == 0) && nat_le (length word) 80 && list_all is_origin_byte word

-- what stands behind a word's first bytes, where they are these
abbrev pub behind : List ℕ → List ℕ → List ℕ
behind word front = if bytes_eq (take (length front) word) front then drop (length front) word else []

-- (which has room always)
abbrev pub is_origin : List ℕ → Bool
is_origin word =
    nat_lt (length word) origin_room
    && (bytes_eq word (codes "*") || is_authority (behind word (codes "http://")) || is_authority (behind word (codes "https://")))

abbrev pub origin_of : List ℕ → Option (List ℕ)
origin_of word = if is_origin word then Some (padded origin_room word) else None

-- ---- of a host

abbrev pub hyphen : ℕ
hyphen = 45

-- a letter, a digit, a hyphen or a low line
abbrev pub is_label_byte : ℕ → Bool
is_label_byte byte = is_ascii_alphabetic byte || is_ascii_digit byte || (byte == hyphen) || (byte == 95)

-- a part of a name: one of these or more, and no hyphen in front
abbrev pub is_label : List ℕ → Bool
is_label part = not (length part == 0) && not (slice_index part 0 == hyphen) && list_all is_label_byte part

-- the parts of a name, of which the last has a letter
abbrev pub are_labels : List (List ℕ) → Bool
are_labels [] = false
are_labels (last ∷ []) = is_label last && list_any is_ascii_alphabetic last
are_labels (part ∷ next ∷ more) = is_label part && are_labels (next ∷ more)

abbrev pub is_host_name : List ℕ → Bool
is_host_name name = nat_lt (length name) host_room && are_labels (parts dot name)
