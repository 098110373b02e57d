-- What is written into a room: its bytes from the front on, if all have room there.
use Rattle.std.specs.Prelude.{ℕ, nat_le, if◌then◌else◌, List, ◌++◌, length, drop, Option, Some, None}

-- how many bytes were written
abbrev pub written_size : List ℕ → List ℕ → Option ℕ
written_size words room = if nat_le (length words) (length room) then Some (length words) else None

-- the room behind it
abbrev pub written_into : List ℕ → List ℕ → List ℕ
written_into words room = if nat_le (length words) (length room) then words ++ drop (length words) room else room
