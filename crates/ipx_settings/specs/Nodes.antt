-- Words that are nodes.
use Rattle.std.specs.Prelude.{ℕ, ◌*◌, ◌%◌, Bool, ◌==◌, ◌&&◌, if◌then◌else◌, List, [], ◌∷◌, length, take, drop, Option, Some, None, not, slice_index}
use Rattle.std.specs.List.{list_all}
use Rattle.ipx_settings.specs.Cutting.{◌>>=◌, colon}
use Rattle.ipx_settings.specs.Numbers.{hexadecimal_of}

-- colons stand between the bytes
abbrev pub has_colons : List ℕ → Bool
has_colons word =
    (slice_index word 2 == colon) && (slice_index word 5 == colon) && (slice_index word 8 == colon) && (slice_index word 11 == colon)
    && (slice_index word 14 == colon)

-- from one byte to the next: two digits, or with a colon
abbrev pub step_of : List ℕ → Option ℕ
step_of word =
    if length word == 12 then Some 2
    else if (length word == 17) && has_colons word then Some 3
    else None

-- the byte that two digits write
abbrev pub byte_at : List ℕ → ℕ → Option ℕ
byte_at word at = hexadecimal_of 2 0 255 (take 2 (drop at word))

-- the bytes that digits write
abbrev pub bytes_by : ℕ → List ℕ → Option (List ℕ)
bytes_by step word =
    byte_at word 0 >>= λ a. byte_at word step >>= λ b. byte_at word (2 * step) >>= λ c. byte_at word (3 * step) >>= λ d.
    byte_at word (4 * step) >>= λ e. byte_at word (5 * step) >>= λ f. Some (a ∷ b ∷ c ∷ d ∷ e ∷ f ∷ [])

-- one computer's: not of a group, whose first byte is odd, and not all 0
abbrev pub is_single : List ℕ → Bool
is_single node = (slice_index node 0 % 2 == 0) && not (list_all (λ byte. byte == 0) node)

-- twelve digits, with colons between the bytes or without
abbrev pub node_bytes_of : List ℕ → Option (List ℕ)
node_bytes_of word = step_of word >>= λ step. bytes_by step word

abbrev pub node_of : List ℕ → Option (List ℕ)
node_of word = node_bytes_of word >>= λ node. if is_single node then Some node else None
