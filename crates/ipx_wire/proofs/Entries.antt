use Rattle.std.proofs.Common.{◌≡◌, ℕ, zero, suc, ◌-◌, ◌*◌, ◌≤◌, ◌<◌, List, [], ◌∷◌, ◌++◌, length, take, drop, slice_get, Some, refl, ap, ◌∙◌, arith, length-append}
use Rattle.std.proofs.lemmas.List.{drop-drop}
use Rattle.std.proofs.lemmas.Nat.{from_be_bytes-to_be_bytes_2, from_be_bytes-to_be_bytes_4}
use Rattle.std.specs.List.{flat_map, AllByRecursion}
use Rattle.ipx_wire.specs.Piece.{IsBytes}
use Rattle.ipx_wire.specs.Rip.{IsEntry, entry_bytes, entry_at, entries_at}
use Rattle.ipx_wire.specs.declared.rip.RipEntry.{RipEntry}
use Rattle.ipx_wire.specs.Items.{items}
use Rattle.ipx_wire.proofs.Items.{length-items, items_back, items_each, items_again, slice_get-items}
use Rattle.ipx_wire.proofs.Pieces.{glue, bytes_16, bytes_32, range_16, range_32}

-- an entry is eight bytes
pub length-entry_bytes : (e : RipEntry) → length (entry_bytes e) ≡ 8
unfolding entry_bytes
length-entry_bytes e = refl

-- the bytes of an entry are read as that entry, whatever follows
pub entry_again : (e : RipEntry) (further : List ℕ) → IsEntry e → entry_at (entry_bytes e ++ further) 0 ≡ e
unfolding entry_bytes entry_at
entry_again e further is =
    rw (from_be_bytes-to_be_bytes_4 e.network.0 is.network, from_be_bytes-to_be_bytes_2 e.hops is.hops, from_be_bytes-to_be_bytes_2 e.ticks is.ticks) refl

-- what is read as an entry has the bytes that were read
pub entry_back : (bytes : List ℕ) → IsBytes bytes → 8 ≤ length bytes → entry_bytes (entry_at bytes 0) ≡ take 8 bytes
unfolding entry_bytes entry_at
entry_back bytes are room =
    glue _ _ bytes 0 6 6 2 refl
    (glue _ _ bytes 0 4 4 2 refl (bytes_32 bytes 0 are (omega arith)) (bytes_16 bytes 4 are (omega arith)))
    (bytes_16 bytes 6 are (omega arith))

-- what is read as an entry has numbers of their widths
entry_ranges : (bytes : List ℕ) → IsBytes bytes → 8 ≤ length bytes → IsEntry (entry_at bytes 0)
unfolding entry_at
entry_ranges bytes are room = record {
  network = range_32 bytes 0 are (omega arith);
  hops = range_16 bytes 4 are (omega arith);
  ticks = range_16 bytes 6 are (omega arith);
}

-- an entry further on
entry_shifted : (bytes : List ℕ) (place : ℕ) → entry_at (drop place bytes) 0 ≡ entry_at bytes place
unfolding entry_at
entry_shifted bytes place = rw (drop-drop 4 place bytes, drop-drop 6 place bytes) refl

pub length-entries_at : (n : ℕ) (bytes : List ℕ) → length (entries_at n bytes) ≡ n
length-entries_at n bytes = length-items (λ b. entry_at b 0) 8 n bytes

-- entries that were read have the bytes that were read
pub entries_back : (n : ℕ) (bytes : List ℕ) → IsBytes bytes → 8 * n ≤ length bytes → flat_map entry_bytes (entries_at n bytes) ≡ take (8 * n) bytes
entries_back n bytes are room = items_back (λ b. entry_at b 0) entry_bytes 8 entry_back n bytes are room

-- so have all entries that are read
pub entries_ranges : (n : ℕ) (bytes : List ℕ) → IsBytes bytes → 8 * n ≤ length bytes → AllByRecursion IsEntry (entries_at n bytes)
entries_ranges n bytes are room = items_each (λ b. entry_at b 0) IsEntry 8 entry_ranges n bytes are room

-- the bytes of entries are read as these entries, whatever follows
pub entries_again : (es : List RipEntry) (further : List ℕ) → AllByRecursion IsEntry es → entries_at (length es) (flat_map entry_bytes es ++ further) ≡ es
entries_again es further are =
    items_again (λ b. entry_at b 0) entry_bytes IsEntry 8 (λ e is. length-entry_bytes e) (λ e further is. entry_again e further is) es further are

-- how many bytes entries have
pub length-entries : (es : List RipEntry) → length (flat_map entry_bytes es) ≡ 8 * length es
length-entries [] = refl
length-entries (e ∷ es) =
    omega (arith, length-append (entry_bytes e) (flat_map entry_bytes es), length-entry_bytes e, length-entries es)

-- the entry with k others before it
pub slice_get-entries_at : (n k : ℕ) (bytes : List ℕ) → k < n → slice_get (entries_at n bytes) k ≡ Some (entry_at bytes (8 * k))
slice_get-entries_at n k bytes below = slice_get-items (λ b. entry_at b 0) 8 n k bytes below ∙ ap Some (entry_shifted bytes (8 * k))

pub entries_at-none : (n : ℕ) (bytes : List ℕ) → n ≡ 0 → entries_at n bytes ≡ []
unfolding items
entries_at-none n bytes e = rw e refl

-- the first entry and those behind it
pub entries_at-first : (n : ℕ) (bytes : List ℕ) → 0 < n → entries_at n bytes ≡ entry_at bytes 0 ∷ entries_at (n - 1) (drop 8 bytes)
unfolding items
entries_at-first zero bytes some = absurd (omega arith)
entries_at-first (suc n) bytes some = ap (λ (k : ℕ). entry_at bytes 0 ∷ entries_at k (drop 8 bytes)) (let e : n ≡ suc n - 1 = omega arith in e)
