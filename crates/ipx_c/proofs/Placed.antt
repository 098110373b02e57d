-- A header and data, put into the two parts of a buffer.
use Rattle.std.proofs.Common.{◌≡◌, ◌+◌, ◌≤◌, ◌++◌, length, drop, ℕ, List, sym, append_assoc, append-nil, drop-drop}
use Rattle.std.proofs.Math.ListN.{drop_of_length-le}

-- nothing of the front is left behind a header of its length
pub placed : (header payload front buffer : List ℕ) → length front ≤ 30
    → (header ++ drop 30 front) ++ (payload ++ drop (length payload) (drop 30 buffer)) ≡ header ++ payload ++ drop (30 + length payload) buffer
placed header payload front buffer few =
    rw (drop_of_length-le front few, append-nil header, drop-drop (length payload) 30 buffer) (sym (append_assoc header payload (drop (30 + length payload) buffer)))
