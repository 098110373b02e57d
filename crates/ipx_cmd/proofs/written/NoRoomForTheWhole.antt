-- Text that finds no room.
use Rattle.std.proofs.Common.{◌≡◌, ℕ, ◌+◌, ◌<◌, ◌≤◌, List, ◌++◌, length, ap, arith, length-append}

-- where a part finds no room, there was none for the whole
pub full : (start whole now part rest : List ℕ) (first here : ℕ) → now ++ (part ++ rest) ≡ start ++ whole → first ≤ here → here < length now + length part
    → first < length start + length whole
full start whole now part rest first here e kept none =
    omega (arith, ap length e, length-append now (part ++ rest), length-append part rest, length-append start whole, kept, none)
