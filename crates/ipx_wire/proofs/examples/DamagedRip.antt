-- Data that are no routing information packet's, and why.
use Rattle.std.proofs.Common.{◌≡◌, [], ◌∷◌, ◌++◌, refl, codes, replicate, Err}
use Rattle.hex.specs.Hex.{decode_pairs}
use Rattle.ipx_wire.specs.Rip.{rip_of}
use Rattle.ipx_wire.specs.declared.rip.RipFault.TheVariants.{Short, Operation as UnknownOperation, NoEntry, TooMany}
use Rattle.ipx_wire.proofs.examples.Words.{hex}

-- half an operation
pub one_byte : rip_of (0 ∷ []) ≡ Err Short
unfolding rip_of
one_byte = refl

-- an operation that is neither request nor response comes before the want of an entry
pub operation_three : rip_of (hex (codes "0003")) ≡ Err (UnknownOperation 3)
unfolding decode_pairs rip_of
operation_three = refl

-- a request with seven bytes
pub seven_bytes : rip_of (hex (codes "0001") ++ replicate 7 0xff) ≡ Err NoEntry
unfolding decode_pairs rip_of
seven_bytes = refl

-- a response with room for 51 entries
pub fifty_one : rip_of (hex (codes "0002") ++ replicate 408 0) ≡ Err TooMany
unfolding decode_pairs rip_of
fifty_one = refl
