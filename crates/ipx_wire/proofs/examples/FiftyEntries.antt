-- The most entries that a packet has.
use Rattle.std.proofs.Common.{◌≡◌, ◌++◌, refl, codes, replicate, Ok}
use Rattle.hex.specs.Hex.{decode_pairs}
use Rattle.ipx_wire.specs.Items.{items}
use Rattle.ipx_wire.specs.Rip.{entry_at, rip_of}
use Rattle.ipx_wire.specs.declared.rip.Operation.TheVariants.{Response}
use Rattle.ipx_wire.proofs.examples.Words.{hex, entry}

-- a response with 407 bytes has fifty entries, and seven bytes are ignored
pub fifty : rip_of (hex (codes "0002") ++ replicate 407 0) ≡ Ok (record { operation = Response; entries = replicate 50 (entry 0 0 0) })
unfolding decode_pairs rip_of items entry_at
fifty = refl
