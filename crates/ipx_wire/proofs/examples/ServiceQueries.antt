-- Queries for services, and data that are no service advertising.
use Rattle.std.proofs.Common.{◌≡◌, [], ◌∷◌, ◌++◌, true, false, refl, codes, replicate, lit<, Ok, Err}
use Rattle.hex.specs.Hex.{decode_pairs}
use Rattle.ipx_wire.specs.Sap.{IsSap, sap_of}
use Rattle.ipx_wire.specs.declared.sap.Sap.TheVariants.{Query}
use Rattle.ipx_wire.specs.declared.sap.SapFault.TheVariants.{Short, Operation as UnknownOperation, NoEntry, TooMany}
use Rattle.ipx_wire.proofs.examples.Words.{hex}

-- a general query for type 4; the byte behind the type says nothing
pub general : sap_of (hex (codes "00010004FF")) ≡ Ok (Query false 4)
unfolding decode_pairs sap_of
general = refl

-- by its layout too
pub general_is : IsSap (hex (codes "00010004FF")) (Query false 4)
unfolding decode_pairs
general_is = record { further = 0xff ∷ []; layout = refl; range = lit< tt }

-- a query for the nearest service of any type
pub nearest : sap_of (hex (codes "0003FFFF")) ≡ Ok (Query true 0xffff)
unfolding decode_pairs sap_of
nearest = refl

-- half an operation
pub half : sap_of (0 ∷ []) ≡ Err Short
unfolding sap_of
half = refl

-- a query with half a type
pub half_a_type : sap_of (hex (codes "000100")) ≡ Err Short
unfolding decode_pairs sap_of
half_a_type = refl

-- an operation that is neither query nor response
pub operation_five : sap_of (hex (codes "0005")) ≡ Err (UnknownOperation 5)
unfolding decode_pairs sap_of
operation_five = refl

-- a response with a byte less than an entry
pub a_byte_less_than_an_entry : sap_of (hex (codes "0002") ++ replicate 63 0) ≡ Err NoEntry
unfolding decode_pairs sap_of
a_byte_less_than_an_entry = refl

-- a response with room for eight entries
pub eight : sap_of (hex (codes "0002") ++ replicate 512 0) ≡ Err TooMany
unfolding decode_pairs sap_of
eight = refl
