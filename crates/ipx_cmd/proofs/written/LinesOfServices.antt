-- The line of a service, by the bytes of its entry.
use Rattle.std.proofs.Common.{◌≡◌, ◌≢◌, ℕ, ◌≤◌, ◌⊎◌, List, ◌++◌, length, take, drop, codes, refl, ap, ◌∙◌, arith, Option}
use Rattle.std.proofs.lemmas.List.{drop-drop}
use Rattle.std.specs.Int.{from_be_bytes, to_be_bytes, w16}
use Rattle.hex.specs.Hex.{encode_upper}
use Rattle.ipx_wire.specs.Address.{address_at}
use Rattle.ipx_wire.specs.NameWord.{name_word}
use Rattle.ipx_wire.specs.Piece.{piece}
use Rattle.ipx_wire.specs.SapEntries.{sap_entry_at}
use Rattle.ipx_wire.proofs.Names.{zero_at, inside, name_of-inside, name_of-empty, name_of-whole}
use Rattle.ipx_wire.proofs.Pieces.{length-piece}
use Rattle.ipx_cmd.specs.SapText.{service_entry_text, named_text}
use Rattle.ipx_cmd.specs.ServiceWords.{offered_words, service_words}

-- where a service is offered, behind other bytes
offered_behind : (b : List ℕ) → offered_words (address_at b 50) (from_be_bytes w16 (piece b 62 2)) ≡ offered_words (address_at (drop 50 b) 0) (from_be_bytes w16 (piece (drop 50 b) 12 2))
unfolding address_at
offered_behind b = rw (drop-drop 4 50 b, drop-drop 10 50 b, drop-drop 12 50 b) refl

-- an entry with a name
pub named_line : (b : List ℕ) (count : ℕ) → 64 ≤ length b → count ≡ zero_at (piece b 2 48) → count ≢ 0 → count ≢ 48
    → service_entry_text (sap_entry_at b)
    ≡ codes "service " ++ encode_upper (to_be_bytes w16 (from_be_bytes w16 (piece b 0 2))) ++ codes " " ++ name_word (take count (piece b 2 48))
    ++ offered_words (address_at (drop 50 b) 0) (from_be_bytes w16 (piece (drop 50 b) 12 2)) ++ codes "\n"
unfolding service_entry_text sap_entry_at service_words
named_line b count room e some not_all =
    let field = piece b 2 48 in
    let place = inside field count (length-piece b 2 48 (omega (arith, room))) e some not_all in
    ap (λ (n : Option (List ℕ)). named_text n (sap_entry_at b)) (name_of-inside field place.0 place.1)
    ∙ rw (offered_behind b, e) refl

-- an entry without one
pub nameless_line : (b : List ℕ) (count : ℕ) → count ≡ zero_at (piece b 2 48) → (count ≡ 0) ⊎ (count ≡ 48) → service_entry_text (sap_entry_at b) ≡ codes "service bad\n"
unfolding service_entry_text sap_entry_at
nameless_line b count e given = grind (arith, name_of-empty, name_of-whole)
