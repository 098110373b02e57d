-- Responses that tell services.
use Rattle.std.proofs.Common.{◌≡◌, ℕ, List, [], ◌∷◌, ◌++◌, true, false, refl, codes, replicate, lit<, None, Ok}
use Rattle.hex.specs.Hex.{decode_pairs}
use Rattle.ipx_wire.specs.Address.{address_bytes, address_at}
use Rattle.ipx_wire.specs.Header.{header_bytes}
use Rattle.ipx_wire.specs.Items.{items}
use Rattle.ipx_wire.specs.Name.{name_of, name_field}
use Rattle.ipx_wire.specs.Sap.{IsSap, sap_of}
use Rattle.ipx_wire.specs.SapEntries.{stored_bytes, sap_entry_at}
use Rattle.ipx_wire.specs.WriteServices.{service_bytes, sap_payload, sap_packet, entry_of}
use Rattle.ipx_wire.specs.declared.address.Address.{Address}
use Rattle.ipx_wire.specs.declared.sap.Sap.TheVariants.{Response}
use Rattle.ipx_wire.specs.declared.sap_entries.SapEntry.{SapEntry}
use Rattle.ipx_wire.specs.declared.service.Service.{Service}
use Rattle.ipx_wire.proofs.examples.Words.{hex, node, everyone, sap_at}

-- a file server of network 30h, two hops away
abbrev pub server : Address
server = record { network = record { 0 = 0x30 }; node = node 1; socket = record { 0 = 0x451 } }

abbrev pub service : Service
service = record { kind = 4; name = codes "S8"; address = server; hops = 2 }

abbrev pub payload : List ℕ
payload = hex (codes "000200045338") ++ replicate 46 0 ++ hex (codes "0000003000000000000104510002")

-- a router tells it to its network
pub tells : sap_packet (sap_at 0x10 (node 1)) (sap_at 0x10 everyone) false (service ∷ [])
    ≡ hex (codes "FFFF0060000400000010FFFFFFFFFFFF0452000000100000000000010452") ++ payload
unfolding decode_pairs header_bytes address_bytes service_bytes name_field
tells = refl

-- the data are read as this service
pub told : sap_of payload ≡ Ok (Response false (entry_of service ∷ []))
unfolding decode_pairs sap_of items sap_entry_at address_at name_of
told = refl

-- by their layout too, with 63 bytes behind them that say nothing
pub told_is : IsSap (payload ++ replicate 63 0xff) (Response false (entry_of service ∷ []))
unfolding decode_pairs stored_bytes address_bytes
told_is = record {
  stored = record { field = codes "S8" ++ replicate 46 0; entry = entry_of service } ∷ [];
  further = replicate 63 0xff;
  layout = refl;
  told = refl;
  some = lit< tt;
  most = lit< tt;
  ignored = lit< tt;
  each = (
    record {
      kind = lit< tt;
      size = refl;
      name = record {
        rest = replicate 45 0;
        layout = refl;
        size = refl;
        named = record { some = lit< tt; most = lit< tt; full = (lit< tt, (lit< tt, tt)) };
      };
      address = record { network = lit< tt; node = refl; socket = lit< tt };
      hops = lit< tt;
    },
    tt,
  );
}

-- an entry of zeros, which has no name
abbrev pub nameless : SapEntry
nameless = record { kind = 0; name = None; address = record { network = record { 0 = 0 }; node = node 0; socket = record { 0 = 0 } }; hops = 0 }

-- a response with 511 bytes has seven entries, and 63 bytes are ignored
pub seven : sap_of (hex (codes "0002") ++ replicate 511 0) ≡ Ok (Response false (replicate 7 nameless))
unfolding decode_pairs sap_of items sap_entry_at address_at name_of
seven = refl

-- the nearest service is told with another operation
pub tells_the_nearest : sap_payload true (service ∷ []) ≡ hex (codes "000400045338") ++ replicate 46 0 ++ hex (codes "0000003000000000000104510002")
unfolding decode_pairs address_bytes service_bytes name_field
tells_the_nearest = refl
