-- What is heard of bytes is what the layouts allow.
use Rattle.std.proofs.Common.{arith}
use Rattle.std.proofs.Common.{◌≡◌, refl, sym, ap, subst, ℕ, ◌<◌, ◌^◌, Bool, List, ◌++◌, Option, None, Some, IfSome, Result, Ok, Err, inl, inr}
use Rattle.std.specs.Int.{to_be_bytes, w16}
use Rattle.std.specs.List.{AllByRecursion, flat_map}
use Rattle.std.proofs.lemmas.Bool.{cases_Bool}
use Rattle.ipx_wire.specs.Address.{IsAddress}
use Rattle.ipx_wire.specs.Name.{IsServiceName}
use Rattle.ipx_wire.specs.Packet.{Parts}
use Rattle.ipx_wire.specs.Piece.{IsBytes}
use Rattle.ipx_wire.specs.Rip.{RipParts, IsEntry, rip_of}
use Rattle.ipx_wire.specs.Sap.{IsSap, IsResponse, response_number, sap_of}
use Rattle.ipx_wire.specs.SapEntries.{Stored, IsStored, IsNamed, stored_bytes}
use Rattle.ipx_wire.specs.declared.rip.RipFault.{RipFault}
use Rattle.ipx_wire.specs.declared.sap.Sap.{Sap}
use Rattle.ipx_wire.specs.declared.sap.Sap.TheVariants.{Query, Response}
use Rattle.ipx_wire.specs.declared.sap.SapFault.{SapFault}
use Rattle.ipx_wire.specs.declared.sap_entries.SapEntry.{SapEntry}
use Rattle.ipx_router.specs.Heard.{Heard, HeardRip, HeardSap, heard, heard_near, heard_in}
use Rattle.ipx_router.specs.Port.{Port, port_at}
use Rattle.ipx_router.specs.Why.{is_near, is_for_rip}
use Rattle.ipx_router.proofs.bytes.FieldsAreBytes.{IsPlace, parts_bytes, stored_field, stored_node, name_bytes}
use Rattle.ipx_router.proofs.bytes.ListsOfBytes.{bytes_before, bytes_behind, bytes_each}
use Rattle.ipx_router.proofs.lists.EachElement.{all-map, all_both}
use Rattle.ipx_router.proofs.tables.HeldWasOffered.{nothing, source_of, came_in}
use Rattle.ipx_router.proofs.bytes.LawsOfLayouts.{Readings}

-- an entry that advertises a service: each field is a number of its width, the name, if there is one, is a name, and name
-- and node are bytes
pub record IsAdvertised (e : SapEntry) : Type 0 where
  pub kind : e.kind < 2 ^ 16
  pub named : IfSome e.name IsServiceName
  pub address : IsAddress e.address
  pub hops : e.hops < 2 ^ 16
  pub of_bytes : IfSome e.name IsBytes
  pub node : IsBytes e.address.node.0

-- the entries are in their ranges
abbrev pub IsSaid : Heard → Type 0
IsSaid (HeardRip source rip) = AllByRecursion IsEntry rip.entries
IsSaid (HeardSap source (Query nearest kind)) = Unit
IsSaid (HeardSap source (Response nearest entries)) = AllByRecursion IsAdvertised entries

-- so is the source, whose node is bytes
pub record IsHeard (m : Heard) : Type 0 where
  pub source : IsPlace (source_of m)
  pub said : IsSaid m

-- ---- what the data say

advertised_name : (field : List ℕ) (name : Option (List ℕ)) → IsNamed field name → IfSome name IsServiceName
advertised_name field name is = grind arith

advertised : (s : Stored) → IsStored s × IsBytes (stored_bytes s) → IsAdvertised s.entry
advertised s given = grind (arith, advertised_name, name_bytes, stored_field, stored_node)

-- the bytes of the entries, one after the other
entries_of_bytes : (payload : List ℕ) (nearest : Bool) (entries : List SapEntry) (is : IsResponse payload nearest entries) → IsBytes payload
    → AllByRecursion (λ s. IsBytes (stored_bytes s)) is.stored
entries_of_bytes payload nearest entries is are =
    let operation = to_be_bytes w16 (response_number nearest) in
    let stored = flat_map stored_bytes is.stored in
    let all : IsBytes (operation ++ stored ++ is.further) = subst IsBytes is.layout are in
    bytes_each stored_bytes is.stored (bytes_behind operation stored (bytes_before (operation ++ stored) is.further all))

-- the one in a Some
same : (m n : Heard) → Some m ≡ Some n → m ≡ n
same m n e = ap (λ (o : Option Heard). elim o [ None ↦ m | Some h ↦ h ]) e

module _ (readings : Readings) where
  rip_heard : (p : Parts) (r : Result RipParts RipFault) (m : Heard) → IsBytes p.payload → IsPlace p.header.source → rip_of p.payload ≡ r
      → elim r [ Ok rip ↦ Some (HeardRip p.header.source rip) | Err fault ↦ None ] ≡ Some m → IsHeard m
  rip_heard p (Err fault) m are from e f = nothing f
  rip_heard p (Ok rip) m are from e f =
      let is = (readings.rip_read p.payload rip are).0 e in
      subst IsHeard (same (HeardRip p.header.source rip) m f) (record { source = from; said = is.ranges })

  sap_said : (p : Parts) (s : Sap) → IsBytes p.payload → IsSap p.payload s → IsSaid (HeardSap p.header.source s)
  sap_said p (Query nearest kind) are is = tt
  sap_said p (Response nearest entries) are is =
      subst (AllByRecursion IsAdvertised) (sym is.told)
      (all-map (λ s. IsStored s × IsBytes (stored_bytes s)) IsAdvertised (λ s. s.entry) advertised is.stored
      (all_both IsStored (λ s. IsBytes (stored_bytes s)) is.stored is.each (entries_of_bytes p.payload nearest entries is are)))

  sap_heard : (p : Parts) (r : Result Sap SapFault) (m : Heard) → IsBytes p.payload → IsPlace p.header.source → sap_of p.payload ≡ r
      → elim r [ Ok sap ↦ Some (HeardSap p.header.source sap) | Err fault ↦ None ] ≡ Some m → IsHeard m
  sap_heard p r m are from e f = grind (arith, nothing, same, sap_said)

  near_heard : (port : Port) (p : Parts) (m : Heard) → IsBytes p.payload → IsPlace p.header.source → heard_near port p ≡ Some m → IsHeard m
  near_heard port p m are from e = elim (cases_Bool (is_near port p.header)) [
    | inr far ↦ nothing (rw far at e)
    | inl near ↦
        let told : heard_in p ≡ Some m = rw near at e in
        elim (cases_Bool (is_for_rip p.header)) [
          | inl rip ↦ rip_heard p (rip_of p.payload) m are from refl (rw rip at told)
          | inr other ↦ sap_heard p (sap_of p.payload) m are from refl (rw other at told)
        ]
  ]

  pub heard_is : (ports : List Port) (up : List ℕ) (number : ℕ) (bytes : List ℕ) → IsBytes bytes → (runs : Bool) (m : Heard)
      → heard ports up runs number bytes ≡ Some m → IsHeard m
  heard_is ports up number bytes are runs m e =
      let came = came_in ports up number runs bytes m e in
      let is = (readings.packet_read bytes came.packet are).0 came.read in
      let parts = parts_bytes bytes came.packet are is in
      near_heard (port_at ports number) came.packet m parts.payload (record { ranges = is.header.source; node = parts.source }) came.near
