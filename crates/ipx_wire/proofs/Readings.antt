-- The readers as functions of the bytes, and the layouts as relations: each answers for the other.
use Rattle.std.proofs.Common.{◌≡◌, ◌≢◌, ℕ, ◌≤◌, ◌<◌, List, length, refl, sym, ap, ◌∙◌, arith, subst, inl, inr, ◌⊎◌, Ok, Err, Result, Option, None, IfOk, IfErr}
use Rattle.std.proofs.lemmas.Bool.{cases_lt, cases_eq, lt-ltb, le-ltb, ne_eqb}
use Rattle.ipx_wire.specs.Piece.{IsBytes}
use Rattle.ipx_wire.specs.Header.{length_field}
use Rattle.ipx_wire.specs.Packet.{Parts, IsPacket, IsNoPacket, packet_of}
use Rattle.ipx_wire.specs.Rip.{RipParts, IsRip, IsNoRip, entries_of, operated, operation_number, operation_of, operation_field, rip_of}
use Rattle.ipx_wire.specs.declared.packet.PacketFault.{PacketFault}
use Rattle.ipx_wire.specs.declared.packet.PacketFault.TheVariants.{Short as TooShort, LengthSmall, LengthBeyond}
use Rattle.ipx_wire.specs.declared.rip.Operation.{Operation}
use Rattle.ipx_wire.specs.declared.rip.Operation.TheVariants.{Request, Response}
use Rattle.ipx_wire.specs.declared.rip.RipFault.{RipFault}
use Rattle.ipx_wire.specs.declared.rip.RipFault.TheVariants.{Short, Operation as UnknownOperation, NoEntry, TooMany}
use Rattle.ipx_wire.proofs.Packets.{Counts, is_packet, packet_parts, packet_of-counts, refused_short, refused_small, refused_beyond}
use Rattle.ipx_wire.proofs.Rips.{Counted, rip_at, is_rip, rip_counted, rip_parts, one_operation}

-- a packet that is answered is one by the relation
pub packet_found : (bytes : List ℕ) → IsBytes bytes → IfOk (packet_of bytes) (IsPacket bytes)
packet_found bytes are =
    elim (cases_lt (length bytes) 30) [
      | inl short ↦ rw (refused_short bytes short) tt
      | inr enough ↦ elim (cases_lt (length_field bytes) 30) [
        | inl small ↦ rw (refused_small bytes enough small) tt
        | inr long ↦ elim (cases_lt (length bytes) (length_field bytes)) [
          | inl beyond ↦ rw (refused_beyond bytes enough long beyond) tt
          | inr within ↦
              let counts : Counts bytes = record { enough = enough; long = long; within = within } in
              rw (packet_of-counts bytes counts) (is_packet bytes are counts)
        ]
      ]
    ]

-- a fault that is answered is the first that holds
pub packet_refused : (bytes : List ℕ) → IfErr (packet_of bytes) (IsNoPacket bytes)
packet_refused bytes =
    elim (cases_lt (length bytes) 30) [
      | inl short ↦ rw (refused_short bytes short) short
      | inr enough ↦ elim (cases_lt (length_field bytes) 30) [
        | inl small ↦ rw (refused_small bytes enough small) (enough, small)
        | inr long ↦ elim (cases_lt (length bytes) (length_field bytes)) [
          | inl beyond ↦ rw (refused_beyond bytes enough long beyond) (enough, long, beyond)
          | inr within ↦
              let counts : Counts bytes = record { enough = enough; long = long; within = within } in
              rw (packet_of-counts bytes counts) tt
        ]
      ]
    ]

-- a fault that holds is answered
pub packet_fault : (bytes : List ℕ) (f : PacketFault) → IsNoPacket bytes f → packet_of bytes ≡ Err f
packet_fault bytes TooShort is = refused_short bytes is
packet_fault bytes LengthSmall is = refused_small bytes is.0 is.1
packet_fault bytes LengthBeyond is = refused_beyond bytes is.0 is.1 is.2

-- bytes are at most one packet
pub one_packet : (bytes : List ℕ) (p q : Parts) → IsPacket bytes p → IsPacket bytes q → p ≡ q
one_packet bytes p q is_p is_q = sym (packet_parts bytes p is_p) ∙ packet_parts bytes q is_q

-- data of a known operation are read as its entries
known : (n : ℕ) (o : Operation) (payload : List ℕ) → n ≡ operation_number o → operated n (operation_of n) payload ≡ entries_of o payload
known n Request payload e = rw e refl
known n Response payload e = rw e refl

-- data of a number that is no operation are refused
unknown : (n : ℕ) (payload : List ℕ) → operation_of n ≡ None → operated n (operation_of n) payload ≡ Err (UnknownOperation n)
unknown n payload e = ap (λ (o : Option Operation). operated n o payload) e

no_operation : (n : ℕ) → n ≢ 1 → n ≢ 2 → operation_of n ≡ None
no_operation n not_1 not_2 = rw (ne_eqb n 1 not_1, ne_eqb n 2 not_2) refl

-- a number is that of an operation, or of none
operations : (n : ℕ) → ((o : Operation) × (n ≡ operation_number o)) ⊎ ((n ≢ 1) × (n ≢ 2))
operations n =
    elim (cases_eq n 1) [
      | inl one ↦ inl (Request, one)
      | inr not_1 ↦ elim (cases_eq n 2) [
        | inl two ↦ inl (Response, two)
        | inr not_2 ↦ inr (not_1, not_2)
      ]
    ]

-- the number of an operation is 1 or 2, and the other way round
numbers : (n : ℕ) (o : Operation) → n ≡ operation_number o → (n ≡ 1) ⊎ (n ≡ 2)
numbers n Request e = inl e
numbers n Response e = inr e

named : (n : ℕ) → (n ≡ 1) ⊎ (n ≡ 2) → (o : Operation) × (n ≡ operation_number o)
named n (inl one) = (Request, one)
named n (inr two) = (Response, two)

rip_short : (payload : List ℕ) → length payload < 2 → rip_of payload ≡ Err Short
unfolding rip_of
rip_short payload short = rw (lt-ltb (length payload) 2 short) refl

-- two bytes are enough for an operation
rip_long : (payload : List ℕ) → 2 ≤ length payload
    → rip_of payload ≡ operated (operation_field payload) (operation_of (operation_field payload)) payload
unfolding rip_of
rip_long payload enough = rw (le-ltb (length payload) 2 enough) refl

rip_unknown : (payload : List ℕ) → 2 ≤ length payload → operation_field payload ≢ 1 → operation_field payload ≢ 2
    → rip_of payload ≡ Err (UnknownOperation (operation_field payload))
rip_unknown payload enough not_1 not_2 =
    rip_long payload enough ∙ unknown (operation_field payload) payload (no_operation (operation_field payload) not_1 not_2)

rip_known : (payload : List ℕ) (o : Operation) → 2 ≤ length payload → operation_field payload ≡ operation_number o
    → rip_of payload ≡ entries_of o payload
rip_known payload o enough e = rip_long payload enough ∙ known (operation_field payload) o payload e

-- the three ends of the comparison of lengths
no_entry : (payload : List ℕ) (o : Operation) → length payload < 10 → entries_of o payload ≡ Err NoEntry
no_entry payload o few = rw (lt-ltb (length payload) 10 few) refl

too_many : (payload : List ℕ) (o : Operation) → 10 ≤ length payload → 409 < length payload → entries_of o payload ≡ Err TooMany
too_many payload o enough many = rw (le-ltb (length payload) 10 enough, lt-ltb 409 (length payload) many) refl

all_entries : (payload : List ℕ) (o : Operation) → 10 ≤ length payload → length payload ≤ 409 → entries_of o payload ≡ Ok (rip_at o payload)
all_entries payload o enough within = rw (le-ltb (length payload) 10 enough, le-ltb 409 (length payload) within) refl

-- what passes the comparisons is answered
rip_of-counted : (payload : List ℕ) (o : Operation) → Counted payload o → rip_of payload ≡ Ok (rip_at o payload)
rip_of-counted payload o counted =
    let enough = counted.enough in
    let within = counted.within in
    rip_known payload o (omega arith) counted.number ∙ all_entries payload o enough (omega arith)

-- data that are answered are such a packet's by the relation
pub rip_found : (payload : List ℕ) → IsBytes payload → IfOk (rip_of payload) (IsRip payload)
rip_found payload are =
    elim (cases_lt (length payload) 2) [
      | inl short ↦ rw (rip_short payload short) tt
      | inr enough ↦ elim (operations (operation_field payload)) [
        | inr (not_1, not_2) ↦ rw (rip_unknown payload enough not_1 not_2) tt
        | inl (o, number) ↦ elim (cases_lt (length payload) 10) [
          | inl few ↦ rw (rip_known payload o enough number ∙ no_entry payload o few) tt
          | inr some ↦ elim (cases_lt 409 (length payload)) [
            | inl many ↦ rw (rip_known payload o enough number ∙ too_many payload o some many) tt
            | inr within ↦
                let counted : Counted payload o = record { enough = some; within = omega arith; number = number } in
                rw (rip_of-counted payload o counted) (is_rip payload o are counted)
          ]
        ]
      ]
    ]

-- a fault that is answered is the first that holds
pub rip_refused : (payload : List ℕ) → IfErr (rip_of payload) (IsNoRip payload)
rip_refused payload =
    elim (cases_lt (length payload) 2) [
      | inl short ↦ rw (rip_short payload short) short
      | inr enough ↦ elim (operations (operation_field payload)) [
        | inr (not_1, not_2) ↦ rw (rip_unknown payload enough not_1 not_2) (enough, refl, not_1, not_2)
        | inl (o, number) ↦ elim (cases_lt (length payload) 10) [
          | inl few ↦
              rw (rip_known payload o enough number ∙ no_entry payload o few) (enough, few, numbers (operation_field payload) o number)
          | inr some ↦ elim (cases_lt 409 (length payload)) [
            | inl many ↦
                rw (rip_known payload o enough number ∙ too_many payload o some many) (many, numbers (operation_field payload) o number)
            | inr within ↦
                let counted : Counted payload o = record { enough = some; within = omega arith; number = number } in
                rw (rip_of-counted payload o counted) tt
          ]
        ]
      ]
    ]

-- a fault that holds is answered
pub rip_fault : (payload : List ℕ) (f : RipFault) → IsNoRip payload f → rip_of payload ≡ Err f
rip_fault payload Short is = rip_short payload is
rip_fault payload (UnknownOperation number) is =
    rip_unknown payload is.0 (subst (λ (n : ℕ). n ≢ 1) is.1 is.2) (subst (λ (n : ℕ). n ≢ 2) is.1 is.3)
    ∙ ap (λ (n : ℕ). (let r : Result RipParts RipFault = Err (UnknownOperation n) in r)) (sym is.1)
rip_fault payload NoEntry is =
    let (o, number) = named (operation_field payload) is.2 in
    rip_known payload o is.0 number ∙ no_entry payload o is.1
rip_fault payload TooMany is =
    let (o, number) = named (operation_field payload) is.1 in
    let long = is.0 in
    rip_known payload o (omega arith) number ∙ too_many payload o (omega arith) (omega arith)

-- the function answers such data
pub rip_only : (payload : List ℕ) (r : RipParts) → IsRip payload r → rip_of payload ≡ Ok r
rip_only payload r is =
    rip_of-counted payload r.operation (rip_counted payload r is)
    ∙ ap (λ (s : RipParts). (let answer : Result RipParts RipFault = Ok s in answer)) (rip_parts payload r is)

-- data say at most one thing
pub one_rip : (payload : List ℕ) (r s : RipParts) → IsRip payload r → IsRip payload s → r ≡ s
one_rip payload r s is_r is_s =
    let same = one_operation payload r.operation s.operation (rip_counted payload r is_r) (rip_counted payload s is_s) in
    sym (rip_parts payload r is_r) ∙ ap (λ (o : Operation). rip_at o payload) same ∙ rip_parts payload s is_s
