-- What a router hears has few entries.
use Rattle.std.proofs.Common.{◌≡◌, refl, ap, ℕ, zero, suc, ◌≤◌, ◌==◌, nat_lt, Bool, List, [], drop, length, Option, None, Some, Result, Ok, Err, IfOk, IfSome, inl, inr, arith}
use Rattle.std.proofs.lemmas.Bool.{cases_Bool, ltb-false}
use Rattle.ipx_wire.specs.Items.{items}
use Rattle.ipx_wire.specs.Numbers.{most_entries, most_services}
use Rattle.ipx_wire.specs.Packet.{Parts, packet_of}
use Rattle.ipx_wire.specs.Rip.{RipParts, entry_at, entries_at, entries_of, operated, rip_of}
use Rattle.ipx_wire.specs.Sap.{query_of, response_of, numbered_of, sap_of}
use Rattle.ipx_wire.specs.declared.address.Address.{Address}
use Rattle.ipx_wire.specs.declared.packet.PacketFault.{PacketFault}
use Rattle.ipx_wire.specs.declared.rip.Operation.{Operation}
use Rattle.ipx_wire.specs.declared.rip.RipFault.{RipFault}
use Rattle.ipx_wire.specs.declared.sap.Sap.{Sap}
use Rattle.ipx_wire.specs.declared.sap.Sap.TheVariants.{Query, Response as SapResponse}
use Rattle.ipx_wire.specs.declared.sap.SapFault.{SapFault}
use Rattle.ipx_router.specs.Heard.{Heard, HeardRip, HeardSap, heard, heard_in, heard_near}
use Rattle.ipx_router.specs.Port.{Port, port_at}
use Rattle.ipx_router.specs.Why.{is_near, is_for_rip, why}
use Rattle.ipx_router.specs.declared.why.Why.{Why}

-- ---- entries

length-items : {E : Type 0} (read : List ℕ → E) (size n : ℕ) (bytes : List ℕ) → length (items read size n bytes) ≡ n
unfolding items
length-items read size zero bytes = refl
length-items read size (suc n) bytes = ap suc (length-items read size n (drop size bytes))

length-entries_at : (n : ℕ) (bytes : List ℕ) → length (entries_at n bytes) ≡ n
length-entries_at n bytes = length-items (λ b. entry_at b 0) 8 n bytes

-- data have at most as many entries as a packet may have
abbrev pub FitsRip : RipParts → Type 0
FitsRip rip = length rip.entries ≤ most_entries

abbrev pub FitsSap : Sap → Type 0
FitsSap (Query nearest kind) = Unit
FitsSap (SapResponse nearest entries) = length entries ≤ most_services

entries_fit : (operation : Operation) (payload : List ℕ) → IfOk (entries_of operation payload) FitsRip
entries_fit operation payload = grind (arith, ltb-false, length-entries_at)

operated_fits : (number : ℕ) (operation : Option Operation) (payload : List ℕ) → IfOk (operated number operation payload) FitsRip
operated_fits number operation payload = grind (arith, entries_fit)

rip_fits : (payload : List ℕ) → IfOk (rip_of payload) FitsRip
unfolding rip_of
rip_fits payload = grind (arith, operated_fits)

query_fits : (nearest : Bool) (payload : List ℕ) → IfOk (query_of nearest payload) FitsSap
query_fits nearest payload = elim (cases_Bool (nat_lt (length payload) 4)) [ inl short ↦ rw short tt | inr long ↦ rw long tt ]

response_fits : (nearest : Bool) (payload : List ℕ) → IfOk (response_of nearest payload) FitsSap
response_fits nearest payload = grind (arith, ltb-false, length-items)

numbered_fits : (number : ℕ) (payload : List ℕ) → IfOk (numbered_of number payload) FitsSap
numbered_fits number payload = elim (cases_Bool (number == 1)) [
  | inl one ↦ rw one (query_fits _ payload)
  | inr not_one ↦ elim (cases_Bool (number == 2)) [
    | inl two ↦ rw (not_one, two) (response_fits _ payload)
    | inr not_two ↦ elim (cases_Bool (number == 3)) [
      | inl three ↦ rw (not_one, not_two, three) (query_fits _ payload)
      | inr not_three ↦ elim (cases_Bool (number == 4)) [
        | inl four ↦ rw (not_one, not_two, not_three, four) (response_fits _ payload)
        | inr not_four ↦ rw (not_one, not_two, not_three, not_four) tt
      ]
    ]
  ]
]

sap_fits : (payload : List ℕ) → IfOk (sap_of payload) FitsSap
unfolding sap_of
sap_fits payload = grind (arith, numbered_fits)

-- ---- messages

-- a message has no more entries than a packet
abbrev pub Fits : Heard → Type 0
Fits (HeardRip source rip) = FitsRip rip
Fits (HeardSap source sap) = FitsSap sap

rip_heard : (source : Address) (r : Result RipParts RipFault) → IfOk r FitsRip → IfSome (elim r [ Ok rip ↦ Some (HeardRip source rip) | Err fault ↦ None ]) Fits
rip_heard source r fits = grind arith

sap_heard : (source : Address) (r : Result Sap SapFault) → IfOk r FitsSap → IfSome (elim r [ Ok sap ↦ Some (HeardSap source sap) | Err fault ↦ None ]) Fits
sap_heard source r fits = grind arith

heard_in-fits : (p : Parts) → IfSome (heard_in p) Fits
heard_in-fits p = elim (cases_Bool (is_for_rip p.header)) [
  | inl rip ↦ rw rip (rip_heard p.header.source (rip_of p.payload) (rip_fits p.payload))
  | inr sap ↦ rw sap (sap_heard p.header.source (sap_of p.payload) (sap_fits p.payload))
]

heard_near-fits : (port : Port) (p : Parts) → IfSome (heard_near port p) Fits
heard_near-fits port p = elim (cases_Bool (is_near port p.header)) [ inl near ↦ rw near (heard_in-fits p) | inr far ↦ rw far tt ]

-- what is heard has few entries
pub heard-fits : (ports : List Port) (up : List ℕ) (runs : Bool) (number : ℕ) (bytes : List ℕ) → IfSome (heard ports up runs number bytes) Fits
heard-fits ports up runs number bytes = judged (why ports up [] runs number bytes) (packet_of bytes)
  where
    judged : (reason : Option Why) (r : Result Parts PacketFault)
        → IfSome (elim reason [ Some dropped ↦ None | None ↦ elim r [ Ok p ↦ heard_near (port_at ports number) p | Err fault ↦ None ] ]) Fits
    judged (Some dropped) r = tt
    judged None (Ok p) = heard_near-fits (port_at ports number) p
    judged None (Err fault) = tt
