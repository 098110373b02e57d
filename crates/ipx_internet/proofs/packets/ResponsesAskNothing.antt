-- What a response says asks nothing, whichever process reads it.
use Rattle.std.proofs.Common.{◌≡◌, refl, sym, subst, ◌⊎◌, ℕ, Bool, true, false, List, length, Some, None, Result, Ok, Err, IfOk, nat_lt, inl, inr, arith}
use Rattle.std.proofs.lemmas.Bool.{cases_Bool}
use Rattle.ipx_wire.specs.Packet.{Parts}
use Rattle.ipx_wire.specs.Rip.{RipParts, operation_field, operation_of, operated, rip_of}
use Rattle.ipx_wire.specs.Sap.{numbered_of, response_of, sap_of}
use Rattle.ipx_wire.specs.Write.{rip_payload}
use Rattle.ipx_wire.specs.WriteServices.{sap_payload}
use Rattle.ipx_wire.specs.declared.rip.Operation.TheVariants.{Response}
use Rattle.ipx_wire.specs.declared.rip.RipEntry.{RipEntry}
use Rattle.ipx_wire.specs.declared.rip.RipFault.{RipFault}
use Rattle.ipx_wire.specs.declared.sap.Sap.{Sap}
use Rattle.ipx_wire.specs.declared.sap.Sap.TheVariants.{Query, Response as SapResponse}
use Rattle.ipx_wire.specs.declared.sap.SapFault.{SapFault}
use Rattle.ipx_wire.specs.declared.service.Service.{Service}
use Rattle.ipx_router.specs.Heard.{Heard, HeardRip, HeardSap, heard_in}
use Rattle.ipx_router.specs.Why.{is_for_rip}
use Rattle.ipx_internet.proofs.lists.FoundInAList.{nothing, it_is}

-- the operation is that of a response, whichever way it is read
abbrev pub Answers : List ℕ → Type 0
Answers payload = (operation_field payload ≡ 2) ⊎ (operation_field payload ≡ 4)

pub rip_answers : (page : List RipEntry) → Answers (rip_payload Response page)
rip_answers page = inl refl

pub sap_answers : (nearest : Bool) (page : List Service) → Answers (sap_payload nearest page)
sap_answers nearest page = grind arith

-- a response, of either kind
abbrev pub IsAnswering : Heard → Type 0
IsAnswering (HeardRip source rip) = rip.operation ≡ Response
IsAnswering (HeardSap source (Query nearest kind)) = ⊥
IsAnswering (HeardSap source (SapResponse nearest entries)) = Unit

abbrev IsReplied : Sap → Type 0
IsReplied (Query nearest kind) = ⊥
IsReplied (SapResponse nearest entries) = Unit

rip_says : (payload : List ℕ) → Answers payload → IfOk (rip_of payload) (λ r. r.operation ≡ Response)
unfolding rip_of
rip_says payload is = elim (cases_Bool (nat_lt (length payload) 2)) [
  | inl e ↦ rw e tt
  | inr e ↦ rw e (by (operation_field payload) is)
]
  where
    two : IfOk (operated 2 (operation_of 2) payload) (λ r. r.operation ≡ Response)
    two = elim (cases_Bool (nat_lt (length payload) 10)) [
      | inl e ↦ rw e tt
      | inr e ↦ elim (cases_Bool (nat_lt 409 (length payload))) [
        | inl f ↦ rw (e, f) tt
        | inr f ↦ rw (e, f) refl
      ]
    ]

    by : (n : ℕ) → (n ≡ 2) ⊎ (n ≡ 4) → IfOk (operated n (operation_of n) payload) (λ r. r.operation ≡ Response)
    by n (inl e) = subst (λ (k : ℕ). IfOk (operated k (operation_of k) payload) (λ r. r.operation ≡ Response)) (sym e) two
    by n (inr e) = subst (λ (k : ℕ). IfOk (operated k (operation_of k) payload) (λ r. r.operation ≡ Response)) (sym e) tt

sap_says : (payload : List ℕ) → Answers payload → IfOk (sap_of payload) IsReplied
unfolding sap_of
sap_says payload is = elim (cases_Bool (nat_lt (length payload) 2)) [
  | inl e ↦ rw e tt
  | inr e ↦ rw e (by (operation_field payload) is)
]
  where
    response : (nearest : Bool) → IfOk (response_of nearest payload) IsReplied
    response nearest = elim (cases_Bool (nat_lt (length payload) 66)) [
      | inl e ↦ rw e tt
      | inr e ↦ elim (cases_Bool (nat_lt 513 (length payload))) [
        | inl f ↦ rw (e, f) tt
        | inr f ↦ rw (e, f) tt
      ]
    ]

    by : (n : ℕ) → (n ≡ 2) ⊎ (n ≡ 4) → IfOk (numbered_of n payload) IsReplied
    by n (inl e) = subst (λ (k : ℕ). IfOk (numbered_of k payload) IsReplied) (sym e) (response false)
    by n (inr e) = subst (λ (k : ℕ). IfOk (numbered_of k payload) IsReplied) (sym e) (response true)

pub answering : (p : Parts) → Answers p.payload → (m : Heard) → heard_in p ≡ Some m → IsAnswering m
answering p is m e = elim (cases_Bool (is_for_rip p.header)) [
  | inl rip ↦ from_rip (rip_of p.payload) (rip_says p.payload is) (rw rip at e)
  | inr other ↦ from_sap (sap_of p.payload) (sap_says p.payload is) (rw other at e)
]
  where
    from_rip : (r : Result RipParts RipFault) → IfOk r (λ q. q.operation ≡ Response)
        → elim r [ Ok rip ↦ Some (HeardRip p.header.source rip) | Err fault ↦ None ] ≡ Some m → IsAnswering m
    from_rip (Err fault) is e = nothing e
    from_rip (Ok rip) is e = it_is IsAnswering m (HeardRip p.header.source rip) e is

    said : (s : Sap) → IsReplied s → IsAnswering (HeardSap p.header.source s)
    said (Query nearest kind) is = is
    said (SapResponse nearest entries) is = tt

    from_sap : (r : Result Sap SapFault) → IfOk r IsReplied → elim r [ Ok sap ↦ Some (HeardSap p.header.source sap) | Err fault ↦ None ] ≡ Some m → IsAnswering m
    from_sap (Err fault) is e = nothing e
    from_sap (Ok sap) is e = it_is IsAnswering m (HeardSap p.header.source sap) e (said sap is)
