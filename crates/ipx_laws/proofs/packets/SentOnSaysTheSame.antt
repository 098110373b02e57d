-- A packet that is sent on says what it said; and what a router hears of bytes is what they say.
use Rattle.std.proofs.Common.{◌≡◌, refl, sym, ap, ◌∙◌, ◌⊎◌, ℕ, ◌==◌, ◌&&◌, ◌||◌, not, Bool, true, false, if◌then◌else◌, List, [], ◌∷◌, Option, Some, None, Result, Ok, Err, inl, inr, true≢false, is_some, arith}
use Rattle.std.specs.List.{AllByRecursion}
use Rattle.std.proofs.lemmas.Bool.{cases_Bool, and_parts, not-true}
use Rattle.ipx_wire.specs.Packet.{Parts, packet_of}
use Rattle.ipx_wire.specs.Rip.{rip_of}
use Rattle.ipx_wire.specs.Sap.{sap_of}
use Rattle.ipx_wire.specs.declared.packet.PacketFault.{PacketFault}
use Rattle.ipx_router.specs.Facts.{heard_after}
use Rattle.ipx_router.specs.Heard.{Heard, HeardRip, HeardSap, heard_in, heard_near}
use Rattle.ipx_router.specs.History.{History, running, ports_up}
use Rattle.ipx_router.specs.Numbers.{rip_socket, sap_socket, propagated_type}
use Rattle.ipx_router.specs.Port.{Port, port_at}
use Rattle.ipx_router.specs.Why.{first_of, when, is_propagated, is_near, is_for_rip, is_for_sap}
use Rattle.ipx_router.specs.declared.why.Why.{Why}
use Rattle.ipx_router.proofs.verdicts.SentOnPassesChecks.{all_checks}
use Rattle.ipx_router.proofs.tables.HeldWasOffered.{came_in}
use Rattle.ipx_internet.proofs.lists.FoundInAList.{nothing}
use Rattle.ipx_internet.proofs.packets.SentOnOrReply.{IsOnward}
use Rattle.ipx_laws.specs.Meanwhile.{message_in, message_of}

-- ---- what is heard may be heard

-- no check of a list holds, if the first that holds is none
all_none : (list : List (Option Why)) → first_of list ≡ None → AllByRecursion (λ check. check ≡ None) list
all_none [] e = tt
all_none (Some reason ∷ list) e = absurd (true≢false (ap is_some e))
all_none (None ∷ list) e = (refl, all_none list e)

unmet : (c : Bool) (reason : Why) → when c reason ≡ None → c ≡ false
unmet c reason e = grind arith

-- what is near and for a process passes as such
process : (near propagated others : Bool) → near ≡ true → (near && (propagated || not others)) ≡ false → not others ≡ false
process near propagated others there e = grind arith

for_process : (p : Parts) → is_propagated p.header ≡ false → not (is_for_rip p.header || is_for_sap p.header) ≡ false → message_in p ≡ heard_in p
for_process p plain other = rw (plain, other) refl

module _ (ports : List Port) (history : History) (number : ℕ) (bytes : List ℕ) (m : Heard) where
  near_message : (p : Parts) → first_of (all_checks ports (ports_up ports history) [] (port_at ports number) number p) ≡ None
      → heard_near (port_at ports number) p ≡ Some m → message_in p ≡ Some m
  near_message p passed e = elim (cases_Bool (is_near (port_at ports number) p.header)) [
    | inr far ↦ nothing (rw far at e)
    | inl here ↦
        let told : heard_in p ≡ Some m = rw here at e in
        let all = all_none (all_checks ports (ports_up ports history) [] (port_at ports number) number p) passed in
        let other = unmet _ _ all.1.1.1.1.1.1.0 in
        let plain = not-true (is_propagated p.header) (and_parts (not (is_propagated p.header)) _ here).0 in
        for_process p plain (process (is_near (port_at ports number) p.header) (p.header.kind == propagated_type) (is_for_rip p.header || is_for_sap p.header) here other) ∙ told
  ]

  pub heard_message : heard_after ports history number bytes ≡ Some m → message_of bytes ≡ Some m
  heard_message e =
      let came = came_in ports (ports_up ports history) number (running history) bytes m e in
      ap of_packet came.read ∙ near_message came.packet came.passed came.near
    where
      of_packet : Result Parts PacketFault → Option Heard
      of_packet r = elim r [ Ok p ↦ message_in p | Err fault ↦ None ]

-- ---- what is read is what was written

pub of_packet : (bytes : List ℕ) (p : Parts) (m : Heard) → packet_of bytes ≡ Ok p → message_of bytes ≡ Some m → message_in p ≡ Some m
of_packet bytes p m read e = sym (ap by read) ∙ e
  where
    by : Result Parts PacketFault → Option Heard
    by r = elim r [ Ok p ↦ message_in p | Err fault ↦ None ]

-- ---- what is sent on

pub sent_on_message : (port : Port) (came sent : List ℕ) → IsOnward port came sent → (m : Heard) → message_of sent ≡ Some m → message_of came ≡ Some m
sent_on_message port came sent on m e = ap by on.read ∙ same on.keeps
  where
    by : Result Parts PacketFault → Option Heard
    by r = elim r [ Ok p ↦ message_in p | Err fault ↦ None ]

    told : message_in on.further ≡ Some m
    told = of_packet sent on.further m on.reread e

    judged : Bool → ℕ → Option Heard → Option Heard
    judged all socket o = if all || not ((socket == rip_socket) || (socket == sap_socket)) then None else o

    same : ((is_propagated on.packet.header ≡ true) × (is_propagated on.further.header ≡ true))
        ⊎ ((is_propagated on.further.header ≡ is_propagated on.packet.header) × (heard_in on.further ≡ heard_in on.packet))
        → message_in on.packet ≡ Some m
    same (inl (was, still)) = nothing (rw still at told)
    same (inr (plain, alike)) =
        sym (ap (λ (b : Bool). judged b on.packet.header.destination.socket.0 (heard_in on.packet)) plain)
        ∙ sym (ap (λ (n : ℕ). judged (is_propagated on.further.header) n (heard_in on.packet)) on.socket)
        ∙ sym (ap (judged (is_propagated on.further.header) on.further.header.destination.socket.0) alike) ∙ told

-- ---- what is for a process, and what is read by the other one

-- a message for the process of RIP, and one for that of SAP
pub for_rip : (p : Parts) (m : Heard) → is_for_rip p.header ≡ true → message_in p ≡ Some m
    → elim (rip_of p.payload) [ Ok rip ↦ Some (HeardRip p.header.source rip) | Err fault ↦ None ] ≡ Some m
for_rip p m rip e = grind arith

pub for_sap : (p : Parts) (m : Heard) → is_for_rip p.header ≡ false → message_in p ≡ Some m
    → (is_for_sap p.header ≡ true) × (elim (sap_of p.payload) [ Ok sap ↦ Some (HeardSap p.header.source sap) | Err fault ↦ None ] ≡ Some m)
for_sap p m other e = grind arith

-- a message was in its packet
pub message_heard : (p : Parts) (m : Heard) → message_in p ≡ Some m → heard_in p ≡ Some m
message_heard p m e = grind arith
