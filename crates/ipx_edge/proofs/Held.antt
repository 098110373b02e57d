-- What comes in, and what is heard then.
use Rattle.std.proofs.Common.{◌≡◌, ◌≢◌, ◌∙◌, refl, sym, subst, ap, arith, ℕ, ◌+◌, ◌<◌, ◌==◌, ◌&&◌, ◌||◌, not, Bool, true, false, if◌then◌else◌, ◌⊎◌, inl, inr, List, [], ◌∷◌, Option, None, Some, Ok, Err, Result}
use Rattle.std.specs.List.{AllByRecursion}
use Rattle.std.proofs.lemmas.Bool.{ne_eqb, cases_eq, false≢true}
use Rattle.ipx_wire.specs.Forward.{forwarded}
use Rattle.ipx_wire.specs.Numbers.{propagated_type, local_network}
use Rattle.ipx_wire.specs.Packet.{Parts, packet_of}
use Rattle.ipx_wire.specs.declared.header.Header.{Header}
use Rattle.ipx_wire.specs.declared.packet.PacketFault.{PacketFault}
use Rattle.ipx_router.specs.Heard.{Heard, heard, heard_in}
use Rattle.ipx_router.specs.Port.{Port, IsPort, port_at}
use Rattle.ipx_router.specs.Why.{is_near, is_for_rip, is_for_sap, is_other_socket, first_of, when}
use Rattle.ipx_router.specs.declared.why.Why.{Why}
use Rattle.ipx_router.proofs.verdicts.SentOnPassesChecks.{all_checks}
use Rattle.ipx_router.proofs.tables.HeldWasOffered.{CameIn, came_in, nothing}
use Rattle.ipx_edge.specs.Entered.{is_for_neighbours, is_from_afar, is_held_in, is_held, entered}
use Rattle.ipx_edge.specs.Numbered.{is_own_service, services_told, numbered}
use Rattle.ipx_edge.specs.Laws.{IsNumbered, IsDirect}
use Rattle.ipx_edge.proofs.Unchanged.{read_again, no_packet, known, no_fault, is_packet}

-- ---- what is held

carried : (n : ℕ) → n ≢ 0 → not (n == 0) ≡ true
carried n some = ap not (ne_eqb n 0 some)

held_by : (port : Port) (bytes : List ℕ) (p : Parts) → packet_of bytes ≡ Ok p → is_held port bytes ≡ is_from_afar port p.header
held_by port bytes p is = ap (is_held_in port) is

pub held : (port : Port) (bytes : List ℕ) (p : Parts) → packet_of bytes ≡ Ok p → is_for_neighbours port p.header ≡ true → p.header.control ≢ 0
    → entered port bytes ≡ None
held port bytes p is near some =
    let afar : is_from_afar port p.header ≡ true = ap (λ (b : Bool). b && not (p.header.control == 0)) near ∙ carried p.header.control some in
    rw (held_by port bytes p is ∙ afar) refl

always : (b : Bool) → (b && true) ≡ b
always true = refl
always false = refl

pub forwarded_is : (port : Port) (p : Parts) → is_from_afar port (forwarded p).header ≡ is_for_neighbours port p.header
forwarded_is port p = ap (λ (b : Bool). is_for_neighbours port p.header && b) (carried (p.header.control + 1) (λ e. omega (arith, e))) ∙ always (is_for_neighbours port p.header)

-- ---- what comes in

not_afar : (port : Port) (h : Header) → (h.control ≡ 0) ⊎ (is_for_neighbours port h ≡ false) → is_from_afar port h ≡ false
not_afar port h (inl none) = grind arith
not_afar port h (inr other) = ap (λ (b : Bool). b && not (h.control == 0)) other

pub comes : (port : Port) (bytes : List ℕ) (p : Parts) → packet_of bytes ≡ Ok p → (p.header.control ≡ 0) ⊎ (is_for_neighbours port p.header ≡ false)
    → entered port bytes ≡ Some (numbered port bytes)
comes port bytes p is direct = rw (held_by port bytes p is ∙ not_afar port p.header direct) refl

pub same : (port : Port) (bytes : List ℕ) (p : Parts) → packet_of bytes ≡ Ok p → (p.header.control ≡ 0) ⊎ (is_for_neighbours port p.header ≡ false)
    → p.header.source.network.0 ≢ local_network → ((k : ℕ) → k < services_told port p → is_own_service k bytes ≡ false)
    → entered port bytes ≡ Some bytes
same port bytes p is direct named none = comes port bytes p is direct ∙ ap (λ (l : List ℕ). Some l) (known port bytes p is named none)

-- ---- what is heard

pub none_of : (checks : List (Option Why)) → first_of checks ≡ None → AllByRecursion (λ check. check ≡ None) checks
none_of [] e = tt
none_of (Some why ∷ checks) e = nothing (sym e)
none_of (None ∷ checks) e = (refl, none_of checks e)

pub fails : (b : Bool) (why : Why) → when b why ≡ None → b ≡ false
fails true why e = nothing (sym e)
fails false why e = refl

for_one : (near other rip_or_sap : Bool) → near ≡ true → (near && (other || not rip_or_sap)) ≡ false → (near && rip_or_sap) ≡ true
for_one near other rip_or_sap is none = grind arith

near_heard : (t : Bool) (x : Option Heard) (m : Heard) → (if t then x else None) ≡ Some m → t ≡ true
near_heard true x m e = refl
near_heard false x m e = nothing e

-- what was heard is for the neighbours
for_neighbours : (ports : List Port) (up : List ℕ) (number : ℕ) (bytes : List ℕ) (m : Heard) (came : CameIn ports up number bytes m)
    → is_for_neighbours (port_at ports number) came.packet.header ≡ true
for_neighbours ports up number bytes m came =
    let port = port_at ports number in
    let h = came.packet.header in
    let all = none_of (all_checks ports up [] port number came.packet) came.passed in
    for_one (is_near port h) (h.kind == propagated_type) (is_for_rip h || is_for_sap h)
    (near_heard (is_near port h) (heard_in came.packet) m came.near) (fails (is_other_socket port h) _ all.1.1.1.1.1.1.0)

module _ (ports : List Port) (up : List ℕ) (running : Bool) (number : ℕ) where
  abbrev port : Port
  port = port_at ports number

  some_is : (x y : List ℕ) → Some x ≡ Some y → x ≡ y
  some_is x y e = grind arith

  in_is : (t : Bool) (x new : List ℕ) → (if t then None else Some x) ≡ Some new → (t ≡ false) × (x ≡ new)
  in_is true x new e = nothing e
  in_is false x new e = (refl, some_is x new e)

  -- the numbered packet is for the same processes
  same_for : (p q : Parts) → IsNumbered port p q → is_for_neighbours port q.header ≡ is_for_neighbours port p.header
  same_for p q is = ap (is_for_neighbours port) is.header

  no_control : (near : Bool) (n : ℕ) → near ≡ true → (near && not (n == 0)) ≡ false → n ≡ 0
  no_control near n is none = elim (cases_eq n 0) [ inl e ↦ e | inr other ↦ absurd (false≢true (sym none ∙ ap (λ (b : Bool). b && not (n == 0)) is ∙ carried n other)) ]

  direct_in : (bytes : List ℕ) (m : Heard) → IsPort port → is_held port bytes ≡ false → CameIn ports up number (numbered port bytes) m
      → (r : Result Parts PacketFault) → packet_of bytes ≡ r → IsDirect bytes
  direct_in bytes m port_is free came (Err fault) is =
      absurd (no_fault (packet_of bytes) came.packet fault (ap packet_of (sym (no_packet port bytes fault is)) ∙ came.read) is)
  direct_in bytes m port_is free came (Ok p) is =
      let back = read_again port bytes p port_is is in
      let packet = is_packet (packet_of (numbered port bytes)) back.packet came.packet back.read came.read in
      let near : is_for_neighbours port p.header ≡ true =
      sym (same_for p back.packet back.is) ∙ ap (λ (q : Parts). is_for_neighbours port q.header) packet ∙ for_neighbours ports up number (numbered port bytes) m came in
      record {
        packet = p;
        read = is;
        control = no_control (is_for_neighbours port p.header) p.header.control near (sym (held_by port bytes p is) ∙ free);
      }

  pub neighbours_alone : (bytes new : List ℕ) (m : Heard) → IsPort port → entered port bytes ≡ Some new → heard ports up running number new ≡ Some m → IsDirect bytes
  neighbours_alone bytes new m port_is enters hears =
      let is = in_is (is_held port bytes) (numbered port bytes) new enters in
      let heard_it = subst (λ (l : List ℕ). heard ports up running number l ≡ Some m) (sym is.1) hears in
      direct_in bytes m port_is is.0 (came_in ports up number running (numbered port bytes) m heard_it) (packet_of bytes) refl
