-- What is heard of a numbered packet is what is heard of the packet, with the numbers.
use Rattle.std.proofs.Common.{◌≡◌, ◌∙◌, refl, sym, ap, ap₂, arith, ℕ, ◌==◌, ◌&&◌, ◌||◌, not, Bool, true, false, if◌then◌else◌, inl, inr, List, [], ◌∷◌, ◌++◌, Option, None, Some, Ok, Err, Result}
use Rattle.std.specs.Option.{option_map}
use Rattle.std.proofs.lemmas.Bool.{cases_Bool, eq-eqb, false≢true}
use Rattle.ipx_wire.specs.Numbers.{propagated_type}
use Rattle.ipx_wire.specs.Packet.{Parts, packet_of}
use Rattle.ipx_wire.specs.Rip.{RipParts, rip_of}
use Rattle.ipx_wire.specs.Sap.{sap_of}
use Rattle.ipx_wire.specs.declared.address.Address.{Address}
use Rattle.ipx_wire.specs.declared.header.Header.{Header}
use Rattle.ipx_wire.specs.declared.network.Network.{Network}
use Rattle.ipx_wire.specs.declared.packet.PacketFault.{PacketFault}
use Rattle.ipx_wire.specs.declared.rip.RipFault.{RipFault}
use Rattle.ipx_wire.specs.declared.sap.Sap.{Sap}
use Rattle.ipx_wire.specs.declared.sap.Sap.TheVariants.{Query, Response}
use Rattle.ipx_wire.specs.declared.sap.SapFault.{SapFault}
use Rattle.ipx_router.specs.Heard.{Heard, HeardRip, HeardSap, heard, heard_near, heard_in}
use Rattle.ipx_router.specs.Port.{Port, IsPort, port_at, is_local}
use Rattle.ipx_router.specs.Why.{is_propagated, is_near, is_for_rip, is_for_sap, is_other_socket, is_stopped, is_down_port, checks, when, first_of}
use Rattle.ipx_router.specs.declared.why.Why.{Why}
use Rattle.ipx_router.specs.declared.why.Why.TheVariants.{NotRunning, Malformed, DownPort}
use Rattle.ipx_router.proofs.verdicts.SentOnPassesChecks.{all_checks}
use Rattle.ipx_edge.specs.Numbered.{numbered}
use Rattle.ipx_edge.specs.Laws.{own_network, own_services, own_words, is_for_services, IsNumbered}
use Rattle.ipx_edge.proofs.Filters.{both, other_socket}
use Rattle.ipx_edge.proofs.Held.{none_of, fails}
use Rattle.ipx_edge.proofs.Unchanged.{read_again, no_packet}

-- ---- the network at hand stays it

local_by : (t : Bool) (port : Port) (n : Network) → t ≡ (n.0 == 0) → is_local port (if t then port.network else n) ≡ is_local port n
local_by true port n is = own (port.network.0 == 0) (n.0 == 0) (port.network.0 == port.network.0) (n.0 == port.network.0) (eq-eqb port.network.0 port.network.0 refl) (sym is)
  where
    own : (a b c d : Bool) → c ≡ true → b ≡ true → (a || c) ≡ (b || d)
    own true true c d one two = refl
    own false true c d one two = one
    own a false c d one two = absurd (false≢true two)
local_by false port n is = refl

local_own : (port : Port) (n : Network) → is_local port (own_network port n) ≡ is_local port n
local_own port n = local_by (n.0 == 0) port n refl

-- ---- the checks

abbrev with_source_of : Port → Header → ℕ → Header
with_source_of port h checksum = record h { checksum = checksum; source = record h.source { network = own_network port h.source.network } }

-- where the data are the same
same_checks : (ports : List Port) (up : List ℕ) (port : Port) (number : ℕ) (h : Header) (checksum : ℕ) (d : List ℕ)
    → all_checks ports up [] port number (let p : Parts = record { header = with_source_of port h checksum; payload = d } in p)
    ≡ all_checks ports up [] port number (let p : Parts = record { header = h; payload = d } in p)
same_checks ports up port number h checksum d = rw (local_own port h.source.network) refl

-- where services have other networks
same_told : (ports : List Port) (up : List ℕ) (port : Port) (number : ℕ) (h : Header) (checksum : ℕ) (d e : List ℕ) (r : Result Sap SapFault)
    → sap_of d ≡ r → sap_of e ≡ own_services port r → is_propagated h ≡ false → is_local port h.destination.network ≡ true → is_for_rip h ≡ false
    → all_checks ports up [] port number (let p : Parts = record { header = with_source_of port h checksum; payload = e } in p)
    ≡ all_checks ports up [] port number (let p : Parts = record { header = h; payload = d } in p)
same_told ports up port number h checksum d e (Ok (Query nearest kind)) said told none local other = rw (said, told, none, local, other, local_own port h.source.network) refl
same_told ports up port number h checksum d e (Ok (Response nearest entries)) said told none local other = rw (said, told, none, local, other, local_own port h.source.network) refl
same_told ports up port number h checksum d e (Err fault) said told none local other = rw (said, told, none, local, other, local_own port h.source.network) refl

-- ---- what is heard

-- a near packet's words
module _ (port : Port) (h : Header) (checksum : ℕ) where
  abbrev source : Address
  source = record h.source { network = own_network port h.source.network }

  rip_heard : (r : Result RipParts RipFault)
      → elim r [ Ok rip ↦ Some (HeardRip source rip) | Err fault ↦ None ] ≡ option_map (own_words port) (elim r [ Ok rip ↦ Some (HeardRip h.source rip) | Err fault ↦ None ])
  rip_heard (Ok rip) = refl
  rip_heard (Err fault) = refl

  sap_heard : (r : Result Sap SapFault)
      → elim (own_services port r) [ Ok sap ↦ Some (HeardSap source sap) | Err fault ↦ None ]
      ≡ option_map (own_words port) (elim r [ Ok sap ↦ Some (HeardSap h.source sap) | Err fault ↦ None ])
  sap_heard (Ok sap) = refl
  sap_heard (Err fault) = refl

opposite : (b : Bool) → not b ≡ true → b ≡ false
opposite true is = absurd (false≢true is)
opposite false is = refl

-- the words of a packet that was judged, as the checks say
abbrev spoken : Option Why → Option Heard → Option Heard
spoken o words = elim o [ Some reason ↦ None | None ↦ words ]

spoken_by : (port : Port) (o : Option Why) (x y : Option Heard) → (o ≡ None → x ≡ option_map (own_words port) y) → spoken o x ≡ option_map (own_words port) (spoken o y)
spoken_by port (Some reason) x y same = refl
spoken_by port None x y same = same refl

if_near : (port : Port) (t : Bool) (x y : Option Heard) → (t ≡ true → x ≡ option_map (own_words port) y)
    → (if t then x else None) ≡ option_map (own_words port) (if t then y else None)
if_near port true x y same = same refl
if_near port false x y same = refl

-- what data say, by the process that they are for
abbrev in_words : Bool → Result RipParts RipFault → Result Sap SapFault → Address → Option Heard
in_words b r s a =
    if b then elim r [ Ok rip ↦ Some (HeardRip a rip) | Err fault ↦ None ]
    else elim s [ Ok sap ↦ Some (HeardSap a sap) | Err fault ↦ None ]

-- neither process hears it
unheard : (near kind rip sap : Bool) → near ≡ true → rip ≡ false → (near && sap) ≡ false → (near && (kind || not (rip || sap))) ≡ false → ⊥
unheard near kind rip sap is no_rip no_sap passed = grind arith

module _ (ports : List Port) (up : List ℕ) (number : ℕ) (p q : Parts) (is : IsNumbered (port_at ports number) p q) where
  abbrev port : Port
  port = port_at ports number

  abbrev h : Header
  h = p.header

  abbrev changed : List ℕ → Parts
  changed d = record { header = with_source_of port h q.header.checksum; payload = d }

  abbrev words : Parts → Option Heard
  words r = spoken (first_of (all_checks ports up [] port number r)) (heard_near port r)

  q_is : q ≡ changed q.payload
  q_is = ap (λ (g : Header). let r : Parts = record { header = g; payload = q.payload } in r) is.header

  by_services : is_for_services port p ≡ true → words (changed q.payload) ≡ option_map (own_words port) (words p)
  by_services true_is =
      let told_both = both (is_near port h) (is_for_sap h) true_is in
      let near = both (not (is_propagated h)) (is_local port h.destination.network) told_both.0 in
      let no_rip = other_socket h.destination.socket.0 told_both.1 in
      let told = is.services true_is in
      ap (λ (o : List (Option Why)). spoken (first_of o) (heard_near port (changed q.payload)))
      (same_told ports up port number h q.header.checksum p.payload q.payload (sap_of p.payload) refl told (opposite (is_propagated h) near.0) near.1 no_rip)
      ∙ spoken_by port (first_of (all_checks ports up [] port number p)) (heard_near port (changed q.payload)) (heard_near port p)
      (λ passed.
      if_near port (is_near port h) (heard_in (changed q.payload)) (heard_in p)
      (λ here.
      ap₂ (λ (b : Bool) (s : Result Sap SapFault). in_words b (rip_of q.payload) s (source port h q.header.checksum)) no_rip told
      ∙ sap_heard port h q.header.checksum (sap_of p.payload)
      ∙ ap (λ (b : Bool). option_map (own_words port) (in_words b (rip_of p.payload) (sap_of p.payload) h.source)) (sym no_rip)))

  by_others : is_for_services port p ≡ false → words (changed p.payload) ≡ option_map (own_words port) (words p)
  by_others false_is =
      ap (λ (o : List (Option Why)). spoken (first_of o) (heard_near port (changed p.payload))) (same_checks ports up port number h q.header.checksum p.payload)
      ∙ spoken_by port (first_of (all_checks ports up [] port number p)) (heard_near port (changed p.payload)) (heard_near port p)
      (λ passed.
      if_near port (is_near port h) (heard_in (changed p.payload)) (heard_in p)
      (λ here.
      elim (cases_Bool (is_for_rip h)) [
        | inl rip ↦
            ap (λ (b : Bool). in_words b (rip_of p.payload) (sap_of p.payload) (source port h q.header.checksum)) rip
            ∙ rip_heard port h q.header.checksum (rip_of p.payload)
            ∙ ap (λ (b : Bool). option_map (own_words port) (in_words b (rip_of p.payload) (sap_of p.payload) h.source)) (sym rip)
        | inr other ↦
            let all = none_of (all_checks ports up [] port number p) passed in
            absurd (unheard (is_near port h) (h.kind == propagated_type) (is_for_rip h) (is_for_sap h) here other false_is (fails (is_other_socket port h) _ all.1.1.1.1.1.1.0))
      ]))

  same_words : words q ≡ option_map (own_words port) (words p)
  same_words =
      ap words q_is
      ∙ elim (cases_Bool (is_for_services port p)) [
        | inl true_is ↦ by_services true_is
        | inr false_is ↦ ap (λ (d : List ℕ). words (changed d)) (is.other false_is) ∙ by_others false_is
      ]

module _ (ports : List Port) (up : List ℕ) (number : ℕ) where
  -- what is heard of what was read, while the router runs
  abbrev heard_of : Result Parts PacketFault → Option Heard
  heard_of r =
      elim (first_of (when (is_stopped true) NotRunning ∷ elim r [ Ok p ↦ None | Err fault ↦ Some (Malformed fault) ]
      ∷ (elim r [ Ok p ↦ checks ports up [] (port_at ports number) p | Err fault ↦ [] ] ++ when (is_down_port up number) DownPort ∷ []))) [
        | Some reason ↦ None
        | None ↦ elim r [ Ok p ↦ heard_near (port_at ports number) p | Err fault ↦ None ]
      ]

  heard_is : (bytes : List ℕ) (p : Parts) → packet_of bytes ≡ Ok p
      → heard ports up true number bytes ≡ spoken (first_of (all_checks ports up [] (port_at ports number) number p)) (heard_near (port_at ports number) p)
  heard_is bytes p is = ap heard_of is

  no_words : (bytes : List ℕ) (fault : PacketFault) → packet_of bytes ≡ Err fault → heard ports up true number bytes ≡ None
  no_words bytes fault is = ap heard_of is

  heard_by : (bytes : List ℕ) → IsPort (port_at ports number) → (r : Result Parts PacketFault) → packet_of bytes ≡ r
      → heard ports up true number (numbered (port_at ports number) bytes) ≡ option_map (own_words (port_at ports number)) (heard ports up true number bytes)
  heard_by bytes port_is (Err fault) is =
      ap (heard ports up true number) (no_packet (port_at ports number) bytes fault is)
      ∙ no_words bytes fault is
      ∙ ap (option_map (own_words (port_at ports number))) (sym (no_words bytes fault is))
  heard_by bytes port_is (Ok p) is =
      let back = read_again (port_at ports number) bytes p port_is is in
      heard_is (numbered (port_at ports number) bytes) back.packet back.read
      ∙ same_words ports up number p back.packet back.is
      ∙ ap (option_map (own_words (port_at ports number))) (sym (heard_is bytes p is))

  pub hears_the_same : (running : Bool) (bytes : List ℕ) → IsPort (port_at ports number)
      → heard ports up running number (numbered (port_at ports number) bytes) ≡ option_map (own_words (port_at ports number)) (heard ports up running number bytes)
  hears_the_same true bytes port_is = heard_by bytes port_is (packet_of bytes) refl
  hears_the_same false bytes port_is = refl
