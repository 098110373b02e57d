-- What a router that is only asked to send a packet on sends of it is what a tree says that it sends on: the checks that only
-- its own processes ask are those of near packets, and of a near packet nothing leaves.
use Rattle.std.proofs.Common.{◌≡◌, refl, sym, ap, ◌∙◌, ℕ, true, false, if◌then◌else◌, List, [], ◌∷◌, ◌++◌, Option, Some, None, Result, Ok, Err, inl, inr, arith}
use Rattle.std.proofs.lemmas.Bool.{cases_Bool}
use Rattle.ipx_wire.specs.Packet.{Parts, packet_of}
use Rattle.ipx_wire.specs.declared.packet.PacketFault.{PacketFault}
use Rattle.ipx_router.specs.Port.{Port, port_at}
use Rattle.ipx_router.specs.Relay.{relay_why, relay_outcome, relay_sends}
use Rattle.ipx_router.specs.Relays.{Sent, relayed}
use Rattle.ipx_router.specs.Why.{checks, first_of, when, is_near, is_stopped, is_down_port, is_own_echo, is_bad_source, is_crossed_short, is_crossed_full, is_crossed_seen, is_through_too_many, is_far_side, is_no_route, is_too_long}
use Rattle.ipx_router.specs.declared.outcome.Outcome.{Outcome}
use Rattle.ipx_router.specs.declared.outcome.Outcome.TheVariants.{Dropped}
use Rattle.ipx_router.specs.declared.why.Why.{Why}
use Rattle.ipx_router.specs.declared.why.Why.TheVariants.{NotRunning, Malformed, OwnEcho, BadSource, CrossedShort, CrossedFull, CrossedSeen, TooManyRouters, FarSide, NoRoute, TooLong, DownPort}
use Rattle.ipx_internet.specs.Traced.{outcome_of}
use Rattle.ipx_internet.specs.Tree.{Router, sent_on}

-- a check that holds of nothing may be left out
skip : (xs ys : List (Option Why)) → first_of (xs ++ None ∷ ys) ≡ first_of (xs ++ ys)
skip [] ys = refl
skip (Some reason ∷ xs) ys = refl
skip (None ∷ xs) ys = skip xs ys

-- what is sent, by what the checks say
abbrev unless : Option Why → List Sent → List Sent
unless o sents = elim o [ Some reason ↦ [] | None ↦ sents ]

nothing_either : (a b : Option Why) (sents : List Sent) → sents ≡ [] → unless a sents ≡ unless b sents
nothing_either a b sents none = all_none a ∙ sym (all_none b)
  where
    all_none : (o : Option Why) → unless o sents ≡ []
    all_none (Some reason) = refl
    all_none None = none

module _ (r : Router) (number : ℕ) (p : Parts) where
  abbrev port : Port
  port = port_at r.ports number

  -- the checks of a packet that isn't near before those of near packets, and those behind them
  abbrev before : List (Option Why)
  before =
      when (is_stopped r.running) NotRunning
      ∷ when (is_own_echo port p.header) OwnEcho
      ∷ when (is_bad_source p.header) BadSource
      ∷ when (is_crossed_short p) CrossedShort
      ∷ when (is_crossed_full p) CrossedFull
      ∷ when (is_crossed_seen port p) CrossedSeen
      ∷ None
      ∷ []

  abbrev after : List (Option Why)
  after =
      when (is_through_too_many port p.header) TooManyRouters
      ∷ when (is_far_side r.ports port p.header) FarSide
      ∷ when (is_no_route r.ports r.up r.routes port p.header) NoRoute
      ∷ when (is_too_long r.ports r.up r.routes port p.header) TooLong
      ∷ when (is_down_port r.up number) DownPort
      ∷ []

  -- all checks of the packet
  abbrev all_why : Option Why
  all_why = first_of (when (is_stopped r.running) NotRunning ∷ (checks r.ports r.up r.routes port p ++ when (is_down_port r.up number) DownPort ∷ []))

  far_same : is_near port p.header ≡ false → all_why ≡ relay_why r.ports r.up r.routes r.running number p
  far_same off =
      rw off
      (skip before (None ∷ None ∷ None ∷ None ∷ after) ∙ skip before (None ∷ None ∷ None ∷ after) ∙ skip before (None ∷ None ∷ after) ∙ skip before (None ∷ after)
      ∙ skip before after)

  near_stays : is_near port p.header ≡ true → relayed r.ports r.up r.routes number p ≡ []
  near_stays on = grind arith

  same_sent : unless all_why (relayed r.ports r.up r.routes number p) ≡ relay_sends r.ports r.up r.routes r.running number p
  same_sent = elim (cases_Bool (is_near port p.header)) [
    | inl on ↦ nothing_either all_why (relay_why r.ports r.up r.routes r.running number p) (relayed r.ports r.up r.routes number p) (near_stays on)
    | inr off ↦ ap (λ (o : Option Why). unless o (relayed r.ports r.up r.routes number p)) (far_same off)
  ]

module _ (r : Router) (number : ℕ) (bytes : List ℕ) where
  -- what the checks of bytes are, by what the reader says
  abbrev why_by : Result Parts PacketFault → Option Why
  why_by q =
      first_of
      (when (is_stopped r.running) NotRunning ∷ elim q [ Ok p ↦ None | Err fault ↦ Some (Malformed fault) ]
      ∷ (elim q [ Ok p ↦ checks r.ports r.up r.routes (port_at r.ports number) p | Err fault ↦ [] ] ++ when (is_down_port r.up number) DownPort ∷ []))

  abbrev sent_by : Option Why → Result Parts PacketFault → List Sent
  sent_by o q = elim o [ Some reason ↦ [] | None ↦ elim q [ Ok p ↦ relayed r.ports r.up r.routes number p | Err fault ↦ [] ] ]

  abbrev outcome_by : Result Parts PacketFault → Outcome
  outcome_by q =
      elim q [
        | Ok p ↦ relay_outcome r.ports r.up r.routes r.running number p
        | Err fault ↦ if r.running then Dropped (Malformed fault) else Dropped NotRunning
      ]

  -- of a packet
  pub of_packet : (p : Parts) → packet_of bytes ≡ Ok p → sent_on r number bytes ≡ relay_sends r.ports r.up r.routes r.running number p
  of_packet p read =
      ap (λ (q : Result Parts PacketFault). sent_by (why_by q) q) read
      ∙ ap (λ (o : Option Why). unless o (relayed r.ports r.up r.routes number p))
      (skip (when (is_stopped r.running) NotRunning ∷ []) (checks r.ports r.up r.routes (port_at r.ports number) p ++ when (is_down_port r.up number) DownPort ∷ []))
      ∙ same_sent r number p

  pub outcome_of_packet : (p : Parts) → packet_of bytes ≡ Ok p → outcome_of r number bytes ≡ relay_outcome r.ports r.up r.routes r.running number p
  outcome_of_packet p read = ap outcome_by read

  -- of other bytes
  pub of_none : (fault : PacketFault) → packet_of bytes ≡ Err fault → sent_on r number bytes ≡ []
  of_none fault read = ap (λ (q : Result Parts PacketFault). sent_by (why_by q) q) read ∙ none (why_by (Err fault))
    where
      none : (o : Option Why) → sent_by o (Err fault) ≡ []
      none (Some reason) = refl
      none None = refl

  pub outcome_of_none : (fault : PacketFault) → packet_of bytes ≡ Err fault
      → outcome_of r number bytes ≡ (if r.running then Dropped (Malformed fault) else Dropped NotRunning)
  outcome_of_none fault read = ap outcome_by read
