-- What each event sends, after any history: packets of the router's own, or the packet that came, sent on.
use Rattle.std.proofs.Common.{◌≡◌, refl, sym, subst, ℕ, ◌<◌, ◌⊎◌, inl, inr, Bool, true, false, length, List, [], ◌∷◌, ◌++◌, Option, None, Some, Result, Ok, Err, rules}
use Rattle.std.specs.List.{AllByRecursion, slice_get}
use Rattle.std.proofs.lemmas.Bool.{cases_Bool}
use Rattle.ipx_wire.specs.Packet.{Parts, packet_of}
use Rattle.ipx_wire.specs.Piece.{IsBytes}
use Rattle.ipx_wire.specs.declared.packet.PacketFault.{PacketFault}
use Rattle.ipx_wire.specs.declared.rip.RipEntry.{RipEntry}
use Rattle.ipx_router.specs.Facts.{routes_held, offers}
use Rattle.ipx_router.specs.Heard.{Heard, heard}
use Rattle.ipx_router.specs.History.{Event, History, Start, Stop, Second, Packet, PortDown, PortUp, IsOnPort, IsOfBytes, running, ports_up}
use Rattle.ipx_router.specs.Packets.{IsBroadcast, IsForHeard, IsRelayed, IsForPacket, IsSentFor}
use Rattle.ipx_router.specs.Port.{Port, IsPort, port_at, is_up}
use Rattle.ipx_router.specs.Relays.{Sent, relayed}
use Rattle.ipx_router.specs.Sends.{Holding, introduction, second_on, stop_on, port_down_on, port_up_on, heard_sends, packet_sends, sends_of, holding, is_periodic, ports_sending, sends}
use Rattle.ipx_router.specs.Why.{why}
use Rattle.ipx_router.specs.declared.route_offer.RouteOffer.{RouteOffer}
use Rattle.ipx_router.specs.declared.why.Why.{Why}
use Rattle.ipx_router.proofs.telling.EachEntryHolds.{Opens}
use Rattle.ipx_router.proofs.lists.EachElement.{all_then, all_before, all_behind, all_listed}
use Rattle.ipx_router.proofs.tables.HeldFitsFields.{held_routes_fit, held_services_fit}
use Rattle.ipx_router.proofs.verdicts.HeardIsAsLayoutsAllow.{heard_is}
use Rattle.ipx_router.proofs.histories.OneEventMore.{ports_stay, port_comes_up}
use Rattle.ipx_router.proofs.changes.ChangesFitFields.{anything}
use Rattle.ipx_router.proofs.sending.OwnPacketsAreValid.{IsOwned}
use Rattle.ipx_router.proofs.port_values.PortOfEachNumber.{ports_up-within}
use Rattle.ipx_router.proofs.relays.ListedIsRelated.{AllUp}
use Rattle.ipx_router.proofs.sending.PacketsOfTheirKind.{Fits, Allows, each_owned, introduction_owned, stop_owned, second_owned, port_down_owned, port_up_owned, heard_owned}
use Rattle.ipx_router.proofs.tables.HeldWasOffered.{nothing, came_in, heard_up, near_source}
use Rattle.ipx_router.proofs.tables.HeldCameByPortsUp.{held_routes_up}
use Rattle.ipx_router.proofs.bytes.LawsOfLayouts.{Readings, Rereadings}

-- the packet that came, sent on
pub record IsSentOn (ports : List Port) (up : List ℕ) (routes : List RouteOffer) (runs : Bool) (event : Event) (s : Sent) : Type 0 where
  pub number : ℕ
  pub bytes : List ℕ
  pub came : event ≡ Packet number bytes
  pub relayed : IsRelayed ports up routes number bytes s
  pub own : IsSentFor ports up routes runs event s

-- what an event sends: packets of the router's own, whose entries are such, or the packet that came
abbrev pub IsSending : (RipEntry → Type 0) → List Port → List ℕ → List RouteOffer → Bool → Event → Sent → Type 0
IsSending P ports up routes runs event s = IsOwned P ports up (IsSentFor ports up routes runs event) s ⊎ IsSentOn ports up routes runs event s

-- what is listed is sent on by the relations
abbrev pub IsListed : Type 0
IsListed =
    (ports : List Port) (up : List ℕ) (routes : List RouteOffer) (number : ℕ) (bytes : List ℕ) (p : Parts) (k : ℕ) (s : Sent)
    → IsBytes bytes → AllUp up routes
    → why ports up routes true number bytes ≡ None → packet_of bytes ≡ Ok p
    → slice_get (relayed ports up routes number p) k ≡ Some s → IsRelayed ports up routes number bytes s

module _ (readings : Readings) (again : Rereadings) (listed : IsListed) (P : RipEntry → Type 0) (K : RouteOffer → Type 0) (allows : Allows P K)
    (ports : List Port) (are : AllByRecursion IsPort ports) where
  -- ---- a packet, where the same ports are up before it and after it

  module _ (before after : Holding) (same : after.up ≡ before.up) (old : Fits K ports before) (new : Fits K ports after)
      (opens : Opens P ports before.up) (table : AllUp before.up before.routes)
      (number : ℕ) (bytes : List ℕ) (are_bytes : IsBytes bytes) where
    -- the packet that came, where nothing was heard of it
    abbrev SentOn : Bool → Sent → Type 0
    SentOn runs s = IsSentOn ports before.up before.routes runs (Packet number bytes) s

    -- what is sent for what was heard, if anything was
    abbrev SentFor : Bool → Option Heard → Sent → Type 0
    SentFor runs o s = IsOwned P ports before.up (IsForPacket ports before.up before.routes number bytes o) s ⊎ SentOn runs s

    relayed_all : (runs : Bool) (r : Result Parts PacketFault) → packet_of bytes ≡ r → why ports before.up before.routes runs number bytes ≡ None
        → heard ports before.up runs number bytes ≡ None
        → AllByRecursion (SentOn runs) (elim r [ Ok p ↦ relayed ports before.up before.routes number p | Err fault ↦ [] ])
    relayed_all false r e passed unheard = nothing (sym passed)
    relayed_all true (Err fault) e passed unheard = tt
    relayed_all true (Ok p) e passed unheard =
        all_listed (SentOn true) (relayed ports before.up before.routes number p) (λ k s at.
        let is : IsRelayed ports before.up before.routes number bytes s =
        listed ports before.up before.routes number bytes p k s are_bytes table passed e at in
        record { number = number; bytes = bytes; came = refl; relayed = is; own = rw unheard is })

    said_all : (runs : Bool) (o : Option Heard) → heard ports before.up runs number bytes ≡ o → why ports before.up before.routes runs number bytes ≡ None
        → AllByRecursion (SentFor runs o) (elim o [
          | Some message ↦ heard_sends ports before after number message
          | None ↦ elim (packet_of bytes) [ Ok p ↦ relayed ports before.up before.routes number p | Err fault ↦ [] ]
        ])
    said_all runs (Some m) e passed =
        let came = came_in ports before.up number runs bytes m e in
        let is = (readings.packet_read bytes came.packet are_bytes).0 came.read in
        let there = heard_up ports before.up number runs bytes m e in
        let source = near_source (port_at ports number) came.packet m came.near in
        all_then (IsOwned P ports before.up (IsForHeard ports before.up number bytes m)) (SentFor runs (Some m)) (λ s is. inl is)
        (heard_sends ports before after number m)
        (heard_owned readings again P K allows ports are before.up old.ups before after old new number there bytes came.packet is same opens m source
        (heard_is readings ports before.up number bytes are_bytes runs m e))
    said_all runs None e passed =
        all_then (SentOn runs) (SentFor runs None) (λ s is. inr is)
        (elim (packet_of bytes) [ Ok p ↦ relayed ports before.up before.routes number p | Err fault ↦ [] ])
        (relayed_all runs (packet_of bytes) refl passed e)

    judged_all : (runs : Bool) (o : Option Why) → why ports before.up before.routes runs number bytes ≡ o
        → AllByRecursion (SentFor runs (heard ports before.up runs number bytes)) (elim o [
          | Some reason ↦ []
          | None ↦ elim (heard ports before.up runs number bytes) [
            | Some message ↦ heard_sends ports before after number message
            | None ↦ elim (packet_of bytes) [ Ok p ↦ relayed ports before.up before.routes number p | Err fault ↦ [] ]
          ]
        ])
    judged_all runs (Some reason) e = tt
    judged_all runs None e = said_all runs (heard ports before.up runs number bytes) refl e

    packet_all : (runs : Bool) → AllByRecursion (IsSending P ports before.up before.routes runs (Packet number bytes)) (packet_sends ports before after runs number bytes)
    packet_all runs = judged_all runs (why ports before.up before.routes runs number bytes) refl

  -- ---- each other event

  module _ (before after : Holding) (old : Fits K ports before) (new : Fits K ports after) (opens : Opens P ports after.up) where
    -- broadcasts on ports that are up
    abbrev Casts : List ℕ → List Sent → Type 0
    Casts up sent = AllByRecursion (IsOwned P ports up (IsBroadcast ports up)) sent

    start_all : (runs periodic : Bool) → Casts after.up (sends_of ports before after runs periodic Start)
    start_all true periodic = tt
    start_all false periodic =
        each_owned readings again P K allows ports are after.up new.ups (IsOwned P ports after.up (IsBroadcast ports after.up)) (introduction ports after.up [] [])
        (introduction_owned readings again P K allows ports are after.up new.ups [] [] opens tt tt tt)

    stop_all : (runs periodic : Bool) → Casts before.up (sends_of ports before after runs periodic Stop)
    stop_all true periodic =
        each_owned readings again P K allows ports are before.up old.ups (IsOwned P ports before.up (IsBroadcast ports before.up)) (stop_on ports before)
        (stop_owned readings again P K allows ports are before.up old.ups before after old new)
    stop_all false periodic = tt

    second_all : (runs periodic : Bool) → Casts after.up (sends_of ports before after runs periodic Second)
    second_all true periodic =
        each_owned readings again P K allows ports are after.up new.ups (IsOwned P ports after.up (IsBroadcast ports after.up)) (second_on ports before after periodic)
        (second_owned readings again P K allows ports are after.up new.ups before after old new opens periodic)
    second_all false periodic = tt

    down_all : (runs periodic : Bool) (number : ℕ) → number < length ports → Casts after.up (sends_of ports before after runs periodic (PortDown number))
    down_all false periodic number on = tt
    down_all true periodic number on = elim (cases_Bool (is_up before.up number)) [
      | inl goes ↦
          rw goes (each_owned readings again P K allows ports are after.up new.ups (IsOwned P ports after.up (IsBroadcast ports after.up)) (port_down_on ports before after number)
          (port_down_owned readings again P K allows ports are after.up new.ups before after old new number on))
      | inr down ↦ rw down tt
    ]

    up_all : (runs periodic : Bool) (number : ℕ) → number < length ports → (runs ≡ true → is_up after.up number ≡ true)
        → Casts after.up (sends_of ports before after runs periodic (PortUp number))
    up_all false periodic number on comes = tt
    up_all true periodic number on comes = elim (cases_Bool (is_up before.up number)) [
      | inl is ↦ rw is tt
      | inr down ↦
          rw down (each_owned readings again P K allows ports are after.up new.ups (IsOwned P ports after.up (IsBroadcast ports after.up)) (port_up_on ports after number)
          (port_up_owned readings again P K allows ports are after.up new.ups after refl opens new number on (comes refl)))
    ]

  -- ---- over histories

  module _ (most_routes most_services : ℕ) (history : History) where
    abbrev held_after : History → List RouteOffer
    held_after history = offers (routes_held ports most_routes history)

    fits : (history : History) → AllByRecursion IsOfBytes history → AllByRecursion K (held_after history)
        → Fits K ports (holding ports most_routes most_services history)
    fits history bytes table = search (rules, ports_up-within, held_routes_fit, held_services_fit)

    -- what an event sends, if such are the networks of the ports that are up after it, and its routes before it and after it
    pub sendings_of : (event : Event) → AllByRecursion (IsOnPort ports) (history ++ event ∷ []) → AllByRecursion IsOfBytes (history ++ event ∷ [])
        → Opens P ports (ports_up ports (history ++ event ∷ [])) → AllByRecursion K (held_after history) → AllByRecursion K (held_after (history ++ event ∷ []))
        → AllByRecursion (IsSending P ports (ports_sending ports history event) (held_after history) (running history) event)
        (sends ports most_routes most_services history event)
    sendings_of event on bytes opens kept keeps =
        by event (fits history (all_before IsOfBytes history (event ∷ []) bytes) kept) (fits (history ++ event ∷ []) bytes keeps) opens
        (all_behind (IsOnPort ports) history (event ∷ []) on).0 (all_behind IsOfBytes history (event ∷ []) bytes).0
      where
        before : Holding
        before = holding ports most_routes most_services history

        after : Event → Holding
        after event = holding ports most_routes most_services (history ++ event ∷ [])

        Is : Event → Sent → Type 0
        Is event s = IsSending P ports (ports_sending ports history event) (held_after history) (running history) event s

        own : (event : Event) (up : List ℕ) (sent : List Sent) → up ≡ ports_sending ports history event
            → ((s : Sent) → IsBroadcast ports up s → IsSentFor ports up (held_after history) (running history) event s)
            → AllByRecursion (IsOwned P ports up (IsBroadcast ports up)) sent → AllByRecursion (Is event) sent
        own event up sent same step all =
            subst (λ (u : List ℕ). AllByRecursion (IsSending P ports u (held_after history) (running history) event) sent) same
            (all_then (IsOwned P ports up (IsBroadcast ports up)) (IsSending P ports up (held_after history) (running history) event)
            (λ s is. inl (record { own = step s is.own; short = is.short; bytes = is.bytes; entries = is.entries })) sent all)

        by : (event : Event) → Fits K ports before → Fits K ports (after event) → Opens P ports (ports_up ports (history ++ event ∷ [])) → IsOnPort ports event → IsOfBytes event
            → AllByRecursion (Is event) (sends ports most_routes most_services history event)
        by Start old new opens on bytes =
            own Start (after Start).up (sends ports most_routes most_services history Start) refl (λ s is. is)
            (start_all before (after Start) old new opens (running history) (is_periodic history))
        by Stop old new opens on bytes =
            own Stop before.up (sends ports most_routes most_services history Stop) refl (λ s is. is)
            (stop_all before (after Stop) old new opens (running history) (is_periodic history))
        by Second old new opens on bytes =
            own Second (after Second).up (sends ports most_routes most_services history Second) refl (λ s is. is)
            (second_all before (after Second) old new opens (running history) (is_periodic history))
        by (PortDown number) old new opens on bytes =
            own (PortDown number) (after (PortDown number)).up (sends ports most_routes most_services history (PortDown number)) refl (λ s is. is)
            (down_all before (after (PortDown number)) old new opens (running history) (is_periodic history) number on)
        by (PortUp number) old new opens on bytes =
            own (PortUp number) (after (PortUp number)).up (sends ports most_routes most_services history (PortUp number)) refl (λ s is. is)
            (up_all before (after (PortUp number)) old new opens (running history) (is_periodic history) number on (port_comes_up ports history number on))
        by (Packet number bytes) old new opens on are_bytes =
            let stay = ports_stay ports history (Packet number bytes) refl refl (λ port. refl) (λ port. refl) in
            subst (λ (up : List ℕ). AllByRecursion (IsSending P ports up (held_after history) (running history) (Packet number bytes))
            (sends ports most_routes most_services history (Packet number bytes))) (sym stay)
            (packet_all before (after (Packet number bytes)) stay old new (subst (Opens P ports) stay opens) (held_routes_up ports most_routes history)
            number bytes are_bytes (running history))

-- ---- whatever the entries

-- nothing is asked of an entry
abbrev pub Any : RipEntry → Type 0
Any entry = Unit

pub sendings : Readings → Rereadings → IsListed → (ports : List Port) → AllByRecursion IsPort ports → (most_routes most_services : ℕ) (history : History) (event : Event)
    → AllByRecursion (IsOnPort ports) (history ++ event ∷ []) → AllByRecursion IsOfBytes (history ++ event ∷ [])
    → AllByRecursion (IsSending Any ports (ports_sending ports history event) (offers (routes_held ports most_routes history)) (running history) event)
    (sends ports most_routes most_services history event)
sendings readings again listed ports are most_routes most_services history event on bytes =
    sendings_of readings again listed Any (λ route. Unit) (record { asking = tt; gone = λ e. tt; heard = λ r c is. tt }) ports are
    most_routes most_services history event on bytes (λ port cost there. tt) (anything (offers (routes_held ports most_routes history)))
    (anything (offers (routes_held ports most_routes (history ++ event ∷ []))))

-- by the layouts alone
pub sent_for : (P : RipEntry → Type 0) (ports : List Port) (up : List ℕ) (routes : List RouteOffer) (runs : Bool) (event : Event) (sent : List Sent)
    → AllByRecursion (IsSending P ports up routes runs event) sent → AllByRecursion (IsSentFor ports up routes runs event) sent
sent_for P ports up routes runs event sent all = all_then (IsSending P ports up routes runs event) (IsSentFor ports up routes runs event) one sent all
  where
    one : (s : Sent) → IsSending P ports up routes runs event s → IsSentFor ports up routes runs event s
    one s (inl is) = is.own
    one s (inr is) = is.own
