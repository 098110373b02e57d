-- What flew at first is sent on by sixteen routers at most, so that what is sent on of it is sent soon; and what is said for it is over soon.
use Rattle.std.proofs.Common.{◌≡◌, refl, sym, subst, ◌⊎◌, ℕ, suc, ◌+◌, ◌*◌, ◌<◌, ◌≤◌, List, [], ◌∷◌, length, flat_map, Option, None, Some, Ok, inl, inr, arith}
use Rattle.std.specs.List.{AllByRecursion}
use Rattle.std.proofs.Math.Nat.{mul-le-mul_right}
use Rattle.ipx_wire.specs.Packet.{Parts, packet_of}
use Rattle.ipx_wire.specs.Piece.{IsBytes}
use Rattle.ipx_router.specs.Facts.{heard_after}
use Rattle.ipx_router.specs.Heard.{Heard}
use Rattle.ipx_router.specs.History.{Event, History, Packet, IsOnPort, IsOfBytes}
use Rattle.ipx_router.specs.Numbers.{most_routers}
use Rattle.ipx_router.specs.Port.{Port, port_at}
use Rattle.ipx_router.specs.Relays.{Sent}
use Rattle.ipx_router.proofs.bytes.ReadInOneWay.{one_read}
use Rattle.ipx_router.proofs.lists.EachElement.{all_both}
use Rattle.ipx_internet.specs.Internet.{Internet, IsInternet, ports_of, port_of}
use Rattle.ipx_internet.specs.Queue.{deliveries_of, history_of, sends_at}
use Rattle.ipx_internet.specs.Rounds.{IsDelivery}
use Rattle.ipx_internet.specs.Run.{AreHistories}
use Rattle.ipx_internet.proofs.lists.EachElement.{all_then, all-append}
use Rattle.ipx_internet.proofs.packets.SentOnOrReply.{Layouts, IsReply, IsOnward, unsaid, all_reply}
use Rattle.ipx_internet.proofs.places.OneReceiverOfANode.{ports_at, receives_is}
use Rattle.ipx_internet.proofs.rounds.OneRound.{each_delivery}
use Rattle.ipx_internet.proofs.rounds.SentOnRunsOut.{reply_moves}
use Rattle.ipx_laws.specs.Wires.{most_beats_flying}

module _ (delay slack : ℕ) where
  -- what flew at first, and came through that many routers since, so that it was sent soon
  pub record IsEarly (bytes : List ℕ) (sent : ℕ) : Type 0 where
    pub through : ℕ
    pub few : through ≤ most_routers
    pub soon : sent ≤ through * delay
    pub control : (p : Parts) → packet_of bytes ≡ Ok p → through ≤ p.header.control
    pub room : most_beats_flying delay ≤ slack

  -- when it lands
  pub early_soon : (bytes : List ℕ) (sent beats : ℕ) → IsEarly bytes sent → beats ≤ sent + delay → delay + suc beats ≤ slack
  early_soon bytes sent beats early timely =
      let through = early.through in
      let most : through * delay ≤ most_routers * delay = mul-le-mul_right {m = through} {n = most_routers} delay early.few in
      let room = early.room in
      let soon = early.soon in
      omega (arith, most, room, soon, timely)

  -- what is sent on of what came early is early
  pub early_onward : (port : Port) (came sent : List ℕ) (then beats : ℕ) → IsEarly came then → beats ≤ then + delay → IsOnward port came sent → IsEarly sent beats
  early_onward port came sent then beats early timely on =
      let before = early.control on.packet on.read in
      let few = on.few in
      let soon = early.soon in
      record {
        through = suc early.through;
        few = omega (arith, before, few);
        soon = omega (arith, soon, timely);
        control = λ p read.
            let same : p ≡ on.further = one_read (packet_of sent) p on.further read on.reread in
            let more = on.more in
            subst (λ (q : Parts). suc early.through ≤ q.header.control) (sym same) (omega (arith, before, more));
        room = early.room;
      }

  -- at first
  pub early_first : most_beats_flying delay ≤ slack → (bytes : List ℕ) → IsEarly bytes 0
  early_first room bytes = record { through = 0; few = omega arith; soon = omega arith; control = λ p read. omega arith; room = room }

  -- an answer to what flew at first: whatever it says is over soon
  pub record IsOver (port : Port) (bytes : List ℕ) (sent : ℕ) : Type 0 where
    pub reply : IsReply port bytes
    pub soon : delay + suc sent ≤ slack

  abbrev pub IsSoon : Port → List ℕ → ℕ → Type 0
  IsSoon port bytes sent = IsEarly bytes sent ⊎ IsOver port bytes sent

-- ---- what a router sends for what flew at first

module _ (delay slack : ℕ) (net : Internet) (laws : Layouts) (is : IsInternet net) (most_routes most_services beats : ℕ) (histories : List History)
    (are : AreHistories net histories) (router : ℕ) where
  abbrev ports : List Port
  ports = ports_of net router

  abbrev past : History
  past = history_of histories router

  abbrev SentSoon : Sent → Type 0
  SentSoon s = IsSoon delay slack (port_at ports s.port) s.bytes beats

  -- it comes as such
  pub soon_comes : (event : Event) → IsOnPort ports event → IsOfBytes event → AllByRecursion SentSoon (sends_at net most_routes most_services histories router event)
      → AllByRecursion (λ d. IsDelivery net d × IsSoon delay slack (port_of net d.to) d.bytes beats)
      (flat_map (deliveries_of net router) (sends_at net most_routes most_services histories router event))
  soon_comes event on of_bytes soon =
      let sents = sends_at net most_routes most_services histories router event in
      let bytes = laws.bytes ports most_routes most_services past event (ports_at net is router)
      (all-append (IsOnPort ports) past (event ∷ []) (are.on_ports router) (on, tt)) (all-append IsOfBytes past (event ∷ []) (are.of_bytes router) (of_bytes, tt)) in
      each_delivery net most_routes most_services (λ d. IsDelivery net d × IsSoon delay slack (port_of net d.to) d.bytes beats) (λ s. IsBytes s.bytes × SentSoon s) router
      (λ s to both there received. (
        record { place = there; bytes = both.0 },
        moves (port_at ports s.port) (port_of net to) s.bytes (receives_is net (record { router = router; port = s.port }) s.link to received).network both.1,
      )) sents (all_both (λ s. IsBytes s.bytes) SentSoon sents bytes soon)
    where
      moves : (a b : Port) (bytes : List ℕ) → b.network ≡ a.network → IsSoon delay slack a bytes beats → IsSoon delay slack b bytes beats
      moves a b bytes same (inl early) = inl early
      moves a b bytes same (inr over) = inr (record { reply = reply_moves a b bytes same over.reply; soon = over.soon })

  -- and so it is sent, if what is sent on is early
  pub soon_sent : (number : ℕ) (bytes : List ℕ) → number < length ports → IsBytes bytes → delay + suc beats ≤ slack
      → ((s : Sent) → IsOnward (port_at ports number) bytes s.bytes → IsEarly delay slack s.bytes beats)
      → AllByRecursion SentSoon (sends_at net most_routes most_services histories router (Packet number bytes))
  soon_sent number bytes place of_bytes soon early = by (heard_after ports past number bytes) refl
    where
      here : List Sent
      here = sends_at net most_routes most_services histories router (Packet number bytes)

      by : (o : Option Heard) → heard_after ports past number bytes ≡ o → AllByRecursion SentSoon here
      by None e =
          all_then (λ s. IsOnward (port_at ports number) bytes s.bytes) SentSoon (λ s onward. inl (early s onward)) here
          (unsaid laws ports (ports_at net is router) most_routes most_services past (are.on_ports router) (are.of_bytes router) number bytes place of_bytes e)
      by (Some m) e =
          all_then (λ s. IsReply (port_at ports s.port) s.bytes) SentSoon (λ s reply. inr (record { reply = reply; soon = soon })) here
          (all_reply laws ports (ports_at net is router) most_routes most_services past (are.on_ports router) (are.of_bytes router) number bytes place of_bytes m e)
