-- Rounds: what holds of all that waits when a round begins, and of all that waits when it is over.
use Rattle.std.proofs.Common.{◌≡◌, sym, subst, ℕ, true, List, [], ◌∷◌, ◌++◌, length, flat_map, append_assoc, append-nil}
use Rattle.std.specs.List.{AllByRecursion}
use Rattle.ipx_router.specs.History.{History, Packet}
use Rattle.ipx_router.specs.Relays.{Sent}
use Rattle.ipx_internet.specs.Delivery.{receives, delivered}
use Rattle.ipx_internet.specs.Internet.{Internet, Place, IsPlace}
use Rattle.ipx_internet.specs.Queue.{Delivery, Queued, deliveries_of, with_event, sends_at, settled}
use Rattle.ipx_internet.specs.Rounds.{round}
use Rattle.ipx_internet.proofs.lists.EachElement.{all-append, all-map, all-flat_map}
use Rattle.ipx_internet.proofs.places.EachPortOnce.{delivered_within}

module _ (net : Internet) (most_routes most_services : ℕ) where
  -- the histories after a delivery
  abbrev pub happened : List History → Delivery → List History
  happened histories d = with_event histories d.to.router (Packet d.to.port d.bytes)

  -- the packets that are sent for a delivery
  abbrev pub sents : List History → Delivery → List Sent
  sents histories d = sends_at net most_routes most_services histories d.to.router (Packet d.to.port d.bytes)

  -- the deliveries of them
  abbrev pub sent_for : List History → Delivery → List Delivery
  sent_for histories d = flat_map (deliveries_of net d.to.router) (sents histories d)

  -- while I holds of the histories, each delivery that Old holds of keeps it, sends only what New holds of, and leaves New as it is
  pub record Steps (I : List History → Type 0) (Old : Delivery → Type 0) (New : List History → Delivery → Type 0) : Type 0 where
    pub keeps : (histories : List History) (d : Delivery) → I histories → Old d → I (happened histories d)
    pub sends : (histories : List History) (d : Delivery) → I histories → Old d → AllByRecursion (New (happened histories d)) (sent_for histories d)
    pub lasts : (histories : List History) (d other : Delivery) → I histories → Old d → New histories other → New (happened histories d) other

  -- I holds of the histories, and New of all that waits
  pub record Holds (I : List History → Type 0) (New : List History → Delivery → Type 0) (q : Queued) : Type 0 where
    pub histories : I q.histories
    pub queue : AllByRecursion (New q.histories) q.queue

  module _ (I : List History → Type 0) (Old : Delivery → Type 0) (New : List History → Delivery → Type 0) (steps : Steps I Old New) where
    -- what waited is handed out, and what is sent for it stands behind
    part : (front back : List Delivery) (histories : List History) → I histories → AllByRecursion Old front → AllByRecursion (New histories) back
        → Holds I New (settled net most_routes most_services (length front) (record { histories = histories; queue = front ++ back }))
    part [] back histories is old new = record { histories = is; queue = new }
    part (d ∷ front) back histories is old new =
        let after = happened histories d in
        let sent = sent_for histories d in
        subst (λ (ds : List Delivery). Holds I New (settled net most_routes most_services (length front) (record { histories = after; queue = ds })))
        (sym (append_assoc front back sent))
        (part front (back ++ sent) after (steps.keeps histories d is old.0) old.1
        (all-append (New after) back sent (lasting back new) (steps.sends histories d is old.0)))
      where
        lasting : (others : List Delivery) → AllByRecursion (New histories) others → AllByRecursion (New (happened histories d)) others
        lasting [] all = tt
        lasting (other ∷ others) all = (steps.lasts histories d other is old.0 all.0, lasting others all.1)

    pub rounded : (q : Queued) → I q.histories → AllByRecursion Old q.queue → Holds I New (round net most_routes most_services q)
    rounded q is old =
        subst (λ (ds : List Delivery). Holds I New (settled net most_routes most_services (length q.queue) (record { histories = q.histories; queue = ds })))
        (append-nil q.queue) (part q.queue [] q.histories is old tt)

  -- what is said of each packet that a router sends, and of each port that receives it, is so of each delivery
  pub each_delivery : (New : Delivery → Type 0) (Is : Sent → Type 0) (router : ℕ)
      → ((s : Sent) (to : Place) → Is s → IsPlace net to → receives net (record { router = router; port = s.port }) s.link to ≡ true → New (record { to = to; bytes = s.bytes }))
      → (ss : List Sent) → AllByRecursion Is ss → AllByRecursion New (flat_map (deliveries_of net router) ss)
  each_delivery New Is router step ss all = all-flat_map Is New (deliveries_of net router) one ss all
    where
      one : (s : Sent) → Is s → AllByRecursion New (deliveries_of net router s)
      one s is =
          let from : Place = record { router = router; port = s.port } in
          all-map (λ to. IsPlace net to × (receives net from s.link to ≡ true)) New (λ to. record { to = to; bytes = s.bytes })
          (λ to there. step s to is there.0 there.1) (delivered net from s.link) (delivered_within net from s.link)
