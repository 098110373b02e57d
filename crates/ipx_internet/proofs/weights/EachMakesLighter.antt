-- Each settled delivery makes an internet lighter, so that its weight is a limit with which it settles.
use Rattle.std.proofs.Common.{◌≡◌, ◌≢◌, refl, ap, ℕ, zero, suc, ◌+◌, ◌*◌, ◌<◌, ◌≤◌, List, [], ◌∷◌, ◌++◌, length, Option, Some, None, inl, inr, arith, mul-add, get_or-set_same, get_or-set_other}
use Rattle.std.specs.List.{AllByRecursion, sum_by}
use Rattle.std.proofs.lemmas.Bool.{cases_eq}
use Rattle.std.proofs.lemmas.List.Sums.{sum_by-cons, sum_by-append, sum_by_push}
use Rattle.ipx_router.specs.Heard.{Heard}
use Rattle.ipx_router.specs.History.{History, Packet, IsOnPort}
use Rattle.ipx_router.specs.Port.{Port, numbers}
use Rattle.ipx_internet.specs.Internet.{Internet, IsInternet, NodesDiffer, ports_of}
use Rattle.ipx_internet.specs.InternetWeight.{most_hearers, delivery_weight, weight_of, records_of, records_after, queued_weight}
use Rattle.ipx_internet.specs.Queue.{Delivery, Queued, history_of, settled}
use Rattle.ipx_internet.specs.Rounds.{IsDelivery}
use Rattle.ipx_internet.specs.Run.{AreHistories}
use Rattle.ipx_internet.specs.Tree.{IsRouter, router_now}
use Rattle.ipx_internet.proofs.deliveries.SettledOneByOne.{none_settle}
use Rattle.ipx_internet.proofs.deliveries.WaitsAfterDelivery.{there}
use Rattle.ipx_internet.proofs.packets.SentOnIsBytes.{SentOn}
use Rattle.ipx_internet.proofs.packets.SentOnOrReply.{Layouts}
use Rattle.ipx_internet.proofs.packets.SentOnReadAgain.{Wire}
use Rattle.ipx_internet.proofs.rounds.FewDeliveriesARound.{Rooms}
use Rattle.ipx_internet.proofs.rounds.OneRound.{happened, sent_for}
use Rattle.ipx_internet.proofs.ticks.TickCanBeHad.{Sound, delivery_sound}
use Rattle.ipx_internet.proofs.trees.NextLevelIsBounded.{Relaying}
use Rattle.ipx_internet.proofs.weights.HeardMakesLighter.{OnUps, heard_lighter}
use Rattle.ipx_internet.proofs.weights.HeardPaysItsChanges as outlays
use Rattle.ipx_internet.proofs.weights.SentOnMakesLighter.{unheard_lighter}

-- where one number changes, the sum changes by it
module _ (f g : ℕ → ℕ) (one : ℕ) (same : (k : ℕ) → k ≢ one → g k ≡ f k) where
  before_it : (n : ℕ) → n ≤ one → sum_by g (numbers n) ≡ sum_by f (numbers n)
  before_it zero below = refl
  before_it (suc n) below =
      let rest = before_it n (omega (arith, below)) in
      let here = same n (λ e. omega (arith, below, e)) in
      let last = sum_by_push g (numbers n) n in
      let was = sum_by_push f (numbers n) n in
      omega (arith, rest, here, last, was)

  one_changed : (n : ℕ) → one < n → sum_by g (numbers n) + f one ≡ sum_by f (numbers n) + g one
  one_changed zero there = absurd (omega (arith, there))
  one_changed (suc n) there =
      let last = sum_by_push g (numbers n) n in
      let was = sum_by_push f (numbers n) n in
      elim (cases_eq n one) [
        | inl here ↦
            let rest = before_it n (omega (arith, here)) in
            let now = ap g here in
            let then = ap f here in
            omega (arith, rest, last, was, now, then)
        | inr other ↦
            let rest = one_changed n (omega (arith, there, other)) in
            let here = same n other in
            omega (arith, rest, last, was, here)
      ]

-- the laws of packets and routers that weights rest on
pub record Weighed : Type 0 where
  pub wire : Wire
  pub relaying : Relaying
  pub over : SentOn
  pub layouts : Layouts
  pub ups : OnUps
  pub rooms : Rooms
  pub right : (ports : List Port) (most_routes : ℕ) (history : History) → AllByRecursion (IsOnPort ports) history → IsRouter (router_now ports most_routes history)

module _ (laws : Weighed) (net : Internet) (is : IsInternet net) (differ : NodesDiffer net) (most_routes most_services : ℕ) where
  abbrev weigh : List Delivery → ℕ
  weigh = sum_by (delivery_weight net most_routes most_services)

  module _ (histories : List History) (are : AreHistories net histories) (d : Delivery) (delivery : IsDelivery net d) where
    abbrev router : ℕ
    router = d.to.router

    abbrev history : History
    history = history_of histories router

    abbrev after : List History
    after = happened net most_routes most_services histories d

    abbrev held_before : ℕ
    held_before = outlays.held_before (ports_of net router) most_routes most_services history d.to.port d.bytes

    abbrev held_now : ℕ
    held_now = outlays.held_now (ports_of net router) most_routes most_services history d.to.port d.bytes

    -- at its router
    here : most_hearers net * held_now + weigh (sent_for net most_routes most_services histories d) + 1
        ≤ most_hearers net * held_before + delivery_weight net most_routes most_services d
    here = by (outlays.heard_now (ports_of net router) most_routes most_services history d.to.port d.bytes) refl
      where
        by : (o : Option Heard) → outlays.heard_now (ports_of net router) most_routes most_services history d.to.port d.bytes ≡ o
            → most_hearers net * held_now + weigh (sent_for net most_routes most_services histories d) + 1
            ≤ most_hearers net * held_before + delivery_weight net most_routes most_services d
        by None e =
            unheard_lighter laws.wire laws.relaying laws.over laws.layouts net is differ most_routes most_services histories are
            (λ k. laws.right (ports_of net k) most_routes (history_of histories k) (are.on_ports k)) d delivery e
        by (Some m) e = heard_lighter net laws.layouts laws.ups is most_routes most_services histories are d delivery m e laws.wire laws.rooms differ

    -- at all others nothing changes
    elsewhere : records_after net most_routes most_services after + held_before ≡ records_after net most_routes most_services histories + held_now
    elsewhere =
        let within = there net laws.layouts is most_routes most_services histories are d delivery in
        let each = are.each in
        let listed : router < length histories = omega (arith, within, each) in
        let event = Packet d.to.port d.bytes in
        let counts = records_of net most_routes most_services in
        let now_there : history_of after router ≡ history ++ event ∷ [] = get_or-set_same histories router (history ++ event ∷ []) [] listed in
        let new : counts after router ≡ held_now = ap (outlays.held_after (ports_of net router) most_routes most_services) now_there in
        let changed = one_changed (counts histories) (counts after) router
        (λ k other. ap (outlays.held_after (ports_of net k) most_routes most_services) (get_or-set_other histories router k (history ++ event ∷ []) [] other))
        (length net) within in
        omega (arith, new, changed)

    pub lighter : (queue : List Delivery)
        → weight_of net most_routes most_services (records_after net most_routes most_services after) (queue ++ sent_for net most_routes most_services histories d)
        < weight_of net most_routes most_services (records_after net most_routes most_services histories) (d ∷ queue)
    lighter queue =
        let one = here in
        let all = elsewhere in
        let before = mul-add (most_hearers net) (records_after net most_routes most_services after) held_before in
        let now = mul-add (most_hearers net) (records_after net most_routes most_services histories) held_now in
        let same = ap (λ (n : ℕ). most_hearers net * n) all in
        let joined = sum_by-append (delivery_weight net most_routes most_services) queue (sent_for net most_routes most_services histories d) in
        let first = sum_by-cons (delivery_weight net most_routes most_services) d queue in
        omega (arith, one, before, now, same, joined, first)

  -- ---- queues

  pub quiet : (limit : ℕ) (histories : List History) (queue : List Delivery) → Sound net laws.layouts is most_routes most_services (record { histories = histories; queue = queue })
      → queued_weight net most_routes most_services (record { histories = histories; queue = queue }) ≤ limit
      → (settled net most_routes most_services limit (record { histories = histories; queue = queue })).queue ≡ []
  quiet limit histories [] sound light = ap (λ (q : Queued). q.queue) (none_settle net most_routes most_services limit (record { histories = histories; queue = [] }) refl)
  quiet zero histories (d ∷ queue) sound light =
      let less = lighter histories sound.are d sound.waits.0 queue in
      absurd (omega (arith, light, less))
  quiet (suc limit) histories (d ∷ queue) sound light =
      let less = lighter histories sound.are d sound.waits.0 queue in
      quiet limit (happened net most_routes most_services histories d) (queue ++ sent_for net most_routes most_services histories d)
      (delivery_sound net laws.layouts is most_routes most_services histories (d ∷ queue) sound) (omega (arith, less, light))
