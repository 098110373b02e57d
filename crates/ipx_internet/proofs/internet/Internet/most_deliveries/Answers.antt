use Rattle.std.proofs.Common.{◌≡◌, refl, sym, ap, ap₂, ◌∙◌, subst, ◌*◌, ◌++◌, ◌∷◌, ℕ, List, [], drop, length, vec_len, arith, rules}
use Rattle.std.proofs.lemmas.Bool.{eqb-false}
use Rattle.std.specs.List.{sum_by}
use Rattle.std.proofs.lemmas.List.Sums.{sum_by-append}
use Rattle.ipx_router.specs.Stands.{State}
use Rattle.ipx_internet.specs.Internet.{Internet}
use Rattle.ipx_internet.specs.InternetWeight.{most_hearers, delivery_weight, records_at, internet_weight}
use Rattle.ipx_internet.specs.Moment.{Moment}
use Rattle.ipx_internet.specs.Most.{most_ports, most_on_network}
use Rattle.ipx_internet.specs.Queue.{Delivery}
use Rattle.ipx_internet.specs.inside.Scales.{saturated, IsScale}
use Rattle.ipx_internet.specs.inside.Simulated.{moment, net_among}
use Rattle.ipx_internet.proofs.internet.Internet.most_deliveries.Goals as goal
use Rattle.ipx_internet.proofs.weights.CountedUpToAWord.{scaled}
use Rattle.ipx_internet.proofs.weights.WeighedOneByOne.{nothing_weighs}

pub returns-then-is_empty-clause-value : goal.returns-then-is_empty-clause-value
returns-then-is_empty-clause-value g c =
    let states = c.self.inside.routers.items in
    let size : length states ≡ 0 = search rules in
    let none : states ≡ [] = no_router states size in
    let weight = nothing_weighs g.row.R g.row.S (moment states (drop c.self.inside.done c.self.inside.front.deliveries ++ c.self.inside.back.deliveries)) none c.self.invariant.coming in
    let same = ap (λ (m : Moment). internet_weight g.row.R g.row.S m) c.self.view_is in
    omega (arith, weight, same)
  where
    no_router : (states : List State) → length states ≡ 0 → states ≡ []
    no_router [] size = refl
    no_router (s ∷ states) size = absurd (omega (arith, size))

pub returns-then-is_empty-clause-enough : goal.returns-then-is_empty-clause-enough
returns-then-is_empty-clause-enough g c = λ small.
    let value = returns-then-is_empty-clause-value g c in
    omega (arith, value, small)

pub weigh-front-requires : goal.weigh-front-requires
weigh-front-requires g c =
    let states = c.self.inside.routers.items in
    let scale : IsScale (net_among states) g.row.R g.row.S c.scale_of-scale.result =
    c.scale_of-scale.ensures (net_among states)
    (c.most_ports-ports.ensures ∙ ap (λ (ss : List State). most_ports (net_among ss)) c.deref-2.ensures.value)
    (c.most-on_network.ensures.exact (net_among states) c.self.invariant.sound.stationed) in
    (c.proves_sized.ensures, subst (λ (ss : List State). IsScale (net_among ss) g.row.R g.row.S c.scale_of-scale.result) (sym c.deref-4.ensures.value) scale)

pub weigh-back-requires : goal.weigh-back-requires
weigh-back-requires g c =
    let states = c.self.inside.routers.items in
    let scale : IsScale (net_among states) g.row.R g.row.S c.scale_of-scale.result =
    c.scale_of-scale.ensures (net_among states)
    (c.most_ports-ports.ensures ∙ ap (λ (ss : List State). most_ports (net_among ss)) c.deref-2.ensures.value)
    (c.most-on_network.ensures.exact (net_among states) c.self.invariant.sound.stationed) in
    (c.proves_sized.ensures, subst (λ (ss : List State). IsScale (net_among ss) g.row.R g.row.S c.scale_of-scale.result) (sym c.deref-5.ensures.value) scale)

pub returns-clause-value : goal.returns-clause-value
returns-clause-value g c =
    let states = c.self.inside.routers.items in
    let net : Internet = net_among states in
    let w : Delivery → ℕ = delivery_weight net g.row.R g.row.S in
    let front = drop c.self.inside.done c.self.inside.front.deliveries in
    let back = c.self.inside.back.deliveries in
    let ports : c.most_ports-ports.result ≡ most_ports net =
    c.most_ports-ports.ensures ∙ ap (λ (ss : List State). most_ports (net_among ss)) c.deref-2.ensures.value in
    let on_network : c.most-on_network.result ≡ most_on_network net = c.most-on_network.ensures.exact net c.self.invariant.sound.stationed in
    let scale : IsScale net g.row.R g.row.S c.scale_of-scale.result = c.scale_of-scale.ensures net ports on_network in
    let records : c.records.result ≡ saturated (records_at states) =
    c.records.ensures ∙ ap (λ (ss : List State). saturated (records_at ss)) c.deref-3.ensures.value in
    let held : c.saturating_mul-held.result ≡ saturated (most_hearers net * records_at states) =
    c.saturating_mul-held.ensures ∙ ap₂ (λ (p n : ℕ). saturated (p * n)) scale.hearers records ∙ scaled (most_hearers net) (records_at states) in
    let first : c.weigh-front.result ≡ saturated (sum_by w front) =
    c.weigh-front.ensures ∙ ap (λ (ss : List State). saturated (sum_by (delivery_weight (net_among ss) g.row.R g.row.S) front)) c.deref-4.ensures.value in
    let later : c.weigh-back.result ≡ saturated (sum_by w back) =
    c.weigh-back.ensures ∙ ap (λ (ss : List State). saturated (sum_by (delivery_weight (net_among ss) g.row.R g.row.S) back)) c.deref-5.ensures.value in
    let joined = sum_by-append w front back in
    let waiting = c.saturating_add.ensures in
    let sum = c.saturating_add-2.ensures in
    let same = ap (λ (m : Moment). internet_weight g.row.R g.row.S m) c.self.view_is in
    omega (arith, held, first, later, joined, waiting, sum, same)

pub returns-clause-enough : goal.returns-clause-enough
returns-clause-enough g c = λ small.
    let value = returns-clause-value g c in
    omega (arith, value, small)

pub records-requires : goal.records-requires
records-requires g c = first_of (assumption c.well_formed, search c.well_formed)

pub most_ports-ports-requires : goal.most_ports-ports-requires
most_ports-ports-requires g c = first_of (assumption c.well_formed, search c.well_formed)

pub proves_sized-requires : goal.proves_sized-requires
proves_sized-requires g c =
    let some = eqb-false (vec_len c.self.inside.routers) 0 (sym c.is_empty.ensures ∙ c.if-is_empty.false) in
    let size = c.deref.ensures.len in
    omega (arith, some, size)
