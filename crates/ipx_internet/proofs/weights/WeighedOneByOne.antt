-- Weights are measured one by one: what packets say, and what records and deliveries weigh together.
use Rattle.std.proofs.lemmas.Grind.{common_steps}
use Rattle.std.proofs.Common.{◌≡◌, refl, sym, ap, ◌∙◌, get_or, ℕ, ◌+◌, ◌-◌, ◌^◌, ◌<◌, ◌≤◌, ◌==◌, true, false, List, [], ◌∷◌, length, drop, slice_get, Some, Ok, arith}
use Rattle.std.specs.List.{AllByRecursion, sum_by}
use Rattle.std.proofs.lemmas.Bool.{cases_lt}
use Rattle.std.proofs.lemmas.List.{drop_more}
use Rattle.std.proofs.lemmas.List.Sums.{sum_by-cons}
use Rattle.ipx_wire.specs.Packet.{Parts}
use Rattle.ipx_wire.specs.Rip.{RipParts, rip_of}
use Rattle.ipx_wire.specs.Sap.{sap_of}
use Rattle.ipx_wire.specs.declared.sap.Sap.{Sap}
use Rattle.ipx_router.specs.Heard.{HeardRip, HeardSap}
use Rattle.ipx_router.specs.Numbers.{propagated_type}
use Rattle.ipx_router.specs.Why.{is_for_rip, is_for_sap}
use Rattle.ipx_internet.specs.Internet.{Internet}
use Rattle.ipx_internet.specs.InternetWeight.{message_weight, said_weight, internet_weight}
use Rattle.ipx_internet.specs.Moment.{Moment, net_at}
use Rattle.ipx_internet.specs.Rounds.{IsDelivery}
use Rattle.ipx_internet.specs.inside.Scales.{saturated}
use Rattle.ipx_internet.proofs.deliveries.FirstIsHandedOut.{first_left, some_router}
use Rattle.ipx_internet.proofs.deliveries.SettledOneByOne.{none_of}

module _ {X : Type 0} where
  -- behind the last there is none
  none_left : (xs : List X) (k : ℕ) → length xs ≤ k → drop k xs ≡ []
  none_left xs k end = grind (arith, common_steps)

  -- the element at hand stands first in what is left
  pub next_left : (xs : List X) (k : ℕ) (x : X) → k < length xs → x ≡ get_or xs k x → drop k xs ≡ x ∷ drop (k + 1) xs
  next_left xs k x there is = drop_more xs k x there ∙ ap (λ y. y ∷ drop (k + 1) xs) (sym is)

  -- ---- the sum of some

  module _ (w : X → ℕ) (xs : List X) (k so_far all : ℕ) (is : saturated (so_far + sum_by w (drop k xs)) ≡ saturated all) where
    pub sum_next : (x : X) → slice_get xs k ≡ Some x → (one : ℕ) → one ≡ saturated (w x)
        → saturated (saturated (so_far + one) + sum_by w (drop (k + 1) xs)) ≡ saturated all
    sum_next x got one is_one =
        let whole = ap (sum_by w) (first_left xs k x got) in
        let parts = sum_by-cons w x (drop (k + 1) xs) in
        omega (arith, is, whole, parts, is_one)

    pub sum_whole : length xs ≤ k → so_far ≤ 2 ^ 64 - 1 → so_far ≡ saturated all
    sum_whole end few = grind (arith, none_left)

-- ---- what a packet says

pub rip_said : (net : Internet) (routes services : ℕ) (p : Parts) (rip : RipParts) → (p.header.kind == propagated_type) ≡ false → is_for_rip p.header ≡ true
    → rip_of p.payload ≡ Ok rip → said_weight net routes services p ≡ message_weight net routes services (HeardRip p.header.source rip)
rip_said net routes services p rip plain for_rip read = rw (plain, for_rip, read) refl

pub sap_said : (net : Internet) (routes services : ℕ) (p : Parts) (sap : Sap) → (p.header.kind == propagated_type) ≡ false → is_for_rip p.header ≡ false
    → is_for_sap p.header ≡ true → sap_of p.payload ≡ Ok sap → said_weight net routes services p ≡ message_weight net routes services (HeardSap p.header.source sap)
sap_said net routes services p sap plain other for_sap read = rw (plain, other, for_sap, read) refl

-- ---- an internet without routers

pub nothing_weighs : (most_routes most_services : ℕ) (m : Moment) → m.routers ≡ [] → AllByRecursion (IsDelivery (net_at m)) m.queue
    → internet_weight most_routes most_services m ≡ 0
nothing_weighs most_routes most_services m none coming = grind (arith, cases_lt, some_router, none_of)
