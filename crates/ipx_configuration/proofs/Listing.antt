-- All links are told.
use Rattle.std.proofs.Common.{◌≡◌, ℕ, ◌<◌, true, List, length, refl, arith, Some, inl, inr}
use Rattle.std.specs.Prelude.{slice_get}
use Rattle.std.specs.Option.{is_some}
use Rattle.std.proofs.lemmas.List.{length-take-le}
use Rattle.std.proofs.lemmas.Option.{slice_get_cases}
use Rattle.ipx_configuration.specs.Configured.{configured}
use Rattle.ipx_configuration.specs.Memory.{networks_in, links_in}
use Rattle.ipx_configuration.specs.declared.configuration.Capacity.{Capacity}
use Rattle.ipx_configuration.specs.declared.configuration.Configuration.{Configuration}
use Rattle.ipx_configuration.proofs.Apart.{HoldsAll}

-- something stands at each place of a list
at_place : {X : Type 0} (xs : List X) (k : ℕ) → k < length xs → (x : X) × (slice_get xs k ≡ Some x)
at_place xs k less = elim (slice_get_cases xs k).1 [
  | inl there ↦ (there.0, there.2)
  | inr past ↦ absurd (omega (arith, less, past.0))
]

pub is_told : (capacity : Capacity) (k : ℕ) (c : Configuration) → HoldsAll c → k < c.links.count → is_some (configured capacity k c) ≡ true
is_told capacity k c h less =
    let long : length (links_in c.links) ≡ c.links.count = length-take-le c.links.count c.links.list (omega (arith, h.links.room, h.links.within)) in
    let link = at_place (links_in c.links) k (omega (arith, long, less)) in
    let inside = h.links.placed.inside k link.0 link.1 in
    let many : length (networks_in c.networks) ≡ c.networks.count = length-take-le c.networks.count c.networks.list (omega (arith, h.room, h.within)) in
    let network = at_place (networks_in c.networks) link.0.network (omega (arith, many, inside)) in
    rw (link.1, network.1) refl
