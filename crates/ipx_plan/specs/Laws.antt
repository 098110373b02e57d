-- The words of the laws.
use Rattle.std.specs.Prelude.{◌≡◌, ◌⊎◌, ℕ, true, false, Option, Some}
use Rattle.std.specs.Option.{option_map, option_and_then}
use Rattle.std.specs.List.{slice_get}
use Rattle.ipx_plan.specs.declared.origin.Cable.{Cable}
use Rattle.ipx_plan.specs.declared.origin.Cable.TheVariants.{Kept}
use Rattle.ipx_plan.specs.declared.origin.Origin.{Origin}
use Rattle.ipx_plan.specs.declared.origin.Tunnel.{Tunnel}
use Rattle.ipx_plan.specs.declared.origin.Tunnel.TheVariants.{Absent, Stays, Again}
use Rattle.ipx_plan.specs.declared.fate.Fate.{Fate}
use Rattle.ipx_plan.specs.Planned.{Planned}

-- ---- what a plan says of one link; nothing of one that isn't there

-- the old link that new link k continues
abbrev pub was_of : Planned → ℕ → Option ℕ
was_of plan k = option_and_then (λ o. o.was) (slice_get plan.origins k)

-- the new link that continues old link j
abbrev pub becomes_of : Planned → ℕ → Option ℕ
becomes_of plan j = option_and_then (λ f. f.becomes) (slice_get plan.fates j)

-- the cable of new link k
abbrev pub cable_of : Planned → ℕ → Option Cable
cable_of plan k = option_map (λ o. o.cable) (slice_get plan.origins k)

-- its tunnel
abbrev pub tunnel_of : Planned → ℕ → Option Tunnel
tunnel_of plan k = option_map (λ o. o.tunnel) (slice_get plan.origins k)

-- the tunnel that it continues goes on there, with its clients
abbrev pub GoesOn : Planned → ℕ → Type 0
GoesOn plan k = (tunnel_of plan k ≡ Some Stays) ⊎ (tunnel_of plan k ≡ Some Again)

-- ---- nothing to do

-- new link k is what old link k was
pub record IsAsItWas (k : ℕ) (origin : Origin) : Type 0 where
  pub was : origin.was ≡ Some k
  pub as_before : origin.is_as_before ≡ true
  pub kept : ℕ
  pub cable : origin.cable ≡ Kept kept
  pub tunnel : (origin.tunnel ≡ Absent) ⊎ (origin.tunnel ≡ Stays)
  pub clients : origin.has_other_clients ≡ false
  pub sockets : origin.has_other_sockets ≡ false

-- old link j goes on as new link j, and nothing of it ends
pub record GoesOnWhole (j : ℕ) (fate : Fate) : Type 0 where
  pub becomes : fate.becomes ≡ Some j
  pub stays_open : fate.is_closed ≡ false
  pub tunnel : fate.ends_tunnel ≡ false
