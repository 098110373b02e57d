-- A plan: what each new link is made from, and what becomes of each old one.
use Rattle.std.specs.Prelude.{◌≡◌, ℕ, Bool, List, map, get_or, Option, None, Some}
use Rattle.std.specs.List.{slice_get, enumerate_from}
use Rattle.ipx_plan.specs.declared.link.Link.{Link}
use Rattle.ipx_plan.specs.declared.origin.Origin.{Origin}
use Rattle.ipx_plan.specs.declared.fate.Fate.{Fate}
use Rattle.ipx_plan.specs.declared.origin.Cable.{Cable}
use Rattle.ipx_plan.specs.Pairing.{IsPairing, becomes}
use Rattle.ipx_plan.specs.Cables.{is_as_before, cable, is_closed}
use Rattle.ipx_plan.specs.Tunnels.{tunnel, ends_tunnel, has_other_clients, has_other_sockets}
use Rattle.ipx_plan.specs.Routing.{keeps_router}

-- what a plan has
pub record Planned : Type 0 where
  pub origins : List Origin
  pub fates : List Fate
  pub keeps_router : Bool

-- the link of that number, if there is one
abbrev pub link_of : List Link → Option ℕ → Option Link
link_of links None = None
link_of links (Some number) = slice_get links number

-- what new link k is made from
abbrev pub origin : List Link → List Link → Option ℕ → ℕ → Link → Origin
origin old new was k link =
    let before = link_of old was in
    let as_before = is_as_before before link in
    record {
      was = was;
      is_as_before = as_before;
      cable = cable old new was as_before k link;
      tunnel = tunnel (keeps_router old new) before link;
      has_other_clients = has_other_clients before link;
      has_other_sockets = has_other_sockets before link;
    }

-- of all new links, by what they continue
abbrev pub origins : List Link → List Link → List (Option ℕ) → List Origin
origins old new was = map (λ p. origin old new (get_or was p.0 None) p.0 p.1) (enumerate_from 0 new)

-- what becomes of old link j
abbrev pub fate : List Link → List Link → List Cable → Option ℕ → ℕ → Link → Fate
fate old new cables becomes j link = record {
  becomes = becomes;
  is_closed = is_closed old cables j link;
  ends_tunnel = ends_tunnel link (link_of new becomes);
}

abbrev pub fates : List Link → List Link → List (Option ℕ) → List Fate
fates old new was =
    let cables = map (λ o. o.cable) (origins old new was) in
    map (λ p. fate old new cables (becomes was p.0) p.0 p.1) (enumerate_from 0 old)

-- the plan for two configurations
pub record IsPlan (old new : List Link) (plan : Planned) : Type 0 where
  pub was : List (Option ℕ)
  pub pairing : IsPairing old new was
  pub origins : plan.origins ≡ origins old new was
  pub fates : plan.fates ≡ fates old new was
  pub router : plan.keeps_router ≡ keeps_router old new
