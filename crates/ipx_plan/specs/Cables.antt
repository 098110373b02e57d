-- What becomes of cables.
use Rattle.std.specs.Prelude.{ℕ, Bool, true, false, ◌==◌, ◌&&◌, ◌||◌, not, if◌then◌else◌, List, Option, None, Some}
use Rattle.std.specs.Bool.{beq}
use Rattle.std.specs.List.{position, list_any}
use Rattle.ipx_plan.specs.declared.carrier.Carrier.{Carrier}
use Rattle.ipx_plan.specs.declared.link.Link.{Link}
use Rattle.ipx_plan.specs.declared.origin.Cable.{Cable}
use Rattle.ipx_plan.specs.declared.origin.Cable.TheVariants.{Kept, Opened}
use Rattle.ipx_plan.specs.Carriers.{same_carrier, is_card, is_shared}
use Rattle.ipx_plan.specs.Likeness.{same_link}
use Rattle.ipx_plan.specs.Pairing.{is_number}

-- a link is carried as the one that it continues. (the socket of a card hears frames for others only where its network has several links)
abbrev pub is_as_before : Option Link → Link → Bool
is_as_before None link = false
is_as_before (Some before) link =
    same_link before link && (not (is_card link.carrier) || beq before.is_of_several link.is_of_several)

-- the first link on a carrier
abbrev pub first_on : Carrier → List Link → Option ℕ
first_on carrier links = position (λ l. same_carrier l.carrier carrier) links

-- A cable that links share: the one that is open on that carrier, for whatever network and in whatever kind of frames; else it is opened for
-- the first of them.
abbrev pub shared_cable : Option ℕ → Option ℕ → ℕ → Cable
shared_cable (Some j) first k = Kept j
shared_cable None (Some i) k = Opened i
shared_cable None None k = Opened k

-- a cable of a link's own: the one that it had, if it is carried as before
abbrev pub own_cable : Option ℕ → Bool → ℕ → Cable
own_cable (Some j) true k = Kept j
own_cable was as_before k = Opened k

-- the cable of new link k
abbrev pub cable : List Link → List Link → Option ℕ → Bool → ℕ → Link → Cable
cable old new was as_before k link =
    if is_shared link.carrier
    then shared_cable (first_on link.carrier old) (first_on link.carrier new) k
    else own_cable was as_before k

-- a link is the first on its cable
abbrev pub is_first_on_cable : List Link → ℕ → Link → Bool
is_first_on_cable links j link = not (is_shared link.carrier) || is_number j (first_on link.carrier links)

-- it is the cable of old link j
abbrev pub is_kept_of : ℕ → Cable → Bool
is_kept_of j (Kept i) = i == j
is_kept_of j (Opened i) = false

-- the cable of old link j is closed: no new link keeps it
abbrev pub is_closed : List Link → List Cable → ℕ → Link → Bool
is_closed old cables j link = is_first_on_cable old j link && not (list_any (is_kept_of j) cables)
