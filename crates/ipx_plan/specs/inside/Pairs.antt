-- How the pairs are found: those that are the same first, then those at the same port; the new links in order, each with the first old one.
use Rattle.std.specs.Prelude.{ℕ, zero, suc, Bool, ◌==◌, ◌&&◌, not, if◌then◌else◌, List, length, get_or, set, replicate, Option, None, Some, is_some}
use Rattle.ipx_plan.specs.declared.link.Link.{Link}
use Rattle.ipx_plan.specs.Likeness.{same, at_port, distance_at}
use Rattle.ipx_plan.specs.Pairing.{becomes}

-- the first number below n that passes a test
abbrev pub or_last : (ℕ → Bool) → Option ℕ → ℕ → Option ℕ
or_last passes (Some found) n = Some found
or_last passes None n = if passes n then Some n else None

abbrev pub first_below : (ℕ → Bool) → ℕ → Option ℕ
first_below passes zero = None
first_below passes (suc n) = or_last passes (first_below passes n) n

-- old link j is at that distance of new link k, and no new link continues it
abbrev pub is_free : (ℕ → ℕ → ℕ) → ℕ → List (Option ℕ) → ℕ → ℕ → Bool
is_free far wanted was k j = (far j k == wanted) && not (is_some (becomes was j))

-- new link k, if it continues none yet, continues the first that is free
abbrev pub with_link : (ℕ → ℕ → ℕ) → ℕ → ℕ → List (Option ℕ) → ℕ → List (Option ℕ)
with_link far count wanted was k =
    if is_some (get_or was k None) then was else set was k (first_below (is_free far wanted was k) count)

-- so do the new links below n
abbrev pub with_links : (ℕ → ℕ → ℕ) → ℕ → ℕ → List (Option ℕ) → ℕ → List (Option ℕ)
with_links far count wanted was zero = was
with_links far count wanted was (suc n) = with_link far count wanted (with_links far count wanted was n) n

abbrev pub paired : List Link → List Link → List (Option ℕ)
paired old new =
    let far = distance_at old new in
    let close = with_links far (length old) same (replicate (length new) None) (length new) in
    with_links far (length old) at_port close (length new)
