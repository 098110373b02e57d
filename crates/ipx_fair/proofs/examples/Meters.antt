-- A limit of so much at once.
use Rattle.std.proofs.Common.{◌≡◌, refl, true, false, lit<, inl, lit≤}
use Rattle.ipx_fair.specs.Serving.{Passed}
use Rattle.ipx_fair.specs.Hearing.{Said}
use Rattle.ipx_fair.specs.Meters.{metered, lets, used_after}

pub just_fits : lets (record { used = 7 }) 10 3 ≡ true
just_fits = refl

pub too_much : lets (record { used = 8 }) 10 3 ≡ false
too_much = refl

pub counted : used_after (record { used = 7 }) 3 true ≡ record { used = 10 }
counted = refl

pub not_counted : used_after (record { used = 8 }) 3 false ≡ record { used = 8 }
not_counted = refl

-- the same of the receiver that it is
pub heard : Said 0 3 true (metered 10 (record { used = 7 })) (metered 10 (record { used = 10 }))
heard = record { there = lit< tt; setting = refl; left = refl; decided = refl; queues = refl }

pub passed : Passed 12 (metered 10 (record { used = 10 })) (metered 10 (record { used = 0 }))
passed = record { setting = refl; served = record { level = 10; queues = refl; time_used = inl (refl, refl, lit≤ tt) } }
