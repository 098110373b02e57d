-- A meter is a receiver with one speaker.
use Rattle.std.specs.Prelude.{ℕ, ◌+◌, Bool, nat_le, if◌then◌else◌, [], ◌∷◌}
use Rattle.ipx_fair.specs.States.{State}
use Rattle.ipx_fair.specs.declared.meter.Meter.{Meter}

-- the receiver that a meter is, at which so much may be said at once
abbrev pub metered : ℕ → Meter → State
metered burst meter = record {
  setting = record { one = burst; own = burst; reserve = 0; room = 0 };
  left = 0;
  queues = meter.used ∷ [];
}

-- it lets that pass
abbrev pub lets : Meter → ℕ → ℕ → Bool
lets meter burst weight = nat_le (meter.used + weight) burst

-- a meter after something passed or didn't
abbrev pub used_after : Meter → ℕ → Bool → Meter
used_after meter weight passed = if passed then record { used = meter.used + weight } else meter
