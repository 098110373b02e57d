-- What goes to places without a client.
use Rattle.std.proofs.Common.{◌≡◌, ◌∙◌, refl, sym, ap, ap₂, arith, ℕ, ◌+◌, ◌-◌, ◌*◌, ◌^◌, ◌<◌, ◌≤◌, max, Bool, true, false, ◌&&◌, if◌then◌else◌, List, [], ◌∷◌}
use Rattle.std.proofs.Math.Nat.{mul-le-mul_left, div-mul-le_self, div-le_self}
use Rattle.std.proofs.lemmas.Bool.{le-leb, leb-true}
use Rattle.ipx_fair.specs.declared.meter.Meter.{Meter}
use Rattle.ipx_fair.specs.Meters.{lets, used_after}
use Rattle.ipx_limits.specs.declared.decision.Decision.{Decision}
use Rattle.ipx_limits.specs.declared.decision.Decision.TheVariants.{Passes, TooMuchForStrangers}
use Rattle.ipx_limits.specs.declared.limits.Limit.{Limit}
use Rattle.ipx_limits.specs.declared.strangers.StrangersLimits.{StrangersLimits}
use Rattle.ipx_limits.specs.Numbers.{second, most_rate}
use Rattle.ipx_limits.specs.Deciding.{passes}
use Rattle.ipx_limits.specs.Receiving.{in_word}
use Rattle.ipx_limits.specs.Limits.{each_of}
use Rattle.ipx_limits.specs.Strangers.{seconds_at_once, registration, one_each, strangers_at, weigh, may_go, Sent, Event, Passing, Sends, time_of, sent, AllRuns, OneRuns}

-- ---- one limit

more : (count others each : ℕ) → (count + others) * each ≡ count * each + others * each
more count others each = omega arith

-- what goes out fits, so it weighs what it is
weighs : (used burst weight : ℕ) → used + in_word weight ≤ burst → burst < 2 ^ 64 - 1 → used + weight ≤ burst
weighs used burst weight fits small = omega (arith, fits, small)

-- what is used after some datagrams, and what it was before
goes : (limit : Limit) (count : ℕ) (b : Bool) (old new : Meter) → (b ≡ true → may_go limit count old ≡ true) → limit.burst < 2 ^ 64 - 1 → old.used ≤ limit.burst
    → new ≡ used_after old (weigh limit count) b → (new.used ≡ old.used + (if b then count else 0) * limit.each) × (new.used ≤ limit.burst)
goes limit count true old new lets small fits is =
    let used : new.used ≡ old.used + weigh limit count = ap (λ (m : Meter). m.used) is in
    let within : old.used + weigh limit count ≤ limit.burst = leb-true (old.used + weigh limit count) limit.burst (lets refl) in
    let exactly : old.used + count * limit.each ≤ limit.burst = weighs old.used limit.burst (count * limit.each) within small in
    (omega (arith, used, exactly, small), omega (arith, used, within))
goes limit count false old new lets small fits is =
    let used : new.used ≡ old.used = ap (λ (m : Meter). m.used) is in
    (omega (arith, used), omega (arith, used, fits))

-- one step, and what follows
step : (count others each old next new time : ℕ) → next ≡ old + count * each → others * each + next ≤ time + new → (count + others) * each + old ≤ time + new
step count others each old next new time is rest = omega (arith, is, rest, more count others each)

-- ---- what passes found room

both : (a b : Bool) → passes (if a && b then Passes else TooMuchForStrangers) ≡ true → (a ≡ true) × (b ≡ true)
both true true e = (refl, refl)
both true false e = (refl, e)
both false true e = (e, refl)
both false false e = (e, e)

module _ (limits : StrangersLimits) where
  room : (count : ℕ) (decision : Decision) (address address' all all' : Meter) → Sent limits count decision address address' all all' → passes decision ≡ true
      → (may_go limits.one count address ≡ true) × (may_go limits.all count all ≡ true)
  room count decision address address' all all' s lets =
      both (may_go limits.one count address) (may_go limits.all count all) (sym (ap passes s.decided) ∙ lets)

  all_used : (old new : Meter) (events : List Event) → AllRuns limits old events new → old.used ≤ limits.all.burst → limits.all.burst < 2 ^ 64 - 1
      → (sent events * limits.all.each + old.used ≤ time_of events + new.used) × (new.used ≤ limits.all.burst)
  all_used old new [] run fits small =
      let same : new.used ≡ old.used = ap (λ (m : Meter). m.used) run in
      (omega (arith, same), omega (arith, same, fits))
  all_used old new (Passing ns ∷ events) run fits small =
      let used : run.0.used ≡ old.used - ns = ap (λ (m : Meter). m.used) run.1 in
      let rest = all_used run.0 new events run.2 (omega (arith, used, fits)) small in
      (omega (arith, used, rest.0), rest.1)
  all_used old new (Sends count decision ∷ events) run fits small =
      let s = run.1.1.1 in
      let one = goes limits.all count (passes decision) old run.0 (λ lets. (room count decision run.1.0 run.1.1.0 old run.0 s lets).1) small fits s.of_all in
      let rest = all_used run.0 new events run.2 one.1 small in
      (step (if passes decision then count else 0) (sent events) limits.all.each old.used run.0.used new.used (time_of events) one.0 rest.0, rest.1)

  one_used : (old new : Meter) (events : List Event) → OneRuns limits old events new → old.used ≤ limits.one.burst → limits.one.burst < 2 ^ 64 - 1
      → (sent events * limits.one.each + old.used ≤ time_of events + new.used) × (new.used ≤ limits.one.burst)
  one_used old new [] run fits small =
      let same : new.used ≡ old.used = ap (λ (m : Meter). m.used) run in
      (omega (arith, same), omega (arith, same, fits))
  one_used old new (Passing ns ∷ events) run fits small =
      let used : run.0.used ≡ old.used - ns = ap (λ (m : Meter). m.used) run.1 in
      let rest = one_used run.0 new events run.2 (omega (arith, used, fits)) small in
      (omega (arith, used, rest.0), rest.1)
  one_used old new (Sends count decision ∷ events) run fits small =
      let s = run.1.1.1 in
      let one = goes limits.one count (passes decision) old run.0 (λ lets. (room count decision old run.0 run.1.0 run.1.1.0 s lets).0) small fits s.of_address in
      let rest = one_used run.0 new events run.2 one.1 small in
      (step (if passes decision then count else 0) (sent events) limits.one.each old.used run.0.used new.used (time_of events) one.0 rest.0, rest.1)

  pub all_most : (old new : Meter) (events : List Event) → AllRuns limits old events new → old.used ≤ limits.all.burst → limits.all.burst < 2 ^ 64 - 1
      → sent events * limits.all.each ≤ time_of events + limits.all.burst
  all_most old new events run fits small =
      let used = all_used old new events run fits small in
      omega (arith, used.0, used.1)

  pub one_most : (old new : Meter) (events : List Event) → OneRuns limits old events new → old.used ≤ limits.one.burst → limits.one.burst < 2 ^ 64 - 1
      → sent events * limits.one.each ≤ time_of events + limits.one.burst
  one_most old new events run fits small =
      let used = one_used old new events run fits small in
      omega (arith, used.0, used.1)

-- ---- the limits of a setting

at_most : (each rate : ℕ) → each * max (seconds_at_once * rate) registration ≤ each * (seconds_at_once * rate + registration)
at_most each rate = mul-le-mul_left each (omega arith)

spread : (each rate : ℕ) → each * (seconds_at_once * rate + registration) ≡ seconds_at_once * (each * rate) + registration * each
spread each rate = omega arith

all_fits : (each rate : ℕ) → each * rate ≤ second → each ≤ second → each * max (seconds_at_once * rate) registration < 2 ^ 64 - 1
all_fits each rate all one = omega (arith, at_most each rate, spread each rate, all, one)

-- nanoseconds for each, and as many as there are in a second, are a second
pub all_small : (rate : ℕ) → (strangers_at rate).all.burst < 2 ^ 64 - 1
all_small rate = all_fits (each_of rate) rate (div-mul-le_self second rate) (div-le_self second rate)

pub one_small : (rate : ℕ) → rate ≤ most_rate → (strangers_at rate).one.burst < 2 ^ 64 - 1
one_small rate few =
    let each : one_each rate ≤ 8 * second = div-le_self (8 * second) rate in
    let count : max rate registration ≤ most_rate = omega (arith, few) in
    omega (arith, mul-le-mul_left (one_each rate) count, each)

pub answered : (rate : ℕ) (decision : Decision) (address address' all all' : Meter) → Sent (strangers_at rate) registration decision address address' all all'
    → address.used ≡ 0 → all.used + registration * (strangers_at rate).all.each ≤ (strangers_at rate).all.burst → decision ≡ Passes
answered rate decision address address' all all' s none fits =
    let limits = strangers_at rate in
    let least : registration ≤ max rate registration = omega arith in
    let enough : one_each rate * registration ≤ limits.one.burst = mul-le-mul_left (one_each rate) least in
    let one : may_go limits.one registration address ≡ true = le-leb (address.used + weigh limits.one registration) limits.one.burst (omega (arith, none, enough)) in
    let every : may_go limits.all registration all ≡ true = le-leb (all.used + weigh limits.all registration) limits.all.burst (omega (arith, fits)) in
    s.decided ∙ ap₂ (λ (a b : Bool). if a && b then Passes else TooMuchForStrangers) one every
