-- A player says a packet each 4 milliseconds, and somebody floods.
use Rattle.std.proofs.Common.{◌≡◌, refl, inl, lit≤, true, false, List, [], ◌∷◌}
use Rattle.ipx_fair.specs.States.{State}
use Rattle.ipx_fair.specs.Events.{Event, Time, Says}
use Rattle.ipx_fair.specs.Keeping.{IsKept}
use Rattle.ipx_fair.specs.Laws.{elapsed, given, given_to, KeepsTo, LosesNothing}
use Rattle.ipx_fair.proofs.examples.Receivers.{state}

abbrev pub events : List Event
events = Says 1 1 true ∷ Says 1 3 true ∷ Says 1 3 false ∷ Says 0 1 true ∷ Time 4 ∷ Says 0 1 true ∷ []

abbrev pub first : State
first = state 0 (0 ∷ 0 ∷ 0 ∷ [])

abbrev pub last : State
last = state 0 (1 ∷ 1 ∷ 0 ∷ [])

pub time : elapsed events ≡ 4
time = refl

pub what_all_had : given events ≡ 6
what_all_had = refl

pub what_the_player_had : given_to 0 events ≡ 2
what_the_player_had = refl

-- the player keeps to one part in two, with one packet at once
pub keeps : KeepsTo 2 2 0 0 events
keeps = (λ e. cc, (λ e. cc, (λ e. cc, (λ e. lit≤ tt, (λ e. lit≤ tt, tt)))))

pub loses_nothing : LosesNothing 0 events
loses_nothing = (λ e. cc, (λ e. cc, (λ e. cc, (λ e. refl, (λ e. refl, tt)))))

pub kept : IsKept last
kept = record { own_is_more = lit≤ tt; few_left = inl refl; fits = lit≤ tt; tight = lit≤ tt }
