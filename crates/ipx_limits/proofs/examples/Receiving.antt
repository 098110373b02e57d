-- A client by the usual limits, of whom somebody's packets wait, and whose address has a limit.
use Rattle.std.proofs.Common.{◌≡◌, refl, ℕ, true, false, lit<, List, [], ◌∷◌}
use Rattle.ipx_fair.specs.declared.setting.Setting.{Setting}
use Rattle.ipx_fair.specs.States.{State}
use Rattle.ipx_limits.specs.declared.decision.Decision.TheVariants.{Passes, TooMuchForClient, TooMuchForAddress}
use Rattle.ipx_limits.specs.declared.limits.HouseholdLimits.{HouseholdLimits}
use Rattle.ipx_limits.specs.Limits.{household_at}
use Rattle.ipx_limits.specs.Receiving.{Reads, both_hear, for_both, ReceivedAtAddress, HeardOfRouter, ReceivedOfRouter}
use Rattle.ipx_limits.proofs.examples.Numbers.{limits}

abbrev household : HouseholdLimits
household = household_at 12800

abbrev state : Setting → List ℕ → State
state setting queues = record { setting = setting; left = 0; queues = queues }

-- so many nanoseconds wait of each of two speakers
abbrev client : List ℕ → List ℕ → Reads
client packets pieces = record { packets = state limits.received.packets packets; pieces = state limits.received.pieces pieces }

abbrev address : List ℕ → State
address queues = state household.received queues

-- a short packet, of somebody of whom nothing waits
pub goes_on : ReceivedAtAddress limits household 0 0 60 Passes (client (0 ∷ 7 ∷ []) (0 ∷ 7 ∷ [])) (client (1111111 ∷ 7 ∷ []) (274648 ∷ 7 ∷ []))
    (address (0 ∷ [])) (address (78125 ∷ []))
goes_on = record {
  there = record { of_packets = lit< tt; of_pieces = lit< tt };
  at_address = lit< tt;
  decided = refl;
  of_client = record {
    packets = record { there = lit< tt; setting = refl; left = refl; decided = refl; queues = refl };
    pieces = record { there = lit< tt; setting = refl; left = refl; decided = refl; queues = refl };
  };
  of_address = record { there = lit< tt; setting = refl; left = refl; decided = refl; queues = refl };
}

-- there is room for a hundred packets of one who speaks alone, and his memory is full of long ones: nobody counts it
pub memory_is_full : ReceivedAtAddress limits household 0 0 601 TooMuchForClient (client (40000000 ∷ []) (36000000 ∷ []))
    (client (40000000 ∷ []) (36000000 ∷ [])) (address (0 ∷ [])) (address (0 ∷ []))
memory_is_full = record {
  there = record { of_packets = lit< tt; of_pieces = lit< tt };
  at_address = lit< tt;
  decided = refl;
  of_client = record { packets = refl; pieces = refl };
  of_address = refl;
}

-- a short one still finds room there
pub short_one : both_hear limits.received 0 60 1 (client (40000000 ∷ []) (35000000 ∷ [])) ≡ true
short_one = refl

-- what the router says isn't dropped for that, and the client doesn't count it
pub router_goes_on : ReceivedOfRouter limits household 0 601 Passes (client (40000000 ∷ []) (36000000 ∷ [])) (client (40000000 ∷ []) (36000000 ∷ []))
    (address (0 ∷ [])) (address (78125 ∷ []))
router_goes_on = record {
  at_address = lit< tt;
  decided = refl;
  of_address = record { there = lit< tt; setting = refl; left = refl; decided = refl; queues = refl };
  of_client = record { there = record { of_packets = lit< tt; of_pieces = lit< tt }; of_client = record { packets = refl; pieces = refl } };
}

-- where it has room it counts it
pub router_counts : HeardOfRouter limits 0 60 true (client (0 ∷ []) (0 ∷ [])) (client (1111111 ∷ []) (274648 ∷ []))
router_counts = record {
  there = record { of_packets = lit< tt; of_pieces = lit< tt };
  of_client = record {
    packets = record { there = lit< tt; setting = refl; left = refl; decided = refl; queues = refl };
    pieces = record { there = lit< tt; setting = refl; left = refl; decided = refl; queues = refl };
  };
}

-- of two who refuse it is the client that is named
pub client_is_named : for_both false false ≡ TooMuchForClient
client_is_named = refl

pub address_is_named : for_both true false ≡ TooMuchForAddress
address_is_named = refl
