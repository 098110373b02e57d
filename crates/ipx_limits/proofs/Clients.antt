-- A client and its address are several receivers, and what all of them hear goes on.
use Rattle.std.proofs.Common.{◌≡◌, ◌∙◌, sym, ap, subst, ℕ, Bool, true, ◌&&◌, List, [], ◌∷◌}
use Rattle.ipx_fair.specs.States.{State}
use Rattle.ipx_fair.specs.Hearing.{hears_from}
use Rattle.ipx_fair.specs.Laws.{LosesNothing}
use Rattle.ipx_limits.specs.declared.decision.Decision.{Decision}
use Rattle.ipx_limits.specs.declared.decision.Decision.TheVariants.{Passes}
use Rattle.ipx_limits.specs.declared.limits.HouseholdLimits.{HouseholdLimits}
use Rattle.ipx_limits.specs.declared.limits.Limits.{Limits}
use Rattle.ipx_limits.specs.Several.{Runs as RunsOfOne, said}
use Rattle.ipx_limits.specs.Receiving.{packet_weight, piece_weight, for_both, Reads}
use Rattle.ipx_limits.specs.ClientEvents.{Home, Event, ForClient, ForAddress, Receives, Reading, ToAnother, IsReceived, Runs, to_packets, to_pieces, to_address, ReceivesAll}

module _ (limits : Limits) (household : HouseholdLimits) (H : Home → Type 0) where
  -- ---- each of them is one of several

  pub runs_packets : (G : State → Type 0) (each : (home : Home) → H home → G home.client.packets) (old new : Home) (events : List Event)
      → Runs limits household H old events new → RunsOfOne G old.client.packets (to_packets limits events) new.client.packets
  runs_packets G each old new [] run = (each old run.0, ap (λ (home : Home). home.client.packets) run.1)
  runs_packets G each old new (ForClient ns ∷ events) run =
      (each old run.0, (run.1.0.client.packets, run.1.1.0, runs_packets G each run.1.0 new events run.1.2))
  runs_packets G each old new (ForAddress ns ∷ events) run =
      subst (λ (s : State). RunsOfOne G s (to_packets limits events) new.client.packets) (ap (λ (r : Reads). r.packets) run.1.1.1)
      (runs_packets G each run.1.0 new events run.1.2)
  runs_packets G each old new (Receives q b p i a d ∷ events) run =
      let step = run.1.1 in (
        each old run.0,
        (
          run.1.0.client.packets,
          record { there = step.received.there.of_packets; decided = step.has_packets; counted = step.received.of_client.packets },
          runs_packets G each run.1.0 new events run.1.2,
        ),
      )
  runs_packets G each old new (Reading q b f p i o g ∷ events) run =
      (each old run.0, (run.1.0.client.packets, run.1.1.of_packets, runs_packets G each run.1.0 new events run.1.2))
  runs_packets G each old new (ToAnother q h g ∷ events) run =
      subst (λ (s : State). RunsOfOne G s (to_packets limits events) new.client.packets) (ap (λ (r : Reads). r.packets) run.1.1.1)
      (runs_packets G each run.1.0 new events run.1.2)

  pub runs_pieces : (G : State → Type 0) (each : (home : Home) → H home → G home.client.pieces) (old new : Home) (events : List Event)
      → Runs limits household H old events new → RunsOfOne G old.client.pieces (to_pieces limits events) new.client.pieces
  runs_pieces G each old new [] run = (each old run.0, ap (λ (home : Home). home.client.pieces) run.1)
  runs_pieces G each old new (ForClient ns ∷ events) run =
      (each old run.0, (run.1.0.client.pieces, run.1.1.1, runs_pieces G each run.1.0 new events run.1.2))
  runs_pieces G each old new (ForAddress ns ∷ events) run =
      subst (λ (s : State). RunsOfOne G s (to_pieces limits events) new.client.pieces) (ap (λ (r : Reads). r.pieces) run.1.1.1)
      (runs_pieces G each run.1.0 new events run.1.2)
  runs_pieces G each old new (Receives q b p i a d ∷ events) run =
      let step = run.1.1 in (
        each old run.0,
        (
          run.1.0.client.pieces,
          record { there = step.received.there.of_pieces; decided = step.has_pieces; counted = step.received.of_client.pieces },
          runs_pieces G each run.1.0 new events run.1.2,
        ),
      )
  runs_pieces G each old new (Reading q b f p i o g ∷ events) run =
      (each old run.0, (run.1.0.client.pieces, run.1.1.of_pieces, runs_pieces G each run.1.0 new events run.1.2))
  runs_pieces G each old new (ToAnother q h g ∷ events) run =
      subst (λ (s : State). RunsOfOne G s (to_pieces limits events) new.client.pieces) (ap (λ (r : Reads). r.pieces) run.1.1.1)
      (runs_pieces G each run.1.0 new events run.1.2)

  pub runs_address : (G : State → Type 0) (each : (home : Home) → H home → G home.address) (old new : Home) (events : List Event)
      → Runs limits household H old events new → RunsOfOne G old.address (to_address household events) new.address
  runs_address G each old new [] run = (each old run.0, ap (λ (home : Home). home.address) run.1)
  runs_address G each old new (ForClient ns ∷ events) run =
      subst (λ (s : State). RunsOfOne G s (to_address household events) new.address) run.1.1.2 (runs_address G each run.1.0 new events run.1.2)
  runs_address G each old new (ForAddress ns ∷ events) run =
      (each old run.0, (run.1.0.address, run.1.1.0, runs_address G each run.1.0 new events run.1.2))
  runs_address G each old new (Receives q b p i a d ∷ events) run =
      let step = run.1.1 in (
        each old run.0,
        (
          run.1.0.address,
          record { there = step.received.at_address; decided = step.has_address; counted = step.received.of_address },
          runs_address G each run.1.0 new events run.1.2,
        ),
      )
  runs_address G each old new (Reading q b f p i o g ∷ events) run =
      subst (λ (s : State). RunsOfOne G s (to_address household events) new.address) run.1.1.same (runs_address G each run.1.0 new events run.1.2)
  runs_address G each old new (ToAnother q h g ∷ events) run =
      (each old run.0, (run.1.0.address, run.1.1.0, runs_address G each run.1.0 new events run.1.2))

-- ---- what all hear goes on

all_three : (packets pieces address : Bool) → packets ≡ true → pieces ≡ true → address ≡ true → for_both (packets && pieces) address ≡ Passes
all_three packets pieces address p i a =
    ap (λ (x : Bool). for_both (x && pieces) address) p
    ∙ ap (λ (x : Bool). for_both (true && x) address) i
    ∙ ap (λ (x : Bool). for_both (true && true) x) a

received : (limits : Limits) (household : HouseholdLimits) (q b : ℕ) (p i a : Bool) (d : Decision) (old new : Home)
    → IsReceived limits household q b p i a d old new → p ≡ true → i ≡ true → a ≡ true → d ≡ Passes
received limits household q b p i a d old new step p_heard i_heard a_heard =
    step.received.decided
    ∙ all_three (hears_from old.client.packets q (packet_weight limits.received 1)) (hears_from old.client.pieces q (piece_weight limits.received b 1))
    (hears_from old.address q household.packet) (sym step.has_packets ∙ p_heard) (sym step.has_pieces ∙ i_heard) (sym step.has_address ∙ a_heard)

all_of : (p i o g : Bool) → g ≡ p && i && o → p ≡ true → i ≡ true → o ≡ true → g ≡ true
all_of p i o g is p_heard i_heard others =
    is ∙ ap (λ (x : Bool). x && i && o) p_heard ∙ ap (λ (x : Bool). true && x && o) i_heard ∙ ap (λ (x : Bool). true && true && x) others

pub receives_all : (limits : Limits) (household : HouseholdLimits) (H : Home → Type 0) (k : ℕ) (old new : Home) (events : List Event)
    → Runs limits household H old events new → LosesNothing k (said (to_packets limits events)) → LosesNothing k (said (to_pieces limits events))
    → LosesNothing k (said (to_address household events)) → ReceivesAll k events
receives_all limits household H k old new [] run p i a = tt
receives_all limits household H k old new (ForClient ns ∷ events) run p i a = receives_all limits household H k run.1.0 new events run.1.2 p i a
receives_all limits household H k old new (ForAddress ns ∷ events) run p i a = receives_all limits household H k run.1.0 new events run.1.2 p i a
receives_all limits household H k old new (Receives q b x y z d ∷ events) run p i a = (
  λ same. received limits household q b x y z d old run.1.0 run.1.1 (p.0 same) (i.0 same) (a.0 same),
  receives_all limits household H k run.1.0 new events run.1.2 p.1 i.1 a.1,
)
receives_all limits household H k old new (Reading q b f x y o g ∷ events) run p i a = (
  λ same others. all_of x y o g run.1.1.decided (p.0 same) (i.0 same) others,
  receives_all limits household H k run.1.0 new events run.1.2 p.1 i.1 a,
)
receives_all limits household H k old new (ToAnother q h g ∷ events) run p i a = receives_all limits household H k run.1.0 new events run.1.2 p i a.1
