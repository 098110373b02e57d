-- From where ticks begin that make all tables right: from any tables, whatever waits first, and from real routes.
use Rattle.std.proofs.Common.{◌≡◌, subst, ℕ, suc, ◌+◌, ◌≤◌, false, List, [], ◌∷◌, length, inl, inr, arith}
use Rattle.std.specs.List.{AllByRecursion}
use Rattle.std.proofs.lemmas.Bool.{cases_lt}
use Rattle.ipx_wire.specs.Crossed.{is_among}
use Rattle.ipx_wire.specs.declared.network.Network.{Network}
use Rattle.ipx_internet.specs.Internet.{Internet, IsInternet, NodesDiffer}
use Rattle.ipx_internet.specs.Run.{Step, Run, AreHistories, run_of}
use Rattle.ipx_internet.specs.Ticks.{ticked}
use Rattle.ipx_internet.proofs.packets.SentOnOrReply.{Layouts}
use Rattle.ipx_laws.specs.Apart.{AreRealApart, HasRoomBeside}
use Rattle.ipx_laws.specs.Gone.{most_ticks_gone}
use Rattle.ipx_laws.specs.Least.{AreCheap, FifteenSuffice}
use Rattle.ipx_laws.specs.Meanwhile.{LeavesPorts}
use Rattle.ipx_laws.specs.Setting.{ComesToRest}
use Rattle.ipx_laws.specs.Ups.{ups}
use Rattle.ipx_laws.proofs.tables.Given.{Given, given_of}
use Rattle.ipx_laws.proofs.tables.LeastWays.{ups_within}
use Rattle.ipx_laws.proofs.tables.RightWithinAMinute.{AtRest, at_first, ticks_rest_right}
use Rattle.ipx_laws.proofs.ticks.AfterRest.{begins_after}
use Rattle.ipx_laws.proofs.ticks.RealFromTheFirst.{rests_at_once}
use Rattle.ipx_laws.proofs.ticks.TickAfterTick.{CalmTicks, Rests, tick_rests}

module _ (given : Given) where
  open given use {net, laws, is, up, most_routes, most_services, foreign}

  abbrev Rest : ℕ → Run → Type 0
  Rest = AtRest given

  climbs : (so_far : ℕ) (run : Run) (ticks : List (List Step)) → Rests net laws is most_routes most_services up foreign so_far run
      → CalmTicks net most_routes most_services foreign run ticks
      → so_far ≤ most_ticks_gone → most_ticks_gone ≤ length ticks + so_far → Rest (length ticks + so_far) (ticked net most_routes most_services run ticks)
  climbs so_far run [] rests are few long =
      let same : so_far ≡ 0 + so_far = omega arith in
      subst (λ (n : ℕ). Rest n run) same (at_first given so_far run few rests)
  climbs so_far run (steps ∷ ticks) rests are few long = elim (cases_lt so_far most_ticks_gone) [
    | inl less ↦
        let next = run_of net most_routes most_services run steps in
        let same : length ticks + suc so_far ≡ length (steps ∷ ticks) + so_far = omega arith in
        subst (λ (n : ℕ). Rest n (ticked net most_routes most_services next ticks)) same
        (climbs (suc so_far) next ticks (tick_rests net laws is most_routes most_services up foreign so_far run steps rests are.0) are.1
        (omega (arith, less)) (omega (arith, long)))
    | inr full ↦
        ticks_rest_right given so_far full run (steps ∷ ticks)
        (at_first given so_far run few rests) are
  ]

  from_none : (run : Run) (ticks : List (List Step)) → Rests net laws is most_routes most_services up foreign 0 run
      → CalmTicks net most_routes most_services foreign run ticks
      → most_ticks_gone ≤ length ticks → Rest (length ticks) (ticked net most_routes most_services run ticks)
  from_none run ticks rests are long =
      let count : length ticks + 0 ≡ length ticks = omega arith in
      subst (λ (n : ℕ). Rest n (ticked net most_routes most_services run ticks)) count (climbs 0 run ticks rests are (omega arith) (omega (arith, long)))

module _ (net : Internet) (laws : Layouts) (is : IsInternet net) (differ : NodesDiffer net) (cheap : AreCheap net) (most_routes most_services : ℕ)
    (foreign : List Network) (room : HasRoomBeside net most_routes foreign) (network : Network) (unlisted : is_among network foreign ≡ false) where
  module _ (run : Run) (are : AreHistories net run.histories) (suffice : FifteenSuffice net (ups net run.histories) network) where
    abbrev pub here : Given
    here = given_of net laws is differ cheap (ups net run.histories) (ups_within net run.histories) most_routes most_services foreign room network suffice unlisted

    -- whatever is held, and whatever waits before these steps
    pub from_any : (first : List Step) (ticks : List (List Step)) → ComesToRest net most_routes most_services run first → AllByRecursion LeavesPorts first
        → CalmTicks net most_routes most_services foreign (run_of net most_routes most_services run first) ticks → most_ticks_gone ≤ length ticks
        → AtRest here (length ticks) (ticked net most_routes most_services (run_of net most_routes most_services run first) ticks)
    from_any first ticks rest leaves calm long =
        from_none here (run_of net most_routes most_services run first) ticks
        (begins_after net laws is most_routes most_services run first are rest foreign leaves) calm long

    -- where all routes are real, and nothing waits
    pub from_real : (ticks : List (List Step)) → run.waiting ≡ []
        → CalmTicks net most_routes most_services foreign run ticks → AreRealApart net most_routes run.histories (ups net run.histories) foreign
        → AtRest here (length ticks + most_ticks_gone) (ticked net most_routes most_services run ticks)
    from_real ticks quiet calm real =
        climbs here most_ticks_gone run ticks (rests_at_once net laws is most_routes most_services run foreign are quiet real) calm (omega arith) (omega arith)
