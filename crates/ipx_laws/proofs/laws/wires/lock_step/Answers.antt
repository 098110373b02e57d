use Rattle.std.proofs.Common.{ℕ, List, refl}
use Rattle.ipx_router.specs.History.{History}
use Rattle.ipx_internet.specs.Internet.{Internet, IsInternet}
use Rattle.ipx_internet.specs.Run.{Step, AreHistories, begun}
use Rattle.ipx_internet.proofs.packets.SentOnOrReply.{Layouts}
use Rattle.ipx_internet.proofs.ticks.TickCanBeHad.{sound_run}
use Rattle.ipx_laws.specs.InTime.{IsInLockStep}
use Rattle.ipx_laws.specs.Meanwhile.{LeavesPorts, AreBusyTicks, AreTicksOfHosts}
use Rattle.ipx_laws.specs.Ups.{ups}
use Rattle.ipx_laws.specs.Wires.{still}
use Rattle.ipx_laws.proofs.laws.wires.lock_step.Goals as goal
use Rattle.ipx_laws.proofs.wires.HeardInLockStep.{in_time}
use Rattle.ipx_laws.proofs.wires.LockStep.{as_beats, beats_say, are_beats, follows_still, same_ticks, same_last}
use Rattle.ipx_laws.proofs.wires.PartsInLockStep.{Goes}
use Rattle.ipx_laws.proofs.wires.RegularInLockStep.{quick, regular, routers_in_time}

in_lock_step : (net : Internet) (most_routes most_services : ℕ) (histories : List History) (ticks : List (List Step))
    → AreBusyTicks net most_routes most_services (begun histories) ticks
    → IsInLockStep net most_routes most_services histories ticks (as_beats net most_routes most_services (begun histories) (still histories) ticks)
in_lock_step net most_routes most_services histories ticks busy = record {
  steps = same_ticks net most_routes most_services (begun histories) (still histories) ticks;
  same = same_last net most_routes most_services (begun histories) refl ticks busy;
}

pub returns-clause-beats : goal.returns-clause-beats
returns-clause-beats c net most_routes most_services histories ticks busy = (
  as_beats net most_routes most_services (begun histories) (still histories) ticks,
  in_lock_step net most_routes most_services histories ticks busy,
  are_beats net most_routes most_services (begun histories) (still histories) ticks busy,
)

-- ports stay as they are, from where nothing waits
goes : (net : Internet) (laws : Layouts) (is : IsInternet net) (most_routes most_services : ℕ) (histories : List History) (ticks : List (List Step))
    → AreHistories net histories → AreTicksOfHosts net most_routes most_services (begun histories) ticks
    → Goes net laws is most_routes most_services (ups net histories) (begun histories) (still histories) ticks
goes net laws is most_routes most_services histories ticks are (busy, leave) = record {
  kept = record { sound = sound_run net laws is most_routes most_services (begun histories) are tt; stay = λ router. refl };
  follows = follows_still net most_routes most_services (begun histories) refl;
  busy = busy;
  leave = leave;
}

pub returns-clause-heard : goal.returns-clause-heard
returns-clause-heard c net most_routes most_services histories ticks is differ are hosts = (
  as_beats net most_routes most_services (begun histories) (still histories) ticks,
  in_lock_step net most_routes most_services histories ticks hosts.0,
  in_time net c.layouts.ensures is most_routes most_services (ups net histories) differ (begun histories) (still histories) ticks
      (goes net c.layouts.ensures is most_routes most_services histories ticks are hosts),
)

pub returns-clause-services_heard : goal.returns-clause-services_heard
returns-clause-services_heard c net most_routes most_services server names histories ticks is are differ hosts given =
    let going = goes net c.layouts.ensures is most_routes most_services histories ticks are hosts in (
      as_beats net most_routes most_services (begun histories) (still histories) ticks,
      in_lock_step net most_routes most_services histories ticks hosts.0,
      are_beats net most_routes most_services (begun histories) (still histories) ticks hosts.0,
      beats_say net most_routes most_services LeavesPorts (begun histories) (still histories) ticks hosts.1,
      quick net most_routes most_services (begun histories) (still histories) ticks hosts.0,
      regular net c.layouts.ensures is most_routes most_services (ups net histories) server (begun histories) (still histories) ticks going names given,
      routers_in_time net c.layouts.ensures is most_routes most_services (ups net histories) server (begun histories) (still histories) ticks going differ,
    )
