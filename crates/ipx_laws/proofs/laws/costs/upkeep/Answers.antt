use Rattle.std.proofs.Common.{◌≡◌, refl, sym, ap, ◌∙◌, subst, ℕ, ◌+◌, ◌*◌, ◌%◌, ◌<◌, nat_lt, false, List, [], map, length, arith}
use Rattle.std.specs.List.{AllByRecursion}
use Rattle.std.proofs.lemmas.Bool.{le-ltb}
use Rattle.std.proofs.lemmas.Nat.{mod_below}
use Rattle.ipx_wire.specs.WriteServices.{IsService}
use Rattle.ipx_router.specs.Numbers.{period}
use Rattle.ipx_router.specs.Facts.{routes_held, offers}
use Rattle.ipx_router.specs.History.{seconds_run}
use Rattle.ipx_router.specs.Port.{IsPort}
use Rattle.ipx_router.specs.Sends.{holding}
use Rattle.ipx_router.specs.Told.{told, told_services}
use Rattle.ipx_router.proofs.bytes.FieldsAreBytes.{IsTellable}
use Rattle.ipx_router.proofs.port_values.PortOfEachNumber.{port-all, ports_up-within, one_up}
use Rattle.ipx_router.proofs.relays.PortsRise.{ups as ups_rise}
use Rattle.ipx_router.proofs.tables.HeldFitsFields.{held_services_fit}
use Rattle.ipx_router.proofs.telling.ToldFitsFields.{told_services_fit}
use Rattle.ipx_internet.specs.Internet.{Internet, IsInternet, ports_of}
use Rattle.ipx_internet.specs.Queue.{history_of}
use Rattle.ipx_internet.specs.Run.{AreHistories, Waiting, Run}
use Rattle.ipx_internet.specs.Ticks.{seconds_of}
use Rattle.ipx_internet.proofs.lists.EachElement.{all_then, rising_differ}
use Rattle.ipx_laws.specs.Upkeep.{all_pages, has}
use Rattle.ipx_laws.specs.Ups.{ups}
use Rattle.ipx_laws.proofs.laws.costs.upkeep.Goals as goal
use Rattle.ipx_laws.proofs.upkeep.FewNetworks.{fewer}
use Rattle.ipx_laws.proofs.upkeep.OnceInAPeriod.{Calm, Keeps, goes, all_up, owed}
use Rattle.ipx_laws.proofs.upkeep.SizeOfPages.{Sizes, counted, sized}

at_first : (c : goal.After-tables) (net : Internet) (is : IsInternet net) (most_routes most_services : ℕ) (run : Run) → AreHistories net run.histories
    → run.waiting ≡ [] → Keeps net c.layouts.ensures is most_routes most_services run.histories run.histories (map (λ w. w.delivery) run.waiting)
at_first c net is most_routes most_services run are quiet = record {
  are = are;
  calm = subst (λ (ws : List Waiting). AllByRecursion (Calm net c.layouts.ensures is most_routes most_services run.histories) (map (λ w. w.delivery) ws)) (sym quiet) tt;
  same = λ router within. (refl, refl);
  ports = λ router. refl;
}

pub returns-clause-pages : goal.returns-clause-pages
returns-clause-pages c net most_routes most_services run steps router number is are quiet of stay sixty on =
    let ran = seconds_run (history_of run.histories router) in
    let below = mod_below ran period (omega arith) in
    let few : ran % period + seconds_of router steps < 2 * period = omega (arith, below, sixty) in
    let whole : nat_lt (ran % period + period) period ≡ false = le-ltb (ran % period + period) period (omega arith) in
    let all = all_pages (ports_of net router) (has net most_routes most_services run.histories router) number in
    goes net c.layouts.ensures is most_routes most_services run.histories router number on steps run
    (at_first c net is most_routes most_services run are quiet) of stay few
    ∙ ap (owed all ran) sixty ∙ rw whole refl

pub returns-clause-ups_alone : goal.returns-clause-ups_alone
returns-clause-ups_alone c net most_routes most_services run steps is are quiet of stay =
    all_up net c.layouts.ensures is most_routes most_services run.histories steps run (at_first c net is most_routes most_services run are quiet) of stay

pub returns-clause-packets : goal.returns-clause-packets
returns-clause-packets c ports most_routes most_services history number =
    let h = holding ports most_routes most_services history in
    counted ports number (told ports h.up h.routes number) (told_services h.services number)

pub returns-clause-bytes : goal.returns-clause-bytes
returns-clause-bytes c ports most_routes most_services history number are of_bytes within =
    let h = holding ports most_routes most_services history in
    let sizes : Sizes = record { rip = c.sizes.ensures.rip; sap = c.sizes.ensures.sap } in
    sized sizes ports number (port-all IsPort ports number are within) (told ports h.up h.routes number) (told_services h.services number)
    (all_then IsTellable IsService (λ s it. it.ranges) (told_services h.services number)
    (told_services_fit h.services number (held_services_fit c.layouts.ensures.readings ports most_services history of_bytes)))

pub returns-clause-few : goal.returns-clause-few
returns-clause-few c net most_routes histories router number is are on real =
    let ports = ports_of net router in
    let in_ports : (r : ℕ) → AllByRecursion (λ j. j < length (ports_of net r)) (ups net histories r) = λ r. ports_up-within (ports_of net r) (history_of histories r) in
    fewer net is (ups net histories) in_ports
    (λ r port up_there. one_up (λ j. j < length (ports_of net r)) (ups net histories r) port (in_ports r) up_there) router
    (offers (routes_held ports most_routes (history_of histories router)))
    (c.tables.ensures.routes_rise ports most_routes (history_of histories router)) real
    (rising_differ (ups net histories router) (ups_rise ports (history_of histories router)).0) number on
