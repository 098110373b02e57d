use Rattle.std.proofs.Common.{refl, [], length, inl, inr, arith}
use Rattle.ipx_internet.specs.Queue.{history_of}
use Rattle.ipx_laws.specs.Ups.{ups}
use Rattle.ipx_laws.specs.Wires.{still, flying, beats_of, most_beats_flying}
use Rattle.ipx_laws.proofs.laws.wire_services.served_on_wires.Goals as goal
use Rattle.ipx_laws.proofs.services.ServicesBecomeReal.{AnyName, all_real, all_away, none_known}
use Rattle.ipx_laws.proofs.wires.ServedOnWires.{lasted, names_any_beats}

pub returns-clause-real : goal.returns-clause-real
returns-clause-real c net most_routes most_services delay server histories beats router is are all leave say long within =
    all_real delay 0 net (ups net histories) server AnyName most_services router (length beats)
    (history_of (beats_of net most_routes most_services delay (still histories) beats).histories router)
    (lasted delay 0 net c.layouts.ensures is most_routes most_services (ups net histories) server AnyName histories are (λ other. refl) [] tt (inl refl) beats all leave say
    (names_any_beats beats) router within) (omega (arith, long))

pub returns-clause-away : goal.returns-clause-away
returns-clause-away c net most_routes most_services delay server histories beats router is are all leave say long within =
    all_away delay 0 net (ups net histories) server AnyName most_services router (length beats)
    (history_of (beats_of net most_routes most_services delay (still histories) beats).histories router)
    (lasted delay 0 net c.layouts.ensures is most_routes most_services (ups net histories) server AnyName histories are (λ other. refl) [] tt (inl refl) beats all leave say
    (names_any_beats beats) router within) (omega (arith, long))

pub returns-clause-none : goal.returns-clause-none
returns-clause-none c net most_routes most_services delay server histories beats router is are all leave say long within no_way =
    none_known delay 0 net (ups net histories) server AnyName most_services router (length beats)
    (history_of (beats_of net most_routes most_services delay (still histories) beats).histories router)
    (lasted delay 0 net c.layouts.ensures is most_routes most_services (ups net histories) server AnyName histories are (λ other. refl) [] tt (inl refl) beats all leave say
    (names_any_beats beats) router within) (omega (arith, long)) no_way

pub returns-clause-real_whatever_flies : goal.returns-clause-real_whatever_flies
returns-clause-real_whatever_flies c net most_routes most_services delay server histories deliveries beats router is are fly all leave say long within =
    all_real delay (most_beats_flying delay) net (ups net histories) server AnyName most_services router (length beats)
    (history_of (beats_of net most_routes most_services delay (flying histories deliveries) beats).histories router)
    (lasted delay (most_beats_flying delay) net c.layouts.ensures is most_routes most_services (ups net histories) server AnyName histories are (λ other. refl) deliveries fly (inr (omega arith)) beats all leave say
    (names_any_beats beats) router within) long

pub returns-clause-away_whatever_flies : goal.returns-clause-away_whatever_flies
returns-clause-away_whatever_flies c net most_routes most_services delay server histories deliveries beats router is are fly all leave say long within =
    all_away delay (most_beats_flying delay) net (ups net histories) server AnyName most_services router (length beats)
    (history_of (beats_of net most_routes most_services delay (flying histories deliveries) beats).histories router)
    (lasted delay (most_beats_flying delay) net c.layouts.ensures is most_routes most_services (ups net histories) server AnyName histories are (λ other. refl) deliveries fly (inr (omega arith)) beats all leave say
    (names_any_beats beats) router within) long

pub returns-clause-none_whatever_flies : goal.returns-clause-none_whatever_flies
returns-clause-none_whatever_flies c net most_routes most_services delay server histories deliveries beats router is are fly all leave say long within no_way =
    none_known delay (most_beats_flying delay) net (ups net histories) server AnyName most_services router (length beats)
    (history_of (beats_of net most_routes most_services delay (flying histories deliveries) beats).histories router)
    (lasted delay (most_beats_flying delay) net c.layouts.ensures is most_routes most_services (ups net histories) server AnyName histories are (λ other. refl) deliveries fly (inr (omega arith)) beats all leave say
    (names_any_beats beats) router within) long no_way
