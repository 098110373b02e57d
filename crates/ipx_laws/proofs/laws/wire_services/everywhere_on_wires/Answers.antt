use Rattle.std.proofs.Common.{◌≡◌, refl, sym, ◌∷◌, ◌++◌, [], append-nil, length-append, Some, inl, inr, arith}
use Rattle.ipx_router.proofs.port_values.PortOfEachNumber.{ports_up-within}
use Rattle.ipx_internet.specs.Internet.{ports_of}
use Rattle.ipx_internet.specs.Queue.{history_of}
use Rattle.ipx_laws.specs.Servers.{at_hops, known_of}
use Rattle.ipx_laws.specs.Tables.{services_of}
use Rattle.ipx_laws.specs.Ups.{ups}
use Rattle.ipx_laws.specs.Wires.{still, flying, beats_of, most_beats_flying}
use Rattle.ipx_laws.proofs.laws.wire_services.everywhere_on_wires.Goals as goal
use Rattle.ipx_laws.proofs.wires.HeardInBeats.{hosts_apart}
use Rattle.ipx_laws.proofs.wires.KnownOnWires.{known, known_last}
use Rattle.ipx_laws.proofs.wires.PartsOfBeats.{along_prefix}

pub returns-clause-has : goal.returns-clause-has
returns-clause-has c net most_routes most_services delay window server names nearest histories beats router hops (is, are, voice, room, listed) all leave quick (say, named, in_time) differ least routers long within near fewest =
    known_last delay 0 net c.layouts.ensures is most_routes most_services (ups net histories) server names
    (hosts_apart net most_routes most_services delay server window (ups net histories) (still histories) beats voice in_time (omega (arith, long)))
    (λ k. ports_up-within (ports_of net k) (history_of histories k)) room listed nearest least window histories are (λ other. refl) [] tt (inl refl) beats all leave say
    named quick in_time
    differ routers hops near beats [] (sym (append-nil beats)) (omega (arith, long)) router within fewest

pub returns-clause-whatever_flies : goal.returns-clause-whatever_flies
returns-clause-whatever_flies c net most_routes most_services delay window server names nearest histories deliveries beats router hops (is, are, voice, room, listed) fly all leave quick (say, named, in_time) differ least routers long within near fewest =
    known_last delay (most_beats_flying delay) net c.layouts.ensures is most_routes most_services (ups net histories) server names
    (hosts_apart net most_routes most_services delay server window (ups net histories) (flying histories deliveries) beats voice in_time (omega (arith, long)))
    (λ k. ports_up-within (ports_of net k) (history_of histories k)) room listed nearest least window histories are (λ other. refl) deliveries fly (inr (omega arith)) beats all leave say
    named quick in_time
    differ routers hops near beats [] (sym (append-nil beats)) (omega (arith, long)) router within fewest

pub returns-clause-meanwhile : goal.returns-clause-meanwhile
returns-clause-meanwhile c net most_routes most_services delay window server names nearest histories beats steps more router hops (is, are, voice, room, listed) all leave quick (say, named, in_time) differ least routers long within near fewest =
    along_prefix net most_routes most_services delay (λ now. known_of server (services_of net most_services now.histories router) ≡ Some (at_hops server hops))
    (beats_of net most_routes most_services delay (still histories) beats) steps more
    (known delay 0 net c.layouts.ensures is most_routes most_services (ups net histories) server names
    (hosts_apart net most_routes most_services delay server window (ups net histories) (still histories) (beats ++ (steps ++ more) ∷ []) voice in_time (let count = length-append beats ((steps ++ more) ∷ []) in omega (arith, count, long)))
    (λ k. ports_up-within (ports_of net k) (history_of histories k)) room listed nearest least window histories are (λ other. refl) [] tt (inl refl) (beats ++ (steps ++ more) ∷ []) all leave say
    named quick in_time
    differ routers hops near beats (steps ++ more) [] refl (omega (arith, long)) router within fewest)
