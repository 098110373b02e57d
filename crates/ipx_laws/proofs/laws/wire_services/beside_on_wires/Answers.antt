use Rattle.std.proofs.Common.{◌≡◌, refl, sym, ap, ℕ, ◌+◌, ◌-◌, ◌*◌, ◌≤◌, [], append-nil, length, inl, inr, arith}
use Rattle.ipx_router.proofs.port_values.PortOfEachNumber.{ports_up-within}
use Rattle.ipx_internet.specs.Internet.{ports_of}
use Rattle.ipx_internet.specs.Queue.{history_of}
use Rattle.ipx_laws.specs.Servers.{beside}
use Rattle.ipx_laws.specs.Ups.{ups}
use Rattle.ipx_laws.specs.Wires.{still, flying, most_beats_flying, most_beats_gone}
use Rattle.ipx_laws.proofs.laws.wire_services.beside_on_wires.Goals as goal
use Rattle.ipx_laws.specs.WireRegular.{most_beats_known}
use Rattle.ipx_laws.proofs.services.FewestHops.{no_nearer}
use Rattle.ipx_laws.proofs.wires.HeardInBeats.{hosts_apart}
use Rattle.ipx_laws.proofs.wires.KnownOnWires.{beside_known}

-- no hop more than the nearest
none_more : (delay window hops count : ℕ) → most_beats_gone delay + window ≤ count → most_beats_known delay window hops hops ≤ count
none_more delay window hops count long =
    let none : hops - hops ≡ 0 = omega arith in
    let nothing : (hops - hops) * (window + delay) ≡ 0 * (window + delay) = ap (λ (k : ℕ). k * (window + delay)) none in
    omega (arith, long, nothing)

pub returns-clause-has : goal.returns-clause-has
returns-clause-has c net most_routes most_services delay window server names histories beats place which host (is, are, voice, room, listed) all leave quick (say, named, in_time) long (within, on, announces, network, reached, least) =
    let due = none_more delay window host.hops (length beats - 0) (omega (arith, long)) in
    beside_known delay 0 net c.layouts.ensures is most_routes most_services (ups net histories) server names
    (hosts_apart net most_routes most_services delay server window (ups net histories) (still histories) beats voice in_time (omega (arith, long)))
    (λ k. ports_up-within (ports_of net k) (history_of histories k)) room listed host.hops least window histories are (λ other. refl) [] tt (inl refl) beats all leave say
    named quick in_time
    place.router within reached (beside place.port which host on announces network, λ others way. no_nearer net (ups net histories) server host.hops least way) beats []
    (sym (append-nil beats)) (omega (arith, due, long))

pub returns-clause-whatever_flies : goal.returns-clause-whatever_flies
returns-clause-whatever_flies c net most_routes most_services delay window server names histories deliveries beats place which host (is, are, voice, room, listed) fly all leave quick (say, named, in_time) long (within, on, announces, network, reached, least) =
    let due = none_more delay window host.hops (length beats - (most_beats_flying delay)) (omega (arith, long)) in
    beside_known delay (most_beats_flying delay) net c.layouts.ensures is most_routes most_services (ups net histories) server names
    (hosts_apart net most_routes most_services delay server window (ups net histories) (flying histories deliveries) beats voice in_time (omega (arith, long)))
    (λ k. ports_up-within (ports_of net k) (history_of histories k)) room listed host.hops least window histories are (λ other. refl) deliveries fly (inr (omega arith)) beats all leave say
    named quick in_time
    place.router within reached (beside place.port which host on announces network, λ others way. no_nearer net (ups net histories) server host.hops least way) beats []
    (sym (append-nil beats)) (omega (arith, due, long))
