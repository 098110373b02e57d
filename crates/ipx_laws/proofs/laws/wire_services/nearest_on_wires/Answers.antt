use Rattle.std.specs.List.{AllByRecursion}
use Rattle.std.proofs.Common.{◌≡◌, ◌≢◌, refl, ℕ, suc, ◌+◌, ◌<◌, ◌≤◌, List, ◌∷◌, ◌++◌, [], length, length-append, Some, ◌⊎◌, inl, inr, arith}
use Rattle.ipx_router.proofs.port_values.PortOfEachNumber.{ports_up-within}
use Rattle.ipx_wire.specs.declared.address.Address.{Address}
use Rattle.ipx_router.specs.History.{History, Packet}
use Rattle.ipx_router.specs.Numbers.{every_service, unreachable}
use Rattle.ipx_internet.specs.Internet.{Internet, Place, NodesDiffer, ports_of}
use Rattle.ipx_internet.specs.Queue.{Delivery, history_of, sends_at}
use Rattle.ipx_internet.specs.Rounds.{IsDelivery}
use Rattle.ipx_internet.specs.Run.{Run, AreHistories}
use Rattle.ipx_laws.specs.InTime.{AreQuick}
use Rattle.ipx_laws.specs.Meanwhile.{LeavesPorts}
use Rattle.ipx_laws.specs.Nearest.{LeadsElsewhere, IsAnswered, Asks}
use Rattle.ipx_laws.specs.Regular.{IsServiceSetting, NoneNearer, IsListedName}
use Rattle.ipx_laws.specs.Servers.{Server, at_hops, known_of, IsFewest}
use Rattle.ipx_laws.specs.Tables.{services_of}
use Rattle.ipx_laws.specs.Ups.{ups}
use Rattle.ipx_laws.specs.WireRegular.{AreRegularBeats, AreRoutersInTime, most_beats_known}
use Rattle.ipx_laws.specs.Wires.{Wires, WireStep, flying, beats_of, wires_of, AreBeats, EachWireStep, most_beats_flying}
use Rattle.ipx_laws.proofs.laws.wire_services.nearest_on_wires.Goals as goal
use Rattle.ipx_laws.proofs.services.NearestIsAnswered.{answered_now}
use Rattle.ipx_laws.proofs.services.SpokenOfAServer.{IsFine}
use Rattle.ipx_laws.proofs.wires.HeardInBeats.{hosts_apart}
use Rattle.ipx_laws.proofs.wires.KnownOnWires.{known, sound_in}
use Rattle.ipx_laws.proofs.wires.PartsOfBeats.{along_prefix}

-- the answer, where anything flew at first that is over by then, or nothing did
answered_then : (slack : ℕ) → goal.After-layouts
    → (net : Internet) (most_routes most_services delay window : ℕ) (server : Server) (names : List (ℕ × List ℕ)) (nearest : ℕ)
    (histories : List History) (deliveries : List Delivery) (beats : List (List WireStep)) (steps more : List WireStep) (hops : ℕ) (place : Place) (source : Address) (bytes : List ℕ)
    → IsServiceSetting net most_services histories names server → AllByRecursion (IsDelivery net) deliveries
    → (deliveries ≡ []) ⊎ (most_beats_flying delay ≤ slack) → AreBeats net (beats ++ (steps ++ more) ∷ []) → EachWireStep LeavesPorts (beats ++ (steps ++ more) ∷ [])
    → AreQuick net window (beats ++ (steps ++ more) ∷ [])
    → AreRegularBeats net most_routes most_services delay server window names (ups net histories) (flying histories deliveries) (beats ++ (steps ++ more) ∷ [])
    → NodesDiffer net → NoneNearer server nearest
    → AreRoutersInTime net most_routes most_services delay server window (ups net histories) (flying histories deliveries) (beats ++ (steps ++ more) ∷ [])
    → slack + most_beats_known delay window nearest hops ≤ length beats → place.router < length net → suc hops < unreachable
    → IsFewest net (ups net histories) server place.router hops → server.kind ≢ every_service
    → LeadsElsewhere net (ups net histories) server place hops
    → let now = wires_of net most_routes most_services delay (beats_of net most_routes most_services delay (flying histories deliveries) beats) steps in
    Asks net now.histories place source server.kind bytes
    → IsAnswered (ports_of net place.router) place.port source server.kind (suc hops)
    (sends_at net most_routes most_services now.histories place.router (Packet place.port bytes))
answered_then slack c net most_routes most_services delay window server names nearest histories deliveries beats steps more hops place source bytes (is, are, voice, room, listed) fly over all leave quick (say, named, in_time) differ least routers long within near fewest kind elsewhere (are_bytes, heard) =
    let first : Wires = beats_of net most_routes most_services delay (flying histories deliveries) beats in
    let now : Wires = wires_of net most_routes most_services delay first steps in
    let apart = hosts_apart net most_routes most_services delay server window (ups net histories) (flying histories deliveries) (beats ++ (steps ++ more) ∷ []) voice in_time
    (let count = length-append beats ((steps ++ more) ∷ []) in omega (arith, count, long)) in
    let has = along_prefix net most_routes most_services delay
    (λ n. known_of server (services_of net most_services n.histories place.router) ≡ Some (at_hops server hops)) first steps more
    (known delay slack net c.layouts.ensures is most_routes most_services (ups net histories) server names apart
    (λ k. ports_up-within (ports_of net k) (history_of histories k)) room listed nearest least window histories are (λ other. refl) deliveries fly over (beats ++ (steps ++ more) ∷ []) all leave say
    named quick in_time
    differ routers hops (omega (arith, near)) beats (steps ++ more) [] refl (omega (arith, long)) place.router within fewest) in
    let sound = along_prefix net most_routes most_services delay
    (λ n. AreHistories net n.histories
    × AllByRecursion (IsFine net (ups net histories) server (IsListedName names) place.router) (services_of net most_services n.histories place.router)) first steps more
    (sound_in delay slack net c.layouts.ensures is most_routes most_services (ups net histories) server names apart
    (λ k. ports_up-within (ports_of net k) (history_of histories k)) room listed nearest least window histories are (λ other. refl) deliveries fly over (beats ++ (steps ++ more) ∷ []) all leave say
    named quick in_time
    place.router within beats (steps ++ more) [] refl (omega (arith, long))) in
    let run : Run = record { histories = now.histories; waiting = []; log = [] } in
    answered_now net c.layouts.ensures is most_routes most_services (ups net histories) server (IsListedName names) place.router within hops place.port near kind elsewhere bytes
    are_bytes source run (record { are = sound.0; fine = sound.1 }) has heard

pub returns : goal.returns
returns c = record {
  answered = λ net most_routes most_services delay window server names nearest histories beats steps more hops place source bytes setting all leave quick regular differ least routers long.
      answered_then 0 c net most_routes most_services delay window server names nearest histories [] beats steps more hops place source bytes setting tt (inl refl) all leave quick
      regular differ least routers (omega (arith, long));
  whatever_flies = λ net most_routes most_services delay window server names nearest histories deliveries beats steps more hops place source bytes setting fly.
      answered_then (most_beats_flying delay) c net most_routes most_services delay window server names nearest histories deliveries beats steps more hops place source bytes setting
      fly (inr (omega arith));
}
