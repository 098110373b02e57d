use Rattle.std.proofs.Common.{refl, sym, [], ◌∷◌, ◌++◌, inl, inr, arith, append-nil}
use Rattle.ipx_laws.specs.Outsiders.{ups_with}
use Rattle.ipx_laws.specs.Wires.{still, beats_of, most_beats_flying}
use Rattle.ipx_laws.proofs.laws.outsiders.right_with_outsiders_on_wires.Goals as goal
use Rattle.ipx_laws.proofs.outsiders.PortsOfOutsiders.{with_within, ours_up}
use Rattle.ipx_laws.proofs.tables.Given.{given_of}
use Rattle.ipx_laws.proofs.wires.PartsOfBeats.{along_prefix}
use Rattle.ipx_laws.proofs.wires.RightOnWires.{Right_now, right_at, right_in}

pub returns-clause-tables : goal.returns-clause-tables
returns-clause-tables c net most_routes most_services delay window ours foreign histories beats router network
    (is, differ, suffice, cheap, room, are, stopped, unlisted) all leave say quick hear outsiders within mine enough =
    right_at delay 0
    (given_of net c.layouts.ensures is differ cheap (ups_with net ours histories) (with_within net ours histories) most_routes most_services foreign room network suffice unlisted)
    window ours histories are (ours_up net ours histories) stopped [] tt (inl refl) beats all leave say quick hear outsiders router within mine beats []
    (sym (append-nil beats)) (omega (arith, enough))

pub returns-clause-meanwhile : goal.returns-clause-meanwhile
returns-clause-meanwhile c net most_routes most_services delay window ours foreign histories beats steps more router network
    (is, differ, suffice, cheap, room, are, stopped, unlisted) all leave say quick hear outsiders within mine enough =
    let given = given_of net c.layouts.ensures is differ cheap (ups_with net ours histories) (with_within net ours histories) most_routes most_services foreign room network suffice unlisted in
    let whole = beats ++ (steps ++ more) ∷ [] in
    along_prefix net most_routes most_services delay
    (Right_now delay 0 given window ours histories are (ours_up net ours histories) stopped [] tt (inl refl) whole all leave say quick hear outsiders router)
    (beats_of net most_routes most_services delay (still histories) beats) steps more
    (right_in delay 0 given window ours histories are (ours_up net ours histories) stopped [] tt (inl refl) whole all leave say quick hear outsiders router within mine beats
    ((steps ++ more) ∷ []) refl (omega (arith, enough)) (steps ++ more) [] refl)

pub returns-clause-whatever_flies : goal.returns-clause-whatever_flies
returns-clause-whatever_flies c net most_routes most_services delay window ours foreign histories deliveries beats router network
    (is, differ, suffice, cheap, room, are, stopped, unlisted) fly all leave say quick hear outsiders within mine enough =
    right_at delay (most_beats_flying delay)
    (given_of net c.layouts.ensures is differ cheap (ups_with net ours histories) (with_within net ours histories) most_routes most_services foreign room network suffice unlisted)
    window ours histories are (ours_up net ours histories) stopped deliveries fly (inr (omega arith)) beats all leave say quick hear outsiders router within mine beats []
    (sym (append-nil beats)) enough
