use Rattle.std.proofs.Common.{refl, sym, List, [], ◌∷◌, ◌++◌, length, inl, inr, arith, append-nil}
use Rattle.ipx_internet.specs.Internet.{Place}
use Rattle.ipx_laws.specs.Outsiders.{LeadsByOutsider}
use Rattle.ipx_laws.specs.Ups.{ups}
use Rattle.ipx_laws.specs.Wires.{WireStep, still, beats_of, most_beats_flying}
use Rattle.ipx_laws.proofs.laws.wires.right_on_wires.Goals as goal
use Rattle.ipx_laws.proofs.tables.AnEmptyList.{setting_beside}
use Rattle.ipx_laws.proofs.tables.Given.{given_of}
use Rattle.ipx_laws.proofs.tables.LeastWays.{ups_within}
use Rattle.ipx_laws.proofs.wires.PartsOfBeats.{along_prefix}
use Rattle.ipx_laws.proofs.wires.RealOnWires.{none_beside, truly_beside, none_strange}
use Rattle.ipx_laws.proofs.wires.WordsOnWires.{StrangeOf}
use Rattle.ipx_laws.proofs.wires.RightOnWires.{none_lead, Right_now, right_at, right_in}

pub returns-clause-apart : goal.returns-clause-apart
returns-clause-apart c net most_routes most_services delay window foreign histories beats router network (is, differ, suffice, cheap, room, are, unlisted) all leave says quick hear
    inside enough =
    let given = given_of net c.layouts.ensures is differ cheap (ups net histories) (ups_within net histories) most_routes most_services foreign room network suffice unlisted in
    right_at delay 0 given
    window (length net) histories are (λ other mine. refl) (none_strange net histories) [] tt (inl refl) beats all leave
    (truly_beside net (ups net histories) (length net) foreign (StrangeOf given) beats says) quick hear (λ to from before within after leads. absurd (none_lead given to from leads))
    router inside inside beats [] (sym (append-nil beats)) (omega (arith, enough))

pub returns-clause-tables : goal.returns-clause-tables
returns-clause-tables c net most_routes most_services delay window histories beats router network setting all leave says quick hear inside enough =
    returns-clause-apart c net most_routes most_services delay window [] histories beats router network (setting_beside net most_routes histories network setting) all leave
    (none_beside beats says) quick hear inside enough

pub returns-clause-apart_whatever_flies : goal.returns-clause-apart_whatever_flies
returns-clause-apart_whatever_flies c net most_routes most_services delay window foreign histories deliveries beats router network
    (is, differ, suffice, cheap, room, are, unlisted) fly all leave says quick hear inside enough =
    let given = given_of net c.layouts.ensures is differ cheap (ups net histories) (ups_within net histories) most_routes most_services foreign room network suffice unlisted in
    right_at delay (most_beats_flying delay) given
    window (length net) histories are (λ other mine. refl) (none_strange net histories) deliveries fly (inr (omega arith)) beats all leave
    (truly_beside net (ups net histories) (length net) foreign (StrangeOf given) beats says) quick hear (λ to from before within after leads. absurd (none_lead given to from leads))
    router inside inside beats [] (sym (append-nil beats)) enough

pub returns-clause-whatever_flies : goal.returns-clause-whatever_flies
returns-clause-whatever_flies c net most_routes most_services delay window histories deliveries beats router network setting fly all leave says quick hear inside enough =
    returns-clause-apart_whatever_flies c net most_routes most_services delay window [] histories deliveries beats router network
    (setting_beside net most_routes histories network setting) fly all leave (none_beside beats says) quick hear inside enough

pub returns-clause-meanwhile : goal.returns-clause-meanwhile
returns-clause-meanwhile c net most_routes most_services delay window histories beats steps more router network setting all leave says quick hear inside enough =
    let (is, differ, suffice, cheap, room, are, unlisted) = setting_beside net most_routes histories network setting in
    let given = given_of net c.layouts.ensures is differ cheap (ups net histories) (ups_within net histories) most_routes most_services [] room network suffice unlisted in
    let whole = beats ++ (steps ++ more) ∷ [] in
    let say = truly_beside net (ups net histories) (length net) [] (StrangeOf given) whole (none_beside whole says) in
    let outsiders = λ (to from : Place) (before within after : List (List WireStep))
    (leads : LeadsByOutsider net (ups net histories) (length net) network to from). absurd (none_lead given to from leads) in
    along_prefix net most_routes most_services delay
    (Right_now delay 0 given window (length net) histories are (λ other mine. refl) (none_strange net histories) [] tt (inl refl) whole all leave say quick hear outsiders router)
    (beats_of net most_routes most_services delay (still histories) beats) steps more
    (right_in delay 0 given window (length net) histories are (λ other mine. refl) (none_strange net histories) [] tt (inl refl) whole all leave say quick hear outsiders
    router inside inside beats ((steps ++ more) ∷ []) refl (omega (arith, enough)) (steps ++ more) [] refl)
