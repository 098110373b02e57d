use Rattle.std.proofs.Common.{◌≡◌, arith, false, true, is_err, Ok, Err, OnOk, refl, Result, sym, ◌∙◌}
use Rattle.std.proofs.lemmas.Bool.{both_ways}
use Rattle.ipx_internet.specs.inside.Simulated.{net_among}
use Rattle.ipx_internet.proofs.internet.make_place.Goals as goal

at_ok : {T E P : Type 0} (r : Result T E) → is_err r ≡ false → OnOk r P → P
at_ok (Ok x) is p = p
at_ok (Err e) is p = absurd (both_ways true is refl)

pub shares_node-requires : goal.shares_node-requires
shares_node-requires g c = first_of (assumption c.well_formed, search c.well_formed)

pub ports-requires : goal.ports-requires
ports-requires g c = first_of (assumption c.well_formed, search c.well_formed)

pub returns-then-shares_node-clause-fault : goal.returns-then-shares_node-clause-fault
returns-then-shares_node-clause-fault g c =
    (c.shares_node.ensures (net_among c.args.routers.now.items) c.requires).0 c.if-shares_node.true

pub returns-then-is_err-clause-fault : goal.returns-then-is_err-clause-fault
returns-then-is_err-clause-fault g c = λ shares. both_ways c.shares_node.result c.if-shares_node.false
    ((c.shares_node.ensures (net_among c.args.routers.now.items) c.requires).1 shares)

pub returns-clause-fresh : goal.returns-clause-fresh
returns-clause-fresh g c = λ shares. both_ways c.shares_node.result c.if-shares_node.false
    ((c.shares_node.ensures (net_among c.args.routers.now.items) c.requires).1 shares)

pub returns-clause-places : goal.returns-clause-places
returns-clause-places g c =
    let room = at_ok c.reserve.result (sym c.is_err.ensures.value ∙ c.if-is_err.false) c.reserve.ensures.room in
    let all = c.ports.ensures.value in
    omega (arith, room, all)

pub returns-clause-room : goal.returns-clause-room
returns-clause-room g c =
    let room = at_ok c.reserve-else-is_err.result (sym c.is_err-else-is_err.ensures.value ∙ c.if-is_err-2.false) c.reserve-else-is_err.ensures.ok in
    omega (arith, room)
