use Rattle.std.proofs.Common.{arith, ◌≡◌, sym, ap, ap₂, ◌∙◌, subst, ℕ, ◌≤◌, ◌+◌, length}
use Rattle.ipx_wire.specs.declared.network.Network.{Network}
use Rattle.ipx_wire.specs.declared.node.Node.{Node}
use Rattle.ipx_router.specs.Port.{Port, port_at}
use Rattle.ipx_internet.specs.inside.Stations.{station}
use Rattle.ipx_internet.specs.declared.stations.Station.{Station}
use Rattle.ipx_internet.proofs.places.NodeIsTaken.{port_found, no_port}
use Rattle.ipx_internet.proofs.places.StationsOfOneMore.{HasFirst, none_yet, one_more, are_wider}
use Rattle.ipx_internet.proofs.stations.Stations.add.Goals as goal
use Rattle.ipx_internet.proofs.stations.Stations.add.Goals.{in-Some, in_default}

pub loop-k-init : goal.loop-k-init
loop-k-init g c =
    let room = c.requires in
    record { first = none_yet c.args.number c.args.router.now.ports c.args.self.now.list; room = omega (arith, room) }

pub put-requires : goal.put-requires
put-requires g c =
    let room = c.loop-k.invariant.room in
    let value = c.ports-k-end.ensures.value in
    let test = c.loop-k-test.true in
    omega (arith, room, value, test)

pub loop-k-preserved : goal.loop-k-preserved
loop-k-preserved g c = elim c.match-port.branch [
  | in-Some w ↦
      let port : port_at c.args.router.now.ports c.loop-k.k ≡ w.in-Some.port =
      port_found c.args.router.now.ports c.loop-k.k w.in-Some.port (sym c.port.ensures ∙ w.in-Some.is) in
      let made : Network → Node → Station = λ network node. record { network = network; node = node; router = c.args.number; port = c.loop-k.k } in
      let s : Station = made w.network.result w.node.result in
      let is : s ≡ station c.args.number c.loop-k.k (port_at c.args.router.now.ports c.loop-k.k) =
      ap₂ made w.network.ensures w.node.ensures ∙ ap (λ (p : Port). station c.args.number c.loop-k.k p) (sym port) in
      let first : HasFirst c.args.number c.args.router.now.ports (c.loop-k.k + 1) c.args.self.now.list w.put.new.self.list =
      one_more c.args.number c.args.router.now.ports c.loop-k.k c.args.self.now.list c.loop-k.self.list w.put.new.self.list s
      c.loop-k.invariant.first is w.put.ensures.others in
      let room = c.loop-k.invariant.room in
      let places = w.put.ensures.places in
      let all : length c.args.router.now.ports ≤ w.put.new.self.places + (c.loop-k.k + 1) = omega (arith, room, places) in
      rw w.self-is (record { first = first; room = all })
  | in_default w ↦
      let value = c.ports-k-end.ensures.value in
      let test = c.loop-k-test.true in
      absurd (no_port c.args.router.now.ports c.loop-k.k (sym c.port.ensures ∙ w.in_default.is) (omega (arith, value, test)))
]

pub returns : goal.returns
returns g c net of is =
    let value = c.ports-k-end.ensures.value in
    let test = c.loop-k-test.false in
    let end = c.loop-k.auto.k-end in
    let all : c.loop-k.k ≡ length c.args.router.now.ports = omega (arith, value, test, end) in
    let P : ℕ → Type 0 = λ k. HasFirst c.args.number c.args.router.now.ports k c.args.self.now.list c.loop-k.self.list in
    are_wider net c.args.router.now.ports c.args.number c.args.self.now.list c.loop-k.self.list of is (subst P all c.loop-k.invariant.first)

pub ports-k-end-requires : goal.ports-k-end-requires
ports-k-end-requires g c = first_of (assumption c.well_formed, search c.well_formed)

pub port-requires : goal.port-requires
port-requires g c = first_of (assumption c.well_formed, search c.well_formed)
