use Rattle.std.proofs.Common.{rules, arith, ◌≡◌, refl, sym, ap, ◌∙◌, subst, ℕ, true, false, Some, inl, inr}
use Rattle.std.proofs.lemmas.Bool.{cases_lt, both_ways}
use Rattle.std.proofs.lemmas.Option.{slice_get_within}
use Rattle.std.specs.List.{list_any}
use Rattle.ipx_router.specs.Port.{port_at, same_node}
use Rattle.ipx_internet.specs.inside.Stations.{stations_on}
use Rattle.ipx_internet.proofs.places.NodeIsTaken.{port_found, no_port, is_taken, taken_has, shares_none}
use Rattle.ipx_internet.proofs.stations.Stations.shares_node.Goals as goal
use Rattle.ipx_internet.proofs.stations.Stations.shares_node.Goals.{in-Some+else-has_node, in_default}

pub returns-then-has_node : goal.returns-then-has_node
returns-then-has_node g c net of =
    let there : c.port.result ≡ Some c.in-Some.port = c.in-Some.is in
    let got = sym c.port.ensures ∙ there in
    let within = slice_get_within c.args.router.now.ports c.loop-number.number c.in-Some.port got in
    let port : port_at c.args.router.now.ports c.loop-number.number ≡ c.in-Some.port = port_found c.args.router.now.ports c.loop-number.number c.in-Some.port got in
    let seen = ap (λ n. list_any (λ s. same_node s.node n) (stations_on c.args.self.now.list c.network.result)) c.node.ensures
    ∙ ap (λ n. list_any (λ s. same_node s.node c.in-Some.port.node) (stations_on c.args.self.now.list n)) c.network.ensures in
    let taken : is_taken c.args.self.now.list c.in-Some.port ≡ true = sym seen ∙ sym c.has_node.ensures ∙ c.if-has_node.true in
    let taken_at = ap (λ p. is_taken c.args.self.now.list p) port ∙ taken in
    ((λ yes. (c.loop-number.number, within, taken_has c.same_offers.ensures.nodes net c.args.self.now.list of _ taken_at)), (λ shares. refl))

pub loop-number-preserved : goal.loop-number-preserved
loop-number-preserved g c = elim c.match-port.branch [
  | in-Some+else-has_node w ↦
      let there : c.port.result ≡ Some w.in-Some.port = w.in-Some.is in
      let got = sym c.port.ensures ∙ there in
      let port : port_at c.args.router.now.ports c.loop-number.number ≡ w.in-Some.port =
      port_found c.args.router.now.ports c.loop-number.number w.in-Some.port got in
      let free : is_taken c.args.self.now.list w.in-Some.port ≡ false = search rules in
      let last : is_taken c.args.self.now.list (port_at c.args.router.now.ports c.loop-number.number) ≡ false =
      ap (λ p. is_taken c.args.self.now.list p) port ∙ free in
      record {
        none = λ k less. elim (cases_lt k c.loop-number.number) [
          | inl before ↦ c.loop-number.invariant.none k before
          | inr from ↦
              let P : ℕ → Type 0 = λ j. is_taken c.args.self.now.list (port_at c.args.router.now.ports j) ≡ false in
              let same : c.loop-number.number ≡ k = omega (arith, less, from) in
              subst P same last
        ];
      }
  | in_default w ↦
      let value = c.ports-number-end.ensures.value in
      let test = c.loop-number-test.true in
      absurd (no_port c.args.router.now.ports c.loop-number.number (sym c.port.ensures ∙ w.in_default.is) (omega (arith, value, test)))
]

pub returns : goal.returns
returns g c net of = (
  (λ no. absurd (both_ways false refl no)),
  (λ shares. absurd (shares_none c.same_offers.ensures.nodes net c.args.self.now.list of c.args.router.now.ports
      (λ k less. let value = c.ports-number-end.ensures.value in let end = c.loop-number-test.false in
      c.loop-number.invariant.none k (omega (arith, less, value, end))) shares)),
)

pub ports-number-end-requires : goal.ports-number-end-requires
ports-number-end-requires g c = first_of (assumption c.well_formed, search c.well_formed)

pub port-requires : goal.port-requires
port-requires g c = first_of (assumption c.well_formed, search c.well_formed)
