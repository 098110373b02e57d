use Rattle.std.proofs.Common.{◌≡◌, sym, ap, ◌∙◌, ℕ, List, [], Option, None, Some, slice_get}
use Rattle.std.proofs.lemmas.Option.{unwrap_or-slice_get}
use Rattle.std.specs.Option.{unwrap_or}
use Rattle.ipx_router.specs.Port.{Port, port_at}
use Rattle.ipx_internet.proofs.places.NodeIsTaken.{port_found}
use Rattle.ipx_internet.proofs.stations.network_of.Goals as goal

-- behind the last port is one on network 0
past_port : (ports : List Port) (number : ℕ) → slice_get ports number ≡ None → (port_at ports number).network ≡ record { 0 = 0 }
past_port ports number none =
    ap (λ (p : Port). p.network) (sym (unwrap_or-slice_get ports number no_port) ∙ ap (λ (o : Option Port). unwrap_or o no_port) none)
  where
    no_port : Port
    no_port = port_at [] 0

pub returns-in-None : goal.returns-in-None
returns-in-None g c =
    sym (past_port c.args.router.now.ports c.args.port
    (ap (λ (n : ℕ). slice_get c.args.router.now.ports n) (sym c.from.ensures) ∙ sym c.port.ensures ∙ c.in-None.is))

pub port-requires : goal.port-requires
port-requires g c = first_of (assumption c.well_formed, search c.well_formed)

pub returns-in-Some : goal.returns-in-Some
returns-in-Some g c =
    let ports = c.args.router.now.ports in
    let got : slice_get ports c.args.port ≡ Some c.in-Some.port =
    ap (λ (n : ℕ). slice_get ports n) (sym c.from.ensures) ∙ sym c.port.ensures ∙ c.in-Some.is in
    c.network.ensures ∙ ap (λ (p : Port). p.network) (sym (port_found ports c.args.port c.in-Some.port got))
