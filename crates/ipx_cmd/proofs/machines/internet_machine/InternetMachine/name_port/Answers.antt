use Rattle.std.proofs.Common.{ap, ◌∙◌, [], ◌∷◌, ◌++◌, map}
use Rattle.std.specs.Option.{option_to_list}
use Rattle.ipx_router.specs.Port.{Port}
use Rattle.ipx_cmd.specs.CommandMeaning.{values_of}
use Rattle.ipx_cmd.specs.InternetMachine.{with_port}
use Rattle.ipx_cmd.specs.inside.InternetStands.{InternetMachine}
use Rattle.ipx_cmd.proofs.acts.LatestNamed.{with_port_seen}
use Rattle.ipx_cmd.proofs.acts.ValuesMakeARouter.{port_is}
use Rattle.ipx_cmd.proofs.machines.internet_machine.InternetMachine.name_port.Goals as goal

pub returns-in_ok-reserve-clause-net : goal.returns-in_ok-reserve-clause-net
returns-in_ok-reserve-clause-net c =
    let port = values_of c.args.named in
    let longer =
    c.push_reserved.ensures.items ∙ ap (λ l. l ++ c.in_ok-port.port ∷ []) c.in_ok-reserve.ensures.items
    ∙ ap (λ (p : Port). c.in-Some.latest.items ++ p ∷ []) (port_is port c.in_ok-port.port c.in_ok-port.ensures) in
    let before = c.pop.ensures.items ∙ ap (λ o. c.pop.new.self.items ++ option_to_list o) c.in-Some.is in
    ap (map (λ ports. ports.items)) c.push_reserved-in-Some.ensures.items
    ∙ with_port_seen (λ ports. ports.items) c.self.inside.named.items c.pop.new.self.items c.in-Some.latest c.push_reserved.new.self port before longer
    ∙ ap (λ (m : InternetMachine). with_port m.net port) c.self.view_is
