use Rattle.std.proofs.Common.{ap, ◌∙◌, option_map, Option, Some, Ok}
use Rattle.std.proofs.lemmas.Result.{err_from_is_err_and}
use Rattle.ipx_cmd.specs.InternetMachine.{Standing}
use Rattle.ipx_cmd.specs.inside.InternetStands.{IsStanding}
use Rattle.ipx_cmd.specs.OrderMeaning.{order_says}
use Rattle.ipx_cmd.specs.declared.lines.order.Order.{Order}
use Rattle.ipx_cmd.proofs.acts.EventsOneAfterAnother.{where_ok}
use Rattle.ipx_cmd.proofs.acts.WhatAnInternetsLineMakes.{halted_line, no_memory, obeyed_line, port_named, port_unnamed, refused_line, router_named, skipped, some_router, still, unlike_naming, unmade_line}
use Rattle.ipx_cmd.proofs.cuts.WaysOut.{if_err, on_both, on_ok}
use Rattle.ipx_cmd.proofs.machines.internet_machine.InternetMachineAct.act.Goals as goal

pub returns-in_err-order-clause-halted : goal.returns-in_err-order-clause-halted
returns-in_err-order-clause-halted g c =
    let p = err_from_is_err_and c.from_residual.result c.from_residual.ensures.1 in
    rw (p.1, p.2) (λ state stands.
    refused_line c.args.self.now state c.args.line.now c.args.outlet.now c.args.text.now.items _ c.requires stands c.in_err-order.ensures.refused)

pub returns-in_default-clause-acted : goal.returns-in_default-clause-acted
returns-in_default-clause-acted g c = λ state stands.
    skipped c.args.self.now c.read.new.self state c.args.line.now c.args.outlet.now c.args.text.now.items c.requires stands c.read.ensures.same
    (c.in_ok-order.ensures.order ∙ ap (λ (o : Option Order). Ok (option_map (order_says c.read.new.self.buffer) o)) c.in_default.is)

pub returns-in-Router-clause-acted : goal.returns-in-Router-clause-acted
returns-in-Router-clause-acted g c =
    let meaning = c.in_ok-order.ensures.order
    ∙ ap (λ (o : Option Order). Ok (option_map (order_says c.read.new.self.buffer) o)) (c.in-Some.is ∙ ap Some c.in-Router.is) in
    on_ok c.name_router.result c.name_router.ensures.net (λ net state stands.
    router_named c.args.self.now c.read.new.self c.name_router.new.self state c.args.line.now c.args.outlet.now c.args.text.now.items c.requires stands
    c.read.ensures.same meaning net c.name_router.ensures.internet)

pub returns-in-Router-clause-halted : goal.returns-in-Router-clause-halted
returns-in-Router-clause-halted g c = if_err c.name_router.result c.name_router.ensures.refused (λ halt refused state stands.
    no_memory state c.args.line.now c.args.outlet.now c.args.text.now.items halt c.requires refused)

pub name_port-requires : goal.name_port-requires
name_port-requires g c =
    some_router c.args.self.now c.read.new.self c.args.line.now c.in-Port.named c.read.ensures.same
    (c.in_ok-order.ensures.order ∙ ap (λ (o : Option Order). Ok (option_map (order_says c.read.new.self.buffer) o)) (c.in-Some.is ∙ ap Some c.in-Port.is))

pub returns-in-Port : goal.returns-in-Port
returns-in-Port g c =
    let meaning = c.in_ok-order.ensures.order
    ∙ ap (λ (o : Option Order). Ok (option_map (order_says c.read.new.self.buffer) o)) (c.in-Some.is ∙ ap Some c.in-Port.is) in
    record {
      fine = where_ok c.name_port.result c.requires;
      acted = on_both c.name_port.result c.name_port.ensures.named c.name_port.ensures.net (λ named net state stands.
          port_named c.args.self.now c.read.new.self c.name_port.new.self state c.args.line.now c.in-Port.named c.args.outlet.now c.args.text.now.items c.requires stands
          c.read.ensures.same meaning named net c.name_port.ensures.internet);
      halted = if_err c.name_port.result c.name_port.ensures.refused (λ halt stops state stands.
          port_unnamed c.args.self.now state c.args.line.now c.in-Port.named c.args.outlet.now c.args.text.now.items halt c.requires stands meaning stops);
    }

pub returns-in_err-make_internet : goal.returns-in_err-make_internet
returns-in_err-make_internet g c =
    let p = err_from_is_err_and c.from_residual-in_err-make_internet.result c.from_residual-in_err-make_internet.ensures.1 in
    let meaning = c.in_ok-order.ensures.order ∙ ap (λ (o : Option Order). Ok (option_map (order_says c.read.new.self.buffer) o)) c.in-Some.is in
    rw (p.1, p.2) (record {
      fine = tt;
      acted = tt;
      halted = λ state stands.
          unmade_line c.args.self.now state c.args.line.now c.read.new.self.buffer c.in-Some.order c.args.outlet.now c.args.text.now.items _ c.requires
          (unlike_naming c.in-Some.order c.in_default-order.not-Router c.in_default-order-2.not-Port) stands meaning
          (c.in_err-make_internet.ensures.refused state (still c.args.self.now c.read.new.self state c.read.ensures.same stands));
    })

pub returns : goal.returns
returns g c =
    let meaning = c.in_ok-order.ensures.order ∙ ap (λ (o : Option Order). Ok (option_map (order_says c.read.new.self.buffer) o)) c.in-Some.is in
    let makes = λ (state : Standing) (stands : IsStanding c.args.self.now state).
    c.in_ok-make_internet.ensures.stands state (still c.args.self.now c.read.new.self state c.read.ensures.same stands) in
    let unlike = unlike_naming c.in-Some.order c.in_default-order.not-Router c.in_default-order-2.not-Port in
    record {
      fine = c.obey.ensures.fine;
      acted = on_ok c.obey.result c.obey.ensures.acted (λ obeyed state stands.
          obeyed_line c.in-Some.order unlike stands meaning (makes state stands) c.make_internet.ensures.buffer obeyed);
      halted = if_err c.obey.result c.obey.ensures.halted (λ halt obeyed state stands. halted_line c.args.line.now c.in-Some.order c.args.outlet.now c.obey.new.outlet
          c.args.text.now.items c.obey.new.text.items halt unlike stands meaning (makes state stands) c.make_internet.ensures.buffer obeyed);
    }
