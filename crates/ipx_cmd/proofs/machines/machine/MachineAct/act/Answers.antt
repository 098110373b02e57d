use Rattle.std.proofs.Common.{ap, ◌∙◌, arith, length, option_map, Option, Some, Ok}
use Rattle.std.proofs.lemmas.Result.{err_from_is_err_and}
use Rattle.ipx_cmd.specs.CommandMeaning.{command_says}
use Rattle.ipx_cmd.specs.Machine.{Standing}
use Rattle.ipx_cmd.specs.inside.MachineStands.{IsStanding, reached}
use Rattle.ipx_cmd.specs.declared.lines.command.Command.{Command}
use Rattle.ipx_cmd.proofs.acts.WhatALineMakes.{refused_line, skipped, named_line, unnamed_line, unmade_line, unlike_port, obeyed_line, halted_line, still}
use Rattle.ipx_cmd.proofs.acts.AnotherPortMayBeNamed.{port_line}
use Rattle.ipx_cmd.proofs.cuts.WaysOut.{if_err, on_ok}
use Rattle.ipx_cmd.proofs.machines.machine.MachineAct.act.Goals as goal

pub returns-in_err-command-clause-halted : goal.returns-in_err-command-clause-halted
returns-in_err-command-clause-halted g c =
    let p = err_from_is_err_and c.from_residual.result c.from_residual.ensures.1 in
    rw (p.1, p.2) (λ state stands.
    refused_line c.args.self.now state c.args.line.now c.args.outlet.now c.args.text.now.items _ c.requires stands c.in_err-command.ensures.refused)

pub returns-in_default-clause-acted : goal.returns-in_default-clause-acted
returns-in_default-clause-acted g c = λ state stands.
    skipped c.args.self.now c.read.new.self state c.args.line.now c.args.outlet.now c.args.text.now.items c.requires stands c.read.ensures.same
    (c.in_ok-command.ensures.command ∙ ap (λ (o : Option Command). Ok (option_map (command_says c.read.new.self.buffer) o)) c.in_default.is)

pub name_port-requires : goal.name_port-requires
name_port-requires g c =
    let meaning = c.in_ok-command.ensures.command
    ∙ ap (λ (o : Option Command). Ok (option_map (command_says c.read.new.self.buffer) o)) (c.in-Some.is ∙ ap Some c.in-Port.is) in
    let early = port_line (reached c.args.self.now) c.args.line.now c.in-Port.named meaning in
    omega (arith, early.1, ap length c.read.ensures.same.ports)

pub returns-in_err-name_port-clause-halted : goal.returns-in_err-name_port-clause-halted
returns-in_err-name_port-clause-halted g c =
    let p = err_from_is_err_and c.from_residual-in_err-name_port.result c.from_residual-in_err-name_port.ensures.1 in
    let meaning = c.in_ok-command.ensures.command
    ∙ ap (λ (o : Option Command). Ok (option_map (command_says c.read.new.self.buffer) o)) (c.in-Some.is ∙ ap Some c.in-Port.is) in
    rw (p.1, p.2) (λ state stands.
    unnamed_line c.args.self.now state c.args.line.now c.in-Port.named c.args.outlet.now c.args.text.now.items _ stands meaning c.in_err-name_port.ensures.refused)

pub returns-in-Port-clause-acted : goal.returns-in-Port-clause-acted
returns-in-Port-clause-acted g c = λ state stands.
    let meaning = c.in_ok-command.ensures.command
    ∙ ap (λ (o : Option Command). Ok (option_map (command_says c.read.new.self.buffer) o)) (c.in-Some.is ∙ ap Some c.in-Port.is) in
    named_line c.args.self.now c.read.new.self c.name_port.new.self state c.args.line.now c.in-Port.named c.args.outlet.now c.args.text.now.items c.requires stands
    c.read.ensures.same meaning c.in_ok-name_port.ensures.named c.in_ok-name_port.ensures.ports c.name_port.ensures.router

pub returns-in_err-make_router : goal.returns-in_err-make_router
returns-in_err-make_router g c =
    let p = err_from_is_err_and c.from_residual-in_err-make_router.result c.from_residual-in_err-make_router.ensures.1 in
    let meaning = c.in_ok-command.ensures.command
    ∙ ap (λ (o : Option Command). Ok (option_map (command_says c.read.new.self.buffer) o)) c.in-Some.is in
    rw (p.1, p.2) (record {
      fine = tt;
      acted = tt;
      halted = λ state stands.
          unmade_line c.args.self.now state c.args.line.now c.read.new.self.buffer c.in-Some.command c.args.outlet.now c.args.text.now.items _
          (unlike_port c.in-Some.command c.in_default-command.not-Port) stands meaning
          (c.in_err-make_router.ensures.refused state (still c.args.self.now c.read.new.self state c.read.ensures.same stands));
    })

pub returns : goal.returns
returns g c =
    let meaning = c.in_ok-command.ensures.command
    ∙ ap (λ (o : Option Command). Ok (option_map (command_says c.read.new.self.buffer) o)) c.in-Some.is in
    let makes = λ (state : Standing) (stands : IsStanding c.args.self.now state). c.in_ok-make_router.ensures.stands state (still c.args.self.now c.read.new.self state c.read.ensures.same stands) in
    let unlike = unlike_port c.in-Some.command c.in_default-command.not-Port in
    record {
      fine = c.obey.ensures.fine;
      acted = on_ok c.obey.result c.obey.ensures.acted (λ obeyed state stands.
          obeyed_line c.in-Some.command unlike stands meaning (makes state stands) c.make_router.ensures.buffer obeyed);
      halted = if_err c.obey.result c.obey.ensures.halted (λ halt obeyed state stands. halted_line c.args.line.now c.in-Some.command c.args.outlet.now c.obey.new.outlet
          c.args.text.now.items c.obey.new.text.items halt unlike stands meaning (makes state stands) c.make_router.ensures.buffer obeyed);
    }
