use Rattle.std.proofs.Common.{ap, sym, subst, ◌∙◌, is_some, length, IfErr}
use Rattle.std.proofs.lemmas.List.{length-map}
use Rattle.ipx_cmd.specs.inside.InternetStands.{InternetMachine}
use Rattle.ipx_cmd.specs.Line.{Stops}
use Rattle.ipx_cmd.specs.OrderLine.{order_meaning}
use Rattle.ipx_cmd.specs.declared.lines.order.OrderStage.{OrderStage}
use Rattle.ipx_cmd.proofs.acts.WhatAnInternetsLineMakes.{reached_is}
use Rattle.ipx_cmd.proofs.machines.internet_machine.InternetMachine.read.Goals as goal

pub returns-clause-refused : goal.returns-clause-refused
returns-clause-refused c =
    let stage =
    reached_is c.args.self.now c.is_some.result c.len.result c.latest.result (c.is_some.ensures ∙ ap (λ (m : InternetMachine). is_some m.internet) c.self.view_is)
    (c.len.ensures ∙ c.self.inside.named.ok.0 ∙ sym (length-map c.self.inside.named.items (λ ports. ports.items)) ∙ ap (λ (m : InternetMachine). length m.net) c.self.view_is) c.latest.ensures in
    subst (λ (stage : OrderStage). IfErr c.read_order_line.result (Stops (order_meaning stage c.args.line.now))) stage c.read_order_line.ensures.refused
