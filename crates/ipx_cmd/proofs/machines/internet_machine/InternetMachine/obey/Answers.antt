use Rattle.std.proofs.Common.{refl, ap, sym, ◌∙◌}
use Rattle.ipx_cmd.specs.inside.InternetStands.{InternetMachine}
use Rattle.ipx_cmd.proofs.acts.WhatAnInternetsLineMakes.{obey_leads}
use Rattle.ipx_cmd.proofs.machines.internet_machine.InternetMachine.obey.Goals.{in-Ok, in-Err-run}
use Rattle.ipx_cmd.proofs.machines.internet_machine.InternetMachine.obey.Goals as goal

pub returns-after-run-clause-acted : goal.returns-after-run-clause-acted
returns-after-run-clause-acted g c = elim c.match-run.branch [
  | in-Ok w ↦
      rw (w.result-is)
      (obey_leads c.args.self.now _ c.in-Some.internet c.run.new.internet c.args.order c.deref.result.now c.args.outlet.now c.run.new.outlet c.args.text.now.items c.run.new.text.items
      (ap (λ (m : InternetMachine). m.internet) (sym c.self.view_is) ∙ c.in-Some.is) (c.deref.ensures.value ∙ ap (λ (m : InternetMachine). m.buffer) c.self.view_is)
      (ap (λ (m : InternetMachine). m.net) c.self.view_is) refl c.in_default.ensures.fine w.in-Ok.ensures.net w.in-Ok.ensures.stands w.in-Ok.ensures.says)
  | in-Err-run w ↦ rw (w.result-is) tt
]
