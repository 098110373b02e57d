use Rattle.std.proofs.Common.{◌∙◌, sym, ap}
use Rattle.ipx_keyed.specs.Own.{own_for}
use Rattle.ipx_keyed.proofs.answering.own_for.Goals as goal

pub returns-in-Registers : goal.returns-in-Registers
returns-in-Registers c = c.for_registration.ensures c.args.waiting.now ∙ ap (own_for c.args.setting c.args.clients.now c.args.waiting.now c.args.from) (sym c.in-Registers.is)
