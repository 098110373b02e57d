use Rattle.ipx_cable.proofs.Fronts.{begins}
use Rattle.ipx_cable.proofs.range.Range.has.Goals as goal

pub returns : goal.returns
returns c =
    rw (c.front.ensures, c.front-2.ensures)
    (begins c.number.result c.number-2.result c.args.self.now.bits c.args.self.now.host c.args.address
    c.number.ensures.value c.number-2.ensures.value c.number.ensures.small c.number-2.ensures.small)
