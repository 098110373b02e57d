use Rattle.std.proofs.Common.{rules}
use Rattle.ipx_wire.proofs.EntryNumber.{entry_number}
use Rattle.ipx_wire.proofs.write.number_of.Goals as goal

pub returns : goal.returns
returns c = entry_number c.args.entry c.from.result c.from-2.result c.from-3.result c.from.ensures c.from-2.ensures c.from-3.ensures
    (search rules) (search rules) (search rules)
