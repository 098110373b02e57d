use Rattle.std.proofs.Common.{rules}
use Rattle.ipx_wire.specs.Header.{header_bytes}
use Rattle.ipx_c.proofs.Placed.{placed}
use Rattle.ipx_c.proofs.writing.put_parts.Goals as goal

pub returns-clause-bytes : goal.returns-clause-bytes
returns-clause-bytes c = search (rules, placed (header_bytes c.args.header.now) c.args.payload.now)
