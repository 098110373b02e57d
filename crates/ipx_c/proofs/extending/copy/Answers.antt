use Rattle.std.proofs.Common.{◌∙◌, sym, map}
use Rattle.ipx_tunnel.specs.Extend.{extended}
use Rattle.ipx_c.specs.Extends.{network_of, socket_of, is_copied}
use Rattle.ipx_c.proofs.Copied.{named_by_one, has_header, picked, kept}
use Rattle.ipx_c.proofs.extending.copy.Goals as goal

pub extend-requires : goal.extend-requires
extend-requires c =
    let network = network_of c.args.network in
    has_header network (map socket_of c.args.sockets.now) c.args.bytes.now
    (sym (named_by_one network c.args.sockets.now c.args.bytes.now) ∙ sym c.is_copied_by_one-is_copied.ensures ∙ c.if-is_copied.true)

pub returns-then-is_copied-clause-answer : goal.returns-then-is_copied-clause-answer
returns-then-is_copied-clause-answer c =
    c.is_copied_by_one-is_copied.ensures ∙ named_by_one (network_of c.args.network) c.args.sockets.now c.args.bytes.now

pub returns-then-is_copied-clause-copy : goal.returns-then-is_copied-clause-copy
returns-then-is_copied-clause-copy c =
    picked (is_copied c.args.network c.args.sockets.now c.args.bytes.now) (extended (network_of c.args.to) c.args.bytes.now) c.args.bytes.now
    c.extend.new.bytes
    (sym (named_by_one (network_of c.args.network) c.args.sockets.now c.args.bytes.now) ∙ sym c.is_copied_by_one-is_copied.ensures ∙ c.if-is_copied.true)
    c.extend.ensures

pub returns-else-is_copied-clause-answer : goal.returns-else-is_copied-clause-answer
returns-else-is_copied-clause-answer c =
    c.is_copied_by_one-is_copied.ensures ∙ named_by_one (network_of c.args.network) c.args.sockets.now c.args.bytes.now

pub returns-else-is_copied-clause-copy : goal.returns-else-is_copied-clause-copy
returns-else-is_copied-clause-copy c =
    kept (is_copied c.args.network c.args.sockets.now c.args.bytes.now) (extended (network_of c.args.to) c.args.bytes.now) c.args.bytes.now
    (sym (named_by_one (network_of c.args.network) c.args.sockets.now c.args.bytes.now) ∙ sym c.is_copied_by_one-is_copied.ensures ∙ c.if-is_copied.false)
