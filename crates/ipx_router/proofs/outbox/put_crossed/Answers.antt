use Rattle.std.proofs.Common.{◌∙◌, ◌+◌, ◌≤◌, length, arith, sym}
use Rattle.ipx_router.proofs.sending.OnePacketMore.{written_front}
use Rattle.ipx_router.proofs.outbox.put_crossed.Goals as goal

pub returns-clause-front : goal.returns-clause-front
returns-clause-front c =
    let wrote = c.write_crossed.ensures in
    let bytes = c.args.bytes.now in
    let there : c.args.start + c.write_crossed.result ≤ length bytes.items = omega (arith, c.requires.room, wrote.count, wrote.size, bytes.ok) in
    written_front _ _ _ _ c.deref_mut.ensures.value wrote.bytes (wrote.count ∙ sym wrote.size) (omega (arith, there)) (omega (arith, there, bytes.ok))
