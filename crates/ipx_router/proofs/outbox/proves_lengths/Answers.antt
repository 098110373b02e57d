use Rattle.ipx_router.proofs.outbox.proves_lengths.Goals as goal

pub returns-clause-forwarded : goal.returns-clause-forwarded
returns-clause-forwarded c = c.sizes.ensures.forwarded c.bytes.result.now c.args.packet.now c.bytes.ensures.packet

pub returns-clause-propagated : goal.returns-clause-propagated
returns-clause-propagated c arrived outgoing free eight =
    c.sizes.ensures.propagated c.bytes.result.now c.args.packet.now arrived outgoing c.bytes.ensures.packet free eight
