use Rattle.std.proofs.Common.{sym, ap, refl, ◌∙◌, Option}
use Rattle.std.specs.Option.{is_some}
use Rattle.ipx_settings.specs.Words.{words, before_mark}
use Rattle.ipx_configuration.proofs.Adding.{socket_more, socket_wrong, socket_none, no_socket_left}
use Rattle.ipx_configuration.specs.declared.fault.Fault.{Fault}
use Rattle.ipx_configuration.proofs.sockets.add_sockets.Goals as goal

pub returns-then-is_some : goal.returns-then-is_some
returns-then-is_some c =
    sym (c.loop-number.invariant
    ∙ socket_wrong c.loop-number.it c.loop-number.number (words (before_mark c.args.text.now)) c.args.read c.in-Some.found.now c.in-Some-socket.found
    (sym c.word.ensures ∙ rw c.in-Some.is refl) c.loop-number-test.true (sym c.socket.ensures ∙ c.in-Some-socket.is)
    (ap is_some (sym c.socket_fault-fault.ensures) ∙ sym c.is_some.ensures ∙ c.if-is_some.true)
    ∙ ap (λ (f : Option Fault). (c.loop-number.it, f)) (sym c.socket_fault-fault.ensures))

pub returns-in-None-socket : goal.returns-in-None-socket
returns-in-None-socket c =
    sym (c.loop-number.invariant
    ∙ socket_none c.loop-number.it c.loop-number.number (words (before_mark c.args.text.now)) c.args.read c.in-Some.found.now
    (sym c.word.ensures ∙ rw c.in-Some.is refl) c.loop-number-test.true (sym c.socket.ensures ∙ c.in-None-socket.is))

pub returns-in-None : goal.returns-in-None
returns-in-None c =
    sym (c.loop-number.invariant
    ∙ no_socket_left c.loop-number.it c.loop-number.number (words (before_mark c.args.text.now)) c.args.read (sym c.word.ensures ∙ rw c.in-None.is refl))

pub loop-number-preserved : goal.loop-number-preserved
loop-number-preserved c =
    let more =
    socket_more c.loop-number.it c.loop-number.number (words (before_mark c.args.text.now)) c.args.read c.in-Some.found.now c.in-Some-socket.found
    (sym c.word.ensures ∙ rw c.in-Some.is refl) c.loop-number-test.true (sym c.socket.ensures ∙ c.in-Some-socket.is)
    (ap is_some (sym c.socket_fault-fault.ensures) ∙ sym c.is_some.ensures ∙ c.if-is_some.false) in
    rw c.with-it.ensures (c.loop-number.invariant ∙ more)
