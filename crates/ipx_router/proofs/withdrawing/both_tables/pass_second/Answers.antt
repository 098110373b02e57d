use Rattle.std.proofs.Common.{sym, subst}
use Rattle.ipx_router.specs.Outbox.{Fits, Appends}
use Rattle.ipx_router.proofs.ended.SentIsOfEnded.{nothing_sent, second_as}
use Rattle.ipx_router.proofs.sending.OneAfterAnother.{appends_none}
use Rattle.ipx_router.proofs.withdrawing.both_tables.pass_second.Goals as goal

pub advertise_second-requires : goal.advertise_second-requires
advertise_second-requires g c =
    let a = c.args in
    let room = subst (Fits a.outbox.now)
    (second_as a.ports.now a.up.now a.routes.now.records a.services.now.records c.proves_by_key.ensures.routes c.proves_by_key.ensures.services
    c.second_in_place.ensures.ended c.second_in_place-2.ensures.ended a.periodic c.second_in_place.ensures.records c.second_in_place-2.ensures.records)
    c.requires.room in
    (search, (search, (c.requires.ports, (c.requires.few, (c.second_in_place.ensures.by_key, (c.second_in_place-2.ensures.by_key, room))))))

pub returns-clause-sends : goal.returns-clause-sends
returns-clause-sends g c =
    let a = c.args in
    subst (Appends a.outbox.now c.advertise_second.new.outbox)
    (sym (second_as a.ports.now a.up.now a.routes.now.records a.services.now.records c.proves_by_key.ensures.routes c.proves_by_key.ensures.services
    c.second_in_place.ensures.ended c.second_in_place-2.ensures.ended a.periodic c.second_in_place.ensures.records c.second_in_place-2.ensures.records))
    c.advertise_second.ensures

pub returns-then-is_quiet-clause-sends : goal.returns-then-is_quiet-clause-sends
returns-then-is_quiet-clause-sends g c =
    let a = c.args in
    let quiet = c.is_quiet.ensures in
    let yes_quiet = c.if-is_quiet.true in
    subst (Appends a.outbox.now a.outbox.now)
    (sym (nothing_sent a.ports.now a.up.now a.routes.now.records a.services.now.records c.proves_by_key.ensures.routes c.proves_by_key.ensures.services
    a.periodic (quiet.ordinary yes_quiet) (quiet.routes yes_quiet) (quiet.services yes_quiet)))
    (appends_none a.outbox.now)

pub proves_by_key-requires : goal.proves_by_key-requires
proves_by_key-requires g c = search

pub is_quiet-requires : goal.is_quiet-requires
is_quiet-requires g c = search

pub pass-requires : goal.pass-requires
pass-requires g c = (search, c.is_quiet.ensures.routes c.if-is_quiet.true)

pub pass-requires-then-is_quiet : goal.pass-requires-then-is_quiet
pass-requires-then-is_quiet g c = (search, c.is_quiet.ensures.services c.if-is_quiet.true)

pub second_in_place-requires : goal.second_in_place-requires
second_in_place-requires g c = search

pub second_in_place-requires-2 : goal.second_in_place-requires-2
second_in_place-requires-2 g c = search

pub clear_ended-requires : goal.clear_ended-requires
clear_ended-requires g c = search

pub clear_ended-requires-2 : goal.clear_ended-requires-2
clear_ended-requires-2 g c = search
