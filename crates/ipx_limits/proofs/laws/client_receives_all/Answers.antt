use Rattle.ipx_fair.specs.Laws.{AtMost}
use Rattle.ipx_limits.specs.ClientEvents.{Few, to_packets, to_pieces, to_address}
use Rattle.ipx_limits.proofs.Several.{runs_one, part_heard, own_part_heard}
use Rattle.ipx_limits.proofs.Clients.{runs_packets, runs_pieces, runs_address, receives_all}
use Rattle.ipx_limits.proofs.laws.client_receives_all.Goals as goal

pub returns-clause-one : goal.returns-clause-one
returns-clause-one c = λ limits household n m l k old new events some some_pieces some_address kept kept_pieces kept_address run keeps keeps_pieces keeps_address.
    receives_all limits household (Few n m l) k old new events run
    (
    part_heard n k old.client.packets new.client.packets (to_packets limits events) some kept
    (
    runs_one (AtMost n) old.client.packets new.client.packets (to_packets limits events)
    (runs_packets limits household (Few n m l) (AtMost n) (λ home few. few.packets) old new events run)
    )
    keeps
    )
    (
    part_heard m k old.client.pieces new.client.pieces (to_pieces limits events) some_pieces kept_pieces
    (
    runs_one (AtMost m) old.client.pieces new.client.pieces (to_pieces limits events)
    (runs_pieces limits household (Few n m l) (AtMost m) (λ home few. few.pieces) old new events run)
    )
    keeps_pieces
    )
    (
    part_heard l k old.address new.address (to_address household events) some_address kept_address
    (
    runs_one (AtMost l) old.address new.address (to_address household events)
    (runs_address limits household (Few n m l) (AtMost l) (λ home few. few.address) old new events run)
    )
    keeps_address
    )

pub returns-clause-own : goal.returns-clause-own
returns-clause-own c = λ limits household n m l k old new events some some_pieces some_address kept kept_pieces kept_address run enough enough_address keeps keeps_pieces keeps_address.
    receives_all limits household (Few n m l) k old new events run
    (
    own_part_heard n k old.client.packets new.client.packets (to_packets limits events) some kept
    (
    runs_one (AtMost n) old.client.packets new.client.packets (to_packets limits events)
    (runs_packets limits household (Few n m l) (AtMost n) (λ home few. few.packets) old new events run)
    )
    enough keeps
    )
    (
    part_heard m k old.client.pieces new.client.pieces (to_pieces limits events) some_pieces kept_pieces
    (
    runs_one (AtMost m) old.client.pieces new.client.pieces (to_pieces limits events)
    (runs_pieces limits household (Few n m l) (AtMost m) (λ home few. few.pieces) old new events run)
    )
    keeps_pieces
    )
    (
    own_part_heard l k old.address new.address (to_address household events) some_address kept_address
    (
    runs_one (AtMost l) old.address new.address (to_address household events)
    (runs_address limits household (Few n m l) (AtMost l) (λ home few. few.address) old new events run)
    )
    enough_address keeps_address
    )
