use Rattle.std.proofs.Common.{◌≡◌, ◌∙◌, ap, ℕ, ◌+◌, arith}
use Rattle.std.proofs.lemmas.List.{length-map}
use Rattle.std.proofs.lemmas.Result.{on_ok_weaker}
use Rattle.ipx_router.specs.Stands.{State}
use Rattle.ipx_internet.specs.Moment.{net_at}
use Rattle.ipx_internet.specs.Queue.{Queued}
use Rattle.ipx_internet.specs.Rounds.{rounds, most_rounds}
use Rattle.least_ways.specs.declared.rest.TheConstants.{ROUNDS}
use Rattle.least_ways.proofs.RoundsInMemory.{is_at_rest}
use Rattle.least_ways.proofs.rest.come_to_rest.Goals as goal

pub returns-clause-rest : goal.returns-clause-rest
returns-clause-rest g c =
    let old = c.args.internet.now in
    let net = net_at old in
    let past = c.len-routers.ensures.past in
    let q : Queued = record { histories = past.histories; queue = old.queue } in
    let routers = c.len-routers.ensures.value in
    let counted = length-map old.routers (λ (s : State). s.ports) in
    let count : ROUNDS + c.len-routers.result ≡ most_rounds net = omega (arith, routers, counted) in
    let quiet = c.settles.ensures.quiet net g.row.R g.row.S q c.len-routers.ensures.internet past.are c.len-routers.ensures.waits in
    on_ok_weaker c.deliver_rounds-2.result
    (λ then. is_at_rest g.row.R g.row.S old c.deliver_rounds.new.internet c.deliver_rounds-2.new.internet ROUNDS c.len-routers.result q
    c.deliver_rounds.ensures.net past.stands c.in_ok-deliver_rounds.ensures.rounds then
    (ap (λ (n : ℕ). (rounds net g.row.R g.row.S n q).queue) count ∙ quiet))
    c.deliver_rounds-2.ensures.rounds
