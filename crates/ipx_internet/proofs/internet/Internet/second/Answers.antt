use Rattle.std.proofs.Common.{◌≡◌, ◌∙◌, subst, rules, ◌<◌, length}
use Rattle.ipx_router.specs.History.{Second}
use Rattle.ipx_internet.specs.Moment.{StandsFor, net_at}
use Rattle.ipx_internet.specs.Passed.{HasPassed, HasTicked, PassesShort}
use Rattle.ipx_internet.specs.Queue.{Queued, queued}
use Rattle.ipx_internet.specs.Settled.{HasSettled, StopsShort}
use Rattle.ipx_internet.specs.Ticks.{a_tick}
use Rattle.ipx_internet.proofs.internet.Internet.second.Goals as goal
use Rattle.ipx_internet.proofs.ticks.SecondIsATick.{seconds, one_more, then_settled, is_ticked, short_in_seconds, short_in_deliveries, on_ok, on_err, where_quiet}

pub loop-number-preserved : goal.loop-number-preserved
loop-number-preserved g c =
    let one : (q : Queued) → StandsFor g.row.R g.row.S c.loop-number.self q
    → StandsFor g.row.R g.row.S c.event.new.self (queued (net_at c.loop-number.self) g.row.R g.row.S q c.loop-number.number Second) = search rules in (
      c.event.ensures.net ∙ c.loop-number.invariant.0,
      one_more g.row.R g.row.S c.loop-number.number c.args.self.now c.loop-number.self c.event.new.self c.loop-number.invariant.0 c.loop-number.invariant.1 one,
    )

pub returns-then-is_err-clause-net : goal.returns-then-is_err-clause-net
returns-then-is_err-clause-net g c = c.event.ensures.net ∙ c.loop-number.invariant.0

pub returns-then-is_err-clause-short : goal.returns-then-is_err-clause-short
returns-then-is_err-clause-short g c =
    let count = length c.args.self.now.routers in
    let less : c.loop-number.number < count = search rules in
    let same : c.event.new.self ≡ c.loop-number.self = search rules in
    short_in_seconds g.row.R g.row.S count c.args.limit c.loop-number.number c.args.self.now c.loop-number.self c.event.new.self less same c.loop-number.invariant.1

pub returns-clause-net : goal.returns-clause-net
returns-clause-net g c = c.settle.ensures.net ∙ c.loop-number.invariant.0

pub returns-clause-passed : goal.returns-clause-passed
returns-clause-passed g c =
    let count = length c.args.self.now.routers in
    let all : c.loop-number.number ≡ count = search rules in
    on_ok c.settle.result (HasSettled g.row.R g.row.S c.args.limit c.loop-number.self c.settle.new.self)
    (HasPassed g.row.R g.row.S (a_tick count c.args.limit) c.args.self.now c.settle.new.self)
    (then_settled g.row.R g.row.S count c.args.limit c.args.self.now c.loop-number.self c.settle.new.self c.loop-number.invariant.0
    (subst (λ n. HasPassed g.row.R g.row.S (seconds n) c.args.self.now c.loop-number.self) all c.loop-number.invariant.1)) c.settle.ensures.settled

pub returns-clause-ticked : goal.returns-clause-ticked
returns-clause-ticked g c =
    let count = length c.args.self.now.routers in
    where_quiet c.settle.result c.settle.new.self.queue (HasPassed g.row.R g.row.S (a_tick count c.args.limit) c.args.self.now c.settle.new.self)
    (HasTicked g.row.R g.row.S 1 c.args.self.now c.settle.new.self)
    (is_ticked g.row.R g.row.S c.args.limit c.args.self.now c.settle.new.self) (returns-clause-passed g c) c.settle.ensures.told

pub returns-clause-short : goal.returns-clause-short
returns-clause-short g c =
    let count = length c.args.self.now.routers in
    let all : c.loop-number.number ≡ count = search rules in
    on_err c.settle.result (StopsShort g.row.R g.row.S c.args.limit c.loop-number.self c.settle.new.self)
    (PassesShort g.row.R g.row.S (a_tick count c.args.limit) c.args.self.now c.settle.new.self)
    (short_in_deliveries g.row.R g.row.S count c.args.limit c.args.self.now c.loop-number.self c.settle.new.self c.loop-number.invariant.0
    (subst (λ n. HasPassed g.row.R g.row.S (seconds n) c.args.self.now c.loop-number.self) all c.loop-number.invariant.1)) c.settle.ensures.short
