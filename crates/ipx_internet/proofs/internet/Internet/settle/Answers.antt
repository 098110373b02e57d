use Rattle.std.proofs.Common.{rules, arith, ap, ◌∙◌, ◌≡◌, ◌+◌, ◌<◌, ◌≤◌, length}
use Rattle.ipx_internet.specs.InternetWeight.{internet_weight}
use Rattle.ipx_internet.specs.Settled.{HasSettled}
use Rattle.ipx_internet.proofs.deliveries.SettledOneByOne.{one_more, no_more, none_of}
use Rattle.ipx_internet.proofs.internet.Internet.settle.Goals as goal
use Rattle.ipx_internet.proofs.weights.WeightOfHistories.{weightless, quiet_told}

pub returns-then-waiting-eq0-clause-settled : goal.returns-then-waiting-eq0-clause-settled
returns-then-waiting-eq0-clause-settled g c =
    let few : c.loop.counter ≤ c.args.limit = search rules in
    let none : length c.loop.self.queue ≡ 0 = search rules in
    no_more g.row.R g.row.S c.loop.counter c.args.limit c.args.self.now c.loop.self few c.loop.invariant.1 (none_of c.loop.self.queue none)

pub loop-preserved : goal.loop-preserved
loop-preserved g c =
    let one : HasSettled g.row.R g.row.S 1 c.loop.self c.settle_one.new.self = search rules in
    let some : 0 < length c.loop.self.queue = search rules in
    let less : internet_weight g.row.R g.row.S c.settle_one.new.self < internet_weight g.row.R g.row.S c.loop.self = search rules in
    let so_far = c.loop.invariant.3 in
    let lighter : internet_weight g.row.R g.row.S c.settle_one.new.self + (c.loop.counter + 1) ≤ internet_weight g.row.R g.row.S c.args.self.now =
    omega (arith, less, so_far) in (
      c.settle_one.ensures.net ∙ c.loop.invariant.0,
      one_more g.row.R g.row.S c.loop.counter c.args.self.now c.loop.self c.settle_one.new.self c.loop.invariant.0 c.loop.invariant.1 one,
      λ at_first.
          let none : length c.loop.self.queue ≡ 0 = ap length (c.loop.invariant.2 at_first) in
          let no : ⊥ = omega (arith, some, none) in
          absurd no,
      lighter,
    )

pub returns-clause-enough : goal.returns-clause-enough
returns-clause-enough g c light =
    let so_far = c.loop.invariant.3 in
    let all : c.args.limit ≤ c.loop.counter = search rules in
    quiet_told c.loop.self.queue c.left.result c.left.ensures
    (weightless g.row.R g.row.S c.loop.self (omega (arith, so_far, light, all)))
