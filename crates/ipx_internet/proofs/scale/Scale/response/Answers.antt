use Rattle.std.proofs.Common.{◌≡◌, refl, ◌+◌, if◌then◌else◌, arith}
use Rattle.ipx_internet.specs.InternetWeight.{services_weight}
use Rattle.ipx_internet.proofs.scale.Scale.response.Goals as goal

pub returns : goal.returns
returns c = λ net routes services is.
    let entries = c.offered.ensures net routes services is in
    let sum = c.saturating_add.ensures in
    let off = c.if-nearest.false in
    let weight : (if c.args.nearest then 1 else 1 + services_weight net c.args.entries.now) ≡ 1 + services_weight net c.args.entries.now = rw off refl in
    omega (arith, entries, sum, weight)
