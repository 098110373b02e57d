use Rattle.std.proofs.Common.{◌≡◌, ◌∙◌, sym, ap, true, false, [], ◌∷◌}
use Rattle.ipx_wire.specs.Crossed.{is_among}
use Rattle.ipx_router.specs.inside.CheckGroups.{IsListed}
use Rattle.ipx_router.specs.Why.{when, first_of}
use Rattle.ipx_router.specs.declared.why.Why.TheVariants.{CrossedSeen}
use Rattle.ipx_router.proofs.verdicts.ChecksOfEachKind.{listed, asked_among}
use Rattle.ipx_router.proofs.judging.checks.networks_crossed.Goals as goal

pub returns-then-contains-clause-refused : goal.returns-then-contains-clause-refused
returns-then-contains-clause-refused c =
    let is : IsListed c.args.packet.now c.in-Ok.crossed =
    listed c.args.packet.now c.header-header.result c.payload.result.now c.in-Ok.crossed c.header-header.ensures c.payload.ensures
    c.in-Ok.ensures.found (sym c.in-Ok.is ∙ c.read.ensures.value) in
    let seen : is_among c.args.port.now.network c.in-Ok.crossed ≡ true =
    ap (λ n. is_among n c.in-Ok.crossed) (sym c.network.ensures) ∙ sym c.contains.ensures ∙ c.if-contains.true in
    asked_among c.args.port.now c.args.packet.now c.in-Ok.crossed is ∙ ap (λ b. first_of (when b CrossedSeen ∷ [])) seen

pub returns-clause-cleared : goal.returns-clause-cleared
returns-clause-cleared c =
    let is : IsListed c.args.packet.now c.in-Ok.crossed =
    listed c.args.packet.now c.header-header.result c.payload.result.now c.in-Ok.crossed c.header-header.ensures c.payload.ensures
    c.in-Ok.ensures.found (sym c.in-Ok.is ∙ c.read.ensures.value) in
    let unseen : is_among c.args.port.now.network c.in-Ok.crossed ≡ false =
    ap (λ n. is_among n c.in-Ok.crossed) (sym c.network.ensures) ∙ sym c.contains.ensures ∙ c.if-contains.false in
    asked_among c.args.port.now c.args.packet.now c.in-Ok.crossed is ∙ ap (λ b. first_of (when b CrossedSeen ∷ [])) unseen

pub returns-clause-listed : goal.returns-clause-listed
returns-clause-listed c =
    listed c.args.packet.now c.header-header.result c.payload.result.now c.in-Ok.crossed c.header-header.ensures c.payload.ensures
    c.in-Ok.ensures.found (sym c.in-Ok.is ∙ c.read.ensures.value)
