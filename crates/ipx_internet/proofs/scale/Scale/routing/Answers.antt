use Rattle.std.proofs.Common.{◌≡◌, sym, ap, ◌∙◌, ◌+◌, ℕ, arith}
use Rattle.ipx_wire.specs.declared.rip.Operation.{Operation}
use Rattle.ipx_wire.specs.declared.rip.Operation.TheVariants.{Request, Response}
use Rattle.ipx_wire.specs.declared.socket.Socket.{Socket}
use Rattle.ipx_internet.specs.InternetWeight.{request_weight, routes_weight}
use Rattle.ipx_internet.specs.inside.Scales.{saturated}
use Rattle.ipx_internet.proofs.scale.Scale.routing.Goals as goal

pub returns-in-Request : goal.returns-in-Request
returns-in-Request c = λ net routes services source is same.
    let rip = c.args.rip.now in
    let weight : Operation → ℕ = λ o. elim o [ Response ↦ 1 + routes_weight net rip.entries | Request ↦ request_weight net routes source.socket.0 ] in
    c.request.ensures net routes services is ∙ ap (λ (s : Socket). saturated (request_weight net routes s.0)) (sym same)
    ∙ ap (λ (o : Operation). saturated (weight o)) (sym (sym c.operation.ensures ∙ c.in-Request.is))

pub returns-in-Response : goal.returns-in-Response
returns-in-Response c = λ net routes services source is same.
    let rip = c.args.rip.now in
    let weight : Operation → ℕ = λ o. elim o [ Response ↦ 1 + routes_weight net rip.entries | Request ↦ request_weight net routes source.socket.0 ] in
    let entries = c.routes.ensures net routes services is in
    let sum = c.saturating_add.ensures in
    let all : c.saturating_add.result ≡ saturated (1 + routes_weight net rip.entries) = omega (arith, entries, sum) in
    all ∙ ap (λ (o : Operation). saturated (weight o)) (sym (sym c.operation.ensures ∙ c.in-Response.is))
