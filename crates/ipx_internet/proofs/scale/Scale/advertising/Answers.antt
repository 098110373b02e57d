use Rattle.std.proofs.Common.{sym, ap, ◌∙◌}
use Rattle.ipx_router.specs.Heard.{HeardSap}
use Rattle.ipx_internet.specs.InternetWeight.{message_weight, query_weight}
use Rattle.ipx_internet.specs.inside.Scales.{saturated}
use Rattle.ipx_internet.proofs.scale.Scale.advertising.Goals as goal

pub returns-in-Query : goal.returns-in-Query
returns-in-Query c net routes services source scale from =
    c.query.ensures net routes services scale
    ∙ ap (λ s. saturated (query_weight net services c.in-Query.nearest s.0)) (sym from)
    ∙ ap (λ s. saturated (message_weight net routes services (HeardSap source s))) (sym c.in-Query.is)

pub returns-in-Response : goal.returns-in-Response
returns-in-Response c net routes services source scale from =
    c.response.ensures net routes services scale ∙ ap (λ s. saturated (message_weight net routes services (HeardSap source s))) (sym c.in-Response.is)
