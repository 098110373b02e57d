use Rattle.std.proofs.Common.{◌≡◌, ◌∙◌, sym, ap, None, Some}
use Rattle.std.specs.Option.{option_map}
use Rattle.ipx_router.proofs.tables.FoundIsOfItsRecord.{found}
use Rattle.ipx_router.proofs.judging.outgoing.route_to.Goals as goal

pub returns-in_err-held : goal.returns-in_err-held
returns-in_err-held g c =
    let e : c.get.result ≡ None = search in
    let n : c.from_residual.result ≡ None = search in
    n ∙ ap (option_map (λ h. h.offer)) (sym e ∙ c.get.ensures.value) ∙ found c.args.network c.args.routes.now.records

pub returns : goal.returns
returns g c =
    let e : c.get.result ≡ Some c.in_ok-held.held = search in
    ap (option_map (λ h. h.offer)) (sym e ∙ c.get.ensures.value) ∙ found c.args.network c.args.routes.now.records
