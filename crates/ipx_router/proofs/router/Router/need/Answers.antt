use Rattle.std.proofs.Common.{arith, sym, ap, ◌∙◌, subst, ℕ, ◌≤◌, ◌*◌, length}
use Rattle.ipx_router.specs.Bounds.{most_packets, most_length}
use Rattle.ipx_router.specs.Happened.{happened}
use Rattle.ipx_router.specs.Numbers.{most_ports}
use Rattle.ipx_router.specs.Stands.{State}
use Rattle.ipx_router.proofs.router.Router.need.Goals as goal

pub need_of-requires-clause-some : goal.need_of-requires-clause-some
need_of-requires-clause-some g c = subst (λ (n : ℕ). 1 ≤ n) (sym c.len.ensures.value) c.self.invariant.some

pub need_of-requires-clause-few : goal.need_of-requires-clause-few
need_of-requires-clause-few g c = subst (λ (n : ℕ). n ≤ most_ports) (sym c.len.ensures.value) c.self.invariant.few

pub returns-clause-packets : goal.returns-clause-packets
returns-clause-packets g c =
    let s = c.args.self.now in
    let event = happened c.args.event.now in
    let ports = c.len.ensures.value ∙ ap (λ (v : State). length v.ports) c.self.view_is in
    let routes = c.len-2.ensures.value ∙ ap (λ (v : State). length v.routes) c.self.view_is in
    let services = c.len-3.ensures.value ∙ ap (λ (v : State). length v.services) c.self.view_is in
    c.need_of.ensures.packets
    ∙ ap (λ (n : ℕ). most_packets n c.len-2.result c.len-3.result event) ports
    ∙ ap (λ (n : ℕ). most_packets (length s.ports) n c.len-3.result event) routes
    ∙ ap (λ (n : ℕ). most_packets (length s.ports) (length s.routes) n event) services

pub returns-clause-bytes : goal.returns-clause-bytes
returns-clause-bytes g c =
    let s = c.args.self.now in
    let event = happened c.args.event.now in
    let ports = c.len.ensures.value ∙ ap (λ (v : State). length v.ports) c.self.view_is in
    let routes = c.len-2.ensures.value ∙ ap (λ (v : State). length v.routes) c.self.view_is in
    let services = c.len-3.ensures.value ∙ ap (λ (v : State). length v.services) c.self.view_is in
    c.need_of.ensures.bytes
    ∙ ap (λ (n : ℕ). most_packets n c.len-2.result c.len-3.result event * most_length event) ports
    ∙ ap (λ (n : ℕ). most_packets (length s.ports) n c.len-3.result event * most_length event) routes
    ∙ ap (λ (n : ℕ). most_packets (length s.ports) (length s.routes) n event * most_length event) services

pub len-requires : goal.len-requires
len-requires g c = grind arith

pub len-requires-2 : goal.len-requires-2
len-requires-2 g c = grind arith

pub len-requires-3 : goal.len-requires-3
len-requires-3 g c = grind arith

pub need_of-requires-clause-few_routes : goal.need_of-requires-clause-few_routes
need_of-requires-clause-few_routes g c = grind arith

pub need_of-requires-clause-few_services : goal.need_of-requires-clause-few_services
need_of-requires-clause-few_services g c = grind arith
