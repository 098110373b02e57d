use Rattle.std.proofs.Common.{◌≡◌, refl, sym, ◌∙◌, ◌+◌, ◌-◌, ◌*◌, ◌==◌, min, true, false, arith}
use Rattle.ipx_router.specs.Numbers.{rip_socket, sap_socket, services_a_page}
use Rattle.ipx_router.specs.Pages.{sheets}
use Rattle.ipx_internet.specs.InternetWeight.{entry_weight, entries_a_service, query_weight}
use Rattle.ipx_internet.specs.inside.Scales.{saturated}
use Rattle.ipx_internet.proofs.scale.Scale.query.Goals as goal
use Rattle.ipx_internet.proofs.weights.CountedUpToAWord.{scaled_more}

pub returns-then-eq : goal.returns-then-eq
returns-then-eq c = λ net routes services is.
    let n = min (services_a_page - 1) services * entries_a_service in
    let rip : (c.args.asker.0 == rip_socket) ≡ true = sym c.eq.ensures ∙ c.if-eq.true in
    let all = c.if-nearest.false in
    let weight : query_weight net services c.args.nearest c.args.asker.0 ≡ (1 + sheets services_a_page services) + n * entry_weight net 0 = rw (all, rip) refl in
    let room = is.services in
    let least = c.min-short.ensures in
    let read : c.min-short.result * 8 ≡ saturated n = omega (arith, room, least) in
    let times = scaled_more n (entry_weight net 0) c.entry.result (c.min-short.result * 8) c.saturating_mul-read.result read (c.entry.ensures net routes services is)
    c.saturating_mul-read.ensures in
    let pages = c.div_ceil.ensures in
    let packets = c.saturating_add-packets.ensures in
    let sum = c.saturating_add.ensures in
    omega (arith, weight, times, packets, pages, room, sum)

pub returns-then-eq-2 : goal.returns-then-eq-2
returns-then-eq-2 c = λ net routes services is.
    let other : (c.args.asker.0 == rip_socket) ≡ false = sym c.eq.ensures ∙ c.if-eq.false in
    let sap : (c.args.asker.0 == sap_socket) ≡ true = sym c.eq-2.ensures ∙ c.if-eq-2.true in
    let all = c.if-nearest.false in
    let weight : query_weight net services c.args.nearest c.args.asker.0 ≡ (1 + sheets services_a_page services) + services * entry_weight net 1 = rw (all, other, sap) refl in
    let room = is.services in
    let few = is.few in
    let as_word : c.args.self.services ≡ saturated services = omega (arith, room, few) in
    let times = scaled_more services (entry_weight net 1) c.entry-then-eq-2.result c.args.self.services c.saturating_mul-read-then-eq-2.result as_word (c.entry-then-eq-2.ensures net routes services is)
    c.saturating_mul-read-then-eq-2.ensures in
    let pages = c.div_ceil.ensures in
    let packets = c.saturating_add-packets.ensures in
    let sum = c.saturating_add-then-eq-2.ensures in
    omega (arith, weight, times, packets, pages, room, sum)
