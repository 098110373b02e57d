use Rattle.std.proofs.Common.{◌≡◌, refl, sym, ◌∙◌, ◌+◌, ◌*◌, ◌/◌, ◌==◌, true, false, arith}
use Rattle.ipx_router.specs.Numbers.{rip_socket, sap_socket, entries_a_page}
use Rattle.ipx_router.specs.Pages.{sheets}
use Rattle.ipx_internet.specs.InternetWeight.{entry_weight, most_answered, entries_a_service, request_weight}
use Rattle.ipx_internet.proofs.scale.Scale.request.Goals as goal
use Rattle.ipx_internet.proofs.weights.CountedUpToAWord.{scaled_more}

pub returns-then-eq : goal.returns-then-eq
returns-then-eq c = λ net routes services is.
    let n = most_answered net routes in
    let rip : (c.args.asker.0 == rip_socket) ≡ true = sym c.eq.ensures ∙ c.if-eq.true in
    let weight : request_weight net routes c.args.asker.0 ≡ (1 + sheets entries_a_page n) + n * entry_weight net 1 = rw rip refl in
    let times = scaled_more n (entry_weight net 1) c.entry.result c.args.self.entries c.saturating_mul-read.result is.entries (c.entry.ensures net routes services is)
    c.saturating_mul-read.ensures in
    let packets = c.saturating_add-packets.ensures in
    let pages = is.pages in
    let sum = c.saturating_add.ensures in
    omega (arith, weight, times, packets, pages, sum)

pub returns-then-eq-2 : goal.returns-then-eq-2
returns-then-eq-2 c = λ net routes services is.
    let n = most_answered net routes / entries_a_service in
    let other : (c.args.asker.0 == rip_socket) ≡ false = sym c.eq.ensures ∙ c.if-eq.false in
    let sap : (c.args.asker.0 == sap_socket) ≡ true = sym c.eq-2.ensures ∙ c.if-eq-2.true in
    let weight : request_weight net routes c.args.asker.0 ≡ (1 + sheets entries_a_page (most_answered net routes)) + n * entry_weight net 1 = rw (other, sap) refl in
    let times = scaled_more n (entry_weight net 1) c.entry-then-eq-2.result c.args.self.misread c.saturating_mul-read-then-eq-2.result is.misread (c.entry-then-eq-2.ensures net routes services is)
    c.saturating_mul-read-then-eq-2.ensures in
    let packets = c.saturating_add-packets.ensures in
    let pages = is.pages in
    let sum = c.saturating_add-then-eq-2.ensures in
    omega (arith, weight, times, packets, pages, sum)
