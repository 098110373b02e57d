use Rattle.std.proofs.Common.{ℕ, ◌≡◌, sym, ap, ◌∙◌, [], List, arith}
use Rattle.std.specs.List.{flat_map}
use Rattle.ipx_wire.specs.declared.rip.RipEntry.{RipEntry}
use Rattle.ipx_router.specs.inside.Envelope.{entries_in, routes_to_all}
use Rattle.ipx_router.specs.inside.Ended.{ended_on}
use Rattle.ipx_router.specs.Facts.{offers}
use Rattle.ipx_router.specs.Numbers.{entries_a_page}
use Rattle.ipx_router.specs.Port.{Port}
use Rattle.ipx_router.specs.Sorted.{put_all}
use Rattle.ipx_router.specs.Told.{network_before, told}
use Rattle.ipx_router.proofs.ended.EndedRises.{routes_in_order, told_with}
use Rattle.ipx_router.proofs.ended.EndedPageByPage.{begun_pays, item_fits, item_page_fits, item_pays, rest_fits, last_fits, last_sent}
use Rattle.ipx_router.proofs.sending.OneAfterAnother.{pays_none}
use Rattle.ipx_router.proofs.telling.NetworksAmongRoutes.{told_placed}
use Rattle.ipx_router.proofs.withdrawing.periodic.broadcast_merged_routes.Goals as goal

pub loop-entry-init : goal.loop-entry-init
loop-entry-init g c =
    let a = c.args in
    let routes = offers a.table.now.records in
    let ended = flat_map (ended_on a.number) a.ended.now in
    let all = told a.ports.now a.up.now routes a.number in
    let whole : c.into_iter-entry-iterator.result ≡ all =
    c.into_iter-entry-iterator.ensures.into_iter_gives
    ∙ c.new-entry-items.ensures
    ∙ told_placed c.cost-cost.result a.ports.now a.up.now routes a.number c.deref.result.now
    (c.cost-cost.ensures ∙ ap (λ (p : Port). p.cost) c.port_of.ensures) (c.deref.ensures.0 ∙ c.list_direct.ensures) in
    record {
      goes = tt;
      ends = tt;
      pays = begun_pays entries_a_page entries_in (λ (j : ℕ). put_all network_before c.into_iter-entry-iterator.result (flat_map (ended_on j) a.ended.now)) (routes_to_all a.ports.now a.number) c.routes_to_all-envelope.ensures c.new-page.ensures
          (told_with a.ports.now a.up.now routes a.number ended ∙ ap (λ (es : List RipEntry). put_all network_before es ended) (sym whole))
          (pays_none a.outbox.now _);
      ascends = c.requires.ascends;
    }

pub add_ended_before-rest-requires : goal.add_ended_before-rest-requires
add_ended_before-rest-requires g c =
    let a = c.args in
    let l = c.loop-entry in
    let left = c.next.new.self in (
      omega arith,
      (
        omega arith,
        (
          omega arith,
          (
            routes_in_order,
            (
              c.loop-entry.invariant.ascends,
              (
                left,
                item_fits entries_a_page (entries_in c.routes_to_all-envelope.result) network_before
                    l.page.items l.entry-iterator (flat_map (ended_on c.routes_to_all-envelope.result.port) l.rest.now) l.invariant.pays
                    c.in-Some.entry left c.in-Some.ensures.steps c.requires.room,
              ),
            ),
          ),
        ),
      ),
    )

pub add_item-requires : goal.add_item-requires
add_item-requires g c =
    let a = c.args in
    let l = c.loop-entry in
    let left = c.next.new.self in
    let added = c.add_ended_before-rest in (
      omega arith,
      (
        omega arith,
        (
          omega arith,
          λ full.
              item_page_fits entries_a_page (entries_in c.routes_to_all-envelope.result) network_before
              l.page.items l.entry-iterator (flat_map (ended_on c.routes_to_all-envelope.result.port) l.rest.now) l.invariant.pays
              c.in-Some.entry left c.in-Some.ensures.steps
              added.new.page.items (flat_map (ended_on c.routes_to_all-envelope.result.port) added.result.now) (added.ensures.pays left) (omega arith) c.requires.room full,
        ),
      ),
    )

pub loop-entry-preserved : goal.loop-entry-preserved
loop-entry-preserved g c =
    let a = c.args in
    let l = c.loop-entry in
    let left = c.next.new.self in
    let added = c.add_ended_before-rest in
    let rest = flat_map (ended_on c.routes_to_all-envelope.result.port) added.result.now in
    record {
      goes = tt;
      ends = tt;
      pays = item_pays entries_a_page (entries_in c.routes_to_all-envelope.result) network_before
          l.page.items l.entry-iterator (flat_map (ended_on c.routes_to_all-envelope.result.port) l.rest.now) l.invariant.pays
          c.in-Some.entry left c.in-Some.ensures.steps
          added.new.page.items rest (added.ensures.pays left) c.add_item.new.page.items (c.add_item.ensures (put_all network_before left rest));
      ascends = added.ensures.ascends;
    }

pub add_ended_before-rest-requires-2 : goal.add_ended_before-rest-requires-2
add_ended_before-rest-requires-2 g c =
    let a = c.args in
    let l = c.loop-entry in (
      omega arith,
      (
        omega arith,
        (
          omega arith,
          (
            routes_in_order,
            (
              c.loop-entry.invariant.ascends,
              (
                [],
                rest_fits entries_a_page (entries_in c.routes_to_all-envelope.result) network_before
                    l.page.items l.entry-iterator (flat_map (ended_on c.routes_to_all-envelope.result.port) l.rest.now) l.invariant.pays
                    c.in-None.ensures.steps.0 c.requires.room,
              ),
            ),
          ),
        ),
      ),
    )

pub send_rest-requires : goal.send_rest-requires
send_rest-requires g c =
    let a = c.args in
    let l = c.loop-entry in (
      omega arith,
      (
        omega arith,
        last_fits entries_a_page (entries_in c.routes_to_all-envelope.result) network_before
            l.page.items l.entry-iterator (flat_map (ended_on c.routes_to_all-envelope.result.port) l.rest.now) l.invariant.pays
            c.in-None.ensures.steps.0 c.add_ended_before-rest-2.new.page.items (c.add_ended_before-rest-2.ensures.pays []) c.requires.room,
      ),
    )

pub returns : goal.returns
returns g c =
    let a = c.args in
    let l = c.loop-entry in
    last_sent entries_a_page (entries_in c.routes_to_all-envelope.result) network_before
    l.page.items l.entry-iterator (flat_map (ended_on c.routes_to_all-envelope.result.port) l.rest.now) l.invariant.pays
    c.in-None.ensures.steps.0 c.add_ended_before-rest-2.new.page.items (c.add_ended_before-rest-2.ensures.pays []) c.send_rest.ensures
