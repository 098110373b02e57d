use Rattle.std.proofs.Common.{ap, is_err, ◌≡◌, ◌<◌, ◌≤◌, ◌+◌, ◌∙◌, sym, refl, subst, ℕ, List, ◌++◌, arith, length}
use Rattle.std.proofs.lemmas.List.{length-map}
use Rattle.std.proofs.lemmas.Result.{err_from_is_err_and, IfOk-from_err}
use Rattle.std.specs.Vec.{vec_capacity}
use Rattle.ipx_router.specs.Relays.{Sent}
use Rattle.ipx_internet.specs.Listed.{IsIn, Listing, copy_in, bytes_in, sent_bytes, listed_from}
use Rattle.ipx_internet.specs.TraceRoom.{Memory, IsNoLess}
use Rattle.ipx_internet.specs.Traced.{router_of, outcome_of}
use Rattle.ipx_internet.specs.Tree.{sent_on}
use Rattle.ipx_internet.proofs.listing.Listing.go_on.Goals as goal
use Rattle.ipx_internet.proofs.trees.MemoryOfATrace.{then_holds, holds_cleared}
use Rattle.ipx_internet.proofs.trees.ListingUpToALimit.{cut_more, no_memory}
use Rattle.ipx_internet.proofs.trees.OneStepOfListing.{news, after, port_is, there_is, cut, kept_all, few_all, went_on}

pub bytes_of-requires : goal.bytes_of-requires
bytes_of-requires g c =
    let i = c.self.inside in
    let r = router_of c.args.router.now in
    let n = c.len-number.result in
    let counted = c.len-number.ensures in
    let all = i.outcomes.ok.0 in
    let done : n ≡ length i.outcomes.items = omega (arith, counted, all) in
    let at = c.index-at.result.now in
    let first = i.first.now in
    let store = i.store.items in
    let list = i.list.items in
    let stations = c.args.stations.now.list in
    let lent : c.deref.result.now ≡ store = c.deref.ensures.value in
    subst (λ (bs : List ℕ). IsIn bs at) (sym lent)
    (there_is first store list i.outcomes.items at n r stations c.args.self c.self.view_is done c.index-at.ensures c.requires.waits c.self.invariant)

pub relay-requires : goal.relay-requires
relay-requires g c =
    let i = c.self.inside in
    let r = router_of c.args.router.now in
    let n = c.len-number.result in
    let counted = c.len-number.ensures in
    let all = i.outcomes.ok.0 in
    let done : n ≡ length i.outcomes.items = omega (arith, counted, all) in
    let at = c.index-at.result.now in
    let first = i.first.now in
    let store = i.store.items in
    let list = i.list.items in
    let stations = c.args.stations.now.list in
    let port : at.port < length c.args.router.now.ports =
    port_is first store list i.outcomes.items at n r stations c.args.self c.self.view_is done c.index-at.ensures c.requires.waits
    (length c.args.router.now.ports) c.requires.port in
    (first_of (assumption c.well_formed, search c.well_formed), port)

pub list_children-requires : goal.list_children-requires
list_children-requires g c =
    let waits = c.requires.waits in
    let few = c.requires.few in
    let some : 0 < c.args.limit = omega (arith, waits, few) in
    (first_of (assumption c.well_formed, search c.well_formed), some)

pub returns-in_err-outcome-clause-refused : goal.returns-in_err-outcome-clause-refused
returns-in_err-outcome-clause-refused g c =
    let p = err_from_is_err_and c.from_residual.result c.from_residual.ensures.1 in
    let waits = c.requires.waits in
    let few = c.requires.few in
    rw (p.1, p.2) (no_memory c.args.limit _ _ (omega (arith, waits, few)) c.in_err-outcome.ensures.refused)

pub returns-in_err-list_children-clause-refused : goal.returns-in_err-list_children-clause-refused
returns-in_err-list_children-clause-refused g c =
    let p = err_from_is_err_and c.from_residual-in_err-list_children.result c.from_residual-in_err-list_children.ensures.1 in
    let i = c.self.inside in
    let r = router_of c.args.router.now in
    let n = c.len-number.result in
    let counted = c.len-number.ensures in
    let all = i.outcomes.ok.0 in
    let done : n ≡ length i.outcomes.items = omega (arith, counted, all) in
    let at = c.index-at.result.now in
    let first = i.first.now in
    let store = i.store.items in
    let list = i.list.items in
    let stations = c.args.stations.now.list in
    let lent : c.deref.result.now ≡ store = c.deref.ensures.value in
    let bytes : c.bytes_of.result.now ≡ bytes_in first store at = c.bytes_of.ensures ∙ ap (λ (bs : List ℕ). bytes_in first bs at) lent in
    let relayed : c.relay.new.outbox.sent ≡ c.clear.new.self.sent ++ sent_on r at.port c.bytes_of.result.now = c.in_ok-outcome.ensures.sent in
    let sent : c.relay.new.outbox.sent ≡ sent_on r at.port (bytes_in first store at) =
    relayed ∙ ap (λ (ss : List Sent). ss ++ sent_on r at.port c.bytes_of.result.now) c.clear.ensures.sent ∙ ap (λ (bs : List ℕ). sent_on r at.port bs) bytes in
    let a = after first store list at n r stations c.self.invariant (store ++ sent_bytes (sent_on r at.port (bytes_in first store at))) refl in
    let same : length (listed_from stations c.args.router.now.ports (record { number = n; router = at.router }) (length store) c.relay.new.outbox.sent)
    ≡ length (news first store list at n r stations) =
    ap (λ (ss : List Sent). length (listed_from stations c.args.router.now.ports (record { number = n; router = at.router }) (length store) ss)) sent in
    let more : length list + length (listed_from stations c.args.router.now.ports (record { number = n; router = at.router }) (length store) c.relay.new.outbox.sent)
    ≤ length list + length (news first store list at n r stations) = omega (arith, same) in
    rw (p.1, p.2) (cut first store list i.outcomes.items at n r stations c.args.self c.self.view_is done c.index-at.ensures c.requires.waits _ a c.args.limit _
    (cut_more c.args.limit _ _ _ more c.in_err-list_children.ensures.refused))

pub invariant_of-result : goal.invariant_of-result
invariant_of-result g c =
    let i = c.self.inside in
    let r = router_of c.args.router.now in
    let n = c.len-number.result in
    let counted = c.len-number.ensures in
    let all = i.outcomes.ok.0 in
    let done : n ≡ length i.outcomes.items = omega (arith, counted, all) in
    let at = c.index-at.result.now in
    let first = i.first.now in
    let store = i.store.items in
    let list = i.list.items in
    let stations = c.args.stations.now.list in
    let lent : c.deref.result.now ≡ store = c.deref.ensures.value in
    let bytes : c.bytes_of.result.now ≡ bytes_in first store at = c.bytes_of.ensures ∙ ap (λ (bs : List ℕ). bytes_in first bs at) lent in
    let relayed : c.relay.new.outbox.sent ≡ c.clear.new.self.sent ++ sent_on r at.port c.bytes_of.result.now = c.in_ok-outcome.ensures.sent in
    let sent : c.relay.new.outbox.sent ≡ sent_on r at.port (bytes_in first store at) =
    relayed ∙ ap (λ (ss : List Sent). ss ++ sent_on r at.port c.bytes_of.result.now) c.clear.ensures.sent ∙ ap (λ (bs : List ℕ). sent_on r at.port bs) bytes in
    let store2 = c.list_children.new.store.items in
    let a = after first store list at n r stations c.self.invariant store2
    (c.in_ok-list_children.ensures.stored ∙ ap (λ (ss : List Sent). store ++ sent_bytes ss) sent) in
    let listed : c.list_children.new.list.items ≡ list ++ news first store list at n r stations =
    c.in_ok-list_children.ensures.listed
    ∙ ap (λ (ss : List Sent). list ++ listed_from stations c.args.router.now.ports (record { number = n; router = at.router }) (length store) ss) sent in
    kept_all first store list i.outcomes.items at n r stations c.args.self c.self.view_is done c.index-at.ensures c.requires.waits store2 a c.list_children.new.list.items listed

pub returns-clause-goes_on : goal.returns-clause-goes_on
returns-clause-goes_on g c =
    let i = c.self.inside in
    let r = router_of c.args.router.now in
    let n = c.len-number.result in
    let counted = c.len-number.ensures in
    let all = i.outcomes.ok.0 in
    let done : n ≡ length i.outcomes.items = omega (arith, counted, all) in
    let at = c.index-at.result.now in
    let first = i.first.now in
    let store = i.store.items in
    let list = i.list.items in
    let stations = c.args.stations.now.list in
    let lent : c.deref.result.now ≡ store = c.deref.ensures.value in
    let bytes : c.bytes_of.result.now ≡ bytes_in first store at = c.bytes_of.ensures ∙ ap (λ (bs : List ℕ). bytes_in first bs at) lent in
    let relayed : c.relay.new.outbox.sent ≡ c.clear.new.self.sent ++ sent_on r at.port c.bytes_of.result.now = c.in_ok-outcome.ensures.sent in
    let sent : c.relay.new.outbox.sent ≡ sent_on r at.port (bytes_in first store at) =
    relayed ∙ ap (λ (ss : List Sent). ss ++ sent_on r at.port c.bytes_of.result.now) c.clear.ensures.sent ∙ ap (λ (bs : List ℕ). sent_on r at.port bs) bytes in
    let store2 = c.list_children.new.store.items in
    let a = after first store list at n r stations c.self.invariant store2
    (c.in_ok-list_children.ensures.stored ∙ ap (λ (ss : List Sent). store ++ sent_bytes ss) sent) in
    let listed : c.list_children.new.list.items ≡ list ++ news first store list at n r stations =
    c.in_ok-list_children.ensures.listed
    ∙ ap (λ (ss : List Sent). list ++ listed_from stations c.args.router.now.ports (record { number = n; router = at.router }) (length store) ss) sent in
    went_on first store list i.outcomes.items at n r stations c.args.self c.self.view_is done c.index-at.ensures c.requires.waits store2 a c.list_children.new.list.items listed
    c.keep.new.outcomes.items _ c.in_ok-keep.ensures.kept (c.in_ok-outcome.ensures.outcome ∙ ap (λ (bs : List ℕ). outcome_of r at.port bs) bytes)

pub returns-clause-few : goal.returns-clause-few
returns-clause-few g c =
    let i = c.self.inside in
    let r = router_of c.args.router.now in
    let n = c.len-number.result in
    let counted = c.len-number.ensures in
    let all = i.outcomes.ok.0 in
    let done : n ≡ length i.outcomes.items = omega (arith, counted, all) in
    let at = c.index-at.result.now in
    let first = i.first.now in
    let store = i.store.items in
    let list = i.list.items in
    let stations = c.args.stations.now.list in
    let lent : c.deref.result.now ≡ store = c.deref.ensures.value in
    let bytes : c.bytes_of.result.now ≡ bytes_in first store at = c.bytes_of.ensures ∙ ap (λ (bs : List ℕ). bytes_in first bs at) lent in
    let relayed : c.relay.new.outbox.sent ≡ c.clear.new.self.sent ++ sent_on r at.port c.bytes_of.result.now = c.in_ok-outcome.ensures.sent in
    let sent : c.relay.new.outbox.sent ≡ sent_on r at.port (bytes_in first store at) =
    relayed ∙ ap (λ (ss : List Sent). ss ++ sent_on r at.port c.bytes_of.result.now) c.clear.ensures.sent ∙ ap (λ (bs : List ℕ). sent_on r at.port bs) bytes in
    let store2 = c.list_children.new.store.items in
    let a = after first store list at n r stations c.self.invariant store2
    (c.in_ok-list_children.ensures.stored ∙ ap (λ (ss : List Sent). store ++ sent_bytes ss) sent) in
    let listed : c.list_children.new.list.items ≡ list ++ news first store list at n r stations =
    c.in_ok-list_children.ensures.listed
    ∙ ap (λ (ss : List Sent). list ++ listed_from stations c.args.router.now.ports (record { number = n; router = at.router }) (length store) ss) sent in
    few_all first store list i.outcomes.items at n r stations c.args.self c.self.view_is done c.index-at.ensures c.requires.waits store2 a c.list_children.new.list.items listed
    c.args.limit c.in_ok-list_children.ensures.few c.requires.few

pub returns-in_err-outcome-clause-goes_on : goal.returns-in_err-outcome-clause-goes_on
returns-in_err-outcome-clause-goes_on g c =
    IfOk-from_err c.from_residual.result _ (ap (λ r. is_err r) (err_from_is_err_and c.from_residual.result c.from_residual.ensures.1).1)

pub returns-in_err-outcome-clause-few : goal.returns-in_err-outcome-clause-few
returns-in_err-outcome-clause-few g c =
    IfOk-from_err c.from_residual.result _ (ap (λ r. is_err r) (err_from_is_err_and c.from_residual.result c.from_residual.ensures.1).1)

pub returns-in_err-list_children-clause-goes_on : goal.returns-in_err-list_children-clause-goes_on
returns-in_err-list_children-clause-goes_on g c =
    IfOk-from_err c.from_residual-in_err-list_children.result _ (ap (λ r. is_err r) (err_from_is_err_and c.from_residual-in_err-list_children.result c.from_residual-in_err-list_children.ensures.1).1)

pub returns-in_err-list_children-clause-few : goal.returns-in_err-list_children-clause-few
returns-in_err-list_children-clause-few g c =
    IfOk-from_err c.from_residual-in_err-list_children.result _ (ap (λ r. is_err r) (err_from_is_err_and c.from_residual-in_err-list_children.result c.from_residual-in_err-list_children.ensures.1).1)

pub returns-in_err-keep-clause-goes_on : goal.returns-in_err-keep-clause-goes_on
returns-in_err-keep-clause-goes_on g c =
    IfOk-from_err c.from_residual-in_err-keep.result _ (ap (λ r. is_err r) (err_from_is_err_and c.from_residual-in_err-keep.result c.from_residual-in_err-keep.ensures.1).1)

pub returns-in_err-keep-clause-few : goal.returns-in_err-keep-clause-few
returns-in_err-keep-clause-few g c =
    IfOk-from_err c.from_residual-in_err-keep.result _ (ap (λ r. is_err r) (err_from_is_err_and c.from_residual-in_err-keep.result c.from_residual-in_err-keep.ensures.1).1)

pub returns-in_err-keep-clause-refused : goal.returns-in_err-keep-clause-refused
returns-in_err-keep-clause-refused g c =
    let p = err_from_is_err_and c.from_residual-in_err-keep.result c.from_residual-in_err-keep.ensures.1 in
    let waits = c.requires.waits in
    let few = c.requires.few in
    rw (p.1, p.2) (no_memory c.args.limit _ _ (omega (arith, waits, few)) c.in_err-keep.ensures.refused)

pub index-at-requires : goal.index-at-requires
index-at-requires g c =
    let i = c.self.inside in
    let copies = ap (λ (l : Listing). length l.copies) c.self.view_is in
    let outcomes = ap (λ (l : Listing). length l.outcomes) c.self.view_is in
    let size = length-map i.list.items (copy_in i.first.now i.store.items) in
    let all = i.list.ok.0 in
    let done = i.outcomes.ok.0 in
    let counted = c.len-number.ensures in
    let waits = c.requires.waits in
    omega (arith, copies, outcomes, size, all, done, counted, waits)

pub returns-clause-memory : goal.returns-clause-memory
returns-clause-memory g c =
    let was = ap (λ (l : Listing). l.memory) c.self.view_is in
    subst (λ (m : Memory). IsNoLess m (record {
      receptions = vec_capacity c.list_children.new.list;
      outcomes = vec_capacity c.keep.new.outcomes;
      bytes = vec_capacity c.list_children.new.store;
    })) was
    (record {
      receptions = c.list_children.ensures.list_capacity;
      outcomes = c.keep.ensures.capacity;
      bytes = c.list_children.ensures.store_capacity;
    })

pub returns-clause-outbox : goal.returns-clause-outbox
returns-clause-outbox g c = then_holds c.args.outbox.now c.clear.new.self c.relay.new.outbox
    (holds_cleared c.args.outbox.now c.clear.new.self c.clear.ensures.room) c.relay.ensures.room

pub returns-in_err-outcome-clause-outbox : goal.returns-in_err-outcome-clause-outbox
returns-in_err-outcome-clause-outbox g c = then_holds c.args.outbox.now c.clear.new.self c.relay.new.outbox
    (holds_cleared c.args.outbox.now c.clear.new.self c.clear.ensures.room) c.relay.ensures.room

pub returns-in_err-list_children-clause-outbox : goal.returns-in_err-list_children-clause-outbox
returns-in_err-list_children-clause-outbox g c = then_holds c.args.outbox.now c.clear.new.self c.relay.new.outbox
    (holds_cleared c.args.outbox.now c.clear.new.self c.clear.ensures.room) c.relay.ensures.room

pub returns-in_err-keep-clause-outbox : goal.returns-in_err-keep-clause-outbox
returns-in_err-keep-clause-outbox g c = then_holds c.args.outbox.now c.clear.new.self c.relay.new.outbox
    (holds_cleared c.args.outbox.now c.clear.new.self c.clear.ensures.room) c.relay.ensures.room

pub returns-in_err-outcome-clause-memory : goal.returns-in_err-outcome-clause-memory
returns-in_err-outcome-clause-memory g c =
    IfOk-from_err c.from_residual.result _ (ap (λ r. is_err r) (err_from_is_err_and c.from_residual.result c.from_residual.ensures.1).1)

pub returns-in_err-list_children-clause-memory : goal.returns-in_err-list_children-clause-memory
returns-in_err-list_children-clause-memory g c =
    IfOk-from_err c.from_residual-in_err-list_children.result _ (ap (λ r. is_err r) (err_from_is_err_and c.from_residual-in_err-list_children.result c.from_residual-in_err-list_children.ensures.1).1)

pub returns-in_err-keep-clause-memory : goal.returns-in_err-keep-clause-memory
returns-in_err-keep-clause-memory g c =
    IfOk-from_err c.from_residual-in_err-keep.result _ (ap (λ r. is_err r) (err_from_is_err_and c.from_residual-in_err-keep.result c.from_residual-in_err-keep.ensures.1).1)
