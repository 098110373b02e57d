use Rattle.std.proofs.Common.{rules, sym, ap, ◌∙◌, subst, ◌≡◌, ◌<◌, arith, length, ℕ, slice_index_or}
use Rattle.std.proofs.lemmas.Result.{err_from_is_err_and}
use Rattle.ipx_internet.specs.Listed.{copy_at, waits_next}
use Rattle.ipx_internet.specs.Traced.{routers_of, tree}
use Rattle.ipx_internet.specs.Tree.{Copy, root, IsTree}
use Rattle.ipx_internet.proofs.trace.list_tree.Goals as goal
use Rattle.ipx_internet.proofs.trees.ListedOfStations.{is_tree, root_there, begins, router_there, port_there, goes_on, one_more, cut, ends, fewer_left, begins_bounded, cut_first, no_more, stays_bounded, cut_bounded}
use Rattle.ipx_internet.proofs.trees.ListingUpToALimit.{cut_more}
use Rattle.ipx_internet.proofs.trees.MemoryOfATrace.{holds, then_holds, then_no_less}

pub returns-in_err-listing-clause-refused : goal.returns-in_err-listing-clause-refused
returns-in_err-listing-clause-refused g c =
    let p = err_from_is_err_and c.from_residual.result c.from_residual.ensures.1 in
    let states = c.args.routers.now.items in
    let stations = c.args.stations.now.list in
    let first : Copy = root (record { router = c.args.coming.router; port = c.args.coming.port }) c.args.coming.bytes.now in
    let is : IsTree (routers_of states) first (tree (routers_of states) first) =
    is_tree states stations first c.trees.ensures.whole c.requires.internet c.requires.tables c.proves_bytes.ensures in
    rw (p.1, p.2) (cut_more c.args.limit 1 (length (tree (routers_of states) first)) _ (root_there states stations first is) c.in_err-listing.ensures.refused)

pub returns-in_err-listing-clause-enough : goal.returns-in_err-listing-clause-enough
returns-in_err-listing-clause-enough g c =
    let p = err_from_is_err_and c.from_residual.result c.from_residual.ensures.1 in
    let states = c.args.routers.now.items in
    let first : Copy = root (record { router = c.args.coming.router; port = c.args.coming.port }) c.args.coming.bytes.now in
    rw (p.1, p.2) (cut_first states c.args.stations.now.list first c.args.limit _ c.in_err-listing.ensures.refused)

pub loop-listing-init : goal.loop-listing-init
loop-listing-init g c =
    let states = c.args.routers.now.items in
    let stations = c.args.stations.now.list in
    let first : Copy = root (record { router = c.args.coming.router; port = c.args.coming.port }) c.args.coming.bytes.now in
    let is : IsTree (routers_of states) first (tree (routers_of states) first) =
    is_tree states stations first c.trees.ensures.whole c.requires.internet c.requires.tables c.proves_bytes.ensures in
    let made = c.in_ok-listing.ensures in
    let one : length c.in_ok-listing.listing.copies ≡ 1 = ap (λ cs. length cs) made.copies in
    let some = made.few in
    record {
      listed = begins states stations first c.requires.stationed is c.in_ok-listing.listing made.copies made.outcomes c.requires.place;
      few = omega (arith, one, some);
      bounded = begins_bounded states stations first c.in_ok-listing.listing made.copies made.outcomes c.proves_bytes.ensures c.requires.place;
      memory = made.memory;
      outbox = holds c.args.outbox.now;
    }

pub index-requires : goal.index-requires
index-requires g c =
    let states = c.args.routers.now.items in
    let stations = c.args.stations.now.list in
    let first : Copy = root (record { router = c.args.coming.router; port = c.args.coming.port }) c.args.coming.bytes.now in
    let is : IsTree (routers_of states) first (tree (routers_of states) first) =
    is_tree states stations first c.trees.ensures.whole c.requires.internet c.requires.tables c.proves_bytes.ensures in
    let l = c.loop-listing.listing in
    let listed = c.loop-listing.invariant.listed in
    let marked = c.mark.ensures in
    let counted = c.len.ensures in
    let less = c.loop-listing-test.true in
    let waits : length l.outcomes < length l.copies = omega (arith, marked, counted, less) in
    let next = ap (λ (n : ℕ). copy_at l.copies n) (sym c.mark-in-loop-listing.ensures) ∙ c.get-at.ensures in
    let at : (waits_next l).to.router ≡ c.get-at.result.router = ap (λ (x : Copy). x.to.router) next in
    let below = router_there states stations first c.requires.stationed is l listed waits in
    let all = c.args.routers.now.ok.0 in
    omega (arith, below, at, all)

pub go_on-requires : goal.go_on-requires
go_on-requires g c =
    let states = c.args.routers.now.items in
    let stations = c.args.stations.now.list in
    let first : Copy = root (record { router = c.args.coming.router; port = c.args.coming.port }) c.args.coming.bytes.now in
    let is : IsTree (routers_of states) first (tree (routers_of states) first) =
    is_tree states stations first c.trees.ensures.whole c.requires.internet c.requires.tables c.proves_bytes.ensures in
    let l = c.loop-listing.listing in
    let listed = c.loop-listing.invariant.listed in
    let marked = c.mark.ensures in
    let counted = c.len.ensures in
    let less = c.loop-listing-test.true in
    let waits : length l.outcomes < length l.copies = omega (arith, marked, counted, less) in
    let next = ap (λ (n : ℕ). copy_at l.copies n) (sym c.mark-in-loop-listing.ensures) ∙ c.get-at.ensures in
    let at : (waits_next l).to.router ≡ c.get-at.result.router = ap (λ (x : Copy). x.to.router) next in
    let state = c.index.result.now in
    let read : state ≡ slice_index_or states (waits_next l).to.router state = subst (λ (n : ℕ). state ≡ slice_index_or states n state) (sym at) c.index.ensures in
    let port : (waits_next l).to.port < length state.ports = port_there states stations first c.requires.stationed is l listed waits state read in
    (first_of (assumption c.well_formed, search c.well_formed, assumption c.args.routers.now, search rules), (waits, (c.loop-listing.invariant.few, port)))

pub returns-in_err-listing-2-clause-refused : goal.returns-in_err-listing-2-clause-refused
returns-in_err-listing-2-clause-refused g c =
    let p = err_from_is_err_and c.from_residual-in_err-listing-2.result c.from_residual-in_err-listing-2.ensures.1 in
    let states = c.args.routers.now.items in
    let stations = c.args.stations.now.list in
    let first : Copy = root (record { router = c.args.coming.router; port = c.args.coming.port }) c.args.coming.bytes.now in
    let is : IsTree (routers_of states) first (tree (routers_of states) first) =
    is_tree states stations first c.trees.ensures.whole c.requires.internet c.requires.tables c.proves_bytes.ensures in
    let l = c.loop-listing.listing in
    let listed = c.loop-listing.invariant.listed in
    let marked = c.mark.ensures in
    let counted = c.len.ensures in
    let less = c.loop-listing-test.true in
    let waits : length l.outcomes < length l.copies = omega (arith, marked, counted, less) in
    let next = ap (λ (n : ℕ). copy_at l.copies n) (sym c.mark-in-loop-listing.ensures) ∙ c.get-at.ensures in
    let at : (waits_next l).to.router ≡ c.get-at.result.router = ap (λ (x : Copy). x.to.router) next in
    let state = c.index.result.now in
    let read : state ≡ slice_index_or states (waits_next l).to.router state = subst (λ (n : ℕ). state ≡ slice_index_or states n state) (sym at) c.index.ensures in
    rw (p.1, p.2) (cut states stations first c.requires.stationed is l listed waits state read c.args.limit _ c.in_err-listing-2.ensures.refused)

pub returns-in_err-listing-2-clause-enough : goal.returns-in_err-listing-2-clause-enough
returns-in_err-listing-2-clause-enough g c =
    let p = err_from_is_err_and c.from_residual-in_err-listing-2.result c.from_residual-in_err-listing-2.ensures.1 in
    let states = c.args.routers.now.items in
    let stations = c.args.stations.now.list in
    let first : Copy = root (record { router = c.args.coming.router; port = c.args.coming.port }) c.args.coming.bytes.now in
    let is : IsTree (routers_of states) first (tree (routers_of states) first) =
    is_tree states stations first c.trees.ensures.whole c.requires.internet c.requires.tables c.proves_bytes.ensures in
    let l = c.loop-listing.listing in
    let listed = c.loop-listing.invariant.listed in
    let marked = c.mark.ensures in
    let counted = c.len.ensures in
    let less = c.loop-listing-test.true in
    let waits : length l.outcomes < length l.copies = omega (arith, marked, counted, less) in
    let next = ap (λ (n : ℕ). copy_at l.copies n) (sym c.mark-in-loop-listing.ensures) ∙ c.get-at.ensures in
    let at : (waits_next l).to.router ≡ c.get-at.result.router = ap (λ (x : Copy). x.to.router) next in
    let state = c.index.result.now in
    let read : state ≡ slice_index_or states (waits_next l).to.router state = subst (λ (n : ℕ). state ≡ slice_index_or states n state) (sym at) c.index.ensures in
    rw (p.1, p.2)
    (cut_bounded states stations first c.requires.stationed is l listed waits state read c.weights.ensures.goes_on c.requires.internet
    c.requires.nodes c.requires.tables
    c.loop-listing.invariant.bounded c.args.limit _ c.in_err-listing-2.ensures.refused)

pub loop-listing-smaller : goal.loop-listing-smaller
loop-listing-smaller g c =
    let states = c.args.routers.now.items in
    let stations = c.args.stations.now.list in
    let first : Copy = root (record { router = c.args.coming.router; port = c.args.coming.port }) c.args.coming.bytes.now in
    let is : IsTree (routers_of states) first (tree (routers_of states) first) =
    is_tree states stations first c.trees.ensures.whole c.requires.internet c.requires.tables c.proves_bytes.ensures in
    let l = c.loop-listing.listing in
    let listed = c.loop-listing.invariant.listed in
    let marked = c.mark.ensures in
    let counted = c.len.ensures in
    let less = c.loop-listing-test.true in
    let waits : length l.outcomes < length l.copies = omega (arith, marked, counted, less) in
    let next = ap (λ (n : ℕ). copy_at l.copies n) (sym c.mark-in-loop-listing.ensures) ∙ c.get-at.ensures in
    let at : (waits_next l).to.router ≡ c.get-at.result.router = ap (λ (x : Copy). x.to.router) next in
    let state = c.index.result.now in
    let read : state ≡ slice_index_or states (waits_next l).to.router state = subst (λ (n : ℕ). state ≡ slice_index_or states n state) (sym at) c.index.ensures in
    let one = one_more states stations first c.requires.stationed is l listed waits state read c.in_ok-listing-2.listing c.in_ok-listing-2.ensures.goes_on in
    let few = c.loop-listing.invariant.few in
    fewer_left c.args.limit (length l.outcomes) (length c.in_ok-listing-2.listing.outcomes) one (omega (arith, waits, few))

pub loop-listing-preserved : goal.loop-listing-preserved
loop-listing-preserved g c =
    let states = c.args.routers.now.items in
    let stations = c.args.stations.now.list in
    let first : Copy = root (record { router = c.args.coming.router; port = c.args.coming.port }) c.args.coming.bytes.now in
    let is : IsTree (routers_of states) first (tree (routers_of states) first) =
    is_tree states stations first c.trees.ensures.whole c.requires.internet c.requires.tables c.proves_bytes.ensures in
    let l = c.loop-listing.listing in
    let listed = c.loop-listing.invariant.listed in
    let marked = c.mark.ensures in
    let counted = c.len.ensures in
    let less = c.loop-listing-test.true in
    let waits : length l.outcomes < length l.copies = omega (arith, marked, counted, less) in
    let next = ap (λ (n : ℕ). copy_at l.copies n) (sym c.mark-in-loop-listing.ensures) ∙ c.get-at.ensures in
    let at : (waits_next l).to.router ≡ c.get-at.result.router = ap (λ (x : Copy). x.to.router) next in
    let state = c.index.result.now in
    let read : state ≡ slice_index_or states (waits_next l).to.router state = subst (λ (n : ℕ). state ≡ slice_index_or states n state) (sym at) c.index.ensures in
    record {
      listed = goes_on states stations first c.requires.stationed is l listed waits state read c.in_ok-listing-2.listing c.in_ok-listing-2.ensures.goes_on;
      few = c.in_ok-listing-2.ensures.few;
      bounded = stays_bounded states stations first c.requires.stationed is l listed waits state read c.weights.ensures.goes_on
          c.requires.internet c.requires.nodes c.requires.tables
          c.loop-listing.invariant.bounded c.in_ok-listing-2.listing c.in_ok-listing-2.ensures.goes_on;
      memory = then_no_less c.args.lists c.loop-listing.listing.memory c.in_ok-listing-2.listing.memory c.loop-listing.invariant.memory c.in_ok-listing-2.ensures.memory;
      outbox = then_holds c.args.outbox.now c.loop-listing.outbox c.go_on.new.outbox c.loop-listing.invariant.outbox c.go_on.ensures.outbox;
    }

pub returns-clause-copies : goal.returns-clause-copies
returns-clause-copies g c =
    let states = c.args.routers.now.items in
    let stations = c.args.stations.now.list in
    let first : Copy = root (record { router = c.args.coming.router; port = c.args.coming.port }) c.args.coming.bytes.now in
    let is : IsTree (routers_of states) first (tree (routers_of states) first) =
    is_tree states stations first c.trees.ensures.whole c.requires.internet c.requires.tables c.proves_bytes.ensures in
    let l = c.loop-listing.listing in
    let marked = c.mark.ensures in
    let counted = c.len.ensures in
    let over = c.loop-listing-test.false in
    let whole = ends states stations first c.requires.stationed is l c.loop-listing.invariant.listed (omega (arith, marked, counted, over)) in
    whole.0

pub returns-clause-outcomes : goal.returns-clause-outcomes
returns-clause-outcomes g c =
    let states = c.args.routers.now.items in
    let stations = c.args.stations.now.list in
    let first : Copy = root (record { router = c.args.coming.router; port = c.args.coming.port }) c.args.coming.bytes.now in
    let is : IsTree (routers_of states) first (tree (routers_of states) first) =
    is_tree states stations first c.trees.ensures.whole c.requires.internet c.requires.tables c.proves_bytes.ensures in
    let l = c.loop-listing.listing in
    let marked = c.mark.ensures in
    let counted = c.len.ensures in
    let over = c.loop-listing-test.false in
    let whole = ends states stations first c.requires.stationed is l c.loop-listing.invariant.listed (omega (arith, marked, counted, over)) in
    whole.1

pub returns-clause-whole : goal.returns-clause-whole
returns-clause-whole g c =
    let states = c.args.routers.now.items in
    let first : Copy = root (record { router = c.args.coming.router; port = c.args.coming.port }) c.args.coming.bytes.now in
    is_tree states c.args.stations.now.list first c.trees.ensures.whole c.requires.internet c.requires.tables c.proves_bytes.ensures

pub returns-clause-few : goal.returns-clause-few
returns-clause-few g c = c.loop-listing.invariant.few

pub returns-clause-bounded : goal.returns-clause-bounded
returns-clause-bounded g c =
    let first : Copy = root (record { router = c.args.coming.router; port = c.args.coming.port }) c.args.coming.bytes.now in
    no_more c.args.routers.now.items c.args.stations.now.list first c.loop-listing.listing c.loop-listing.invariant.bounded

pub returns-clause-memory : goal.returns-clause-memory
returns-clause-memory g c = c.loop-listing.invariant.memory

pub returns-clause-outbox : goal.returns-clause-outbox
returns-clause-outbox g c = c.loop-listing.invariant.outbox

pub returns-in_err-listing-clause-outbox : goal.returns-in_err-listing-clause-outbox
returns-in_err-listing-clause-outbox g c = holds c.args.outbox.now

pub returns-in_err-listing-2-clause-outbox : goal.returns-in_err-listing-2-clause-outbox
returns-in_err-listing-2-clause-outbox g c =
    then_holds c.args.outbox.now c.loop-listing.outbox c.go_on.new.outbox c.loop-listing.invariant.outbox c.go_on.ensures.outbox
