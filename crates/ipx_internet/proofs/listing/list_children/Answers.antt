use Rattle.std.proofs.Common.{ℕ, ◌≡◌, ◌+◌, ◌++◌, ◌≤◌, ◌∙◌, sym, refl, length, List, [], map, filter, drop, drop_of_length-le, subst, ap, arith, length-append}
use Rattle.std.proofs.lemmas.List.{append-nil}
use Rattle.std.proofs.lemmas.Result.{err_from_is_err_and}
use Rattle.ipx_router.specs.Port.{Port}
use Rattle.ipx_router.specs.Relays.{Sent}
use Rattle.ipx_internet.specs.Listed.{sent_bytes, child, Fills, listed_from}
use Rattle.ipx_internet.specs.declared.listing.Listed.{Listed}
use Rattle.ipx_internet.specs.declared.listing.Parent.{Parent}
use Rattle.ipx_internet.specs.declared.stations.Station.{Station}
use Rattle.ipx_internet.specs.inside.Stations.{hears}
use Rattle.ipx_internet.proofs.listing.list_children.Goals as goal
use Rattle.ipx_internet.proofs.trees.ListingUpToALimit.{begins, cut_short, ends, goes_on, no_memory, packet_fills, packet_joins}

pub returns-in_err-list_receivers-clause-refused : goal.returns-in_err-list_receivers-clause-refused
returns-in_err-list_receivers-clause-refused g c =
    let p = err_from_is_err_and c.from_residual.result c.from_residual.ensures.1 in
    let k = c.loop-packet.packet in
    let first = c.args.list.now.items in
    let start = c.len.result in
    let counted = c.len.ensures in
    let held = c.loop-packet.store.ok.0 in
    let from : start ≡ length c.loop-packet.store.items = omega (arith, counted, held) in
    let stations = c.args.stations.now.list in
    let ports = c.args.router.now.ports in
    let sents = c.args.outbox.now.sent in
    let s : Sent = record { port = c.get-sent.result.port; link = c.get-sent.result.link; bytes = c.get-sent.result.bytes.now } in
    let all = listed_from stations ports c.args.parent (length c.args.store.now.items) sents in
    let fills = packet_fills c.args.limit first c.loop-packet.list.items all stations ports c.args.parent sents k start s c.network_of.result
    c.on-near.result.now c.on-near.ensures.stations
    c.network_of.ensures c.get-sent.ensures
    (subst (λ (n : ℕ). Fills c.args.limit first c.loop-packet.list.items all (listed_from stations ports c.args.parent n (drop k sents))) (sym from) c.loop-packet.invariant.fills) in
    let piece = map (child c.args.parent start (length s.bytes)) (filter (hears c.args.parent.router s.link) c.on-near.result.now) in
    let rest = listed_from stations ports c.args.parent (start + length s.bytes) (drop (k + 1) sents) in
    rw (p.1, p.2) (cut_short c.args.limit first c.loop-packet.list.items all piece rest _ fills c.in_err-list_receivers.ensures.refused)

pub loop-packet-preserved : goal.loop-packet-preserved
loop-packet-preserved g c =
    let k = c.loop-packet.packet in
    let first = c.args.list.now.items in
    let start = c.len.result in
    let counted = c.len.ensures in
    let held = c.loop-packet.store.ok.0 in
    let from : start ≡ length c.loop-packet.store.items = omega (arith, counted, held) in
    let stations = c.args.stations.now.list in
    let ports = c.args.router.now.ports in
    let sents = c.args.outbox.now.sent in
    let s : Sent = record { port = c.get-sent.result.port; link = c.get-sent.result.link; bytes = c.get-sent.result.bytes.now } in
    let all = listed_from stations ports c.args.parent (length c.args.store.now.items) sents in
    let fills = packet_fills c.args.limit first c.loop-packet.list.items all stations ports c.args.parent sents k start s c.network_of.result
    c.on-near.result.now c.on-near.ensures.stations
    c.network_of.ensures c.get-sent.ensures
    (subst (λ (n : ℕ). Fills c.args.limit first c.loop-packet.list.items all (listed_from stations ports c.args.parent n (drop k sents))) (sym from) c.loop-packet.invariant.fills) in
    let piece = map (child c.args.parent start (length s.bytes)) (filter (hears c.args.parent.router s.link) c.on-near.result.now) in
    let rest = listed_from stations ports c.args.parent (start + length s.bytes) (drop (k + 1) sents) in
    let next = c.append.new.store.items in
    let is : next ≡ c.loop-packet.store.items ++ s.bytes = c.in_ok-append.ensures.appended in
    let grown : length next ≡ length (c.loop-packet.store.items ++ s.bytes) = ap (λ (xs : List ℕ). length xs) is in
    let both = length-append c.loop-packet.store.items s.bytes in
    let further : start + length s.bytes ≡ length next = omega (arith, from, grown, both) in
    record {
      fills =
          subst (λ (n : ℕ). Fills c.args.limit first c.list_receivers.new.list.items all (listed_from stations ports c.args.parent n (drop (k + 1) sents))) further
          (goes_on c.args.limit first c.loop-packet.list.items all piece rest c.list_receivers.new.list.items fills c.in_ok-list_receivers.ensures.listed
          c.in_ok-list_receivers.ensures.few);
      joins = packet_joins _ c.loop-packet.store.items next sents k s c.get-sent.ensures is c.loop-packet.invariant.joins;
      list_capacity =
          let before = c.loop-packet.invariant.list_capacity in
          let more = c.list_receivers.ensures.capacity in
          omega (arith, before, more);
      store_capacity =
          let before = c.loop-packet.invariant.store_capacity in
          let more = c.append.ensures.capacity in
          omega (arith, before, more);
    }

pub returns-in_err-append-clause-refused : goal.returns-in_err-append-clause-refused
returns-in_err-append-clause-refused g c =
    let p = err_from_is_err_and c.from_residual-in_err-append.result c.from_residual-in_err-append.ensures.1 in
    rw (p.1, p.2) (no_memory c.args.limit _ _ c.requires c.in_err-append.ensures.refused)

pub network_of-requires : goal.network_of-requires
network_of-requires g c = first_of (assumption c.well_formed, search c.well_formed)

pub loop-packet-init : goal.loop-packet-init
loop-packet-init g c =
    let all = listed_from c.args.stations.now.list c.args.router.now.ports c.args.parent (length c.args.store.now.items) c.args.outbox.now.sent in
    record { fills = begins c.args.limit c.args.list.now.items c.args.list.now.items all; joins = refl; list_capacity = omega arith; store_capacity = omega arith }

pub get-sent-requires : goal.get-sent-requires
get-sent-requires g c =
    let there = c.loop-packet-test.true in
    let all = c.len-packet-end.ensures in
    omega (arith, there, all)

-- behind the last packet nothing is left to list
nothing_left : (limit : ℕ) (first now all : List Listed) (stations : List Station) (ports : List Port) (parent : Parent) (sents : List Sent) (k start : ℕ)
    → length sents ≤ k → Fills limit first now all (listed_from stations ports parent start (drop k sents)) → Fills limit first now all []
nothing_left limit first now all stations ports parent sents k start past fills =
    subst (λ (rest : List Listed). Fills limit first now all rest) (ap (λ (ss : List Sent). listed_from stations ports parent start ss) (drop_of_length-le sents past)) fills

-- nor to keep
all_kept : (first now : List ℕ) (sents : List Sent) (k : ℕ) → length sents ≤ k → now ++ sent_bytes (drop k sents) ≡ first → now ≡ first
all_kept first now sents k past joins =
    sym (append-nil now) ∙ ap (λ (ss : List Sent). now ++ sent_bytes ss) (sym (drop_of_length-le sents past)) ∙ joins

pub returns-clause-listed : goal.returns-clause-listed
returns-clause-listed g c =
    let first = c.args.list.now.items in
    let stations = c.args.stations.now.list in
    let ports = c.args.router.now.ports in
    let sents = c.args.outbox.now.sent in
    let all = listed_from stations ports c.args.parent (length c.args.store.now.items) sents in
    let test = c.loop-packet-test.false in
    let size = c.len-packet-end.ensures in
    let fills = nothing_left c.args.limit first c.loop-packet.list.items all stations ports c.args.parent sents c.loop-packet.packet _ (omega (arith, test, size))
    c.loop-packet.invariant.fills in
    ends c.args.limit first c.loop-packet.list.items all fills

pub returns-clause-stored : goal.returns-clause-stored
returns-clause-stored g c =
    let test = c.loop-packet-test.false in
    let size = c.len-packet-end.ensures in
    all_kept _ c.loop-packet.store.items c.args.outbox.now.sent c.loop-packet.packet (omega (arith, test, size)) c.loop-packet.invariant.joins

pub returns-clause-few : goal.returns-clause-few
returns-clause-few g c =
    let first = c.args.list.now.items in
    let stations = c.args.stations.now.list in
    let ports = c.args.router.now.ports in
    let sents = c.args.outbox.now.sent in
    let all = listed_from stations ports c.args.parent (length c.args.store.now.items) sents in
    let test = c.loop-packet-test.false in
    let size = c.len-packet-end.ensures in
    let fills = nothing_left c.args.limit first c.loop-packet.list.items all stations ports c.args.parent sents c.loop-packet.packet _ (omega (arith, test, size))
    c.loop-packet.invariant.fills in
    fills.few
