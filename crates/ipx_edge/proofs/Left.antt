-- What is left of a response, read again.
use Rattle.std.proofs.Common.{◌≡◌, ◌∙◌, refl, sym, subst, ap, arith, ℕ, ◌+◌, ◌-◌, ◌*◌, ◌/◌, ◌^◌, ◌<◌, ◌≤◌, ◌==◌, Bool, true, false, if◌then◌else◌, ◌⊎◌, inl, inr, List, [], ◌∷◌, length, length-drop, take, drop, map, Option, Some, Ok}
use Rattle.std.specs.List.{concat, filter, AllByRecursion}
use Rattle.std.proofs.lemmas.Bool.{eqb-true}
use Rattle.ipx_wire.specs.Packet.{Parts, packet_of}
use Rattle.ipx_wire.specs.Rip.{RipParts, entry_at, entries_at, operation_field, operation_of, rip_of}
use Rattle.ipx_wire.specs.Sap.{sap_of}
use Rattle.ipx_wire.specs.SapEntries.{sap_entry_at, sap_entries_at}
use Rattle.ipx_wire.specs.declared.rip.RipEntry.{RipEntry}
use Rattle.ipx_wire.specs.declared.sap.Sap.TheVariants.{Response}
use Rattle.ipx_wire.specs.declared.sap_entries.SapEntry.{SapEntry}
use Rattle.ipx_wire.proofs.Items.{length-items}
use Rattle.ipx_wire.proofs.Saps.{Told, sap_of-told}
use Rattle.ipx_edge.specs.Filtered.{pieces, with_entries, with_some, with_kept, without, route_passes, service_passes}
use Rattle.ipx_edge.specs.Laws.{SameButLength, RoutesLeft, ServicesLeft}
use Rattle.ipx_edge.specs.Rules.{names_route, names_service, permits}
use Rattle.ipx_edge.specs.declared.listing.Listed.{Listed}
use Rattle.ipx_edge.specs.declared.listing.Listed.TheVariants.{Routes, Services}
use Rattle.ipx_edge.specs.declared.rule.Rule.{Rule}
use Rattle.ipx_edge.specs.declared.rule.Way.{Way}
use Rattle.ipx_edge.specs.inside.Verdict.{size_of}
use Rattle.ipx_edge.proofs.Advertised.{advertises}
use Rattle.ipx_edge.proofs.Kept.{filter_few, filter_all, filter_each, map_filter, each_sized, routes_of_pieces, services_of_pieces}
use Rattle.ipx_edge.proofs.Rewritten as written
use Rattle.ipx_edge.proofs.Rewritten.{length-concat, length_data, pieces_data, operation_data, rewritten, reads_again, header_again, payload_again, two}
use Rattle.ipx_edge.proofs.Routing.{lists, listed}

-- ---- two ways to pass

same_bytes_are : (x y : List ℕ) → Some x ≡ Some y → x ≡ y
same_bytes_are x y e = grind arith

some_left : (es : List (List ℕ)) (bytes new : List ℕ) → with_some es bytes ≡ Some new → (1 ≤ length es) × (new ≡ with_entries es bytes)
some_left [] bytes new e = grind arith
some_left (x ∷ xs) bytes new e = (omega arith, sym (same_bytes_are (with_entries (x ∷ xs) bytes) new e))

kept_by : (b : Bool) (x y : Option (List ℕ)) (new : List ℕ) → (if b then x else y) ≡ Some new → ((b ≡ true) × (x ≡ Some new)) ⊎ (y ≡ Some new)
kept_by true x y new e = inl (refl, e)
kept_by false x y new e = inr e

kept_cases : (all : ℕ) (es : List (List ℕ)) (bytes new : List ℕ) → with_kept all es bytes ≡ Some new
    → ((length es ≡ all) × (new ≡ bytes)) ⊎ ((1 ≤ length es) × (new ≡ with_entries es bytes))
kept_cases all es bytes new e = elim (kept_by (length es == all) (Some bytes) (with_some es bytes) new e) [
  | inl whole ↦ inl (eqb-true (length es) all whole.0, sym (same_bytes_are bytes new whole.1))
  | inr part ↦ inr (some_left es bytes new part)
]

-- ---- what is left

pub record Left (size : ℕ) (p : Parts) (es : List (List ℕ)) (new : List ℕ) : Type 0 where
  pub packet : Parts
  pub read : packet_of new ≡ Ok packet
  pub same : SameButLength p packet
  pub are : pieces size packet.payload ≡ es
  pub operation : operation_field packet.payload ≡ operation_field p.payload
  pub least : 2 + size ≤ length packet.payload
  pub most : length packet.payload ≤ length p.payload

whole_size : (listed : Listed) (n : ℕ) → 2 + size_of listed ≤ n → size_of listed * ((n - 2) / size_of listed) ≤ n - 2
whole_size Routes n least = omega (arith, least)
whole_size Services n least = omega (arith, least)

some_size : (listed : Listed) (n : ℕ) → 1 ≤ n → size_of listed ≤ size_of listed * n
some_size Routes n some = omega (arith, some)
some_size Services n some = omega (arith, some)

most_size : (listed : Listed) (a b : ℕ) → a ≤ b → size_of listed * a ≤ size_of listed * b
most_size Routes a b few = omega (arith, few)
most_size Services a b few = omega (arith, few)

module _ (listed : Listed) (bytes : List ℕ) (p : Parts) (is : packet_of bytes ≡ Ok p) (passes : List ℕ → Bool)
    (least : 2 + size_of listed ≤ length p.payload) (most : length p.payload ≤ 513) where
  abbrev all : List (List ℕ)
  all = pieces (size_of listed) p.payload

  abbrev kept : List (List ℕ)
  kept = filter passes all

  sized : AllByRecursion (λ e. length e ≡ size_of listed) kept
  sized =
      filter_each passes (λ e. length e ≡ size_of listed) all
      (each_sized (size_of listed) ((length p.payload - 2) / size_of listed) (drop 2 p.payload) (omega (arith, whole_size listed (length p.payload) least, length-drop 2 p.payload)))

  many : length kept ≤ (length p.payload - 2) / size_of listed
  many = omega (arith, filter_few passes all, length-items (take (size_of listed)) (size_of listed) ((length p.payload - 2) / size_of listed) (drop 2 p.payload))

  fit : size_of listed * length kept ≤ length p.payload - 2
  fit = omega (arith, most_size listed (length kept) ((length p.payload - 2) / size_of listed) many, whole_size listed (length p.payload) least)

  operation : 2 ≤ length p.payload
  operation = omega (arith, least)

  small : 32 + length (concat kept) < 2 ^ 16
  small = omega (arith, length-concat (size_of listed) kept sized, fit, most)

  part_left : 1 ≤ length kept → Left (size_of listed) p kept (with_entries kept bytes)
  part_left some =
      let q = written.again bytes p is kept operation small in
      let joined = payload_again bytes p is kept operation small in
      let pair = two bytes p is kept operation small in
      let front = take 2 p.payload in
      let count : length q.payload ≡ 2 + size_of listed * length kept = ap length joined ∙ length_data listed kept sized front pair in
      record {
        packet = q;
        read = reads_again bytes p is kept operation small;
        same = header_again bytes p is kept operation small;
        are = ap (pieces (size_of listed)) joined ∙ pieces_data listed kept sized front pair;
        operation = ap operation_field joined ∙ operation_data listed kept sized front pair p.payload refl;
        least = omega (arith, count, some_size listed (length kept) some);
        most = omega (arith, count, fit, least);
      }

  pub left : (new : List ℕ) → without passes (size_of listed) p.payload bytes ≡ Some new → Left (size_of listed) p kept new
  left new e = elim (kept_cases (length all) kept bytes new e) [
    | inl whole ↦ record {
      packet = p;
      read = ap packet_of whole.1 ∙ is;
      same = refl;
      are = sym (filter_all passes all whole.0);
      operation = refl;
      least = least;
      most = omega arith;
    }
    | inr part ↦ subst (Left (size_of listed) p kept) (sym part.1) (part_left part.0)
  ]

-- ---- routes

pub routes_left : (way : Way) (rules : List Rule) (bytes : List ℕ) (p : Parts) (r : RipParts) (new : List ℕ) → packet_of bytes ≡ Ok p → rip_of p.payload ≡ Ok r
    → without (route_passes way rules) 8 p.payload bytes ≡ Some new → RoutesLeft way rules p r new
routes_left way rules bytes p r new is said e =
    let l = lists p.payload r said in
    let it = left Routes bytes p is (route_passes way rules) l.least (omega (arith, l.most)) new e in
    let q = it.packet in
    let f = λ (b : List ℕ). entry_at b 0 in
    let t = λ (entry : RipEntry). permits (names_route way entry) rules in
    let old : map f (pieces 8 p.payload) ≡ r.entries = routes_of_pieces ((length p.payload - 2) / 8) (drop 2 p.payload) ∙ ap (λ (x : RipParts). x.entries) (sym l.are) in
    let entries : entries_at ((length q.payload - 2) / 8) (drop 2 q.payload) ≡ filter t r.entries =
    sym (routes_of_pieces ((length q.payload - 2) / 8) (drop 2 q.payload))
    ∙ ap (map f) it.are
    ∙ map_filter f t (pieces 8 p.payload)
    ∙ ap (filter t) old in
    record {
      packet = q;
      read = it.read;
      same = it.same;
      routes =
          listed q.payload r.operation (ap operation_of it.operation ∙ l.operation) (omega (arith, it.least)) (omega (arith, it.most, l.most))
          ∙ ap (λ (es : List RipEntry). Ok (let x : RipParts = record { operation = r.operation; entries = es } in x)) entries;
    }

-- ---- services

pub services_left : (way : Way) (rules : List Rule) (bytes : List ℕ) (p : Parts) (nearest : Bool) (entries : List SapEntry) (new : List ℕ) → packet_of bytes ≡ Ok p
    → sap_of p.payload ≡ Ok (Response nearest entries) → without (service_passes way rules) 64 p.payload bytes ≡ Some new
    → ServicesLeft way rules p nearest entries new
services_left way rules bytes p nearest entries new is said e =
    let l = advertises p.payload nearest entries said in
    let it = left Services bytes p is (service_passes way rules) l.least l.most new e in
    let q = it.packet in
    let t = λ (entry : SapEntry). permits (names_service way entry) rules in
    let old : map sap_entry_at (pieces 64 p.payload) ≡ entries = services_of_pieces ((length p.payload - 2) / 64) (drop 2 p.payload) ∙ sym l.are in
    let found : sap_entries_at ((length q.payload - 2) / 64) (drop 2 q.payload) ≡ filter t entries =
    sym (services_of_pieces ((length q.payload - 2) / 64) (drop 2 q.payload))
    ∙ ap (map sap_entry_at) it.are
    ∙ map_filter sap_entry_at t (pieces 64 p.payload)
    ∙ ap (filter t) old in
    let told : Told q.payload nearest = record { enough = it.least; within = omega (arith, it.most, l.most); number = it.operation ∙ l.operation } in
    record {
      packet = q;
      read = it.read;
      same = it.same;
      services = sap_of-told q.payload nearest told ∙ ap (λ (es : List SapEntry). Ok (Response nearest es)) found;
    }
