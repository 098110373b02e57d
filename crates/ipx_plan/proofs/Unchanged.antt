-- Nothing has changed: each link continues itself.
use Rattle.std.proofs.Common.{◌≡◌, ◌⊎◌, ◌∙◌, refl, sym, ap, ap₂, subst, arith, ℕ, ◌<◌, Bool, true, false, ◌==◌, ◌&&◌, ◌||◌, not, if◌then◌else◌, eq-eqb, inl, inr, List, [], ◌∷◌, length, map, get_or, slice_get, Option, Some, None, is_some}
use Rattle.std.specs.Bool.{beq}
use Rattle.std.specs.List.{range_with_len, list_any}
use Rattle.std.specs.Cmp.Lexicographic.{pointwise}
use Rattle.std.proofs.lemmas.Bool.{cases_Bool, cases_lt, cases_eq, and_from, and_left, and_right, or_right, not_from_true}
use Rattle.std.proofs.lemmas.List.{get_or_past}
use Rattle.std.proofs.lemmas.List.FromFn.{length-map-range_with_len, get_or-map-range_with_len}
use Rattle.std.proofs.lemmas.Option.{same_Some, none-some, slice_get_within}
use Rattle.ipx_plan.specs.declared.link.Link.{Link}
use Rattle.ipx_plan.specs.declared.fate.Fate.{Fate}
use Rattle.ipx_plan.specs.declared.origin.Cable.{Cable}
use Rattle.ipx_plan.specs.declared.origin.Cable.TheVariants.{Kept}
use Rattle.ipx_plan.specs.declared.origin.Origin.{Origin}
use Rattle.ipx_plan.specs.declared.origin.Tunnel.TheVariants.{Absent, Stays, Again, New}
use Rattle.ipx_plan.specs.Carriers.{is_tunnel, is_card, is_shared}
use Rattle.ipx_plan.specs.Likeness.{same_link, between, distance_at}
use Rattle.ipx_plan.specs.Pairing.{Continues, IsPairing, is_number}
use Rattle.ipx_plan.specs.Cables.{is_as_before, first_on, shared_cable, cable, is_first_on_cable, is_kept_of, is_closed}
use Rattle.ipx_plan.specs.Tunnels.{same_node, is_found, is_same_tunnel, tunnel, ends_tunnel, has_other_clients, has_other_sockets}
use Rattle.ipx_plan.specs.Routing.{ports, same_sort, has_other_card, same_port, keeps_router}
use Rattle.ipx_plan.specs.Planned.{Planned, IsPlan, link_of, origin, fate}
use Rattle.ipx_plan.specs.Laws.{IsAsItWas, GoesOnWhole, cable_of}
use Rattle.ipx_plan.proofs.Alike.{cases_get, get_within, beq_itself, node_itself, same_itself, distance_itself, found_itself}
use Rattle.ipx_plan.proofs.Carrying.{first_there, any_there}
use Rattle.ipx_plan.proofs.Pairs.{number_is, old_within, new_within}
use Rattle.ipx_plan.proofs.Planning.{was, cables, origin_there, origin_past, fate_there, fate_past, becomes_at, cable_there, cable_listed}
use Rattle.ipx_plan.proofs.Single.{one_way}

-- ---- the router

same_card : (a : Link) → has_other_card a a ≡ false
same_card a = and_right (is_card a.carrier && is_some a.node) (not (same_node a.node a.node)) (not_from_true (same_node a.node a.node) (node_itself a.node))

port_itself : (a : Link) → same_port a a ≡ true
port_itself a =
    let sort : same_sort a a ≡ true = and_from (beq (is_tunnel a.carrier) (is_tunnel a.carrier)) (beq (is_card a.carrier) (is_card a.carrier))
    (beq_itself (is_tunnel a.carrier)) (beq_itself (is_card a.carrier)) in
    let numbers = and_from (a.network.0 == a.network.0) (a.port == a.port) (eq-eqb a.network.0 a.network.0 refl) (eq-eqb a.port a.port refl) in
    and_from ((a.network.0 == a.network.0) && (a.port == a.port) && beq a.is_of_several a.is_of_several) (a.is_of_several || (same_sort a a && not (has_other_card a a)))
    (and_from ((a.network.0 == a.network.0) && (a.port == a.port)) (beq a.is_of_several a.is_of_several) numbers (beq_itself a.is_of_several))
    (or_right a.is_of_several (same_sort a a && not (has_other_card a a)) (and_from (same_sort a a) (not (has_other_card a a)) sort (ap not (same_card a))))

ports_itself : (links : List Link) → pointwise same_port links links ≡ true
ports_itself [] = refl
ports_itself (x ∷ xs) = and_from (same_port x x) (pointwise same_port xs xs) (port_itself x) (ports_itself xs)

pub router_stays : (links : List Link) → keeps_router links links ≡ true
router_stays links = ports_itself (ports links)

-- ---- pairs

module _ (links : List Link) where
  abbrev itself : List (Option ℕ)
  itself = map Some (range_with_len 0 (length links))

  itself_long : length itself ≡ length links
  itself_long = length-map-range_with_len Some 0 (length links)

  itself_there : (k : ℕ) → k < length links → get_or itself k None ≡ Some k
  itself_there k within = get_or-map-range_with_len Some 0 (length links) k k None within (omega arith)

  itself_only : (j k : ℕ) → Continues itself j k → (j ≡ k) × (k < length links)
  itself_only j k there = elim (cases_lt k (length links)) [
    | inl within ↦ (same_Some j k (sym there ∙ itself_there k within), within)
    | inr past ↦ absurd (none-some j (sym (get_or_past itself k None (omega (arith, past, itself_long))) ∙ there))
  ]

  near_itself : (k : ℕ) → k < length links → distance_at links links k k ≡ 0
  near_itself k within =
      let at = get_within links k within in
      ap (λ (o : Option Link). between o o) at.1 ∙ distance_itself at.0

  itself_is : IsPairing links links itself
  itself_is = record {
    count = itself_long;
    alike = λ j k there.
        let only = itself_only j k there in
        let near : distance_at links links j k ≡ 0 = ap (λ (n : ℕ). distance_at links links n k) only.0 ∙ near_itself k only.1 in
        omega (arith, near);
    once = λ j k l one other. sym (itself_only j k one).0 ∙ (itself_only j l other).0;
    nearest = λ j k near.
        let new_in = new_within links links j k near in
        let old_in = old_within links links j k near in
        let new_zero = near_itself k new_in in
        let old_zero = near_itself j old_in in
        elim (cases_eq (distance_at links links j k) 0) [
          | inl zero_too ↦ elim (cases_lt j k) [
            | inl less ↦ inr (j, itself_there j old_in, inr (old_zero ∙ sym zero_too, omega (arith, less)))
            | inr behind ↦ inl (k, itself_there k new_in, inr (new_zero ∙ sym zero_too, behind))
          ]
          | inr farther ↦ inl (k, itself_there k new_in, inl (omega (arith, new_zero, farther)))
        ];
  }

  -- ---- one link

  module _ (plan : Planned) (is : IsPlan links links plan) (k : ℕ) (link : Link) (there : slice_get links k ≡ Some link) where
    within : k < length links
    within = slice_get_within links k link there

    pub continues : Continues (was links links plan is) k k
    continues = ap (λ (w : List (Option ℕ)). get_or w k None) (one_way links links (was links links plan is) itself is.pairing itself_is) ∙ itself_there k within

    before_is : link_of links (get_or (was links links plan is) k None) ≡ Some link
    before_is = ap (link_of links) continues ∙ there

    as_before : is_as_before (Some link) link ≡ true
    as_before =
        and_from (same_link link link) (not (is_card link.carrier) || beq link.is_of_several link.is_of_several) (same_itself link)
        (or_right (not (is_card link.carrier)) (beq link.is_of_several link.is_of_several) (beq_itself link.is_of_several))

    -- it is its own, or the one of the first on its carrier
    abbrev own : Cable
    own = cable links links (Some k) true k link

    own_kept : (i : ℕ) × (own ≡ Kept i)
    own_kept = elim (cases_Bool (is_shared link.carrier)) [
      | inl shared ↦
          let first = first_there link.carrier links k link there refl in
          (first.0, ap₂ (λ (b : Bool) (o : Option ℕ). if b then shared_cable o o k else Kept k) shared first.1)
      | inr alone ↦ (k, ap (λ (b : Bool). if b then shared_cable (first_on link.carrier links) (first_on link.carrier links) k else Kept k) alone)
    ]

    tunnel_stays : (tunnel (keeps_router links links) (Some link) link ≡ Absent) ⊎ (tunnel (keeps_router links links) (Some link) link ≡ Stays)
    tunnel_stays = elim (cases_Bool (is_tunnel link.carrier)) [
      | inl some ↦
          let same : is_same_tunnel (keeps_router links links) link link ≡ true =
          and_from (same_link link link && (link.clients == link.clients)) (keeps_router links links || same_node link.node link.node)
          (and_from (same_link link link) (link.clients == link.clients) (same_itself link) (eq-eqb link.clients link.clients refl))
          (or_right (keeps_router links links) (same_node link.node link.node) (node_itself link.node)) in
          inr (ap₂ (λ (x y : Bool). if not x then Absent else if not y then New else if is_same_tunnel (keeps_router links links) link link then Stays else Again) some (found_itself link some)
          ∙ ap (λ (x : Bool). if x then Stays else Again) same)
      | inr none ↦
          inl (ap (λ (x : Bool). if not x then Absent else if not (is_found link link) then New
          else if is_same_tunnel (keeps_router links links) link link then Stays else Again) none)
    ]

    other_clients : has_other_clients (Some link) link ≡ false
    other_clients =
        and_right (beq (is_tunnel link.carrier) (is_tunnel link.carrier)) (not (link.clients == link.clients))
        (ap not (eq-eqb link.clients link.clients refl))

    other_sockets : has_other_sockets (Some link) link ≡ false
    other_sockets = ap not (eq-eqb link.sockets link.sockets refl)

    abbrev made : Option ℕ → Option Link → Bool → Origin
    made w b same = record {
      was = w;
      is_as_before = same;
      cable = cable links links w same k link;
      tunnel = tunnel (keeps_router links links) b link;
      has_other_clients = has_other_clients b link;
      has_other_sockets = has_other_sockets b link;
    }

    made_is : origin links links (get_or (was links links plan is) k None) k link ≡ made (Some k) (Some link) true
    made_is =
        ap (λ (w : Option ℕ). made w (link_of links w) (is_as_before (link_of links w) link)) continues
        ∙ ap (λ (b : Option Link). made (Some k) b (is_as_before b link)) there
        ∙ ap (made (Some k) (Some link)) as_before

    as_it_was : IsAsItWas k (made (Some k) (Some link) true)
    as_it_was = record {
      was = refl;
      as_before = refl;
      kept = own_kept.0;
      cable = own_kept.1;
      tunnel = tunnel_stays;
      clients = other_clients;
      sockets = other_sockets;
    }

    pub origin_as_it_was : (o : Origin) → slice_get plan.origins k ≡ Some o → IsAsItWas k o
    origin_as_it_was o has =
        subst (IsAsItWas k) (same_Some (made (Some k) (Some link) true) o (sym (origin_there links links plan is k link there ∙ ap Some made_is) ∙ has)) as_it_was

    -- ---- what becomes of it

    cable_is : cable_of plan k ≡ Some own
    cable_is =
        cable_there links links plan is k link there
        ∙ ap (λ (w : Option ℕ). Some (cable links links w (is_as_before (link_of links w) link) k link)) continues
        ∙ ap (λ (b : Option Link). Some (cable links links (Some k) (is_as_before b link) k link)) there
        ∙ ap (λ (b : Bool). Some (cable links links (Some k) b k link)) as_before

    -- the first on its cable keeps that itself
    first_keeps : is_first_on_cable links k link ≡ true → own ≡ Kept k
    first_keeps first = elim (cases_Bool (is_shared link.carrier)) [
      | inl shared ↦
          let number : is_number k (first_on link.carrier links) ≡ true = ap (λ (b : Bool). not b || is_number k (first_on link.carrier links)) (sym shared) ∙ first in
          let on : first_on link.carrier links ≡ Some k = number_is k (first_on link.carrier links) number in
          ap₂ (λ (b : Bool) (o : Option ℕ). if b then shared_cable o o k else Kept k) shared on
      | inr alone ↦ ap (λ (b : Bool). if b then shared_cable (first_on link.carrier links) (first_on link.carrier links) k else Kept k) alone
    ]

    not_closed : is_closed links (cables links links plan is) k link ≡ false
    not_closed = elim (cases_Bool (is_first_on_cable links k link)) [
      | inl first ↦
          let kept = any_there (is_kept_of k) (cables links links plan is) k (Kept k) (cable_listed links links plan is k ∙ cable_is ∙ ap Some (first_keeps first)) (eq-eqb k k refl) in
          and_right (is_first_on_cable links k link) (not (list_any (is_kept_of k) (cables links links plan is))) (ap not kept)
      | inr other ↦ and_left (is_first_on_cable links k link) (not (list_any (is_kept_of k) (cables links links plan is))) other
    ]

    tunnel_goes : ends_tunnel link (Some link) ≡ false
    tunnel_goes = elim (cases_Bool (is_tunnel link.carrier)) [
      | inl some ↦ and_right (is_tunnel link.carrier) (not (is_found link link)) (ap not (found_itself link some))
      | inr none ↦ and_left (is_tunnel link.carrier) (not (is_found link link)) none
    ]

    abbrev left : Option ℕ → Fate
    left next = fate links links (cables links links plan is) next k link

    goes_whole : GoesOnWhole k (left (Some k))
    goes_whole = record {
      becomes = refl;
      stays_open = not_closed;
      tunnel = ap (ends_tunnel link) there ∙ tunnel_goes;
    }

    pub fate_whole : (f : Fate) → slice_get plan.fates k ≡ Some f → GoesOnWhole k f
    fate_whole f has =
        subst (GoesOnWhole k)
        (same_Some (left (Some k)) f (sym (fate_there links links plan is k link there ∙ ap (λ (o : Option ℕ). Some (left o)) (becomes_at links links plan is k k continues)) ∙ has))
        goes_whole

  -- ---- every link

  module _ (plan : Planned) (is : IsPlan links links plan) where
    pub origins_stay : (k : ℕ) (o : Origin) → slice_get plan.origins k ≡ Some o → IsAsItWas k o
    origins_stay k o has = elim (cases_get links k) [
      | inl none ↦ absurd (none-some o (sym (origin_past links links plan is k none) ∙ has))
      | inr some ↦ origin_as_it_was plan is k some.0 some.1 o has
    ]

    pub fates_stay : (j : ℕ) (f : Fate) → slice_get plan.fates j ≡ Some f → GoesOnWhole j f
    fates_stay j f has = elim (cases_get links j) [
      | inl none ↦ absurd (none-some f (sym (fate_past links links plan is j none) ∙ has))
      | inr some ↦ fate_whole plan is j some.0 some.1 f has
    ]
