-- The law of cables.
use Rattle.std.proofs.Common.{◌≡◌, ◌≢◌, ◌⊎◌, ◌∙◌, refl, sym, ap, arith, ℕ, ◌≤◌, Bool, true, false, not, inl, inr, eq-eqb, eqb-true, List, get_or, slice_get, Option, Some, None, option_map}
use Rattle.std.specs.List.{list_any}
use Rattle.std.proofs.lemmas.Bool.{cases_Bool, false≢true, and_parts, and_from, not-true, not_from_false}
use Rattle.std.proofs.lemmas.Option.{same_Some, none-some}
use Rattle.ipx_plan.specs.declared.carrier.Carrier.{Carrier}
use Rattle.ipx_plan.specs.declared.link.Link.{Link}
use Rattle.ipx_plan.specs.declared.fate.Fate.{Fate}
use Rattle.ipx_plan.specs.declared.origin.Cable.{Cable}
use Rattle.ipx_plan.specs.declared.origin.Origin.{Origin}
use Rattle.ipx_plan.specs.declared.origin.Cable.TheVariants.{Kept, Opened}
use Rattle.ipx_plan.specs.Carriers.{is_shared}
use Rattle.ipx_plan.specs.Pairing.{becomes}
use Rattle.ipx_plan.specs.Cables.{is_as_before, first_on, cable, is_first_on_cable, is_kept_of, is_closed}
use Rattle.ipx_plan.specs.Planned.{Planned, IsPlan, link_of, fate}
use Rattle.ipx_plan.specs.Laws.{cable_of}
use Rattle.ipx_plan.proofs.Alike.{cases_get}
use Rattle.ipx_plan.proofs.Carrying.{Carries, SharedKept, SharedOpened, OwnKept, OwnOpened, carries, first_is, not_none, as_before_carrier, any_there, which_any, KeptAt, kept_at}
use Rattle.ipx_plan.proofs.Planning.{was, cables, before, cable_there, cable_listed, fate_there, origin_past}

kept_of : (j : ℕ) (c : Cable) → is_kept_of j c ≡ true → c ≡ Kept j
kept_of j (Kept i) is = ap Kept (eqb-true i j is)
kept_of j (Opened i) is = absurd (false≢true is)

opposite : (a b : Bool) → a ≡ true → a ≡ false → ⊥
opposite a b one other = cc

kept_kept : (i j : ℕ) → Kept i ≡ Kept j → i ≡ j
kept_kept i j is = cc

opened_opened : (i j : ℕ) → Opened i ≡ Opened j → i ≡ j
opened_opened i j is = cc

kept_opened : (i j : ℕ) → Kept i ≡ Opened j → ⊥
kept_opened i j is = cc

module _ (old new : List Link) (plan : Planned) (is : IsPlan old new plan) where
  abbrev plan_was : List (Option ℕ)
  plan_was = was old new plan is

  abbrev own_was : ℕ → Option ℕ
  own_was k = get_or plan_was k None

  abbrev cable_at : ℕ → Link → Cable
  cable_at k link = cable old new (own_was k) (is_as_before (before old new plan is k) link) k link

  -- why new link k has its cable
  pub why : (k : ℕ) (link : Link) → slice_get new k ≡ Some link → Carries old new (own_was k) k link (cable_at k link)
  why k link there = carries old new (own_was k) k link there

  pub cable_is : (k : ℕ) (link : Link) (c : Cable) → slice_get new k ≡ Some link → cable_of plan k ≡ Some c → cable_at k link ≡ c
  cable_is k link c there has = same_Some (cable_at k link) c (sym (cable_there old new plan is k link there) ∙ has)

  cable_link : (k : ℕ) (c : Cable) → cable_of plan k ≡ Some c → (link : Link) × (slice_get new k ≡ Some link)
  cable_link k c has = elim (cases_get new k) [
    | inl none ↦ absurd (none-some c (sym (ap (option_map (λ (x : Origin). x.cable)) (origin_past old new plan is k none)) ∙ has))
    | inr some ↦ some
  ]

  pub is_kept_at : (j k : ℕ) (link : Link) → slice_get new k ≡ Some link → cable_of plan k ≡ Some (Kept j) → KeptAt old j link
  is_kept_at j k link there has = kept_at old new (own_was k) k link j (cable_at k link) (why k link there) (cable_is k link (Kept j) there has)

  -- ---- closed or kept

  any_kept : (j k : ℕ) → cable_of plan k ≡ Some (Kept j) → list_any (is_kept_of j) (cables old new plan is) ≡ true
  any_kept j k has = any_there (is_kept_of j) (cables old new plan is) k (Kept j) (cable_listed old new plan is k ∙ has) (eq-eqb j j refl)

  fate_closed : (j : ℕ) (link : Link) (f : Fate) → slice_get old j ≡ Some link → slice_get plan.fates j ≡ Some f
      → f.is_closed ≡ is_closed old (cables old new plan is) j link
  fate_closed j link f there has =
      ap (λ (x : Fate). x.is_closed) (same_Some f (fate old new (cables old new plan is) (becomes plan_was j) j link) (sym has ∙ fate_there old new plan is j link there))

  pub closed_or_kept : (j : ℕ) (link : Link) (f : Fate) → slice_get old j ≡ Some link → is_first_on_cable old j link ≡ true → slice_get plan.fates j ≡ Some f
      → (f.is_closed ≡ true → (k : ℕ) → cable_of plan k ≢ Some (Kept j)) × (((k : ℕ) → cable_of plan k ≢ Some (Kept j)) → f.is_closed ≡ true)
  closed_or_kept j link f there first has =
      let kept = list_any (is_kept_of j) (cables old new plan is) in
      let closed = fate_closed j link f there has in (
        λ shut k keeps.
            let parts = and_parts (is_first_on_cable old j link) (not kept) (sym closed ∙ shut) in
            opposite kept true (any_kept j k keeps) (not-true kept parts.1),
        λ nobody. closed ∙ and_from (is_first_on_cable old j link) (not kept) first (elim (cases_Bool kept) [
          | inl some ↦
              let which = which_any (is_kept_of j) (cables old new plan is) some in
              absurd (nobody which.0 (sym (cable_listed old new plan is which.0) ∙ which.2 ∙ ap Some (kept_of j which.1 which.3)))
          | inr none ↦ not_from_false kept none
        ]),
      )

  -- ---- opened

  opened_cases : (i k : ℕ) (link : Link) (c : Cable) → slice_get new k ≡ Some link → Carries old new (own_was k) k link c → c ≡ Opened i
      → (i ≡ k) ⊎ ((first_on link.carrier old ≡ None) × (first_on link.carrier new ≡ Some i) × (i ≤ k) × (is_shared link.carrier ≡ true))
  opened_cases i k link c there (SharedKept shared j first at) opened = absurd (kept_opened j i (sym at ∙ opened))
  opened_cases i k link c there (SharedOpened shared none n first less at) opened =
      let same = opened_opened n i (sym at ∙ opened) in
      inr (none, first ∙ ap Some same, omega (arith, less, same), shared)
  opened_cases i k link c there (OwnKept own j w as_it_was at) opened = absurd (kept_opened j i (sym at ∙ opened))
  opened_cases i k link c there (OwnOpened own at) opened = inl (opened_opened i k (sym opened ∙ at))

  -- the first on a carrier that is opened, is opened for itself
  first_opened : (i : ℕ) (link : Link) (c : Cable) → Carries old new (own_was i) i link c → is_shared link.carrier ≡ true → first_on link.carrier old ≡ None
      → first_on link.carrier new ≡ Some i → c ≡ Opened i
  first_opened i link c (SharedKept shared j first at) is_so none here = absurd (none-some j (sym none ∙ first))
  first_opened i link c (SharedOpened shared nobody n first less at) is_so none here = at ∙ ap Opened (same_Some n i (sym first ∙ here))
  first_opened i link c (OwnKept own j w as_it_was at) is_so none here = absurd (opposite (is_shared link.carrier) true is_so own)
  first_opened i link c (OwnOpened own at) is_so none here = absurd (opposite (is_shared link.carrier) true is_so own)

  pub opened_once : (i k : ℕ) → cable_of plan k ≡ Some (Opened i) → (i ≤ k) × (cable_of plan i ≡ Some (Opened i))
  opened_once i k has =
      let found = cable_link k (Opened i) has in
      let link = found.0 in
      elim (opened_cases i k link (cable_at k link) found.1 (why k link found.1) (cable_is k link (Opened i) found.1 has)) [
        | inl itself ↦ (omega (arith, itself), ap (cable_of plan) itself ∙ has)
        | inr first ↦
            let at_first = first_is link.carrier new i first.1 in
            let c = at_first.link.carrier in
            let on = at_first.on in
            let mine = first_opened i at_first.link (cable_at i at_first.link) (why i at_first.link at_first.there) (ap is_shared on ∙ first.3)
            (ap (λ (x : Carrier). first_on x old) on ∙ first.0) (ap (λ (x : Carrier). first_on x new) on ∙ first.1) in
            (first.2, cable_there old new plan is i at_first.link at_first.there ∙ ap Some mine)
      ]

  module _ (i j k : ℕ) (link other : Link) (shared : is_shared link.carrier ≡ true) (old_there : slice_get old j ≡ Some other) (on : other.carrier ≡ link.carrier) where
    anew : (c : Cable) → Carries old new (own_was k) k link c → c ≡ Opened i → ⊥
    anew c (SharedKept is_so n first at) opened = kept_opened n i (sym at ∙ opened)
    anew c (SharedOpened is_so none n first less at) opened = not_none link.carrier old j other old_there on none
    anew c (OwnKept own n w as_it_was at) opened = opposite (is_shared link.carrier) true shared own
    anew c (OwnOpened own at) opened = opposite (is_shared link.carrier) true shared own

  pub opened_anew : (i j k : ℕ) (link other : Link) → slice_get new k ≡ Some link → cable_of plan k ≡ Some (Opened i) → is_shared link.carrier ≡ true
      → slice_get old j ≡ Some other → other.carrier ≢ link.carrier
  opened_anew i j k link other there has shared old_there =
      λ on. anew i j k link other shared old_there on (cable_at k link) (why k link there) (cable_is k link (Opened i) there has)

  -- ---- shared

  module _ (k l : ℕ) (a b : Link) (there : slice_get new k ≡ Some a) (here : slice_get new l ≡ Some b) where
    first_old : (i j : ℕ) → first_on a.carrier old ≡ Some i → first_on b.carrier old ≡ Some j → i ≡ j → a.carrier ≡ b.carrier
    first_old i j one other same =
        let x = first_is a.carrier old i one in
        let y = first_is b.carrier old j other in
        let link_same : x.link ≡ y.link = same_Some x.link y.link (sym x.there ∙ ap (slice_get old) same ∙ y.there) in
        sym x.on ∙ ap (λ (z : Link). z.carrier) link_same ∙ y.on

    first_new : (i j : ℕ) → first_on a.carrier new ≡ Some i → first_on b.carrier new ≡ Some j → i ≡ j → a.carrier ≡ b.carrier
    first_new i j one other same =
        let x = first_is a.carrier new i one in
        let y = first_is b.carrier new j other in
        let link_same : x.link ≡ y.link = same_Some x.link y.link (sym x.there ∙ ap (slice_get new) same ∙ y.there) in
        sym x.on ∙ ap (λ (z : Link). z.carrier) link_same ∙ y.on

    -- a cable that links share isn't one's own
    mixed : (i j n : ℕ) (x y : Link) → is_shared x.carrier ≡ true → first_on x.carrier old ≡ Some i → is_shared y.carrier ≡ false → own_was n ≡ Some j
        → is_as_before (before old new plan is n) y ≡ true → i ≡ j → ⊥
    mixed i j n x y shared first own w as_it_was same =
        let one = first_is x.carrier old i first in
        let found = as_before_carrier (before old new plan is n) y as_it_was in
        let at : slice_get old j ≡ Some found.0 = ap (link_of old) (sym w) ∙ found.1 in
        let link_same : one.link ≡ found.0 = same_Some one.link found.0 (sym one.there ∙ ap (slice_get old) same ∙ at) in
        let on : x.carrier ≡ y.carrier = sym one.on ∙ ap (λ (z : Link). z.carrier) link_same ∙ found.2 in
        opposite (is_shared y.carrier) true (ap is_shared (sym on) ∙ shared) own

    -- nor is the first of them one that shares it with nobody
    mixed_new : (i n : ℕ) (x y : Link) → is_shared x.carrier ≡ true → first_on x.carrier new ≡ Some i → is_shared y.carrier ≡ false
        → slice_get new n ≡ Some y → i ≡ n → ⊥
    mixed_new i n x y shared first own at same =
        let one = first_is x.carrier new i first in
        let link_same : one.link ≡ y = same_Some one.link y (sym one.there ∙ ap (slice_get new) same ∙ at) in
        let on : x.carrier ≡ y.carrier = sym one.on ∙ ap (λ (z : Link). z.carrier) link_same in
        opposite (is_shared y.carrier) true (ap is_shared (sym on) ∙ shared) own

    abbrev Share : Type 0
    Share = (is_shared a.carrier ≡ true) × (a.carrier ≡ b.carrier)

    share_from : (c d : Cable) → Carries old new (own_was k) k a c → Carries old new (own_was l) l b d → k ≢ l → c ≡ d → Share
    share_from c d (SharedKept one i first at) (SharedKept two j second to) other same =
        (one, first_old i j first second (kept_kept i j (sym at ∙ same ∙ to)))
    share_from c d (SharedKept one i first at) (SharedOpened two none j second less to) other same = absurd (kept_opened i j (sym at ∙ same ∙ to))
    share_from c d (SharedKept one i first at) (OwnKept two j w as_it_was to) other same =
        absurd (mixed i j l a b one first two w as_it_was (kept_kept i j (sym at ∙ same ∙ to)))
    share_from c d (SharedKept one i first at) (OwnOpened two to) other same = absurd (kept_opened i l (sym at ∙ same ∙ to))
    share_from c d (SharedOpened one none i first less at) (SharedKept two j second to) other same = absurd (kept_opened j i (sym to ∙ sym same ∙ at))
    share_from c d (SharedOpened one none i first less at) (SharedOpened two nobody j second more to) other same =
        (one, first_new i j first second (opened_opened i j (sym at ∙ same ∙ to)))
    share_from c d (SharedOpened one none i first less at) (OwnKept two j w as_it_was to) other same = absurd (kept_opened j i (sym to ∙ sym same ∙ at))
    share_from c d (SharedOpened one none i first less at) (OwnOpened two to) other same =
        absurd (mixed_new i l a b one first two here (opened_opened i l (sym at ∙ same ∙ to)))
    share_from c d (OwnKept one i w as_it_was at) (SharedKept two j second to) other same =
        absurd (mixed j i k b a two second one w as_it_was (kept_kept j i (sym to ∙ sym same ∙ at)))
    share_from c d (OwnKept one i w as_it_was at) (SharedOpened two none j second less to) other same = absurd (kept_opened i j (sym at ∙ same ∙ to))
    share_from c d (OwnKept one i w as_it_was at) (OwnKept two j v as_that_was to) other same =
        absurd (other (is.pairing.once i k l w (v ∙ ap Some (sym (kept_kept i j (sym at ∙ same ∙ to))))))
    share_from c d (OwnKept one i w as_it_was at) (OwnOpened two to) other same = absurd (kept_opened i l (sym at ∙ same ∙ to))
    share_from c d (OwnOpened one at) (SharedKept two j second to) other same = absurd (kept_opened j k (sym to ∙ sym same ∙ at))
    share_from c d (OwnOpened one at) (SharedOpened two none j second less to) other same =
        absurd (mixed_new j k b a two second one there (opened_opened j k (sym to ∙ sym same ∙ at)))
    share_from c d (OwnOpened one at) (OwnKept two j w as_it_was to) other same = absurd (kept_opened j k (sym to ∙ sym same ∙ at))
    share_from c d (OwnOpened one at) (OwnOpened two to) other same = absurd (other (opened_opened k l (sym at ∙ same ∙ to)))

    -- what is found on a carrier is found on the same one
    module _ (shared : is_shared a.carrier ≡ true) (on : a.carrier ≡ b.carrier) where
      also : is_shared b.carrier ≡ true
      also = ap is_shared (sym on) ∙ shared

      same_from : (c d : Cable) → Carries old new (own_was k) k a c → Carries old new (own_was l) l b d → c ≡ d
      same_from c d (SharedKept one i first at) (SharedKept two j second to) =
          at ∙ ap Kept (same_Some i j (sym first ∙ ap (λ (x : Carrier). first_on x old) on ∙ second)) ∙ sym to
      same_from c d (SharedKept one i first at) (SharedOpened two none j second less to) =
          absurd (none-some i (sym none ∙ ap (λ (x : Carrier). first_on x old) (sym on) ∙ first))
      same_from c d (SharedOpened one none i first less at) (SharedKept two j second to) =
          absurd (none-some j (sym none ∙ ap (λ (x : Carrier). first_on x old) on ∙ second))
      same_from c d (SharedOpened one none i first less at) (SharedOpened two nobody j second more to) =
          at ∙ ap Opened (same_Some i j (sym first ∙ ap (λ (x : Carrier). first_on x new) on ∙ second)) ∙ sym to
      same_from c d (OwnKept one i w as_it_was at) y = absurd (opposite (is_shared a.carrier) true shared one)
      same_from c d (OwnOpened one at) y = absurd (opposite (is_shared a.carrier) true shared one)
      same_from c d (SharedKept one i first at) (OwnKept two j w as_it_was to) = absurd (opposite (is_shared b.carrier) true also two)
      same_from c d (SharedKept one i first at) (OwnOpened two to) = absurd (opposite (is_shared b.carrier) true also two)
      same_from c d (SharedOpened one none i first less at) (OwnKept two j w as_it_was to) = absurd (opposite (is_shared b.carrier) true also two)
      same_from c d (SharedOpened one none i first less at) (OwnOpened two to) = absurd (opposite (is_shared b.carrier) true also two)

    pub shared_alike : k ≢ l → (cable_of plan k ≡ cable_of plan l → Share) × (Share → cable_of plan k ≡ cable_of plan l)
    shared_alike other =
        let mine = cable_there old new plan is k a there in
        let theirs = cable_there old new plan is l b here in (
          λ same. share_from (cable_at k a) (cable_at l b) (why k a there) (why l b here) other
              (same_Some (cable_at k a) (cable_at l b) (sym mine ∙ same ∙ theirs)),
          λ share. mine ∙ ap Some (same_from share.0 share.1 (cable_at k a) (cable_at l b) (why k a there) (why l b here)) ∙ sym theirs,
        )
