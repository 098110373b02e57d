-- One step of a listing: what is kept of it, and what it shows.
use Rattle.std.proofs.Common.{◌≡◌, refl, sym, ap, ap₂, ◌∙◌, subst, ℕ, ◌+◌, ◌<◌, ◌≤◌, List, [], ◌∷◌, ◌++◌, length, map, flat_map, take, drop, Option, Some, arith, length-append, slice_index_or}
use Rattle.std.proofs.Math.Seq.{drop-append_seam, take-append_seam}
use Rattle.std.proofs.lemmas.List.{append_assoc, map-append, get_or-map, length-map, length-drop, drop-append-le, take-append-le}
use Rattle.ipx_router.specs.Relays.{Sent}
use Rattle.ipx_router.specs.declared.outcome.Outcome.{Outcome}
use Rattle.ipx_internet.specs.Listed.{bytes_in, copy_in, IsIn, AreKept, sent_bytes, child, listed_from, Listing, copy_at, waits_next, receivers_by, children_by, GoesOn, IsCut}
use Rattle.ipx_internet.specs.inside.Stations.{place_of}
use Rattle.ipx_internet.specs.TraceRoom.{Memory}
use Rattle.ipx_internet.specs.Traced.{outcome_of}
use Rattle.ipx_internet.specs.Tree.{Router, Copy, sent_on}
use Rattle.ipx_internet.specs.declared.fault.TraceFault.{TraceFault}
use Rattle.ipx_internet.specs.declared.listing.Listed.{Listed}
use Rattle.ipx_internet.specs.declared.listing.Parent.{Parent}
use Rattle.ipx_internet.specs.declared.stations.Station.{Station}
use Rattle.ipx_internet.proofs.lists.EachElement.{all-append, all_then, all_at}
use Rattle.ipx_internet.proofs.trees.ListingUpToALimit.{cut_more}

-- ---- more bytes stand behind those that were there

module _ (first store more : List ℕ) where
  pub in_more : (l : Listed) → IsIn store l → IsIn (store ++ more) l
  in_more l there = let both = length-append store more in omega (arith, there, both)

  -- a part of what was there
  part : (start size : ℕ) → start + size ≤ length store → take size (drop start (store ++ more)) ≡ take size (drop start store)
  part start size there = grind (arith, length-drop, drop-append-le, take-append-le)

  -- whatever its parent is
  same_part : (l : Listed) → IsIn store l → (parent : Option ℕ)
      → bytes_in first (store ++ more) (record { parent = parent; router = l.router; port = l.port; start = l.start; size = l.size })
      ≡ bytes_in first store (record { parent = parent; router = l.router; port = l.port; start = l.start; size = l.size })
  same_part l there parent = grind (arith, part)

  pub same_bytes : (l : Listed) → IsIn store l → bytes_in first (store ++ more) l ≡ bytes_in first store l
  same_bytes l there = same_part l there l.parent

  pub same_copy : (l : Listed) → IsIn store l → copy_in first (store ++ more) l ≡ copy_in first store l
  same_copy l there = grind (arith, same_bytes)

  pub same_copies : (list : List Listed) → AreKept store list → map (copy_in first (store ++ more)) list ≡ map (copy_in first store) list
  same_copies [] kept = refl
  same_copies (l ∷ list) kept = ap₂ (λ (c : Copy) (cs : List Copy). c ∷ cs) (same_copy l kept.0) (same_copies list kept.1)

  pub still_kept : (list : List Listed) → AreKept store list → AreKept (store ++ more) list
  still_kept list kept = all_then (IsIn store) (IsIn (store ++ more)) (λ l there. in_more l there) list kept

-- ---- the receptions of packets, whose bytes stand there

module _ (first store : List ℕ) (r : Router) (stations : List Station) (parent : Parent) (c : Copy) (same : parent.router ≡ c.to.router) where
  -- the bytes of a packet behind others
  of_packet : (front bytes behind : List ℕ) → store ≡ front ++ (bytes ++ behind) → take (length bytes) (drop (length front) store) ≡ bytes
  of_packet front bytes behind stands = grind (arith, drop-append_seam, take-append_seam)

  -- those of one packet
  of_one : (start : ℕ) (s : Sent) → take (length s.bytes) (drop start store) ≡ s.bytes → (near : List Station)
      → map (copy_in first store) (map (child parent start (length s.bytes)) near) ≡ map (λ to. record { parent = Some parent.number; to = place_of to; bytes = s.bytes }) near
  of_one start s are [] = refl
  of_one start s are (to ∷ near) = grind (arith, of_one start s are near)

  -- behind one packet more
  one_more : (front : List ℕ) (s : Sent) (sents : List Sent) → store ≡ front ++ sent_bytes (s ∷ sents) → store ≡ (front ++ s.bytes) ++ sent_bytes sents
  one_more front s sents stands = stands ∙ sym (append_assoc front s.bytes (sent_bytes sents))

  pub new_copies : (sents : List Sent) (front : List ℕ) → store ≡ front ++ sent_bytes sents
      → map (copy_in first store) (listed_from stations r.ports parent (length front) sents) ≡ flat_map (receivers_by r stations parent.number c) sents
  new_copies [] front stands = refl
  new_copies (s ∷ sents) front stands = grind (arith, new_copies sents (front ++ s.bytes) (one_more front s sents stands), length-append, map-append, of_one, of_packet, one_more)

  kept_one : (start size : ℕ) → start + size ≤ length store → (near : List Station) → AreKept store (map (child parent start size) near)
  kept_one start size there [] = tt
  kept_one start size there (to ∷ near) = (there, kept_one start size there near)

  pub new_kept : (sents : List Sent) (front : List ℕ) → store ≡ front ++ sent_bytes sents → AreKept store (listed_from stations r.ports parent (length front) sents)
  new_kept [] front stands = tt
  new_kept (s ∷ sents) front stands = grind (arith, new_kept sents (front ++ s.bytes) (one_more front s sents stands), one_more, length-append, all-append, kept_one)

-- ---- the step of the reception at a place

module _ (first store : List ℕ) (list : List Listed) (at : Listed) (number : ℕ) (r : Router) (stations : List Station) where
  abbrev pub kept_as : Copy
  kept_as = copy_in first store at

  abbrev pub sents : List Sent
  sents = sent_on r at.port (bytes_in first store at)

  abbrev pub parent_of : Parent
  parent_of = record { number = number; router = at.router }

  -- what is listed then
  abbrev pub news : List Listed
  news = listed_from stations r.ports parent_of (length store) sents

  -- what stood before the step stays, and what is new is the children
  pub record After (store2 : List ℕ) : Type 0 where
    pub kept_old : AreKept store2 list
    pub copies_old : map (copy_in first store2) list ≡ map (copy_in first store) list
    pub kept_new : AreKept store2 news
    pub copies_new : map (copy_in first store2) news ≡ children_by r stations number kept_as

  pub after : AreKept store list → (store2 : List ℕ) → store2 ≡ store ++ sent_bytes sents → After store2
  after kept store2 is = subst (λ (xs : List ℕ). After xs) (sym is) (record {
    kept_old = still_kept first store (sent_bytes sents) list kept;
    copies_old = same_copies first store (sent_bytes sents) list kept;
    kept_new = new_kept first (store ++ sent_bytes sents) r stations parent_of kept_as refl sents store refl;
    copies_new = new_copies first (store ++ sent_bytes sents) r stations parent_of kept_as refl sents store refl;
  })

  -- the reception that waits next
  pub is_next : number < length list → at ≡ slice_index_or list number at → copy_at (map (copy_in first store) list) number ≡ kept_as
  is_next within is = get_or-map (copy_in first store) list number at (copy_at [] 0) within ∙ ap (λ (l : Listed). copy_in first store l) (sym is)

  pub stands_there : AreKept store list → number < length list → at ≡ slice_index_or list number at → IsIn store at
  stands_there kept within is = subst (λ (l : Listed). IsIn store l) (sym is) (all_at (IsIn store) list number at kept within)

-- ---- the same as its callers see it

module _ (first store : List ℕ) (list : List Listed) (outcomes : List Outcome) (at : Listed) (number : ℕ) (r : Router) (stations : List Station)
    {memory : Memory} (old : Listing) (view : record { copies = map (copy_in first store) list; outcomes = outcomes; memory = memory } ≡ old)
    (done : number ≡ length outcomes)
    (is : at ≡ slice_index_or list number at) where
  abbrev shown : Listing
  shown = record { copies = map (copy_in first store) list; outcomes = outcomes; memory = memory }

  abbrev it : Copy
  it = kept_as first store list at number r stations

  pub within : length old.outcomes < length old.copies → number < length list
  within waits = grind (arith, length-map)

  module _ (waits : length old.outcomes < length old.copies) where
    pub next_is : waits_next old ≡ it
    next_is = grind (arith, is_next, within)

    pub port_is : (ports : ℕ) → (waits_next old).to.port < ports → at.port < ports
    port_is ports there = subst (λ (c : Copy). c.to.port < ports) next_is there

    pub there_is : AreKept store list → IsIn store at
    there_is kept = stands_there first store list at number r stations kept (within waits) is

    children_are : children_by r stations number it ≡ children_by r stations (length old.outcomes) (waits_next old)
    children_are = grind (arith, next_is)

    module _ (store2 : List ℕ) (after : After first store list at number r stations store2) where
      abbrev new : List Listed
      new = news first store list at number r stations

      pub cut : (limit : ℕ) (fault : TraceFault) → IsCut limit (length list + length new) fault
          → IsCut limit (length old.copies + length (children_by r stations (length old.outcomes) (waits_next old))) fault
      cut limit fault was = grind (arith, length-map, children_are, cut_more)

      module _ (list2 : List Listed) (listed : list2 ≡ list ++ new) where
        pub kept_all : AreKept store2 list2
        kept_all = grind (arith, all-append)

        pub few_all : (limit : ℕ) → (length list ≤ limit → length list2 ≤ limit) → length old.copies ≤ limit → length (map (copy_in first store2) list2) ≤ limit
        few_all limit few here = grind (arith, length-map)

        pub went_on : {memory2 : Memory} (outcomes2 : List Outcome) (o : Outcome) → outcomes2 ≡ outcomes ++ o ∷ [] → o ≡ outcome_of r at.port (bytes_in first store at)
            → GoesOn r stations old (record { copies = map (copy_in first store2) list2; outcomes = outcomes2; memory = memory2 })
        went_on outcomes2 o more became = grind (arith, map-append, children_are, next_is)
