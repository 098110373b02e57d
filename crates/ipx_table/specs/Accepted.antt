-- Which offers a table accepts.
use Rattle.std.specs.Prelude.{◌==◌, nat_lt, Bool, false, not, ◌&&◌, ◌||◌, List, [], ◌∷◌, ◌++◌, length}
use Rattle.std.specs.List.{list_any}
use Rattle.ipx_table.specs.Reading.{Rules, same_key, count_by}
use Rattle.ipx_table.specs.Facts.{Fact, Offered, Second, PortEnd, End, Marked}
use Rattle.ipx_table.specs.Alive.{alive}
use Rattle.ipx_table.specs.declared.held.Held.{Held}

module _ {O : Type 0} (rules : Rules O) where
  -- an alive offer of the same key and source: the new one refreshes it
  abbrev pub refreshes : O → List (Held O) → Bool
  refreshes offer held = list_any (λ h. same_key rules.by_key h.offer offer && rules.same_source h.offer offer) held

  -- the offer's port has fewer alive offers than its share
  abbrev pub has_share : O → List (Held O) → Bool
  has_share offer held = nat_lt (count_by rules.port (rules.port offer) held) (rules.share (rules.port offer))

  -- the new offer came by the port of the old one, or its own port is below its share: it may take its place
  abbrev pub may_replace : O → List (Held O) → Held O → Bool
  may_replace offer held h = rules.port h.offer == rules.port offer || has_share offer held

  -- an alive offer of the same key, from another source, that is strictly worse, and whose place the new one may take
  abbrev pub replaces : O → List (Held O) → Bool
  replaces offer held =
      list_any (λ h. same_key rules.by_key h.offer offer && not (rules.same_source h.offer offer) && rules.is_worse h.offer offer && may_replace offer held h) held

  -- no alive offer of the same key, fewer alive offers than the capacity, and a port below its share: there is room for a new key
  abbrev pub is_new_with_room : O → List (Held O) → Bool
  is_new_with_room offer held =
      not (list_any (λ h. same_key rules.by_key h.offer offer) held) && nat_lt (length held) rules.capacity && has_share offer held

  -- whether the fact is an offer that is accepted where those are alive
  abbrev pub is_accepted : List (Held O) → Fact O → Bool
  is_accepted held (Offered offer) =
      not (rules.is_down offer) && (refreshes offer held || replaces offer held || is_new_with_room offer held)
  is_accepted held Second = false
  is_accepted held (PortEnd port) = false
  is_accepted held End = false

  -- the facts with their marks, each judged by those before it, which have theirs
  abbrev pub marked_after : List (Marked O) → List (Fact O) → List (Marked O)
  marked_after before [] = before
  marked_after before (fact ∷ facts) = marked_after (before ++ (fact, is_accepted (alive rules before) fact) ∷ []) facts

  abbrev pub marked : List (Fact O) → List (Marked O)
  marked facts = marked_after [] facts
