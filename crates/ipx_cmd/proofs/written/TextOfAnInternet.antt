-- The text of what an internet tells.
use Rattle.std.proofs.Common.{◌≡◌, ℕ, ◌+◌, ◌<◌, ◌≤◌, false, List, [], ◌∷◌, ◌++◌, length, map, take, drop, slice_get, Some, Err, codes, decimal, refl, sym, ap, subst, ◌∙◌, arith, append_assoc, append-nil, Result}
use Rattle.std.proofs.lemmas.Bool.{lt-ltb, le-ltb}
use Rattle.std.proofs.lemmas.List.{length-map, length-take, take_all, take-append-drop}
use Rattle.std.proofs.lemmas.Option.{slice_get_within}
use Rattle.std.specs.List.{AllByRecursion}
use Rattle.ipx_wire.specs.Ends.{Output}
use Rattle.ipx_internet.specs.Internet.{Place}
use Rattle.ipx_internet.specs.Moment.{Moment, StandsFor, net_at}
use Rattle.ipx_internet.specs.Queue.{Delivery, Queued}
use Rattle.ipx_internet.specs.Traced.{Traced, outcome_at, routers_of, tree}
use Rattle.ipx_internet.specs.Tree.{Copy, Router, root}
use Rattle.ipx_cmd.specs.inside.Acted.{Added}
use Rattle.ipx_cmd.specs.EventText.{most_routes, most_services}
use Rattle.ipx_cmd.specs.InternetMachine.{traced_all}
use Rattle.ipx_cmd.specs.InternetText.{copies_text, copy_text, settled_text, trace_text}
use Rattle.ipx_cmd.specs.inside.Said.{Says}
use Rattle.ipx_cmd.specs.declared.ended.RunFault.{RunFault}
use Rattle.ipx_cmd.proofs.written.GrowsByItems.{listed_next}
use Rattle.ipx_cmd.proofs.acts.RoutersOfTheInternet.{routers_are}
use Rattle.ipx_cmd.proofs.written.AddedOneAfterAnother.{added_kept, added_then, cut_then, says_same}

-- ---- how far it has settled

pub quiet_text : (queue : List Delivery) → queue ≡ [] → settled_text queue ≡ codes "quiet\n"
quiet_text queue none = ap settled_text none

pub left_text : (queue : List Delivery) → 0 < length queue → settled_text queue ≡ codes "left " ++ decimal (length queue) ++ codes "\n"
left_text queue some = grind arith

-- ---- receptions

copies_append : (first : ℕ) (xs ys : List Traced) → copies_text first (xs ++ ys) ≡ copies_text first xs ++ copies_text (first + length xs) ys
copies_append first [] ys = ap (λ (n : ℕ). copies_text n ys) (let none : first ≡ first + 0 = omega arith in none)
copies_append first (x ∷ xs) ys =
    ap (λ (l : List ℕ). copy_text first x ++ l) (
    copies_append (first + 1) xs ys
    ∙ ap (λ (n : ℕ). copies_text (first + 1) xs ++ copies_text n ys) (let next : first + 1 + length xs ≡ first + length (x ∷ xs) = omega arith in next)
    )
    ∙ sym (append_assoc (copy_text first x) (copies_text (first + 1) xs) (copies_text (first + length (x ∷ xs)) ys))

-- those up to a place, and the one there
pub copies_more : (xs : List Traced) (k : ℕ) (x : Traced) → slice_get xs k ≡ Some x → copies_text 0 (take (k + 1) xs) ≡ copies_text 0 (take k xs) ++ copy_text k x
copies_more xs k x e =
    ap (copies_text 0) (listed_next xs k x e) ∙ copies_append 0 (take k xs) (x ∷ [])
    ∙ ap (λ (n : ℕ). copies_text 0 (take k xs) ++ copies_text n (x ∷ []))
    (let n : 0 + length (take k xs) ≡ k = omega (arith, length-take k xs, slice_get_within xs k x e) in n)
    ∙ ap (λ (l : List ℕ). copies_text 0 (take k xs) ++ l) (append-nil (copy_text k x))

-- some were added
pub record CopiesSoFar (xs : List Traced) (from to : Output) (old new : List ℕ) (k : ℕ) : Type 0 where
  pub fine : to.failed ≡ false
  pub added : Added from to old new (copies_text 0 (take k xs))

pub no_copies : (xs : List Traced) (o : Output) (text : List ℕ) → o.failed ≡ false → CopiesSoFar xs o o text text 0
no_copies xs o text fine = record { fine = fine; added = added_kept o text text [] fine (sym (append-nil text)) }

pub copy_more : (xs : List Traced) (from mid to : Output) (old text new : List ℕ) (k : ℕ) (x : Traced) → slice_get xs k ≡ Some x → CopiesSoFar xs from mid old text k
    → to.failed ≡ false → Added mid to text new (copy_text k x) → CopiesSoFar xs from to old new (k + 1)
copy_more xs from mid to old text new k x e so fine added = record {
  fine = fine;
  added = subst (Added from to old new) (sym (copies_more xs k x e)) (added_then from mid to old text new (copies_text 0 (take k xs)) (copy_text k x) so.added added);
}

pub copy_cut : (xs : List Traced) (from mid to : Output) (old text new : List ℕ) (k : ℕ) (x : Traced) (why : RunFault) → slice_get xs k ≡ Some x → CopiesSoFar xs from mid old text k
    → Says mid to text new (copy_text k x) (Err why) → Says from to old new (copies_text 0 xs) (Err why)
copy_cut xs from mid to old text new k x why e so says =
    let rest = copies_text (0 + length (take (k + 1) xs)) (drop (k + 1) xs) in
    let whole : copies_text 0 xs ≡ copies_text 0 (take k xs) ++ (copy_text k x ++ rest) =
    ap (copies_text 0) (sym (take-append-drop (k + 1) xs)) ∙ copies_append 0 (take (k + 1) xs) (drop (k + 1) xs)
    ∙ ap (λ (l : List ℕ). l ++ rest) (copies_more xs k x e) ∙ append_assoc (copies_text 0 (take k xs)) (copy_text k x) rest in
    cut_then from mid to old text new (copies_text 0 (take k xs)) (copy_text k x) rest (copies_text 0 xs) why so.added says whole

-- ---- the tree of a packet

abbrev tell : List Router → Copy → Traced
tell routers copy = record { copy = copy; outcome = outcome_at routers copy }

told : (routers : List Router) (t : List Traced) → AllByRecursion (λ r. r.outcome ≡ outcome_at routers r.copy) t → t ≡ map (tell routers) (map (λ r. r.copy) t)
told routers [] all = refl
told routers (r ∷ t) all = grind (arith, told routers t all.1)

-- what is told is the tree
pub traced_is : (routers : List Router) (c : Copy) (t : List Traced) → map (λ r. r.copy) t ≡ tree routers c → AllByRecursion (λ r. r.outcome ≡ outcome_at routers r.copy) t
    → t ≡ map (tell routers) (tree routers c)
traced_is routers c t copies all = told routers t all ∙ ap (map (tell routers)) copies

pub within_limit : (limit : ℕ) (t : List Traced) → length t ≤ limit → trace_text limit t ≡ copies_text 0 t
within_limit limit t few = rw (le-ltb limit (length t) few) refl

pub past_limit : (limit : ℕ) (t : List Traced) → limit < length t → trace_text limit t ≡ codes "limit\n"
past_limit limit t many = rw (lt-ltb limit (length t) many) refl

pub copies_added : (xs : List Traced) (from to : Output) (old new : List ℕ) (k : ℕ) → length xs ≤ k → CopiesSoFar xs from to old new k → Added from to old new (copies_text 0 xs)
copies_added xs from to old new k past so = subst (λ (l : List Traced). Added from to old new (copies_text 0 l)) (take_all k xs past) so.added

-- ---- what a trace of an internet says

module _ (m : Moment) (q : Queued) (router port limit : ℕ) (bytes : List ℕ) (from to : Output) (old new : List ℕ) (stands : StandsFor most_routes most_services m q) where
  abbrev place : Place
  place = record { router = router; port = port }

  abbrev whole : List Traced
  whole = map (tell (routers_of m.routers)) (tree (routers_of m.routers) (root place bytes))

  whole_is : whole ≡ traced_all (net_at m) q router port bytes
  whole_is = ap (λ (routers : List Router). map (tell routers) (tree routers (root place bytes))) (routers_are m q stands)

  pub traced_says : (t : List Traced) (r : Result (Unit {0}) RunFault) → map (λ x. x.copy) t ≡ tree (routers_of m.routers) (root place bytes)
      → AllByRecursion (λ x. x.outcome ≡ outcome_at (routers_of m.routers) x.copy) t → length t ≤ limit → Says from to old new (copies_text 0 t) r
      → Says from to old new (trace_text limit (traced_all (net_at m) q router port bytes)) r
  traced_says t r copies outcomes few says = grind (arith, says_same, within_limit, traced_is, whole_is)

  pub limit_says : (r : Result (Unit {0}) RunFault) → limit < length (tree (routers_of m.routers) (root place bytes)) → Says from to old new (codes "limit\n") r
      → Says from to old new (trace_text limit (traced_all (net_at m) q router port bytes)) r
  limit_says r many says = grind (arith, length-map, says_same, past_limit, whole_is)
