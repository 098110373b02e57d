-- Routers that are made and added, one after the other.
use Rattle.std.proofs.lemmas.Grind.{common_steps}
use Rattle.std.proofs.Common.{◌≡◌, ◌⊎◌, ℕ, zero, suc, ◌+◌, ◌<◌, ◌≤◌, false, List, [], ◌∷◌, ◌++◌, length, map, take, drop, slice_get, slice_index_or, Option, None, Some, is_some, Result, Ok, Err, OnOk, IfErr, refl, sym, ap, subst, ◌∙◌, inl, inr, append_assoc, arith, rules}
use Rattle.std.proofs.lemmas.Bool.{true≢false}
use Rattle.std.proofs.lemmas.List.{map-append, take_all, take_more, take-append-drop, length-append}
use Rattle.ipx_router.specs.History.{History}
use Rattle.ipx_router.specs.Port.{Port}
use Rattle.ipx_router.specs.Stands.{State, StandsFor as RouterStandsFor}
use Rattle.ipx_internet.specs.Internet.{Internet}
use Rattle.ipx_internet.specs.Moment.{Moment, SharesNode, StandsFor, net_at}
use Rattle.ipx_internet.specs.Queue.{Queued, history_of}
use Rattle.ipx_cmd.specs.EventText.{most_routes, most_services}
use Rattle.ipx_cmd.specs.InternetMachine.{internet_made, named_routers, nodes_meet, untouched}
use Rattle.ipx_cmd.specs.inside.InternetStands.{IsNotAdded, IsUnmade}
use Rattle.ipx_cmd.specs.Line.{◌>>=◌, Stops}
use Rattle.ipx_cmd.specs.Making.{named_router}
use Rattle.ipx_cmd.specs.declared.lines.fault.LineFault.{LineFault}
use Rattle.ipx_cmd.specs.declared.lines.halt.Halt.{Halt}
use Rattle.ipx_cmd.proofs.acts.NodesThatMeet.{meet_none, meet_one, shares_false, shares_true}

-- ---- lists, item by item

pub taken_more : {X Y : Type 0} (f : X → Y) (xs : List X) (k : ℕ) (x : X) → k < length xs → x ≡ slice_index_or xs k x → map f (take (k + 1) xs) ≡ map f (take k xs) ++ f x ∷ []
taken_more f xs k x below e = grind (arith, common_steps, take_more, map-append)

pub parted : {X Y : Type 0} (f : X → Y) (xs : List X) (k : ℕ) (x : X) → k < length xs → x ≡ slice_index_or xs k x
    → map f xs ≡ map f (take k xs) ++ f x ∷ map f (drop (k + 1) xs)
parted f xs k x below e =
    ap (map f) (sym (take-append-drop (k + 1) xs)) ∙ map-append f (take (k + 1) xs) (drop (k + 1) xs)
    ∙ ap (λ l. l ++ map f (drop (k + 1) xs)) (taken_more f xs k x below e) ∙ append_assoc (map f (take k xs)) (f x ∷ []) (map f (drop (k + 1) xs))

-- ---- routers that can be made

both_ok : {A B : Type 0} (x : Result A LineFault) (y : Result B LineFault) (b : B) → (x >>= (λ a. y)) ≡ Ok b → (a : A) × (x ≡ Ok a) × (y ≡ Ok b)
both_ok x y b e = grind arith

pub made_more : (net : Internet) (ports : List Port) → named_routers net ≡ Ok tt → named_router ports ≡ Ok ports → named_routers (net ++ ports ∷ []) ≡ Ok tt
made_more [] ports all is = ap (λ (r : Result (List Port) LineFault). r >>= (λ made. named_routers [])) is
made_more (first ∷ net) ports all is =
    let parts = both_ok (named_router first) (named_routers net) tt all in
    ap (λ (r : Result (List Port) LineFault). r >>= (λ made. named_routers (net ++ ports ∷ []))) parts.1 ∙ made_more net ports parts.2 is

pub made_until : (net rest : Internet) (ports : List Port) (fault : LineFault) → named_routers net ≡ Ok tt → named_router ports ≡ Err fault → named_routers (net ++ ports ∷ rest) ≡ Err fault
made_until [] rest ports fault all is = ap (λ (r : Result (List Port) LineFault). r >>= (λ made. named_routers rest)) is
made_until (first ∷ net) rest ports fault all is =
    let parts = both_ok (named_router first) (named_routers net) tt all in
    ap (λ (r : Result (List Port) LineFault). r >>= (λ made. named_routers (net ++ ports ∷ rest))) parts.1 ∙ made_until net rest ports fault parts.2 is

pub made_each : (net rest : Internet) (ports : List Port) (fault : LineFault) → named_routers (net ++ ports ∷ rest) ≡ Ok tt → named_router ports ≡ Err fault → ⊥
made_each [] rest ports fault all is = grind arith
made_each (first ∷ net) rest ports fault all is =
    let parts = both_ok (named_router first) (named_routers (net ++ ports ∷ rest)) tt all in
    made_each net rest ports fault parts.2 is

-- those up to a place, of routers that are seen in some way
module _ {V : Type 0} (f : V → List Port) (all : List V) where
  pub made_step : (k : ℕ) (item : V) (seen : List Port) → k < length all → item ≡ slice_index_or all k item → seen ≡ f item → named_router seen ≡ Ok seen
      → named_routers (map f (take k all)) ≡ Ok tt → named_routers (map f (take (k + 1) all)) ≡ Ok tt
  made_step k item seen below is same made before = grind (arith, common_steps, taken_more, made_more)

  pub made_stop : (k : ℕ) (item : V) (seen : List Port) (fault : LineFault) → k < length all → item ≡ slice_index_or all k item → seen ≡ f item → named_router seen ≡ Err fault
      → named_routers (map f (take k all)) ≡ Ok tt → named_routers (map f all) ≡ Err fault
  made_stop k item seen fault below is same unmade before =
      ap named_routers (parted f all k item below is)
      ∙ made_until (map f (take k all)) (map f (drop (k + 1) all)) (f item) fault before (subst (λ (l : List Port). named_router l ≡ Err fault) same unmade)

-- ---- one router more

some_inj : {X : Type 0} (x y : X) → Some x ≡ Some y → x ≡ y
some_inj {X} x y e = ap (λ (o : Option X). elim o [ None ↦ x | Some z ↦ z ]) e

got_more : {X : Type 0} (xs : List X) (x y : X) (k : ℕ) → slice_get (xs ++ x ∷ []) k ≡ Some y → (slice_get xs k ≡ Some y) ⊎ ((k ≡ length xs) × (x ≡ y))
got_more [] x y zero e = inr (refl, some_inj x y e)
got_more [] x y (suc k) e = absurd (true≢false (sym (ap is_some e)))
got_more (z ∷ xs) x y zero e = inl e
got_more (z ∷ xs) x y (suc k) e = elim (got_more xs x y k e) [ inl before ↦ inl before | inr last ↦ inr (ap suc last.0, last.1) ]

history_kept : (histories : List History) (k : ℕ) → history_of (histories ++ [] ∷ []) k ≡ history_of histories k
history_kept histories k = grind (arith, common_steps)

history_past : (histories : List History) → history_of histories (length histories) ≡ []
history_past histories = grind (arith, common_steps)

-- an internet with a router more, to which nothing happened
abbrev pub with_router : Queued → Queued
with_router q = record { histories = q.histories ++ [] ∷ []; queue = q.queue }

module _ (most_routes most_services : ℕ) where
  pub added_stands : (old new : Moment) (r : State) (q : Queued) → new.routers ≡ old.routers ++ r ∷ [] → new.queue ≡ old.queue → RouterStandsFor most_routes most_services r []
      → StandsFor most_routes most_services old q → StandsFor most_routes most_services new (with_router q)
  added_stands old new r q routers queue stands was = record {
    each = length-append q.histories ([] ∷ []) ∙ ap (λ n. n + 1) was.each ∙ sym (length-append old.routers (r ∷ [])) ∙ ap length (sym routers);
    routers = λ number s there. elim (got_more old.routers r s number (ap (λ l. slice_get l number) (sym routers) ∙ there)) [
      | inl before ↦ subst (RouterStandsFor most_routes most_services s) (sym (history_kept q.histories number)) (was.routers number s before)
      | inr last ↦
          let none : history_of (q.histories ++ [] ∷ []) number ≡ [] =
          history_kept q.histories number ∙ ap (history_of q.histories) (last.0 ∙ sym was.each) ∙ history_past q.histories in
          subst (RouterStandsFor most_routes most_services s) (sym none) (subst (λ (x : State). RouterStandsFor most_routes most_services x []) last.1 stands)
    ];
    queue = queue ∙ was.queue;
  }

-- ---- all routers

-- nothing happened to any of them
pub untouched_more : (net : Internet) (ports : List Port) → with_router (untouched net) ≡ untouched (net ++ ports ∷ [])
untouched_more net ports = ap (λ (l : List History). record { histories = l; queue = [] }) (sym (map-append (λ (p : List Port). []) net (ports ∷ [])))

-- why one of them isn't added is why no internet is made
pub not_made : (net rest : Internet) (ports : List Port) (all : Internet) (halt : Halt) → all ≡ net ++ ports ∷ rest → named_routers all ≡ Ok tt → IsNotAdded net ports halt
    → IsUnmade all halt
not_made net rest ports all halt e made unmade = search (rules, made_each, meet_one, shares_true)

-- with the last of them
pub apart_more : (net : Internet) (ports : List Port) → nodes_meet net ≡ false → (SharesNode net ports → ⊥) → nodes_meet (net ++ ports ∷ []) ≡ false
apart_more net ports apart fresh = meet_none net ports apart (shares_false net ports fresh)

-- ---- the internet

pub internet_is : (net : Internet) → named_routers net ≡ Ok tt → nodes_meet net ≡ false → internet_made net ≡ Ok (untouched net)
internet_is net made apart = rw (made, apart) refl

pub unmade_stops : (net : Internet) (fault : LineFault) → named_routers net ≡ Err fault → internet_made net ≡ Err fault
unmade_stops net fault made = rw made refl

pub unadded_stops : (net : Internet) (halt : Halt) → named_routers net ≡ Ok tt → IsUnmade net halt → Stops (internet_made net) halt
unadded_stops net halt made is = grind arith

-- ---- some were added

-- an internet has these routers, and nothing happened to them
pub record AddedSoFar (done : Internet) (now : Moment) : Type 0 where
  pub net : net_at now ≡ done
  pub apart : nodes_meet done ≡ false
  pub stands : StandsFor most_routes most_services now (untouched done)

pub none_added : (now : Moment) → now.routers ≡ [] → now.queue ≡ [] → AddedSoFar [] now
none_added now routers queue = grind arith

pub one_added : (done : Internet) (ports : List Port) (old new : Moment) → AddedSoFar done old → net_at new ≡ net_at old ++ ports ∷ [] → (SharesNode (net_at old) ports → ⊥)
    → ((q : Queued) → StandsFor most_routes most_services old q → StandsFor most_routes most_services new (with_router q)) → AddedSoFar (done ++ ports ∷ []) new
one_added done ports old new so net fresh stands = record {
  net = net ∙ ap (λ (n : Internet). n ++ ports ∷ []) so.net;
  apart = apart_more done ports so.apart (subst (λ (n : Internet). SharesNode n ports → ⊥) so.net fresh);
  stands = subst (StandsFor most_routes most_services new) (untouched_more done ports) (stands (untouched done) so.stands);
}

module _ {V : Type 0} (f : V → List Port) (all : List V) where
  pub added_step : (k : ℕ) (item : V) (seen : List Port) (old new : Moment) → k < length all → item ≡ slice_index_or all k item → seen ≡ f item → AddedSoFar (map f (take k all)) old
      → net_at new ≡ net_at old ++ seen ∷ [] → (SharesNode (net_at old) seen → ⊥)
      → ((q : Queued) → StandsFor most_routes most_services old q → StandsFor most_routes most_services new (with_router q)) → AddedSoFar (map f (take (k + 1) all)) new
  added_step k item seen old new below is same so net fresh stands = grind (arith, taken_more, one_added)

  pub added_stop : (k : ℕ) (item : V) (seen : List Port) (old : Moment) (halt : Halt) → k < length all → item ≡ slice_index_or all k item → seen ≡ f item
      → AddedSoFar (map f (take k all)) old → named_routers (map f all) ≡ Ok tt → IsNotAdded (net_at old) seen halt → IsUnmade (map f all) halt
  added_stop k item seen old halt below is same so made unmade =
      not_made (map f (take k all)) (map f (drop (k + 1) all)) (f item) (map f all) halt (parted f all k item below is) made
      (subst (λ (n : Internet). IsNotAdded n (f item) halt) so.net (subst (λ (l : List Port). IsNotAdded (net_at old) l halt) same unmade))

  pub added_all : (k : ℕ) (now : Moment) → length all ≤ k → AddedSoFar (map f (take k all)) now → AddedSoFar (map f all) now
  added_all k now past so = subst (λ (l : List V). AddedSoFar (map f l) now) (take_all k all past) so

  pub made_all : (k : ℕ) → length all ≤ k → named_routers (map f (take k all)) ≡ Ok tt → named_routers (map f all) ≡ Ok tt
  made_all k past made = ap (λ (l : List V). named_routers (map f l)) (sym (take_all k all past)) ∙ made

-- what the adding of all routers answers, where each of them is made
pub then_made : {T : Type 0} (net : Internet) (r : Result T Halt) → named_routers net ≡ Ok tt → OnOk r (nodes_meet net ≡ false) → OnOk r (internet_made net ≡ Ok (untouched net))
then_made net r made apart = grind arith

pub then_unmade : {T : Type 0} (net : Internet) (r : Result T Halt) → named_routers net ≡ Ok tt → IfErr r (IsUnmade net) → IfErr r (Stops (internet_made net))
then_unmade net r made unmade = grind arith
