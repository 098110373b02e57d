-- Those of a list that are at one place, or have one place and node.
use Rattle.std.proofs.Common.{◌≡◌, ◌∙◌, refl, sym, ap, arith, Bool, true, false, ◌||◌, inl, inr, List, [], ◌∷◌, ◌++◌, map, filter, length}
use Rattle.std.specs.List.{list_any, AllByRecursion}
use Rattle.std.proofs.lemmas.Bool.{cases_Bool, false≢true}
use Rattle.std.proofs.lemmas.List.Elements.{filter-append, filter_agree}
use Rattle.ipx_wire.specs.declared.node.Node.{Node}
use Rattle.ipx_tunnel.specs.Places.{same_node, is_among}
use Rattle.ipx_tunnel.proofs.Lists.{filter-map}
use Rattle.ipx_tunnel.proofs.Nodes.{same_is, same_itself}
use Rattle.ipx_tunnel.proofs.Sending.{left_of, right_of}
use Rattle.ipx_keyed.specs.declared.client.Client.{Client}
use Rattle.ipx_keyed.specs.declared.said.Said.{Said}
use Rattle.ipx_keyed.specs.declared.sender.Sender.{Sender}
use Rattle.ipx_keyed.specs.Members.{places_of, nodes_of, is_it, is_client_as, stays, later}
use Rattle.ipx_keyed.specs.Tables.{refreshed}
use Rattle.ipx_keyed.specs.Laws.{at_place}
use Rattle.ipx_keyed.proofs.Counting.{kept_place, kept_node}

-- ---- lists

pub each-map : {X Y : Type 0} (P : Y → Type 0) (f : X → Y) (xs : List X) → AllByRecursion (λ x. P (f x)) xs → AllByRecursion P (map f xs)
each-map P f [] all = tt
each-map P f (x ∷ xs) all = (all.0, each-map P f xs all.1)

pub filter-swap : {X : Type 0} (p q : X → Bool) (xs : List X) → filter p (filter q xs) ≡ filter q (filter p xs)
filter-swap p q [] = refl
filter-swap p q (x ∷ xs) = grind (arith, filter-swap p q xs)

-- ---- at one place

pub at_append : (place : Node) (one two : List Client) → at_place place (one ++ two) ≡ at_place place one ++ at_place place two
at_append place one two = filter-append (λ (c : Client). same_node c.place place) one two

pub at_refreshed : (place : Node) (from : Sender) (s : Said) (list : List Client)
    → at_place place (map (refreshed from s) list) ≡ map (refreshed from s) (at_place place list)
at_refreshed place from s list =
    filter-map (λ (c : Client). same_node c.place place) (refreshed from s) list
    ∙ ap (map (refreshed from s))
    (filter_agree (λ (c : Client). same_node (refreshed from s c).place place) (λ (c : Client). same_node c.place place)
    (λ c. ap (λ p. same_node p place) (kept_place from s c)) list)

pub at_later : (place : Node) (list : List Client) → at_place place (map later list) ≡ map later (at_place place list)
at_later place list = filter-map (λ (c : Client). same_node c.place place) later list

pub at_stays : (place : Node) (list : List Client) → at_place place (filter stays list) ≡ filter stays (at_place place list)
at_stays place list = filter-swap (λ (c : Client). same_node c.place place) stays list

pub none_at : (place : Node) (list : List Client) → is_among place (places_of list) ≡ false → at_place place list ≡ []
none_at place [] none = refl
none_at place (c ∷ list) none = grind (arith, none_at place list)

pub among_at : (place : Node) (list more : List Client) (c : Client) → at_place place list ≡ c ∷ more → is_among place (places_of list) ≡ true
among_at place list more c is =
    elim (cases_Bool (is_among place (places_of list))) [
      | inl there ↦ there
      | inr none ↦
          let same : length (c ∷ more) ≡ 0 = ap length (sym is ∙ none_at place list none) in
          absurd (omega (arith, same))
    ]

-- somebody who isn't at the place
pub other_at : (place : Node) (c : Client) → same_node c.place place ≡ false → at_place place (c ∷ []) ≡ []
other_at place c other = rw other refl

pub self_at : (place : Node) (c : Client) → same_node c.place place ≡ true → at_place place (c ∷ []) ≡ c ∷ []
self_at place c same = rw same refl

-- who stands there as a pair stands there by his place and by his node
pub as_place : (place node : Node) (list : List Client) → is_client_as place node list ≡ true → is_among place (places_of list) ≡ true
as_place place node [] is = absurd (false≢true is)
as_place place node (c ∷ list) is = grind (arith, as_place place node list)

pub as_node : (place node : Node) (list : List Client) → is_client_as place node list ≡ true → is_among node (nodes_of list) ≡ true
as_node place node [] is = absurd (false≢true is)
as_node place node (c ∷ list) is = grind (arith, as_node place node list)

-- ---- one of them

pub record One (P : Client → Type 0) (place node : Node) : Type 0 where
  pub client : Client
  pub holds : P client
  pub place_is : client.place ≡ place
  pub node_is : client.node ≡ node

-- what holds of each holds of one who stands there
pub one_of : (P : Client → Type 0) (place node : Node) (list : List Client) → AllByRecursion P list → list_any (is_it place node) list ≡ true → One P place node
one_of P place node [] all is = absurd (false≢true is)
one_of P place node (c ∷ list) all is =
    elim (cases_Bool (is_it place node c)) [
      | inl it ↦ record {
        client = c;
        holds = all.0;
        place_is = same_is c.place place (left_of (same_node c.place place) (same_node c.node node) it);
        node_is = same_is c.node node (right_of (same_node c.place place) (same_node c.node node) it);
      }
      | inr other ↦ one_of P place node list all.1 (sym (ap (λ b. b || list_any (is_it place node) list) other) ∙ is)
    ]

pub it_itself : (c : Client) → is_it c.place c.node c ≡ true
it_itself c = grind (arith, same_itself)

pub kept_as : (place node : Node) (from : Sender) (s : Said) (list : List Client) → is_client_as place node (map (refreshed from s) list) ≡ is_client_as place node list
kept_as place node from s [] = refl
kept_as place node from s (c ∷ list) = grind (arith, kept_place, kept_node, kept_as place node from s list)
