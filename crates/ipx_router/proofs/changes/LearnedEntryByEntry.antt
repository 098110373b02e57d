-- A message is learned entry by entry: what one entry more offers, and what a table stands for after it.
use Rattle.std.proofs.lemmas.Grind.{common_steps}
use Rattle.std.proofs.Common.{◌≡◌, refl, ap, ◌∙◌, ℕ, ◌+◌, ◌≤◌, length, List, [], ◌∷◌, ◌++◌, take, Option, None, Some, arith, append_assoc}
use Rattle.std.specs.List.{slice_get}
use Rattle.std.proofs.lemmas.List.{take_more}
use Rattle.std.proofs.lemmas.Option.{slice_get_within, get_or_from_slice_get}
use Rattle.ipx_table.specs.Facts.{Fact, Offered}
use Rattle.ipx_table.specs.Reading.{Rules}
use Rattle.ipx_table.specs.Stands.{Stands}
use Rattle.ipx_table.specs.declared.held.Held.{Held}
use Rattle.ipx_wire.specs.declared.node.Node.{Node}
use Rattle.ipx_wire.specs.declared.rip.RipEntry.{RipEntry}
use Rattle.ipx_wire.specs.declared.sap_entries.SapEntry.{SapEntry}
use Rattle.ipx_router.specs.Facts.{routes_offered, services_offered}
use Rattle.ipx_router.specs.declared.service_offer.ServiceOffer.{ServiceOffer}
use Rattle.ipx_router.specs.Port.{Port}

-- the items before the one behind place k
pub take_got : {X : Type 0} (xs : List X) (k : ℕ) (x : X) → slice_get xs k ≡ Some x → take (k + 1) xs ≡ take k xs ++ x ∷ []
take_got xs k x at =
    take_more xs k x (slice_get_within xs k x at) ∙ ap (λ y. take k xs ++ y ∷ []) (get_or_from_slice_get xs k x x at)

-- what an entry of a service with that name, or without one, offers
abbrev offered_as : ℕ → Node → SapEntry → Option (List ℕ) → List (Fact ServiceOffer)
offered_as number node entry name = elim name [
  | None ↦ []
  | Some name ↦ Offered (record {
    service = record { kind = entry.kind; name = name; address = entry.address; hops = entry.hops };
    port = number;
    node = node;
  }) ∷ []
]

pub routes_offered-append : (ports : List Port) (number : ℕ) (node : Node) (xs ys : List RipEntry)
    → routes_offered ports number node (xs ++ ys) ≡ routes_offered ports number node xs ++ routes_offered ports number node ys
routes_offered-append ports number node [] ys = refl
routes_offered-append ports number node (x ∷ xs) ys = grind (arith, routes_offered-append ports number node xs ys)

pub services_offered-append : (number : ℕ) (node : Node) (xs ys : List SapEntry)
    → services_offered number node (xs ++ ys) ≡ services_offered number node xs ++ services_offered number node ys
services_offered-append number node [] ys = refl
services_offered-append number node (x ∷ xs) ys =
    named x x.name (services_offered number node (xs ++ ys)) (services_offered number node xs) (services_offered number node ys)
    (services_offered-append number node xs ys)
  where
    named : (entry : SapEntry) (name : Option (List ℕ)) (all one rest : List (Fact ServiceOffer)) → all ≡ one ++ rest
        → offered_as number node entry name ++ all ≡ (offered_as number node entry name ++ one) ++ rest
    named entry name all one rest e = grind arith

-- what stands after the entries before one stands after that one too
pub stands_next : {X O : Type 0} (rules : Rules O) (says : List X → List (Fact O)) → ((xs ys : List X) → says (xs ++ ys) ≡ says xs ++ says ys)
    → (xs : List X) (k : ℕ) (x : X) → slice_get xs k ≡ Some x → (now new : List (Held O))
    → ((facts : List (Fact O)) → Stands rules now facts → Stands rules new (facts ++ says (x ∷ [])))
    → (facts : List (Fact O)) → Stands rules now (facts ++ says (take k xs)) → Stands rules new (facts ++ says (take (k + 1) xs))
stands_next {O} rules says parts xs k x at now new step facts stands = grind (arith, append_assoc, take_got)

-- and so from where they began
pub stands_more : {X O : Type 0} (rules : Rules O) (says : List X → List (Fact O)) → ((xs ys : List X) → says (xs ++ ys) ≡ says xs ++ says ys)
    → (xs : List X) (k : ℕ) (x : X) → slice_get xs k ≡ Some x → (old now new : List (Held O))
    → ((facts : List (Fact O)) → Stands rules old facts → Stands rules now (facts ++ says (take k xs)))
    → ((facts : List (Fact O)) → Stands rules now facts → Stands rules new (facts ++ says (x ∷ [])))
    → (facts : List (Fact O)) → Stands rules old facts → Stands rules new (facts ++ says (take (k + 1) xs))
stands_more rules says parts xs k x at old now new before step facts stands =
    stands_next rules says parts xs k x at now new step facts (before facts stands)

-- all items
pub all_taken : {X : Type 0} (xs : List X) (k : ℕ) → length xs ≤ k → take k xs ≡ xs
all_taken xs k most = grind (arith, common_steps)

-- an entry with a name offers one service
pub named_stands : (rules : Rules ServiceOffer) (records : List (Held ServiceOffer)) (number : ℕ) (node : Node) (entry : SapEntry) (name : List ℕ) → entry.name ≡ Some name
    → (facts : List (Fact ServiceOffer)) → Stands rules records (facts ++ offered_as number node entry (Some name)) → Stands rules records (facts ++ services_offered number node (entry ∷ []))
named_stands rules records number node entry name is facts stands = grind arith
