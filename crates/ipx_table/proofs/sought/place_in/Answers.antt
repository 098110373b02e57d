use Rattle.ipx_table.proofs.Searching.{places_to, answered, through_key}
use Rattle.ipx_table.proofs.sought.place_in.Goals as goal

pub invariant_of-sought : goal.invariant_of-sought
invariant_of-sought g c =
    let order = g.O.Key.Ord.cmp in
    let key_of = g.O.Offer.reading.key in
    let key = c.args.key in
    record {
      all = places_to (λ a b. order (key_of a) (key_of b)) (λ o. order (key_of o) key)
          (λ x y less e. through_key order g.met.O.Key.Ord.total (key_of x) (key_of y) key less e) c.args.offers.now c.requires;
      each = λ k d within. answered (λ a b. order (key_of a) (key_of b)) (λ o. order (key_of o) key)
          (λ x y less e. through_key order g.met.O.Key.Ord.total (key_of x) (key_of y) key less e) c.args.offers.now k d within c.requires;
    }
