-- What is so of a log stays so as more is received.
use Rattle.std.proofs.Common.{◌≡◌, sym, subst, ℕ, ◌<◌, true, List, [], ◌++◌, length, Some, length-append, arith, rules}
use Rattle.std.specs.List.{AllByRecursion}
use Rattle.std.proofs.lemmas.List.{get_or_append_left}
use Rattle.ipx_router.specs.Packets.{IsRelayed}
use Rattle.ipx_router.specs.Relays.{IsTableRoute}
use Rattle.ipx_internet.specs.Delivery.{receives}
use Rattle.ipx_internet.specs.Internet.{Internet, Place, ports_of, IsPlace}
use Rattle.ipx_internet.specs.Log.{Sending, Reception, reception_at, outlet, IsForward}

-- bytes come to a port of a forward
pub record Comes (net : Internet) (log : List Reception) (s : Sending) (to : Place) (bytes : List ℕ) : Type 0 where
  pub forward : IsForward net log s
  pub delivered : receives net (outlet log s) s.sent.link to ≡ true
  pub same : bytes ≡ s.sent.bytes

-- what a log's definition says of one reception, but for `once`
pub record IsSound (net : Internet) (log : List Reception) (place : ℕ) (r : Reception) : Type 0 where
  pub within : IsPlace net r.to
  pub ups : AllByRecursion (λ j. j < length (ports_of net r.to.router)) r.up
  pub tables : AllByRecursion (IsTableRoute (ports_of net r.to.router)) r.routes
  pub origins : (s : Sending) → r.origin ≡ Some s → (s.place < place) × Comes net log s r.to r.bytes

module _ (net : Internet) (log more : List Reception) where
  pub same_reception : (place : ℕ) → place < length log → reception_at (log ++ more) place ≡ reception_at log place
  same_reception place within = get_or_append_left log more (reception_at [] 0) place within

  pub forward_lasts : (s : Sending) → IsForward net log s → IsForward net (log ++ more) s
  forward_lasts s forward =
      let e = sym (same_reception s.place forward.there) in
      let longer = length-append log more in
      let there = forward.there in
      record {
        there = omega (arith, there, longer);
        acts = subst (λ (r : Reception). r.acts ≡ true) e forward.acts;
        relayed = subst (λ (r : Reception). IsRelayed (ports_of net r.to.router) r.up r.routes r.to.port r.bytes s.sent) e forward.relayed;
      }

  pub comes_lasts : (s : Sending) (to : Place) (bytes : List ℕ) → Comes net log s to bytes → Comes net (log ++ more) s to bytes
  comes_lasts s to bytes comes = search (rules, forward_lasts, same_reception)

  pub sound_lasts : (place : ℕ) (r : Reception) → IsSound net log place r → IsSound net (log ++ more) place r
  sound_lasts place r sound = record {
    within = sound.within;
    ups = sound.ups;
    tables = sound.tables;
    origins = λ s e. let (earlier, comes) = sound.origins s e in (earlier, comes_lasts s r.to r.bytes comes);
  }
