-- Over wires what a router has of a service that hosts announce becomes such as it may know it: at its address, on a way of as many hops.
use Rattle.std.proofs.Common.{◌≡◌, sym, subst, ◌⊎◌, ℕ, ◌+◌, ◌<◌, ◌≤◌, List, [], length, inl, inr, arith}
use Rattle.std.specs.List.{AllByRecursion}
use Rattle.ipx_router.specs.History.{History}
use Rattle.ipx_internet.specs.Internet.{Internet, IsInternet}
use Rattle.ipx_internet.specs.Queue.{Delivery, history_of}
use Rattle.ipx_internet.specs.Rounds.{IsDelivery}
use Rattle.ipx_internet.specs.Run.{AreHistories}
use Rattle.ipx_internet.proofs.lists.EachElement.{all_of, all_then}
use Rattle.ipx_internet.proofs.packets.SentOnOrReply.{Layouts}
use Rattle.ipx_laws.specs.Meanwhile.{SaysOnly, LeavesPorts}
use Rattle.ipx_laws.specs.Servers.{Server, SaysNoFalse, NamesOnly}
use Rattle.ipx_laws.specs.Ups.{ups}
use Rattle.ipx_laws.specs.Wires.{Flight, Wires, WireStep, as_step, flying, beats_of, AreBeats, EachWireStep, most_beats_flying}
use Rattle.ipx_laws.proofs.services.ServedOrSoonEnded.{Endures, at_begin}
use Rattle.ipx_laws.proofs.services.ServicesBecomeReal.{AnyName, name_any}
use Rattle.ipx_laws.proofs.wires.BeatAfterBeat.{beats_go, starts, each_all}
use Rattle.ipx_laws.proofs.wires.ServicesOnWires.{AnyHistory, AnyWord, Lasts, Flies, Arises, Good, Extras, Goes, keeps, such_beats, any_flies}

-- any names
pub names_any_beats : (beats : List (List WireStep)) → EachWireStep (SaysOnly (NamesOnly AnyName)) beats
names_any_beats beats =
    all_of (AllByRecursion (λ step. SaysOnly (NamesOnly AnyName) (as_step step)))
    (λ steps. all_of (λ step. SaysOnly (NamesOnly AnyName) (as_step step)) (λ step. name_any (as_step step)) steps) beats

-- nothing more is asked of what is said
pub nothing_more : (delay slack : ℕ) (net : Internet) (laws : Layouts) (is : IsInternet net) (most_routes most_services : ℕ) (up : ℕ → List ℕ) (server : Server)
    (Listed : ℕ × List ℕ → Type 0) → Extras delay slack net laws is most_routes most_services up server Listed AnyHistory AnyWord
nothing_more delay slack net laws is most_routes most_services up server Listed = record {
  advertised = λ beats had router history enough lasts fit j. all_of (λ s. Unit {0}) (λ s. tt) _;
  changed = λ beats had router old new enough lasts fit j. all_of (λ s. Unit {0}) (λ s. tt) _;
}

module _ (delay slack : ℕ) (net : Internet) (laws : Layouts) (is : IsInternet net) (most_routes most_services : ℕ) (up : ℕ → List ℕ) (server : Server)
    (Listed : ℕ × List ℕ → Type 0) (histories : List History) (are : AreHistories net histories) (stay : (router : ℕ) → ups net histories router ≡ up router)
    (deliveries : List Delivery) (fly : AllByRecursion (IsDelivery net) deliveries) (over : (deliveries ≡ []) ⊎ (most_beats_flying delay ≤ slack))
    (beats : List (List WireStep)) (all : AreBeats net beats) (leave : EachWireStep LeavesPorts beats) (say : EachWireStep (SaysNoFalse net server) beats)
    (names : EachWireStep (SaysOnly (NamesOnly Listed)) beats) where
  abbrev pub Flying : Flight → Type 0
  Flying = Flies delay slack net laws is most_routes most_services up server Listed AnyHistory AnyWord

  abbrev pub Goes_on : ℕ → (ℕ → ℕ) → Wires → Type 0
  Goes_on = Goes delay slack net laws is most_routes most_services up server Listed AnyHistory AnyWord

  abbrev pub last : Wires
  last = beats_of net most_routes most_services delay (flying histories deliveries) beats

  pub begins : Goes_on 0 (λ router. 0) (flying histories deliveries)
  begins =
      starts net laws is most_routes most_services delay (Lasts delay slack net laws is most_routes most_services up server Listed AnyHistory AnyWord) Flying
      (Arises delay slack net laws is most_routes most_services up server Listed AnyHistory AnyWord)
      (Good delay slack net laws is most_routes most_services up server Listed AnyHistory AnyWord)
      (keeps delay slack net laws is most_routes most_services up server Listed AnyHistory AnyWord
      (nothing_more delay slack net laws is most_routes most_services up server Listed)) histories deliveries are
      (λ router inside. at_begin delay slack net up server Listed most_services router (history_of histories router) (stay router)) (by over)
    where
      by : (deliveries ≡ []) ⊎ (most_beats_flying delay ≤ slack) → AllByRecursion (λ d. Flying (record { delivery = d; sent = 0 })) deliveries
      by (inl none) = subst (λ (ds : List Delivery). AllByRecursion (λ d. Flying (record { delivery = d; sent = 0 })) ds) (sym none) tt
      by (inr room) =
          all_then (IsDelivery net) (λ d. Flying (record { delivery = d; sent = 0 }))
          (any_flies delay slack net laws is most_routes most_services up server Listed AnyHistory AnyWord room) deliveries fly

  pub ends : Goes_on (length beats + 0) (λ router. 0) last
  ends =
      beats_go net laws is most_routes most_services delay (Lasts delay slack net laws is most_routes most_services up server Listed AnyHistory AnyWord) Flying
      (Arises delay slack net laws is most_routes most_services up server Listed AnyHistory AnyWord)
      (Good delay slack net laws is most_routes most_services up server Listed AnyHistory AnyWord)
      (keeps delay slack net laws is most_routes most_services up server Listed AnyHistory AnyWord
      (nothing_more delay slack net laws is most_routes most_services up server Listed)) 0 beats (flying histories deliveries) all
      (such_beats delay slack net laws is most_routes most_services up server Listed AnyHistory AnyWord (flying histories deliveries) beats
      (each_all net most_routes most_services delay (λ now. (router : ℕ) → router < length net → Unit {0}) (λ now router inside. tt) (flying histories deliveries) beats)
      leave say names) begins

  -- what each router has then
  pub lasted : (router : ℕ) → router < length net → Endures delay slack net up server Listed most_services router (length beats) (history_of last.histories router)
  lasted router within = ends.routers router (length beats) within (omega arith) (omega arith)
