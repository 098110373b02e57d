-- With edges, what holds at each step of a run holds; and what was sent on is heard by no router.
use Rattle.std.proofs.Common.{◌≡◌, ◌≢◌, refl, sym, ap, ◌∙◌, subst, ℕ, ◌<◌, ◌⊎◌, ◌&&◌, ◌||◌, Bool, true, false, if◌then◌else◌, List, [], ◌∷◌, ◌++◌, length, Option, None, Some, Ok, append-nil, length-append, inl, inr, arith}
use Rattle.std.specs.List.{AllByRecursion}
use Rattle.std.specs.Option.{option_map}
use Rattle.std.proofs.lemmas.Bool.{cases_Bool, cases_lt}
use Rattle.std.proofs.lemmas.Grind.{common_steps}
use Rattle.ipx_wire.specs.Numbers.{local_network}
use Rattle.ipx_wire.specs.Packet.{Parts, packet_of}
use Rattle.ipx_wire.specs.Piece.{IsBytes}
use Rattle.ipx_router.specs.Heard.{Heard, heard}
use Rattle.ipx_router.specs.History.{Event, History, Start, Stop, Second, Packet, PortDown, PortUp}
use Rattle.ipx_router.specs.Port.{Port, IsPort, port_at}
use Rattle.ipx_router.specs.Why.{is_near, is_for_rip, is_for_sap}
use Rattle.ipx_router.proofs.bytes.ReadInOneWay.{one_read}
use Rattle.ipx_router.proofs.port_values.PortOfEachNumber.{port-all}
use Rattle.ipx_edge.specs.Entered.{is_for_neighbours, is_held, entered}
use Rattle.ipx_edge.specs.Numbered.{services_told, numbered}
use Rattle.ipx_internet.specs.Different.{AreDifferent}
use Rattle.ipx_internet.specs.Internet.{Internet, Place, IsInternet, IsPlace, ports_of, port_of}
use Rattle.ipx_internet.specs.Log.{Sending, Reception, reception_at}
use Rattle.ipx_internet.specs.Run.{Step, Happens, Settles, IsStep, AreHistories, Waiting, Run, begun, stepped}
use Rattle.ipx_internet.proofs.packets.ForwardsDiffer.{Routing}
use Rattle.ipx_internet.proofs.packets.SentOnOrReply.{Layouts, IsOnward, onward}
use Rattle.ipx_internet.proofs.places.OneReceiverOfANode.{ports_at}
use Rattle.ipx_internet.proofs.trees.LogStays.{same_reception}
use Rattle.ipx_internet.proofs.trees.NoTwoNameTheSame.{Name, named, names, names_waiting}
use Rattle.ipx_internet.proofs.trees.RunIsALog.{IsWaiting, Good, step_well, begun_well}
use Rattle.ipx_laws.specs.inside.EdgeLaws.{Edge}
use Rattle.ipx_laws.specs.Edges.{edge_stepped, edge_run, words_of}
use Rattle.ipx_laws.proofs.edges.NumberedAreBytes.{numbered_are}

-- ---- values that there are, or not

some_is : {X : Type 0} (x y : X) → Some x ≡ Some y → x ≡ y
some_is x y e = grind arith

pub no_some : {X : Type 0} {G : Type 0} (x : X) → None ≡ Some x → G
no_some x e = absurd (grind arith)

-- what comes in is what came, numbered
numbered_it : (held : Bool) (x new : List ℕ) → (if held then None else Some x) ≡ Some new → x ≡ new
numbered_it true x new e = no_some new e
numbered_it false x new e = some_is x new e

-- ---- names

drop_one : (P : Name → Type 0) (xs : List Name) (n : Name) (ys : List Name) → AllByRecursion P (xs ++ n ∷ ys) → AllByRecursion P (xs ++ ys)
drop_one P [] n ys all = all.1
drop_one P (x ∷ xs) n ys all = (all.0, drop_one P xs n ys all.1)

differ_without : (xs : List Name) (n : Name) (ys : List Name) → AreDifferent (xs ++ n ∷ ys) → AreDifferent (xs ++ ys)
differ_without [] n ys differ = differ.1
differ_without (x ∷ xs) n ys differ = (drop_one (λ y. y ≢ x) xs n ys differ.0, differ_without xs n ys differ.1)

differ_less : (xs : List Name) (origin : Option Sending) (to : Place) (ys : List Name) → AreDifferent (xs ++ (named origin to ++ ys)) → AreDifferent (xs ++ ys)
differ_less xs None to ys differ = differ
differ_less xs (Some s) to ys differ = differ_without xs (record { sending = s; to = to }) ys differ

-- ---- what was sent on

-- a packet that a router carried, and that names the network of its source
pub record IsCarried (bytes : List ℕ) : Type 0 where
  pub packet : Parts
  pub read : packet_of bytes ≡ Ok packet
  pub carried : packet.header.control ≢ 0
  pub named : packet.header.source.network.0 ≢ local_network

no_services : (near rip sap : Bool) (n : ℕ) → (near && (rip || sap)) ≡ false → (if near && sap then n else 0) ≡ 0
no_services near rip sap n none = grind arith

module _ (net : Internet) where
  -- bytes that a router received: a packet that names its source's network; and of a forward it heard nothing
  pub record IsNamed (r : Reception) : Type 0 where
    pub bytes : IsBytes r.bytes
    pub named : (p : Parts) → packet_of r.bytes ≡ Ok p → p.header.source.network.0 ≢ local_network
    pub unheard : (s : Sending) → r.origin ≡ Some s → words_of net r ≡ None

  abbrev AreNamed : List Reception → Type 0
  AreNamed log = (place : ℕ) → place < length log → IsNamed (reception_at log place)

  last_reception : (log : List Reception) (r : Reception) → reception_at (log ++ r ∷ []) (length log) ≡ r
  last_reception log r = grind (arith, common_steps)

  named_more : (log : List Reception) (r : Reception) → AreNamed log → IsNamed r → AreNamed (log ++ r ∷ [])
  named_more log r all one place within = elim (cases_lt place (length log)) [
    | inl old ↦ subst IsNamed (sym (same_reception net log (r ∷ []) place old)) (all place old)
    | inr from ↦
        let longer = length-append log (r ∷ []) in
        let last : place ≡ length log = omega (arith, within, from, longer) in
        let P : ℕ → Type 0 = λ k. IsNamed (reception_at (log ++ r ∷ []) k) in
        subst P (sym last) (subst IsNamed (sym (last_reception log r)) one)
  ]

  -- what holds at each step
  pub record Well (run : Run) : Type 0 where
    pub good : Good net run
    pub named : AreNamed run.log

  module _ (laws : Layouts) (routing : Routing) (edge : Edge) (is : IsInternet net) (most_routes most_services : ℕ) where
    port_is : (to : Place) → IsPlace net to → IsPort (port_of net to)
    port_is to there = port-all IsPort (ports_of net to.router) to.port (ports_at net is to.router) there

    -- what waits and is a forward is a packet that was carried
    pub carried_on : (run : Run) → Well run → (w : Waiting) → IsWaiting net run.log w → (s : Sending) → w.origin ≡ Some s → IsCarried w.delivery.bytes
    carried_on run well w waits s e =
        let comes = waits.comes s e in
        let r = reception_at run.log s.place in
        let was = well.named s.place comes.forward.there in
        let on : IsOnward (port_at (ports_of net r.to.router) r.to.port) r.bytes s.sent.bytes =
        onward laws (ports_of net r.to.router) (ports_at net is r.to.router) r.up r.routes r.to.port r.bytes was.bytes s.sent comes.forward.relayed in
        record {
          packet = on.further;
          read = ap packet_of comes.same ∙ on.reread;
          carried = λ none. let more = on.more in omega (arith, more, none);
          named = λ none. was.named on.packet on.read (sym (ap (λ a. a.network.0) on.source) ∙ none);
        }

    -- an edge holds it, or lets it in as it is
    enters : (port : Port) (bytes : List ℕ) → IsCarried bytes → (entered port bytes ≡ None) ⊎ (entered port bytes ≡ Some bytes)
    enters port bytes c =
        let h = c.packet.header in
        elim (cases_Bool (is_for_neighbours port h)) [
          | inl near ↦ inl (edge.held port bytes c.packet c.read near c.carried)
          | inr other ↦
              let none : services_told port c.packet ≡ 0 = no_services (is_near port h) (is_for_rip h) (is_for_sap h) _ other in
              inr (edge.same port bytes c.packet c.read (inr other) c.named (λ k few. absurd (omega (arith, few, none))))
        ]

    as_it_is : (port : Port) (bytes new : List ℕ) → IsCarried bytes → entered port bytes ≡ Some new → new ≡ bytes
    as_it_is port bytes new c e = elim (enters port bytes c) [
      | inl none ↦ no_some new (sym none ∙ e)
      | inr same ↦ some_is new bytes (sym e ∙ same)
    ]

    -- and no router hears anything of it
    pub unheard_in : (to : Place) → IsPlace net to → (up : List ℕ) (runs : Bool) (bytes new : List ℕ) → IsCarried bytes → entered (port_of net to) bytes ≡ Some new
        → (o : Option Heard) → heard (ports_of net to.router) up runs to.port new ≡ o → o ≡ None
    unheard_in to there up runs bytes new c e None hears = refl
    unheard_in to there up runs bytes new c e (Some m) hears =
        let direct = edge.direct (ports_of net to.router) up runs to.port bytes new m (port_is to there) e hears in
        absurd (c.carried (ap (λ (p : Parts). p.header.control) (one_read (packet_of bytes) c.packet direct.packet c.read direct.read) ∙ direct.control))

    -- ---- one step

    -- what comes in
    new_is : (port : Port) (bytes new : List ℕ) → entered port bytes ≡ Some new → numbered port bytes ≡ new
    new_is port bytes new e = numbered_it (is_held port bytes) (numbered port bytes) new e

    new_bytes : (port : Port) (bytes new : List ℕ) → IsBytes bytes → entered port bytes ≡ Some new → IsBytes new
    new_bytes port bytes new are e = subst IsBytes (new_is port bytes new e) (numbered_are port bytes are)

    new_named : (to : Place) → IsPlace net to → (bytes new : List ℕ) → entered (port_of net to) bytes ≡ Some new
        → (p : Parts) → packet_of new ≡ Ok p → p.header.source.network.0 ≢ local_network
    new_named to there bytes new e p read =
        edge.names (port_of net to) bytes p (port_is to there) (ap packet_of (new_is (port_of net to) bytes new e) ∙ read)

    abbrev stepped_in : Run → Step → Run
    stepped_in run step = stepped net most_routes most_services run step

    unreceived : (run : Run) → Well run → (router : ℕ) (event : Event) → IsStep net (Happens router event)
        → (stepped_in run (Happens router event)).log ≡ run.log ++ [] → Well (stepped_in run (Happens router event))
    unreceived run well router event there same = record {
      good = step_well net routing is most_routes most_services run well.good (Happens router event) there;
      named = subst AreNamed (sym (same ∙ append-nil run.log)) well.named;
    }

    from_outside : (run : Run) → Well run → (router number : ℕ) (bytes : List ℕ) → IsStep net (Happens router (Packet number bytes))
        → (o : Option (List ℕ)) → entered (port_of net (record { router = router; port = number })) bytes ≡ o
        → Well (elim (option_map (λ new. Packet number new) o) [ Some new ↦ stepped_in run (Happens router new) | None ↦ run ])
    from_outside run well router number bytes there None e = well
    from_outside run well router number bytes there (Some new) e =
        let to : Place = record { router = router; port = number } in
        let are = new_bytes (port_of net to) bytes new there.2 e in
        record {
          good = step_well net routing is most_routes most_services run well.good (Happens router (Packet number new)) (there.0, there.1, are);
          named = named_more run.log _ well.named (record { bytes = are; named = new_named to there.1 bytes new e; unheard = λ s none. no_some s none });
        }

    an_event : (run : Run) → Well run → (router : ℕ) (event : Event) → IsStep net (Happens router event)
        → Well (edge_stepped net most_routes most_services run (Happens router event))
    an_event run well router Start there = unreceived run well router Start there refl
    an_event run well router Stop there = unreceived run well router Stop there refl
    an_event run well router Second there = unreceived run well router Second there refl
    an_event run well router (Packet number bytes) there = from_outside run well router number bytes there _ refl
    an_event run well router (PortDown number) there = unreceived run well router (PortDown number) there refl
    an_event run well router (PortUp number) there = unreceived run well router (PortUp number) there refl

    module _ (histories : List History) (log : List Reception) (w : Waiting) (waiting : List Waiting) where
      abbrev before : Run
      before = record { histories = histories; waiting = w ∷ waiting; log = log }

      abbrev let_in : List ℕ → Run
      let_in new = record {
        histories = histories;
        waiting = record { delivery = record { to = w.delivery.to; bytes = new }; origin = w.origin } ∷ waiting;
        log = log;
      }

      abbrev delivered_in : Option (List ℕ) → Run
      delivered_in o = elim (option_map (λ new. record { delivery = record { to = w.delivery.to; bytes = new }; origin = w.origin }) o) [
        | Some next ↦ stepped_in (record { histories = histories; waiting = next ∷ waiting; log = log }) Settles
        | None ↦ record { histories = histories; waiting = waiting; log = log }
      ]

      waits_on : (new : List ℕ) → Well before → entered (port_of net w.delivery.to) w.delivery.bytes ≡ Some new → Good net (let_in new)
      waits_on new well e =
          let it = well.good.waiting.0 in
          record {
            histories = well.good.histories;
            sound = well.good.sound;
            waiting = (
              record {
                within = it.within;
                bytes = new_bytes (port_of net w.delivery.to) w.delivery.bytes new it.bytes e;
                comes = λ s from.
                    let comes = it.comes s from in
                    record {
                      forward = comes.forward;
                      delivered = comes.delivered;
                      same = as_it_is (port_of net w.delivery.to) w.delivery.bytes new (carried_on before well w it s from) e ∙ comes.same;
                    };
              },
              well.good.waiting.1,
            );
            names = well.good.names;
          }

      a_delivery : Well before → (o : Option (List ℕ)) → entered (port_of net w.delivery.to) w.delivery.bytes ≡ o → Well (delivered_in o)
      a_delivery well None e = record {
        good = record {
          histories = well.good.histories;
          sound = well.good.sound;
          waiting = well.good.waiting.1;
          names = differ_less (names log) w.origin w.delivery.to (names_waiting waiting) well.good.names;
        };
        named = well.named;
      }
      a_delivery well (Some new) e =
          let it = well.good.waiting.0 in
          let to = w.delivery.to in
          record {
            good = step_well net routing is most_routes most_services (let_in new) (waits_on new well e) Settles tt;
            named = named_more log _ well.named (record {
              bytes = new_bytes (port_of net to) w.delivery.bytes new it.bytes e;
              named = new_named to it.within w.delivery.bytes new e;
              unheard = λ s from. unheard_in to it.within _ _ w.delivery.bytes new (carried_on before well w it s from) e _ refl;
            });
          }

    settles : (histories : List History) (log : List Reception) (waiting : List Waiting) → Well (record { histories = histories; waiting = waiting; log = log })
        → Well (edge_stepped net most_routes most_services (record { histories = histories; waiting = waiting; log = log }) Settles)
    settles histories log [] well = well
    settles histories log (w ∷ waiting) well = a_delivery histories log w waiting well _ refl

    step : (run : Run) → Well run → (s : Step) → IsStep net s → Well (edge_stepped net most_routes most_services run s)
    step run well (Happens router event) there = an_event run well router event there
    step run well Settles there = settles run.histories run.log run.waiting well

    steps_well : (run : Run) (steps : List Step) → Well run → AllByRecursion (IsStep net) steps → Well (edge_run net most_routes most_services run steps)
    steps_well run [] well are = well
    steps_well run (s ∷ steps) well are = steps_well (edge_stepped net most_routes most_services run s) steps (step run well s are.0) are.1

    pub runs_well : (histories : List History) (steps : List Step) → AreHistories net histories → AllByRecursion (IsStep net) steps
        → Well (edge_run net most_routes most_services (begun histories) steps)
    runs_well histories steps are all =
        steps_well (begun histories) steps (record { good = begun_well net routing is most_routes most_services histories are; named = λ place within. absurd (omega (arith, within)) }) all
