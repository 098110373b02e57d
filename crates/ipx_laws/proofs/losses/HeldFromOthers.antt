-- Nobody hears itself: each route that is held came from another node than that of the port by which it came.
use Rattle.std.proofs.Common.{◌≡◌, ◌≢◌, refl, sym, ap, ◌∙◌, subst, ℕ, not, Bool, true, false, List, [], ◌∷◌, Option, None, Some, inl, inr, true≢false, is_some, arith}
use Rattle.std.specs.List.{AllByRecursion}
use Rattle.std.proofs.lemmas.Bool.{cases_Bool, both_ways}
use Rattle.ipx_wire.specs.declared.address.Address.{Address}
use Rattle.ipx_wire.specs.declared.node.Node.{Node}
use Rattle.ipx_wire.specs.declared.rip.Operation.{Operation}
use Rattle.ipx_wire.specs.declared.rip.Operation.TheVariants.{Request, Response}
use Rattle.ipx_wire.specs.declared.rip.RipEntry.{RipEntry}
use Rattle.ipx_router.specs.Facts.{heard_after, routes_offered, routes_heard, routes_held, offers}
use Rattle.ipx_router.specs.Heard.{Heard, HeardRip, HeardSap, heard}
use Rattle.ipx_router.specs.History.{History, running, ports_up}
use Rattle.ipx_router.specs.Port.{Port, port_at, same_node, is_local}
use Rattle.ipx_router.specs.Why.{first_of, when, is_near, is_not_neighbour}
use Rattle.ipx_router.specs.declared.route_offer.RouteOffer.{RouteOffer}
use Rattle.ipx_router.specs.declared.why.Why.{Why}
use Rattle.ipx_router.proofs.tables.HeldWasOffered.{OfferIs, CameIn, came_in, near_source, source_of, nothing, routes_all}
use Rattle.ipx_router.proofs.verdicts.SentOnPassesChecks.{all_checks, asked, passes}
use Rattle.ipx_internet.proofs.lists.EachElement.{all_of}
use Rattle.ipx_laws.proofs.records.SameSource.{bytes_same}

-- ---- a list of checks

-- no check of a list holds, if the first that holds is none
no_check : (list : List (Option Why)) → first_of list ≡ None → AllByRecursion (λ check. check ≡ None) list
no_check [] e = tt
no_check (Some reason ∷ list) e = absurd (true≢false (ap is_some e))
no_check (None ∷ list) e = (refl, no_check list e)

unmet : (c : Bool) (reason : Why) → when c reason ≡ None → c ≡ false
unmet c reason e = grind arith

-- ---- what is heard

module _ (ports : List Port) (up : List ℕ) (number : ℕ) where
  abbrev port : Port
  port = port_at ports number

  module _ (runs : Bool) (bytes : List ℕ) (m : Heard) (e : heard ports up runs number bytes ≡ Some m) where
    came : CameIn ports up number bytes m
    came = came_in ports up number runs bytes m e

    near : is_near port came.packet.header ≡ true
    near = elim (cases_Bool (is_near port came.packet.header)) [
      | inl here ↦ here
      | inr far ↦ nothing (rw far at came.near)
    ]

    -- its source is on the port's network
    from_here : is_local port came.packet.header.source.network ≡ true
    from_here = elim (cases_Bool (is_local port came.packet.header.source.network)) [
      | inl here ↦ here
      | inr other ↦
          let all = no_check (all_checks ports up [] port number came.packet) came.passed in
          let neighbour : is_not_neighbour port came.packet.header ≡ false = unmet _ _ all.1.1.1.1.1.1.1.0 in
          let no_other : not (is_local port came.packet.header.source.network) ≡ false =
          asked (is_near port came.packet.header) (not (is_local port came.packet.header.source.network)) near neighbour in
          absurd (true≢false (rw other at no_other))
    ]

    pub heard_other : (source_of m).node ≢ port.node
    heard_other same =
        let source = near_source port came.packet m came.near in
        let itself : same_node came.packet.header.source.node port.node ≡ true =
        subst (λ (n : Node). same_node n port.node ≡ true) (sym (ap (λ (a : Address). a.node) source ∙ same)) (bytes_same port.node.0) in
        both_ways (is_local port came.packet.header.source.network)
        (asked (same_node came.packet.header.source.node port.node) (is_local port came.packet.header.source.network) itself
        (passes ports up [] port number came.packet came.passed).no_echo) from_here

-- ---- routes

module _ (ports : List Port) where
  -- a route came from another node
  abbrev pub IsFromOther : RouteOffer → Type 0
  IsFromOther r = r.node ≢ (port_at ports r.port).node

  module _ (number : ℕ) where
    all_offered : (node : Node) (entries : List RipEntry) → node ≢ (port_at ports number).node
        → AllByRecursion (OfferIs IsFromOther) (routes_offered ports number node entries)
    all_offered node [] other = tt
    all_offered node (entry ∷ entries) other = grind (arith, all_offered node entries other)

    by_operation : (operation : Operation) (node : Node) (entries : List RipEntry) → node ≢ (port_at ports number).node
        → AllByRecursion (OfferIs IsFromOther) (elim operation [ Response ↦ routes_offered ports number node entries | Request ↦ [] ])
    by_operation operation node entries other = grind (arith, all_offered)

    all_heard : (o : Option Heard) → ((m : Heard) → o ≡ Some m → (source_of m).node ≢ (port_at ports number).node)
        → AllByRecursion (OfferIs IsFromOther) (routes_heard ports number o)
    all_heard None others = tt
    all_heard (Some (HeardSap source sap)) others = tt
    all_heard (Some (HeardRip source rip)) others = by_operation rip.operation source.node rip.entries (others (HeardRip source rip) refl)

  pub held_from_others : (capacity : ℕ) (history : History) → AllByRecursion IsFromOther (offers (routes_held ports capacity history))
  held_from_others capacity history =
      routes_all IsFromOther (λ event. Unit {0}) ports
      (λ before number bytes any.
      all_heard number (heard_after ports before number bytes) (heard_other ports (ports_up ports before) number (running before) bytes))
      capacity history (all_of (λ event. Unit {0}) (λ event. tt) history)
