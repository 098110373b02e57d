-- A path of a propagated packet visits no network twice, and has at most eight forwards.
--
-- The packet lists the networks that it crossed, as far as its transport control counts. Each router adds the network on
-- which it came, and sends it to none that is listed; so the forwards to come lead to none of the networks before them.
use Rattle.std.proofs.Common.{◌≡◌, ◌≢◌, refl, sym, ap, ◌∙◌, subst, ℕ, ◌+◌, ◌-◌, ◌<◌, ◌≤◌, ◌==◌, true, false, List, [], ◌∷◌, ◌++◌, length, map, arith}
use Rattle.std.specs.List.{AllByRecursion}
use Rattle.std.proofs.lemmas.Bool.{or_parts, or_from, eqb-false, ne_eqb}
use Rattle.ipx_wire.specs.Crossed.{IsCrossed, is_among}
use Rattle.ipx_wire.specs.Forward.{propagated}
use Rattle.ipx_wire.specs.Numbers.{crossed_places}
use Rattle.ipx_wire.specs.Packet.{Parts, IsPacket}
use Rattle.ipx_wire.specs.declared.network.Network.{Network}
use Rattle.ipx_router.specs.Why.{is_propagated}
use Rattle.ipx_internet.specs.Course.{IsPath, stays, leaves, leads_on, visited}
use Rattle.ipx_internet.specs.Different.{AreDifferent}
use Rattle.ipx_internet.specs.Internet.{Internet, Place, network_of, IsPlace, IsInternet}
use Rattle.ipx_internet.specs.Log.{Sending, Reception, reception_at, outlet, IsForward, IsLog}
use Rattle.ipx_internet.proofs.lists.EachElement.{all_then, all_mapped, none_joined, none_of_both, no_more_than}
use Rattle.ipx_internet.proofs.packets.SentOnReadAgain.{Wire}
use Rattle.ipx_internet.proofs.places.OneReceiverOfANode.{same_number, receives_is}
use Rattle.ipx_internet.proofs.trees.PropagatedGoesElsewhere.{Spreads, outlet_is, is_network, spreads, elsewhere, received}

-- a network that isn't among others isn't the one behind them
not_last : (network other : Network) (networks : List Network) → is_among network (networks ++ other ∷ []) ≡ false → network ≢ other
not_last network other networks new e = grind (arith, eqb-false, or_parts, none_of_both)

module _ (w : Wire) (net : Internet) (is : IsInternet net) (log : List Reception) (whole : IsLog net log) where
  -- a propagated packet at a place of the log
  abbrev IsAt : ℕ → Parts → Type 0
  IsAt place p = IsPacket (reception_at log place).bytes p × (is_propagated p.header ≡ true)

  abbrev network_at : ℕ → Network
  network_at place = network_of net (reception_at log place).to

  abbrev goes_to : Sending → Network
  goes_to s = network_of net (outlet log s)

  -- a path that goes to none of some networks, nor to where it starts, nor to one network twice, and has few forwards
  record Fresh (start : ℕ) (p : Parts) (networks : List Network) (path : List Sending) : Type 0 where
    pub new : AllByRecursion (λ s. is_among (goes_to s) (networks ++ network_at start ∷ []) ≡ false) path
    pub differ : AreDifferent (map goes_to path)
    pub few : length path ≤ crossed_places - p.header.control

  spreads_from : (start : ℕ) (p : Parts) (s : Sending) → IsAt start p → s.place ≡ start → IsForward net log s → IsAt s.place p × Spreads w net is log whole s p
  spreads_from start p s at here forward =
      let there = subst (λ (k : ℕ). IsAt k p) (sym here) at in
      (there, spreads w net is log whole s p forward there.0 there.1)

  -- one forward: to a new network
  first_is_new : (start : ℕ) (p : Parts) (networks : List Network) (s : Sending) → s.place ≡ start → IsForward net log s
      → Spreads w net is log whole s p → (p.header.control < crossed_places → IsCrossed p.header.control p.payload networks)
      → is_among (goes_to s) (networks ++ network_at start ∷ []) ≡ false
  first_is_new start p networks s here forward spread crossed =
      let same : spread.networks ≡ networks = w.one_crossed p.header.control p.payload spread.networks networks spread.crossed (crossed spread.crossed.free) in
      let unlisted : is_among (goes_to s) networks ≡ false = subst (λ (ns : List Network). is_among (goes_to s) ns ≡ false) same spread.new_there in
      let beyond = elsewhere w net is log whole s p forward spread in
      let off : ((network_at start).0 == (goes_to s).0) ≡ false = ne_eqb (network_at start).0 (goes_to s).0 (λ e. beyond (ap (λ k. (network_at k).0) here ∙ e)) in
      none_joined (λ n. n.0 == (goes_to s).0) networks (network_at start ∷ []) unlisted (or_from ((network_at start).0 == (goes_to s).0) false off refl)

  fresh : {start : ℕ} {path : List Sending} → IsPath net log start path → (p : Parts) (networks : List Network) → IsAt start p
      → (p.header.control < crossed_places → IsCrossed p.header.control p.payload networks) → Fresh start p networks path
  fresh stays p networks at crossed = record { new = tt; differ = tt; few = omega arith }
  fresh {start = start} (leaves s here forward) p networks at crossed =
      let (there, spread) = spreads_from start p s at here forward in
      let free = spread.crossed.free in
      record { new = (first_is_new start p networks s here forward spread crossed, tt); differ = (tt, tt); few = omega (arith, free) }
  fresh {start = start} (leads_on {path = path} s place here forward within origin on) p networks at crossed =
      let (there, spread) = spreads_from start p s at here forward in
      let free : p.header.control < crossed_places = spread.crossed.free in
      let came : Network = network_at s.place in
      let next : Parts = propagated came (goes_to s) p in
      let rest : Fresh place next (networks ++ came ∷ []) path =
      fresh on next (networks ++ came ∷ []) (received w net is log whole place s p within origin forward there.0 spread, at.1)
      (λ small. w.crossed_again p networks came (goes_to s) (crossed free) small
      (is_network w net is log whole (reception_at log s.place).to (whole.within s.place forward.there))) in
      let arrived : network_at place ≡ goes_to s = (receives_is net (outlet log s) s.sent.link (reception_at log place).to
      (whole.origins place s within origin).delivered).network in
      let few = rest.few in
      record {
        new = (
          first_is_new start p networks s here forward spread crossed,
          all_then (λ t. is_among (goes_to t) ((networks ++ came ∷ []) ++ network_at place ∷ []) ≡ false)
              (λ t. is_among (goes_to t) (networks ++ network_at start ∷ []) ≡ false)
              (λ t new. subst (λ (n : Network). is_among (goes_to t) (networks ++ n ∷ []) ≡ false) (ap network_at here)
              (none_of_both (λ n. n.0 == (goes_to t).0) (networks ++ came ∷ []) (network_at place ∷ []) new).0)
              path rest.new,
        );
        differ = (
          all_mapped (λ n. n ≢ goes_to s) goes_to path
              (all_then (λ t. is_among (goes_to t) ((networks ++ came ∷ []) ++ network_at place ∷ []) ≡ false) (λ t. goes_to t ≢ goes_to s)
              (λ t new same. not_last (goes_to t) (network_at place) (networks ++ came ∷ []) new (same ∙ sym arrived)) path rest.new),
          rest.differ,
        );
        few = omega (arith, few, free);
      }

  -- ---- whole paths

  -- a path that has a forward begins with networks that its packet lists
  begun : {start : ℕ} {path : List Sending} → IsPath net log start path → (p : Parts) → IsAt start p → 0 < length path
      → (networks : List Network) × IsCrossed p.header.control p.payload networks × (start < length log)
  begun stays p at some = absurd (omega (arith, some))
  begun {start = start} (leaves s here forward) p at some =
      let (there, spread) = spreads_from start p s at here forward in
      (spread.networks, spread.crossed, subst (λ (k : ℕ). k < length log) here forward.there)
  begun {start = start} (leads_on s place here forward within origin on) p at some =
      let (there, spread) = spreads_from start p s at here forward in
      (spread.networks, spread.crossed, subst (λ (k : ℕ). k < length log) here forward.there)

  -- a path leads from port to port of the internet
  on_ports : {start : ℕ} {path : List Sending} → IsPath net log start path → AllByRecursion (λ s. IsPlace net (outlet log s)) path
  on_ports stays = tt
  on_ports (leaves s here forward) = (outlet_is w net is log whole s forward, tt)
  on_ports (leads_on s place here forward within origin on) = (outlet_is w net is log whole s forward, on_ports on)

  module _ (start : ℕ) (p : Parts) (packet : IsPacket (reception_at log start).bytes p) (all : is_propagated p.header ≡ true) where
    pub all_networks : (path : List Sending) → IsPath net log start path → length path ≤ crossed_places - p.header.control
    all_networks [] leads = omega arith
    all_networks (s ∷ path) leads =
        let (networks, crossed, within) = begun leads p (packet, all) (omega arith) in
        (fresh leads p networks (packet, all) (λ free. crossed)).few

    pub no_network_twice : (path : List Sending) → IsPath net log start path → AreDifferent (visited net log start path)
    no_network_twice [] leads = (tt, tt)
    no_network_twice (s ∷ path) leads =
        let (networks, crossed, within) = begun leads p (packet, all) (omega arith) in
        let goes : Fresh start p networks (s ∷ path) = fresh leads p networks (packet, all) (λ free. crossed) in (
          all_mapped (λ n. n ≢ network_at start) goes_to (s ∷ path)
              (all_then (λ t. is_among (goes_to t) (networks ++ network_at start ∷ []) ≡ false) (λ t. goes_to t ≢ network_at start)
              (λ t new. not_last (goes_to t) (network_at start) networks new) (s ∷ path) goes.new),
          goes.differ,
        )

    pub fewer_than_networks : (path : List Sending) (networks : List Network) → IsPath net log start path
        → ((place : Place) → IsPlace net place → is_among (network_of net place) networks ≡ true) → length path ≤ length networks - 1
    fewer_than_networks [] networks leads listed = omega arith
    fewer_than_networks (s ∷ path) networks leads listed =
        let (crossed, is_crossed, within) = begun leads p (packet, all) (omega arith) in
        let visits = no_more_than (λ n. n.0) same_number (visited net log start (s ∷ path)) networks (no_network_twice (s ∷ path) leads) (
          listed (reception_at log start).to (whole.within start within),
          all_mapped (λ n. is_among n networks ≡ true) goes_to (s ∷ path)
              (all_then (λ t. IsPlace net (outlet log t)) (λ t. is_among (goes_to t) networks ≡ true) (λ t there. listed (outlet log t) there)
              (s ∷ path) (on_ports leads)),
        ) in
        let counted : length (visited net log start (s ∷ path)) ≡ length (s ∷ path) + 1 = more (s ∷ path) in
        omega (arith, visits, counted)
      where
        more : (path : List Sending) → length (visited net log start path) ≡ length path + 1
        more [] = omega arith
        more (t ∷ path) = let rest = more path in omega (arith, rest)
