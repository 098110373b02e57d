-- Nothing is sent on a port that is down, and its network is told as reached nowhere.
use Rattle.std.proofs.Common.{rules}
use Rattle.std.proofs.lemmas.Grind.{common_steps}
use Rattle.std.proofs.Common.{◌≡◌, ◌≢◌, refl, sym, ap, ◌∙◌, ℕ, zero, suc, ◌<◌, ◌==◌, Bool, true, false, true≢false, length, List, [], ◌∷◌, Option, arith}
use Rattle.std.specs.List.{AllByRecursion, list_any}
use Rattle.std.proofs.lemmas.Bool.{eq-eqb, or_left, or_right}
use Rattle.ipx_wire.specs.declared.network.Network.{Network}
use Rattle.ipx_wire.specs.declared.rip.RipEntry.{RipEntry}
use Rattle.ipx_router.specs.Heard.{Heard, heard}
use Rattle.ipx_router.specs.History.{Event, Start, Stop, Second, Packet, PortDown, PortUp}
use Rattle.ipx_router.specs.News.{news}
use Rattle.ipx_router.specs.Packets.{IsBroadcast, IsForPacket, IsSentFor}
use Rattle.ipx_router.specs.Port.{Port, AreApart, port_at, is_up, takes_no_route}
use Rattle.ipx_router.specs.Relays.{Sent, IsTableRoute}
use Rattle.ipx_router.specs.Told.{told, told_at, entry_of, dead}
use Rattle.ipx_router.specs.declared.route_offer.RouteOffer.{RouteOffer}
use Rattle.ipx_router.proofs.telling.EachEntryHolds.{Opens, told_are, news_are}
use Rattle.ipx_router.proofs.port_values.PortOfEachNumber.{port-all, one_up}

-- ---- on which ports packets are sent

module _ (ports : List Port) (up : List ℕ) (routes : List RouteOffer) where
  cast_on : (s : Sent) → IsBroadcast ports up s → is_up up s.port ≡ true
  cast_on s given = grind arith

  packet_on : (number : ℕ) (bytes : List ℕ) (o : Option Heard) (s : Sent) → IsForPacket ports up routes number bytes o s → is_up up s.port ≡ true
  packet_on number bytes o s is = grind arith

  -- what an event may send is on a port that is up
  pub sent_on : (runs : Bool) (event : Event) (s : Sent) → IsSentFor ports up routes runs event s → is_up up s.port ≡ true
  sent_on runs Start s is = cast_on s is
  sent_on runs Stop s is = cast_on s is
  sent_on runs Second s is = cast_on s is
  sent_on runs (PortDown number) s is = cast_on s is
  sent_on runs (PortUp number) s is = cast_on s is
  sent_on runs (Packet number bytes) s is = packet_on number bytes (heard ports up runs number bytes) s is

-- ---- networks of ports

-- two ports are on two networks
pub apart : (ports : List Port) (i j : ℕ) → AreApart ports → i < length ports → j < length ports → i ≢ j → (port_at ports i).network ≢ (port_at ports j).network
apart [] i j are below_i below_j differ = absurd (omega (arith, below_i))
apart (p ∷ ports) zero zero are below_i below_j differ = absurd (differ refl)
apart (p ∷ ports) zero (suc j) are below_i below_j differ = λ e. port-all (λ q. q.network ≢ p.network) ports j are.0 (omega (arith, below_j)) (sym e)
apart (p ∷ ports) (suc i) zero are below_i below_j differ = port-all (λ q. q.network ≢ p.network) ports i are.0 (omega (arith, below_i))
apart (p ∷ ports) (suc i) (suc j) are below_i below_j differ = apart ports i j are.1 (omega (arith, below_i)) (omega (arith, below_j)) (λ e. differ (ap suc e))

-- no route leads to one
among : (ports : List Port) (number : ℕ) → number < length ports → list_any (λ p. p.network.0 == (port_at ports number).network.0) ports ≡ true
among [] number below = absurd (omega (arith, below))
among (p ∷ ports) zero below = or_left (p.network.0 == p.network.0) (list_any (λ q. q.network.0 == p.network.0) ports) (eq-eqb p.network.0 p.network.0 refl)
among (p ∷ ports) (suc number) below = grind (arith, common_steps, or_right)

skipped : (ports : List Port) (number : ℕ) → number < length ports → takes_no_route ports (port_at ports number).network ≡ true
skipped ports number below = search (rules, or_right, among)

pub elsewhere : (ports : List Port) (number : ℕ) (network : Network) → number < length ports → takes_no_route ports network ≡ false
    → network ≢ (port_at ports number).network
elsewhere ports number network below taken = λ e. absurd (true≢false (sym (skipped ports number below) ∙ ap (takes_no_route ports) (sym e) ∙ taken))

-- ---- what is told

module _ (ports : List Port) (down : ℕ) (exists : down < length ports) where
  -- an entry of another network
  abbrev Elsewhere : RipEntry → Type 0
  Elsewhere entry = entry.network ≢ (port_at ports down).network

  -- a route leads to another network, however it is advertised
  heard_elsewhere : (route : RouteOffer) (cost : ℕ) → IsTableRoute ports route → Elsewhere (told_at cost (entry_of route))
  heard_elsewhere route cost is = elsewhere ports down route.network exists is.network

  gone_elsewhere : (route : RouteOffer) → IsTableRoute ports route → Elsewhere (dead (entry_of route))
  gone_elsewhere route is = elsewhere ports down route.network exists is.network

  -- and the ports that are up are on other networks
  up_elsewhere : (up : List ℕ) → AreApart ports → AllByRecursion (λ j. j < length ports) up → is_up up down ≡ false → Opens Elsewhere ports up
  up_elsewhere up are within is_down j cost there = grind (arith, apart, one_up)

  pub none_told : (up : List ℕ) (routes : List RouteOffer) (number : ℕ) → AreApart ports → AllByRecursion (λ j. j < length ports) up
      → is_up up down ≡ false → AllByRecursion (IsTableRoute ports) routes → AllByRecursion Elsewhere (told ports up routes number)
  none_told up routes number are within is_down table = search (rules, told_are, heard_elsewhere, up_elsewhere)

  pub no_news_of : (before after : List RouteOffer) (number : ℕ) → AllByRecursion (IsTableRoute ports) before → AllByRecursion (IsTableRoute ports) after
      → AllByRecursion Elsewhere (news ports before after number)
  no_news_of = news_are Elsewhere (IsTableRoute ports) ports heard_elsewhere gone_elsewhere
