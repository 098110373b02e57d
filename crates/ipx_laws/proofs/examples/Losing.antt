-- The two routers on one segment of `Changes`, before the segment is lost: all that the law of losses asks for holds of them, for every network,
-- with what `Rights` and `Changes` have; and after the loss, what it asks for there, with a minute in which nothing else happens.
use Rattle.std.proofs.Common.{◌≡◌, ◌≢◌, refl, sym, ap, ◌∙◌, subst, get_or, ℕ, zero, suc, ◌<◌, ◌==◌, ◌&&◌, nat_lt, Bool, true, false, List, [], ◌∷◌, length, replicate, None, Some, Option, option_map, inl, inr, arith}
use Rattle.std.specs.List.{AllByRecursion}
use Rattle.std.proofs.lemmas.Bool.{cases_Bool, cases_eq, and_parts, ltb-true, ne_eqb}
use Rattle.ipx_wire.specs.Address.{address_bytes, address_at}
use Rattle.ipx_wire.specs.Crossed.{network_bytes, network_at}
use Rattle.ipx_wire.specs.Items.{items}
use Rattle.ipx_wire.specs.Header.{header_bytes, header_at}
use Rattle.ipx_wire.specs.Packet.{packet_of}
use Rattle.ipx_wire.specs.Rip.{entry_bytes, entry_at, rip_of}
use Rattle.ipx_wire.specs.Sap.{sap_of}
use Rattle.ipx_wire.specs.declared.network.Network.{Network}
use Rattle.ipx_router.specs.Numbers.{period}
use Rattle.ipx_router.specs.History.{Event, History, Start, Stop, Second, Packet, PortDown, PortUp, IsOnPort, IsOfBytes}
use Rattle.ipx_router.specs.Outgoing.{route_to}
use Rattle.ipx_router.specs.Port.{Port, port_at}
use Rattle.ipx_internet.specs.Internet.{ports_of}
use Rattle.ipx_internet.specs.Queue.{history_of}
use Rattle.ipx_internet.specs.Run.{AreHistories}
use Rattle.ipx_internet.specs.Ticks.{AreTicks}
use Rattle.ipx_internet.proofs.examples.Waiting.{segment, after}
use Rattle.ipx_internet.proofs.examples.Words.{network, route}
use Rattle.ipx_laws.specs.Least.{Way, is_on, least, least_route, way_of, HasRoom, IsWay, direct, further, FifteenSuffice}
use Rattle.ipx_laws.specs.Setting.{IsSetting}
use Rattle.ipx_laws.specs.Tables.{routes_of, AreRight}
use Rattle.ipx_laws.specs.Ups.{ups}
use Rattle.ipx_laws.proofs.examples.Changes.{lost}
use Rattle.ipx_laws.proofs.examples.Meanwhile.{all_small, are_bytes}
use Rattle.ipx_laws.proofs.examples.Premises.{ticks, left, are_by}
use Rattle.ipx_laws.proofs.examples.Rights.{held, should, first_right, second_right, as_they_should, made, cheap, differ}
use Rattle.ipx_laws.proofs.tables.ComputedIsLeast.{least_is}
use Rattle.ipx_laws.proofs.tables.FifteenHopsSuffice.{of_few_routers}
use Rattle.ipx_laws.proofs.tables.LeastWays.{own_is, ups_within}
use Rattle.ipx_router.proofs.port_values.PortOfEachNumber.{one_up}

abbrev histories : List History
histories = (after 8).histories

-- ---- histories

-- what came are bytes, on ports of so many
abbrev is_sound : ℕ → Event → Bool
is_sound count (Packet number bytes) = nat_lt number count && all_small bytes
is_sound count Start = true
is_sound count Stop = true
is_sound count Second = true
is_sound count (PortDown number) = nat_lt number count
is_sound count (PortUp number) = nat_lt number count

abbrev are_sound : ℕ → History → Bool
are_sound count [] = true
are_sound count (event ∷ past) = is_sound count event && are_sound count past

sound : (ports : List Port) (event : Event) → is_sound (length ports) event ≡ true → IsOnPort ports event × IsOfBytes event
sound ports event e = grind (arith, ltb-true, and_parts, all_small, are_bytes)

all_sound : (ports : List Port) (past : History) → are_sound (length ports) past ≡ true → AllByRecursion (IsOnPort ports) past × AllByRecursion IsOfBytes past
all_sound ports [] e = (tt, tt)
all_sound ports (event ∷ past) e =
    let parts = and_parts (is_sound (length ports) event) (are_sound (length ports) past) e in
    let one = sound ports event parts.0 in
    let rest = all_sound ports past parts.1 in
    ((one.0, rest.0), (one.1, rest.1))

first_sound : are_sound 2 (history_of histories 0) ≡ true
unfolding header_bytes address_bytes network_bytes packet_of header_at address_at items network_at entry_bytes entry_at rip_of sap_of
first_sound = refl

second_sound : are_sound 2 (history_of histories 1) ≡ true
unfolding header_bytes address_bytes network_bytes packet_of header_at address_at items network_at entry_bytes entry_at rip_of sap_of
second_sound = refl

two_histories : length histories ≡ 2
unfolding header_bytes address_bytes network_bytes packet_of header_at address_at items network_at entry_bytes entry_at rip_of sap_of
two_histories = refl

no_more : (router : ℕ) → history_of histories (suc (suc router)) ≡ []
unfolding header_bytes address_bytes network_bytes packet_of header_at address_at items network_at entry_bytes entry_at rip_of sap_of
no_more router = refl

pub are : AreHistories segment histories
are = record { each = two_histories; on_ports = λ router. (both router).0; of_bytes = λ router. (both router).1 }
  where
    both : (router : ℕ) → AllByRecursion (IsOnPort (ports_of segment router)) (history_of histories router) × AllByRecursion IsOfBytes (history_of histories router)
    both zero = all_sound (ports_of segment 0) (history_of histories 0) first_sound
    both (suc zero) = all_sound (ports_of segment 1) (history_of histories 1) second_sound
    both (suc (suc router)) =
        subst (λ (past : History). AllByRecursion (IsOnPort (ports_of segment (suc (suc router)))) past × AllByRecursion IsOfBytes past) (sym (no_more router)) (tt, tt)

-- ---- fifteen hops suffice, before and after

pub suffice : (n : Network) → FifteenSuffice segment (ups segment histories) n
suffice n = of_few_routers segment (ups segment histories) (ups_within segment histories) made n (omega arith)

pub suffice_then : (n : Network) → FifteenSuffice segment (ups segment lost.histories) n
suffice_then n = of_few_routers segment (ups segment lost.histories) (ups_within segment lost.histories) made n (omega arith)

-- ---- tables are right

-- there are three networks
abbrev IsOther : ℕ → Type 0
IsOther n = (n ≢ 0x10) × (n ≢ 0x20) × (n ≢ 0x30)

port_other : (n : Network) → IsOther n.0 → (router number : ℕ) → number < length (ports_of segment router) → (port_at (ports_of segment router) number).network ≢ n
port_other n other zero zero inside same = other.0 (sym (ap (λ (m : Network). m.0) same))
port_other n other zero (suc zero) inside same = other.1 (sym (ap (λ (m : Network). m.0) same))
port_other n other (suc zero) zero inside same = other.1 (sym (ap (λ (m : Network). m.0) same))
port_other n other (suc zero) (suc zero) inside same = other.2 (sym (ap (λ (m : Network). m.0) same))
port_other n other zero (suc (suc number)) inside same = absurd (omega (arith, inside))
port_other n other (suc zero) (suc (suc number)) inside same = absurd (omega (arith, inside))
port_other n other (suc (suc router)) number inside same = absurd (omega (arith, inside))

module _ (n : Network) (other : IsOther n.0) where
  no_way : {router : ℕ} {way : Way} → IsWay segment (ups segment histories) n router way → ⊥
  no_way {router} {way} (direct own) =
      let (number, on, same, is) = own_is (ports_of segment router) (ups segment histories router) n way own in
      port_other n other router number
      (one_up (λ j. j < length (ports_of segment router)) (ups segment histories router) number (ups_within segment histories router) on) same
  no_way (further port from off apart here there up nets way) = no_way way

  none_least : (router : ℕ) → (o : Option Way) → least segment (ups segment histories) router n ≡ o → o ≡ None
  none_least router None e = refl
  none_least router (Some way) e = absurd (no_way (least_is segment (ups segment histories) (ups_within segment histories) n router way e).0)

  none_should : (router : ℕ) → least_route segment (ups segment histories) router n ≡ None
  none_should router = elim (cases_Bool (is_on (ports_of segment router) n)) [
    | inl on ↦ rw on refl
    | inr off ↦ rw off (none_least router (least segment (ups segment histories) router n) refl)
  ]

first_route : routes_of segment 8 histories 0 ≡ route 0x30 1 3 ∷ []
unfolding header_bytes address_bytes network_bytes packet_of header_at address_at items network_at entry_bytes entry_at rip_of sap_of
first_route = refl

second_route : routes_of segment 8 histories 1 ≡ route 0x10 0 2 ∷ []
unfolding header_bytes address_bytes network_bytes packet_of header_at address_at items network_at entry_bytes entry_at rip_of sap_of
second_route = refl

abbrev RightFor : ℕ → ℕ → Type 0
RightFor router n = option_map way_of (route_to (routes_of segment 8 histories router) n) ≡ least_route segment (ups segment histories) router (network n)

-- for the three, as computed
first_shoulds : should 0 ≡ held 0
first_shoulds = ap (λ oss. get_or oss 0 []) as_they_should ∙ sym first_right

second_shoulds : should 1 ≡ held 1
second_shoulds = ap (λ oss. get_or oss 1 []) as_they_should ∙ sym second_right

other_right : (router n : ℕ) → router < 2 → IsOther n → RightFor router n
other_right zero n inside other =
    ap (λ rs. option_map way_of (route_to rs n)) first_route
    ∙ none_of (ne_eqb 0x30 n (λ e. other.2 (sym e))) ∙ sym (none_should (network n) other 0)
  where
    none_of : (0x30 == n) ≡ false → option_map way_of (route_to (route 0x30 1 3 ∷ []) n) ≡ None
    none_of e = rw e refl
other_right (suc zero) n inside other =
    ap (λ rs. option_map way_of (route_to rs n)) second_route
    ∙ none_of (ne_eqb 0x10 n (λ e. other.0 (sym e))) ∙ sym (none_should (network n) other 1)
  where
    none_of : (0x10 == n) ≡ false → option_map way_of (route_to (route 0x10 0 2 ∷ []) n) ≡ None
    none_of e = rw e refl
other_right (suc (suc router)) n inside other = absurd (omega (arith, inside))

named_right : (router : ℕ) → router < 2 → RightFor router 0x10 × RightFor router 0x20 × RightFor router 0x30
named_right zero inside = (
  sym (ap (λ os. get_or os 0 None) first_shoulds),
  sym (ap (λ os. get_or os 1 None) first_shoulds),
  sym (ap (λ os. get_or os 2 None) first_shoulds),
)
named_right (suc zero) inside = (
  sym (ap (λ os. get_or os 0 None) second_shoulds),
  sym (ap (λ os. get_or os 1 None) second_shoulds),
  sym (ap (λ os. get_or os 2 None) second_shoulds),
)
named_right (suc (suc router)) inside = absurd (omega (arith, inside))

pub right : AreRight segment 8 histories (ups segment histories)
right router n inside =
    let named = named_right router inside in
    elim (cases_eq n.0 0x10) [
      | inl same ↦ subst (λ (m : ℕ). RightFor router m) (sym same) named.0
      | inr not_first ↦ elim (cases_eq n.0 0x20) [
        | inl same ↦ subst (λ (m : ℕ). RightFor router m) (sym same) named.1
        | inr not_second ↦ elim (cases_eq n.0 0x30) [
          | inl same ↦ subst (λ (m : ℕ). RightFor router m) (sym same) named.2
          | inr not_third ↦ other_right router n.0 inside (not_first, not_second, not_third)
        ]
      ]
    ]

-- ---- what is right within a minute needs room, and a minute

pub room : HasRoom segment 8
room = record { table = (omega arith, (omega arith, tt)); shares = ((omega arith, (omega arith, tt)), ((omega arith, (omega arith, tt)), tt)) }

-- so this is a setting for every network
pub setting : (n : Network) → IsSetting segment 8 histories n
setting n = (made, differ, suffice n, cheap, room, are)

-- nobody hears anybody any more, so no second makes a delivery
abbrev quiet_minute : List ℕ
quiet_minute = replicate period 0

none_left : left 8 lost quiet_minute ≡ replicate period 0
unfolding header_bytes address_bytes network_bytes packet_of header_at address_at items network_at entry_bytes entry_at rip_of sap_of
none_left = refl

pub are_ticks : AreTicks segment 8 8 lost (ticks quiet_minute)
are_ticks = are_by 8 lost quiet_minute none_left
