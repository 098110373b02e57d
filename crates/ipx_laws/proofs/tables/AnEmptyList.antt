-- Where hosts tell of no route: what the laws of networks off a list ask of an internet is what they ask with an empty one.
use Rattle.std.proofs.Common.{refl, sym, subst, ℕ, ◌≤◌, List, [], ◌++◌, length, append-nil}
use Rattle.std.specs.List.{AllByRecursion}
use Rattle.ipx_wire.specs.declared.network.Network.{Network}
use Rattle.ipx_router.specs.History.{History}
use Rattle.ipx_router.specs.Port.{Port}
use Rattle.ipx_internet.specs.Internet.{Internet}
use Rattle.ipx_internet.proofs.lists.EachElement.{all_then}
use Rattle.ipx_laws.specs.Apart.{IsRealApart, AreRealApart, HasRoomBeside, IsSettingBeside}
use Rattle.ipx_laws.specs.Least.{others_of, HasRoom}
use Rattle.ipx_laws.specs.Real.{IsReal}
use Rattle.ipx_laws.specs.Setting.{IsSetting}
use Rattle.ipx_laws.specs.Tables.{routes_of, AreReal}

-- room for all networks is room for none besides
pub beside_none : (net : Internet) (most_routes : ℕ) → HasRoom net most_routes → HasRoomBeside net most_routes []
beside_none net most_routes room = record {
  table =
      all_then (λ ports. length (others_of net ports) ≤ most_routes) (λ ports. length (others_of net ports ++ []) ≤ most_routes)
      (λ ports. longer ports most_routes) net room.table;
  shares =
      all_then (λ ports. AllByRecursion (λ p. length (others_of net ports) ≤ p.route_share) ports)
      (λ ports. AllByRecursion (λ p. length (others_of net ports ++ []) ≤ p.route_share) ports)
      (λ ports each. all_then (λ p. length (others_of net ports) ≤ p.route_share) (λ p. length (others_of net ports ++ []) ≤ p.route_share)
      (λ p. longer ports p.route_share) ports each) net room.shares;
}
  where
    longer : (ports : List Port) (n : ℕ) → length (others_of net ports) ≤ n → length (others_of net ports ++ []) ≤ n
    longer ports n few = subst (λ (networks : List Network). length networks ≤ n) (sym (append-nil (others_of net ports))) few

-- routes of real ways are so whatever hosts may tell of
pub real_beside : (net : Internet) (most_routes : ℕ) (histories : List History) (up : ℕ → List ℕ) (foreign : List Network) → AreReal net most_routes histories up
    → AreRealApart net most_routes histories up foreign
real_beside net most_routes histories up foreign real router inside =
    all_then (IsReal net up router) (IsRealApart net up foreign router) (λ r is_real off. is_real) (routes_of net most_routes histories router) (real router inside)

pub setting_beside : (net : Internet) (most_routes : ℕ) (histories : List History) (network : Network) → IsSetting net most_routes histories network
    → IsSettingBeside net most_routes [] histories network
setting_beside net most_routes histories network (is, differ, suffice, cheap, room, are) =
    (is, differ, suffice, cheap, beside_none net most_routes room, are, refl)
