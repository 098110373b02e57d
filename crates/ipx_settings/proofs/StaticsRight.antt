-- Routes and services by way of a node, as far as they were read.
use Rattle.std.proofs.Common.{◌≡◌, ℕ, true, List, Some, None, subst}
use Rattle.std.specs.Prelude.{Ok, codes}
use Rattle.ipx_settings.specs.Cutting.{cut_at, dot}
use Rattle.ipx_settings.specs.Links.{is_the}
use Rattle.ipx_settings.specs.Networks.{last_network}
use Rattle.ipx_settings.specs.Nodes.{node_bytes_of, node_of}
use Rattle.ipx_settings.specs.Numbers.{number_of, hexadecimal_of}
use Rattle.ipx_settings.specs.Right.{AreNumbers, IsWord}
use Rattle.ipx_settings.specs.RightLines.{Within, IsNode, IsPlainName, IsServiceAddress, IsRoute, IsService}
use Rattle.ipx_settings.specs.Rules.{last_route, one_network}
use Rattle.ipx_settings.specs.Statics.{most_hops, hops_of, last_type, is_host_node, host_node_of, one_type_of, plain_name_of, route_at, route_step, route_ends, service_address_at, service_address_of, service_at, service_step, service_ends}
use Rattle.ipx_settings.specs.declared.expected.Expected.TheVariants as expected
use Rattle.ipx_settings.specs.declared.statics.RouteBegun.{RouteBegun}
use Rattle.ipx_settings.specs.declared.statics.RouteBegun.TheVariants as route
use Rattle.ipx_settings.specs.declared.statics.ServiceAddress.{ServiceAddress}
use Rattle.ipx_settings.specs.declared.statics.ServiceBegun.{ServiceBegun}
use Rattle.ipx_settings.specs.declared.statics.ServiceBegun.TheVariants as service
use Rattle.ipx_settings.proofs.AddressesAgain.{one_value}
use Rattle.ipx_settings.proofs.AddressesRight.{bound, chosen, no_value, decimal_within, hexadecimal_within}
use Rattle.ipx_settings.proofs.LinksRight.{no_error, said_right, chosen_right, ok_right}
use Rattle.ipx_settings.proofs.NodesRight.{node_bytes_right, node_right}

-- ---- routes

abbrev pub RoutePart : RouteBegun → Type 0
RoutePart route.Nothing = Unit {0}
RoutePart (route.To network) = Within 1 last_route network
RoutePart (route.Hops network hops) = Within 1 last_route network × Within 1 most_hops hops
RoutePart (route.Ticks network hops ticks) = Within 1 last_route network × Within 1 most_hops hops × Within 1 65535 ticks
RoutePart (route.Via network hops ticks) = Within 1 last_route network × Within 1 most_hops hops × Within 1 65535 ticks
RoutePart (route.Whole it) = Within 1 last_route it.network × Within 1 most_hops it.hops × Within 1 65535 it.ticks × IsNode it.via

pub route_part : (it next : RouteBegun) (word : List ℕ) → RoutePart it → route_step it word ≡ Ok next → RoutePart next
route_part route.Nothing next word part e =
    said_right RoutePart expected.Destination route.To (one_network word) next (λ n read. hexadecimal_within 8 1 last_route n word read) e
route_part (route.To network) next word part e =
    said_right RoutePart expected.Hops (route.Hops network) (hops_of word) next (λ n read. (part, decimal_within 1 most_hops n word read)) e
route_part (route.Hops network hops) next word part e =
    said_right RoutePart expected.Ticks (route.Ticks network hops) (number_of 1 65535 word) next (λ n read. (part.0, part.1, decimal_within 1 65535 n word read)) e
route_part (route.Ticks network hops ticks) next word part e =
    chosen_right RoutePart (is_the word (codes "via")) _ _ next (λ _ f. ok_right RoutePart (route.Via network hops ticks) next part f) (λ _ f. absurd (no_error expected.Via next f)) e
route_part (route.Via network hops ticks) next word part e =
    said_right RoutePart expected.Node (λ via. route.Whole (route_at network hops ticks via)) (node_of word) next (λ via read. (part.0, part.1, part.2, node_right word via read)) e
route_part (route.Whole it) next word part e = absurd (no_error expected.Nothing next e)

pub route_right : (it : RouteBegun) → RoutePart it → route_ends it ≡ true → IsRoute it
route_right (route.Whole it) part ends = part
route_right route.Nothing part ends = absurd cc
route_right (route.To network) part ends = absurd cc
route_right (route.Hops network hops) part ends = absurd cc
route_right (route.Ticks network hops ticks) part ends = absurd cc
route_right (route.Via network hops ticks) part ends = absurd cc

-- ---- addresses of services

abbrev IsHostNode : List ℕ → Type 0
IsHostNode node = AreNumbers 6 8 node × (is_host_node node ≡ true)

host_node_right : (word node : List ℕ) → host_node_of word ≡ Some node → IsHostNode node
host_node_right word node e =
    bound IsHostNode (node_bytes_of word) _ node (λ bytes read e1.
    chosen IsHostNode (is_host_node bytes) (Some bytes) None node
    (λ host f. subst IsHostNode (one_value bytes node f) (node_bytes_right word bytes read, host)) (λ _ f. absurd (no_value node f)) e1) e

address_right : (word : List ℕ) (a : ServiceAddress) → service_address_of word ≡ Some a → IsServiceAddress a
address_right word a e =
    bound IsServiceAddress (cut_at dot word) _ a (λ first _ e1.
    bound IsServiceAddress (cut_at dot first.1) _ a (λ second _ e2.
    bound IsServiceAddress (hexadecimal_of 8 1 last_network first.0) _ a (λ network n e3.
    bound IsServiceAddress (host_node_of second.0) _ a (λ node d e4.
    bound IsServiceAddress (hexadecimal_of 4 1 65535 second.1) _ a (λ socket s e5.
    let host = host_node_right second.0 node d in
    subst IsServiceAddress (one_value (service_address_at network node socket) a e5)
    (hexadecimal_within 8 1 last_network network first.0 n, host.0, host.1, hexadecimal_within 4 1 65535 socket second.1 s)) e4) e3) e2) e1) e

-- ---- services

abbrev NamedPart : ℕ → List ℕ → Type 0
NamedPart kind name = Within 1 last_type kind × IsPlainName name

abbrev pub ServicePart : ServiceBegun → Type 0
ServicePart service.Nothing = Unit {0}
ServicePart (service.Kind kind) = Within 1 last_type kind
ServicePart (service.Named kind name) = NamedPart kind name
ServicePart (service.At kind name address) = NamedPart kind name × IsServiceAddress address
ServicePart (service.Hops kind name address hops) = NamedPart kind name × IsServiceAddress address × Within 1 most_hops hops
ServicePart (service.Via kind name address hops) = NamedPart kind name × IsServiceAddress address × Within 1 most_hops hops
ServicePart (service.Whole it) =
    Within 1 last_type it.kind × IsPlainName it.name × IsServiceAddress it.address × Within 1 most_hops it.hops × IsNode it.via

pub service_part : (it next : ServiceBegun) (word : List ℕ) → IsWord word → ServicePart it → service_step it word ≡ Ok next → ServicePart next
service_part service.Nothing next word one part e =
    said_right ServicePart expected.OneType service.Kind (one_type_of word) next (λ n read. hexadecimal_within 4 1 last_type n word read) e
service_part (service.Kind kind) next word one part e =
    said_right ServicePart expected.ServiceName (service.Named kind) (plain_name_of word) next (λ field read. (part, (word, one, read))) e
service_part (service.Named kind name) next word one part e =
    said_right ServicePart expected.ServiceAddress (service.At kind name) (service_address_of word) next (λ a read. (part, address_right word a read)) e
service_part (service.At kind name address) next word one part e =
    said_right ServicePart expected.Hops (service.Hops kind name address) (hops_of word) next (λ n read. (part.0, part.1, decimal_within 1 most_hops n word read)) e
service_part (service.Hops kind name address hops) next word one part e =
    chosen_right ServicePart (is_the word (codes "via")) _ _ next (λ _ f. ok_right ServicePart (service.Via kind name address hops) next part f) (λ _ f. absurd (no_error expected.Via next f)) e
service_part (service.Via kind name address hops) next word one part e =
    said_right ServicePart expected.Node (λ via. service.Whole (service_at kind name address hops via)) (node_of word) next
    (λ via read. (part.0.0, part.0.1, part.1, part.2, node_right word via read)) e
service_part (service.Whole it) next word one part e = absurd (no_error expected.Nothing next e)

pub service_right : (it : ServiceBegun) → ServicePart it → service_ends it ≡ true → IsService it
service_right (service.Whole it) part ends = part
service_right service.Nothing part ends = absurd cc
service_right (service.Kind kind) part ends = absurd cc
service_right (service.Named kind name) part ends = absurd cc
service_right (service.At kind name address) part ends = absurd cc
service_right (service.Hops kind name address hops) part ends = absurd cc
service_right (service.Via kind name address hops) part ends = absurd cc
