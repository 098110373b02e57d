-- Lines that are right, by what they say.
use Rattle.std.specs.Prelude.{◌≡◌, ℕ, Bool, true, ◌^◌, ◌<◌, ◌≤◌, List, length, Option, Some, None}
use Rattle.std.specs.List.{AllByRecursion}
use Rattle.ipx_settings.specs.Addresses.{host_bits, is_first}
use Rattle.ipx_settings.specs.Lines.{most_rate, most_kilobits}
use Rattle.ipx_settings.specs.Networks.{last_network, least_longest, most_longest, may_have_node}
use Rattle.ipx_settings.specs.Nodes.{is_single}
use Rattle.ipx_settings.specs.Right.{AreNumbers, IsRemote, IsLink, IsWord}
use Rattle.ipx_settings.specs.Rules.{last_route, service_name_of}
use Rattle.ipx_settings.specs.Statics.{most_hops, last_type, plain_name_of, is_host_node}
use Rattle.ipx_settings.specs.Words.{most_words}
use Rattle.ipx_settings.specs.declared.addresses.HostRange.{HostRange}
use Rattle.ipx_settings.specs.declared.addresses.Place.{Place}
use Rattle.ipx_settings.specs.declared.internal.InternalBegun.{InternalBegun}
use Rattle.ipx_settings.specs.declared.internal.InternalBegun.TheVariants as internal
use Rattle.ipx_settings.specs.declared.line.ClientsBegun.{ClientsBegun}
use Rattle.ipx_settings.specs.declared.line.ClientsBegun.TheVariants as clients
use Rattle.ipx_settings.specs.declared.line.Context.{Context}
use Rattle.ipx_settings.specs.declared.line.Line.{Line}
use Rattle.ipx_settings.specs.declared.line.Line.TheVariants as line
use Rattle.ipx_settings.specs.declared.line.RateBegun.{RateBegun}
use Rattle.ipx_settings.specs.declared.line.RateBegun.TheVariants as rate
use Rattle.ipx_settings.specs.declared.link.Cards.{Cards}
use Rattle.ipx_settings.specs.declared.link.Link.{Link}
use Rattle.ipx_settings.specs.declared.link.LinkBegun.{LinkBegun}
use Rattle.ipx_settings.specs.declared.link.LinkBegun.TheVariants as begun
use Rattle.ipx_settings.specs.declared.network.Head.{Head}
use Rattle.ipx_settings.specs.declared.network.NetworkBegun.{NetworkBegun}
use Rattle.ipx_settings.specs.declared.network.NetworkBegun.TheVariants as network
use Rattle.ipx_settings.specs.declared.network.Shares.{Shares}
use Rattle.ipx_settings.specs.declared.rule.Names.{Names}
use Rattle.ipx_settings.specs.declared.rule.Names.TheVariants as names
use Rattle.ipx_settings.specs.declared.rule.RuleBegun.{RuleBegun}
use Rattle.ipx_settings.specs.declared.rule.RuleBegun.TheVariants as rule
use Rattle.ipx_settings.specs.declared.rule.What.{What}
use Rattle.ipx_settings.specs.declared.rule.What.TheVariants as what
use Rattle.ipx_settings.specs.declared.statics.RouteBegun.{RouteBegun}
use Rattle.ipx_settings.specs.declared.statics.RouteBegun.TheVariants as route
use Rattle.ipx_settings.specs.declared.statics.ServiceAddress.{ServiceAddress}
use Rattle.ipx_settings.specs.declared.statics.ServiceBegun.{ServiceBegun}
use Rattle.ipx_settings.specs.declared.statics.ServiceBegun.TheVariants as service

-- a number between two, or one of them
abbrev pub Within : ℕ → ℕ → ℕ → Type 0
Within least most n = (least ≤ n) × (n ≤ most)

-- ---- networks

abbrev pub IsShares : Option Shares → Type 0
IsShares None = Unit {0}
IsShares (Some shares) = (shares.routes < 2 ^ 16) × (shares.services < 2 ^ 16)

-- what stands before a link
abbrev pub IsHead : Head → Type 0
IsHead head =
    Within 1 last_network head.number × Within 1 65535 head.cost × Within least_longest most_longest head.longest × IsShares head.shares

-- a node of one computer
abbrev pub IsNode : List ℕ → Type 0
IsNode node = AreNumbers 6 8 node × (is_single node ≡ true)

abbrev pub MayHaveNode : Cards → Option Link → Type 0
MayHaveNode cards None = Unit {0}
MayHaveNode cards (Some it) = IsLink cards it × (may_have_node it ≡ true)

abbrev pub IsWhole : Cards → LinkBegun → Type 0
IsWhole cards (begun.Whole it) = IsLink cards it
IsWhole cards other = ⊥

abbrev pub IsNetwork : Cards → NetworkBegun → Type 0
IsNetwork cards (network.Head head) = IsHead head
IsNetwork cards (network.Link head it) = IsHead head × IsWhole cards it
IsNetwork cards (network.Whole head it node) = IsHead head × MayHaveNode cards it × IsNode node
IsNetwork cards other = ⊥

-- ---- other lines

abbrev pub IsClients : ℕ → ClientsBegun → Type 0
IsClients most clients.Nothing = ⊥
IsClients most (clients.All n) = Within 1 most n
IsClients most (clients.OfAddress n m) = Within 1 most n × Within 1 n m

-- a share is no more than a rate that isn't 0; households have rates below a tunnel
abbrev pub IsRate : Bool → RateBegun → Type 0
IsRate is_below_tunnel rate.Nothing = ⊥
IsRate is_below_tunnel (rate.Rate r) = r ≤ most_rate
IsRate is_below_tunnel (rate.Share r share) = (r ≤ most_rate) × Within 1 r share
IsRate is_below_tunnel (rate.Household r share household) = (r ≤ most_rate) × Within 1 r share × (household ≤ most_rate) × (is_below_tunnel ≡ true)

abbrev pub IsMost : ℕ → ℕ → Option ℕ → Type 0
IsMost least most None = ⊥
IsMost least most (Some n) = Within least most n

-- the router's own network, with a node there or without
abbrev pub IsInternal : InternalBegun → Type 0
IsInternal (internal.Number number) = Within 1 last_network number
IsInternal (internal.Whole number node) = Within 1 last_network number × IsNode node
IsInternal other = ⊥

-- the name of a service, in its room
abbrev pub IsServiceName : List ℕ → Type 0
IsServiceName field = (name : List ℕ) × IsWord name × (service_name_of name ≡ Some field)

abbrev pub AreNames : Names → Type 0
AreNames names.All = Unit {0}
AreNames (names.Is name) = IsServiceName name
AreNames (names.Begins name) = IsServiceName name

-- what a rule names
abbrev pub IsWhat : What → Type 0
IsWhat (what.Kind n) = Within 0 255 n
IsWhat (what.OnSocket n) = Within 1 65535 n
IsWhat what.Nearest = Unit {0}
IsWhat (what.Routes way from to) = Within 1 last_route from × Within 1 last_route to × (from ≤ to)
IsWhat (what.Services way kind names) = Within 0 65535 kind × AreNames names

abbrev pub IsRule : RuleBegun → Type 0
IsRule (rule.Whole it) = IsWhat it
IsRule other = ⊥

-- a route by way of a node
abbrev pub IsRoute : RouteBegun → Type 0
IsRoute (route.Whole it) = Within 1 last_route it.network × Within 1 most_hops it.hops × Within 1 65535 it.ticks × IsNode it.via
IsRoute other = ⊥

-- the name of one service, in its room
abbrev pub IsPlainName : List ℕ → Type 0
IsPlainName field = (name : List ℕ) × IsWord name × (plain_name_of name ≡ Some field)

abbrev pub IsServiceAddress : ServiceAddress → Type 0
IsServiceAddress address =
    Within 1 last_network address.network × AreNumbers 6 8 address.node × (is_host_node address.node ≡ true) × Within 1 65535 address.socket

-- a service by way of a node
abbrev pub IsService : ServiceBegun → Type 0
IsService (service.Whole it) =
    Within 1 last_type it.kind × IsPlainName it.name × IsServiceAddress it.address × Within 1 most_hops it.hops × IsNode it.via
IsService other = ⊥

-- where another place of a network is
abbrev pub IsPeer : Option Place → Type 0
IsPeer None = ⊥
IsPeer (Some place) = IsRemote place

-- what a line without a list can say, read in that context
abbrev pub IsRight : Context → Line → Type 0
IsRight c line.Nothing = Unit {0}
IsRight c (line.Network it) = IsNetwork c.cards it
IsRight c (line.Link it) = IsWhole c.cards it
IsRight c (line.Extend has_some) = ⊥
IsRight c (line.Clients it) = (c.most_clients < 2 ^ 16) × IsClients c.most_clients it
IsRight c (line.Allow has_some) = ⊥
IsRight c (line.Trust has_some) = ⊥
IsRight c (line.Rate it) = IsRate c.is_below_tunnel it
IsRight c (line.Strangers it) = IsMost 0 most_rate it
IsRight c (line.Kilobits it) = IsMost 1 most_kilobits it
IsRight c (line.Nodes by_address) = by_address ≡ true
IsRight c (line.Internal it) = IsInternal it
IsRight c (line.Adopt is_off) = is_off ≡ true
IsRight c (line.Rule permits it) = IsRule it
IsRight c (line.Route it) = IsRoute it
IsRight c (line.Service it) = IsService it
IsRight c (line.Origins has_some) = ⊥
IsRight c (line.Peer it) = IsPeer it

-- a range whose address is its first
abbrev pub IsRange : HostRange → Type 0
IsRange range = AreNumbers 4 8 range.first × (range.bits ≤ host_bits) × (is_first range ≡ true)

-- what a list in a line can be: these, one or more, and no more than there are words
abbrev pub AreListed : {A : Type 0} → (A → Type 0) → List A → Type 0
AreListed Is them = (0 < length them) × (length them < most_words) × AllByRecursion Is them

-- what a right line says; of a list, only that there is one
abbrev pub IsSaid : Context → Line → Type 0
IsSaid c line.Nothing = Unit {0}
IsSaid c (line.Network it) = IsNetwork c.cards it
IsSaid c (line.Link it) = IsWhole c.cards it
IsSaid c (line.Extend has_some) = has_some ≡ true
IsSaid c (line.Clients it) = IsClients c.most_clients it
IsSaid c (line.Allow has_some) = has_some ≡ true
IsSaid c (line.Trust has_some) = has_some ≡ true
IsSaid c (line.Rate it) = IsRate c.is_below_tunnel it
IsSaid c (line.Strangers it) = IsMost 0 most_rate it
IsSaid c (line.Kilobits it) = IsMost 1 most_kilobits it
IsSaid c (line.Nodes by_address) = by_address ≡ true
IsSaid c (line.Internal it) = IsInternal it
IsSaid c (line.Adopt is_off) = is_off ≡ true
IsSaid c (line.Rule permits it) = IsRule it
IsSaid c (line.Route it) = IsRoute it
IsSaid c (line.Service it) = IsService it
IsSaid c (line.Origins has_some) = has_some ≡ true
IsSaid c (line.Peer it) = IsPeer it
