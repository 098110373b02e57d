-- What is written: whole lines.
use Rattle.std.specs.Prelude.{ℕ, Bool, true, false, ◌/◌, ◌%◌, ◌==◌, if◌then◌else◌, List, [], ◌∷◌, ◌++◌, flat_map, map, length, nat_le, codes, decimal, Option, Some, None}
use Rattle.std.specs.Fmt.{digit_glyph}
use Rattle.std.specs.Int.{to_be_bytes, w16, w32}
use Rattle.std.specs.Net.Text.{ipv4_text}
use Rattle.ipx_settings.specs.Words.{most_words}
use Rattle.ipx_settings.specs.Writing.{written_size, written_into}
use Rattle.ipx_settings.specs.WritingLinks.{spaced, name_in, place_words, link_words}
use Rattle.ipx_settings.specs.declared.addresses.HostRange.{HostRange}
use Rattle.ipx_settings.specs.declared.addresses.Place.{Place}
use Rattle.ipx_settings.specs.declared.internal.InternalBegun.{InternalBegun}
use Rattle.ipx_settings.specs.declared.internal.InternalBegun.TheVariants as internal
use Rattle.ipx_settings.specs.declared.line.ClientsBegun.{ClientsBegun}
use Rattle.ipx_settings.specs.declared.line.ClientsBegun.TheVariants as clients
use Rattle.ipx_settings.specs.declared.line.Line.{Line}
use Rattle.ipx_settings.specs.declared.line.Line.TheVariants as line
use Rattle.ipx_settings.specs.declared.line.RateBegun.{RateBegun}
use Rattle.ipx_settings.specs.declared.line.RateBegun.TheVariants as rate
use Rattle.ipx_settings.specs.declared.link.Link.{Link}
use Rattle.ipx_settings.specs.declared.link.LinkBegun.{LinkBegun}
use Rattle.ipx_settings.specs.declared.link.LinkBegun.TheVariants as begun
use Rattle.ipx_settings.specs.declared.network.Head.{Head}
use Rattle.ipx_settings.specs.declared.network.NetworkBegun.{NetworkBegun}
use Rattle.ipx_settings.specs.declared.network.NetworkBegun.TheVariants as network
use Rattle.ipx_settings.specs.declared.network.Shares.{Shares}
use Rattle.ipx_settings.specs.declared.rule.Names.{Names}
use Rattle.ipx_settings.specs.declared.rule.Names.TheVariants as names
use Rattle.ipx_settings.specs.declared.rule.RuleBegun.{RuleBegun}
use Rattle.ipx_settings.specs.declared.rule.RuleBegun.TheVariants as rule_begun
use Rattle.ipx_settings.specs.declared.rule.Way.{Way}
use Rattle.ipx_settings.specs.declared.rule.Way.TheVariants.{In, Out}
use Rattle.ipx_settings.specs.declared.rule.What.{What}
use Rattle.ipx_settings.specs.declared.rule.What.TheVariants as what
use Rattle.ipx_settings.specs.declared.statics.RouteBegun.{RouteBegun}
use Rattle.ipx_settings.specs.declared.statics.RouteBegun.TheVariants as route
use Rattle.ipx_settings.specs.declared.statics.ServiceAddress.{ServiceAddress}
use Rattle.ipx_settings.specs.declared.statics.ServiceBegun.{ServiceBegun}
use Rattle.ipx_settings.specs.declared.statics.ServiceBegun.TheVariants as service

-- two digits for each byte, of upper case
abbrev pub byte_digits : ℕ → List ℕ
byte_digits byte = digit_glyph true (byte / 16) ∷ digit_glyph true (byte % 16) ∷ []

unfoldable pub bytes_digits : List ℕ → List ℕ
bytes_digits bytes = flat_map byte_digits bytes

-- ---- networks

-- a network by eight digits
abbrev pub number_word : ℕ → List ℕ
number_word number = bytes_digits (to_be_bytes w32 number)

abbrev pub shares_words : Option Shares → List (List ℕ)
shares_words None = []
shares_words (Some shares) = decimal shares.routes ∷ decimal shares.services ∷ []

unfoldable pub head_words : Head → List (List ℕ)
head_words head = codes "network" ∷ number_word head.number ∷ decimal head.cost ∷ decimal head.longest ∷ shares_words head.shares

abbrev pub maybe_link_words : Option Link → List (List ℕ)
maybe_link_words None = []
maybe_link_words (Some it) = link_words it

abbrev pub begun_words : LinkBegun → List (List ℕ)
begun_words (begun.Whole it) = link_words it
begun_words other = []

-- a node by twelve digits
abbrev pub network_words : NetworkBegun → List (List ℕ)
network_words (network.Head head) = head_words head
network_words (network.Link head it) = head_words head ++ begun_words it
network_words (network.Whole head it node) = head_words head ++ maybe_link_words it ++ codes "node" ∷ bytes_digits node ∷ []
network_words other = []

-- ---- other lines

-- a number a second, which is none where it is 0
abbrev pub rate_word : ℕ → List ℕ
rate_word r = if r == 0 then codes "none" else decimal r

abbrev pub clients_words : ClientsBegun → List (List ℕ)
clients_words clients.Nothing = []
clients_words (clients.All n) = decimal n ∷ []
clients_words (clients.OfAddress n m) = decimal n ∷ decimal m ∷ []

abbrev pub rates_words : RateBegun → List (List ℕ)
rates_words rate.Nothing = []
rates_words (rate.Rate r) = rate_word r ∷ []
rates_words (rate.Share r share) = rate_word r ∷ decimal share ∷ []
rates_words (rate.Household r share household) = rate_word r ∷ decimal share ∷ rate_word household ∷ []

abbrev pub strangers_words : Option ℕ → List (List ℕ)
strangers_words None = []
strangers_words (Some r) = rate_word r ∷ []

abbrev pub kilobits_words : Option ℕ → List (List ℕ)
kilobits_words None = []
kilobits_words (Some n) = decimal n ∷ []

abbrev pub nodes_words : Bool → List (List ℕ)
nodes_words false = []
nodes_words true = codes "by-address" ∷ []

abbrev pub internal_words : InternalBegun → List (List ℕ)
internal_words (internal.Number number) = number_word number ∷ []
internal_words (internal.Whole number node) = number_word number ∷ codes "node" ∷ bytes_digits node ∷ []
internal_words other = []

abbrev pub adopt_words : Bool → List (List ℕ)
adopt_words false = []
adopt_words true = codes "no" ∷ []

abbrev pub peer_words : Option Place → List (List ℕ)
peer_words None = []
peer_words (Some place) = place_words place ∷ []

-- a socket by four digits, or a type of services
abbrev pub socket_word : ℕ → List ℕ
socket_word socket = bytes_digits (to_be_bytes w16 socket)

abbrev pub way_word : Way → List ℕ
way_word In = codes "in"
way_word Out = codes "out"

abbrev pub names_word : Names → List ℕ
names_word names.All = codes "*"
names_word (names.Is name) = name_in name
names_word (names.Begins name) = name_in name ++ codes "*"

abbrev pub networks_word : ℕ → ℕ → List ℕ
networks_word from to = number_word from ++ codes "-" ++ number_word to

-- what a rule names, behind what it does with that
abbrev pub what_words : List ℕ → What → List (List ℕ)
what_words first (what.Kind n) = first ∷ codes "type" ∷ decimal n ∷ []
what_words first (what.OnSocket n) = first ∷ codes "socket" ∷ socket_word n ∷ []
what_words first what.Nearest = first ∷ codes "nearest" ∷ []
what_words first (what.Routes way from to) = first ∷ codes "route" ∷ networks_word from to ∷ way_word way ∷ []
what_words first (what.Services way kind names) = first ∷ codes "service" ∷ socket_word kind ∷ names_word names ∷ way_word way ∷ []

abbrev pub rule_words : List ℕ → RuleBegun → List (List ℕ)
rule_words first (rule_begun.Whole it) = what_words first it
rule_words first other = first ∷ []

abbrev pub permit_word : Bool → List ℕ
permit_word true = codes "permit"
permit_word false = codes "deny"

-- by way of a node, behind its word
abbrev pub via_words : List ℕ → List (List ℕ)
via_words via = codes "via" ∷ bytes_digits via ∷ []

abbrev pub route_words : RouteBegun → List (List ℕ)
route_words (route.Whole it) = number_word it.network ∷ decimal it.hops ∷ decimal it.ticks ∷ via_words it.via
route_words other = []

abbrev pub service_address_word : ServiceAddress → List ℕ
service_address_word address =
    number_word address.network ++ codes "." ++ bytes_digits address.node ++ codes "." ++ socket_word address.socket

abbrev pub service_words : ServiceBegun → List (List ℕ)
service_words (service.Whole it) =
    socket_word it.kind ∷ name_in it.name ∷ service_address_word it.address ∷ decimal it.hops ∷ via_words it.via
service_words other = []

-- all words of a line but for lists, which are written by themselves
abbrev pub line_words : Line → List (List ℕ)
line_words line.Nothing = []
line_words (line.Network it) = network_words it
line_words (line.Link it) = codes "link" ∷ begun_words it
line_words (line.Extend has_some) = codes "extend" ∷ []
line_words (line.Clients it) = codes "clients" ∷ clients_words it
line_words (line.Allow has_some) = codes "allow" ∷ []
line_words (line.Trust has_some) = codes "trust" ∷ []
line_words (line.Rate it) = codes "rate" ∷ rates_words it
line_words (line.Strangers it) = codes "strangers" ∷ strangers_words it
line_words (line.Kilobits it) = codes "line" ∷ kilobits_words it
line_words (line.Nodes by_address) = codes "nodes" ∷ nodes_words by_address
line_words (line.Internal it) = codes "internal" ∷ internal_words it
line_words (line.Adopt is_off) = codes "adopt" ∷ adopt_words is_off
line_words (line.Rule permits it) = rule_words (permit_word permits) it
line_words (line.Route it) = codes "route" ∷ route_words it
line_words (line.Service it) = codes "service" ∷ service_words it
line_words (line.Origins has_some) = codes "origins" ∷ []
line_words (line.Peer it) = codes "peer" ∷ peer_words it

abbrev pub range_word : HostRange → List ℕ
range_word range = ipv4_text range.first ++ codes "/" ++ decimal range.bits

-- a list behind the word that begins its line
abbrev pub sockets_words : List ℕ → List (List ℕ)
sockets_words sockets = codes "extend" ∷ map socket_word sockets

abbrev pub allow_words : List HostRange → List (List ℕ)
allow_words ranges = codes "allow" ∷ map range_word ranges

abbrev pub trust_words : List HostRange → List (List ℕ)
trust_words ranges = codes "trust" ∷ map range_word ranges

-- how many bytes a line with a list has, if it hasn't too many words
abbrev pub list_size : List (List ℕ) → List ℕ → Option ℕ
list_size words room = if nat_le (length words) most_words then written_size (spaced words) room else None

abbrev pub list_into : List (List ℕ) → List ℕ → List ℕ
list_into words room = if nat_le (length words) most_words then written_into (spaced words) room else room
