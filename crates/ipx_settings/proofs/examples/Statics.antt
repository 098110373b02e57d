-- Lines that begin with route or service.
use Rattle.std.proofs.Common.{◌≡◌, refl, false, ℕ, List, [], ◌∷◌, ◌++◌, Some, None}
use Rattle.std.specs.Prelude.{codes, decimal}
use Rattle.ipx_settings.specs.Lines.{reading_of, read_to}
use Rattle.ipx_settings.specs.Names.{padded}
use Rattle.ipx_settings.specs.Statics.{route_at, service_address_at, service_at}
use Rattle.ipx_settings.specs.WritingLinks.{spaced}
use Rattle.ipx_settings.specs.WritingLines.{bytes_digits, line_words}
use Rattle.ipx_settings.specs.declared.expected.Expected.{Expected}
use Rattle.ipx_settings.specs.declared.expected.Expected.TheVariants as expected
use Rattle.ipx_settings.specs.declared.line.Context.{Context}
use Rattle.ipx_settings.specs.declared.link.Cards.TheVariants as has
use Rattle.ipx_settings.specs.declared.line.Line.{Line}
use Rattle.ipx_settings.specs.declared.line.Line.TheVariants as line
use Rattle.ipx_settings.specs.declared.reading.Reading.{Reading}
use Rattle.ipx_settings.specs.declared.statics.RouteBegun.{RouteBegun}
use Rattle.ipx_settings.specs.declared.statics.RouteBegun.TheVariants as route
use Rattle.ipx_settings.specs.declared.statics.ServiceAddress.{ServiceAddress}
use Rattle.ipx_settings.specs.declared.statics.ServiceBegun.{ServiceBegun}
use Rattle.ipx_settings.specs.declared.statics.ServiceBegun.TheVariants as service

abbrev somewhere : Context
somewhere = record { cards = has.All; is_below_tunnel = false; most_clients = 4096 }

abbrev read : List ℕ → Reading
read text = reading_of somewhere text

-- what was read of a wrong line
abbrev only : RouteBegun → ℕ → Expected → Reading
only it words e = read_to (line.Route it) words (Some e)

abbrev only_service : ServiceBegun → ℕ → Expected → Reading
only_service it words e = read_to (line.Service it) words (Some e)

abbrev a_node : List ℕ
a_node = 0 ∷ 0 ∷ 0x1B ∷ 0x02 ∷ 0x04 ∷ 0xAA ∷ []

abbrev its_server : List ℕ
its_server = 0 ∷ 0 ∷ 0 ∷ 0 ∷ 0 ∷ 1 ∷ []

abbrev an_address : ServiceAddress
an_address = service_address_at 0xA1 its_server 0x451

abbrev fileserver : List ℕ
fileserver = padded 48 (codes "FILESERVER")

abbrev a_route : Line
a_route = line.Route (route.Whole (route_at 0xA1 2 3 a_node))

abbrev a_service : Line
a_service = line.Service (service.Whole (service_at 4 fileserver an_address 1 a_node))

-- ---- routes

pub a_network_behind_a_node : read (codes "route A1 2 3 via 00001B0204AA # the laboratory's") ≡ read_to a_route 6 None
a_network_behind_a_node = refl

pub the_default_route : read (codes "route FFFFFFFE 15 65535 via 00:00:1b:02:04:aa") ≡ read_to (line.Route (route.Whole (route_at 0xFFFFFFFE 15 65535 a_node))) 6 None
the_default_route = refl

pub network_0 : read (codes "route 0 2 3 via 00001B0204AA") ≡ only route.Nothing 1 expected.Destination
network_0 = refl

pub every_network : read (codes "route FFFFFFFF 2 3 via 00001B0204AA") ≡ only route.Nothing 1 expected.Destination
every_network = refl

pub unreachable : read (codes "route A1 16 3 via 00001B0204AA") ≡ only (route.To 0xA1) 2 expected.Hops
unreachable = refl

pub no_hops : read (codes "route A1 0 3 via 00001B0204AA") ≡ only (route.To 0xA1) 2 expected.Hops
no_hops = refl

pub no_ticks : read (codes "route A1 2 0 via 00001B0204AA") ≡ only (route.Hops 0xA1 2) 3 expected.Ticks
no_ticks = refl

pub another_word_than_via : read (codes "route A1 2 3 by 00001B0204AA") ≡ only (route.Ticks 0xA1 2 3) 4 expected.Via
another_word_than_via = refl

pub no_node : read (codes "route A1 2 3 via") ≡ only (route.Via 0xA1 2 3) 5 expected.Node
no_node = refl

pub node_0 : read (codes "route A1 2 3 via 000000000000") ≡ only (route.Via 0xA1 2 3) 5 expected.Node
node_0 = refl

pub all_nodes : read (codes "route A1 2 3 via FFFFFFFFFFFF") ≡ only (route.Via 0xA1 2 3) 5 expected.Node
all_nodes = refl

pub nodes_of_a_group : read (codes "route A1 2 3 via 01001B0204AA") ≡ only (route.Via 0xA1 2 3) 5 expected.Node
nodes_of_a_group = refl

pub one_more : read (codes "route A1 2 3 via 00001B0204AA in") ≡ read_to a_route 6 (Some expected.Nothing)
one_more = refl

pub written : spaced (line_words a_route) ≡ codes "route 000000A1 " ++ decimal 2 ++ 32 ∷ (decimal 3 ++ codes " via 00001B0204AA")
unfolding bytes_digits
written = refl

-- ---- services

pub a_server_behind_a_node : read (codes "service 4 FILESERVER A1.000000000001.451 1 via 00001B0204AA") ≡ read_to a_service 7 None
a_server_behind_a_node = refl

pub type_0 : read (codes "service 0 FILESERVER A1.000000000001.451 1 via 00001B0204AA") ≡ only_service service.Nothing 1 expected.OneType
type_0 = refl

pub every_type : read (codes "service FFFF FILESERVER A1.000000000001.451 1 via 00001B0204AA") ≡ only_service service.Nothing 1 expected.OneType
every_type = refl

pub a_star : read (codes "service 4 FILE* A1.000000000001.451 1 via 00001B0204AA") ≡ only_service (service.Kind 4) 2 expected.ServiceName
a_star = refl

-- (a letter that isn't of ASCII)
pub a_byte_of_no_letter : read (codes "service 4 " ++ 0x82 ∷ codes " A1.000000000001.451 1 via 00001B0204AA") ≡ only_service (service.Kind 4) 2 expected.ServiceName
a_byte_of_no_letter = refl

pub of_48_bytes : read (codes "service 4 ABCDEFGHIJKLMNOPQRSTUVWXYZABCDEFGHIJKLMNOPQRSTUV A1.000000000001.451 1 via 00001B0204AA") ≡ only_service (service.Kind 4) 2 expected.ServiceName
of_48_bytes = refl

abbrev behind_its_name : ServiceBegun
behind_its_name = service.Named 4 fileserver

pub no_socket : read (codes "service 4 FILESERVER A1.000000000001 1 via 00001B0204AA") ≡ only_service behind_its_name 3 expected.ServiceAddress
no_socket = refl

pub socket_0 : read (codes "service 4 FILESERVER A1.000000000001.0 1 via 00001B0204AA") ≡ only_service behind_its_name 3 expected.ServiceAddress
socket_0 = refl

pub at_node_0 : read (codes "service 4 FILESERVER A1.000000000000.451 1 via 00001B0204AA") ≡ only_service behind_its_name 3 expected.ServiceAddress
at_node_0 = refl

pub at_all_nodes : read (codes "service 4 FILESERVER A1.FFFFFFFFFFFF.451 1 via 00001B0204AA") ≡ only_service behind_its_name 3 expected.ServiceAddress
at_all_nodes = refl

pub on_the_default_route : read (codes "service 4 FILESERVER FFFFFFFE.000000000001.451 1 via 00001B0204AA") ≡ only_service behind_its_name 3 expected.ServiceAddress
on_the_default_route = refl

-- the node of a DOSBox may look like that of a group
pub at_a_dosbox : read (codes "service 4 FILESERVER A1.CB0071050BB8.451") ≡ only_service (service.At 4 fileserver (service_address_at 0xA1 (0xCB ∷ 0 ∷ 0x71 ∷ 5 ∷ 0x0B ∷ 0xB8 ∷ []) 0x451)) 4 expected.Hops
at_a_dosbox = refl

pub a_service_16_hops_away : read (codes "service 4 FILESERVER A1.000000000001.451 16") ≡ only_service (service.At 4 fileserver an_address) 4 expected.Hops
a_service_16_hops_away = refl

pub no_via : read (codes "service 4 FILESERVER A1.000000000001.451 1") ≡ only_service (service.Hops 4 fileserver an_address 1) 5 expected.Via
no_via = refl

pub no_node_of_a_service : read (codes "service 4 FILESERVER A1.000000000001.451 1 via *") ≡ only_service (service.Via 4 fileserver an_address 1) 6 expected.Node
no_node_of_a_service = refl

pub a_service_written : spaced (line_words a_service) ≡ codes "service 0004 FILESERVER 000000A1.000000000001.0451 " ++ decimal 1 ++ codes " via 00001B0204AA"
unfolding bytes_digits
a_service_written = refl
