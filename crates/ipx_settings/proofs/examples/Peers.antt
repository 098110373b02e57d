-- Links to other places, and lines that say where these are.
use Rattle.std.proofs.Common.{◌≡◌, refl, false, ℕ, ◌∷◌, [], List, Option, Some, None}
use Rattle.std.specs.Prelude.{codes}
use Rattle.std.specs.Fmt.{digits}
use Rattle.ipx_settings.specs.Addresses.{four_at, six_at}
use Rattle.ipx_settings.specs.Lines.{reading_of, read_to}
use Rattle.ipx_settings.specs.Names.{padded, host_room}
use Rattle.ipx_settings.specs.WritingLinks.{spaced, link_words}
use Rattle.ipx_settings.specs.WritingLines.{line_words}
use Rattle.ipx_settings.specs.declared.addresses.Address.{Address}
use Rattle.ipx_settings.specs.declared.addresses.Place.{Place}
use Rattle.ipx_settings.specs.declared.addresses.Place.TheVariants.{At, Named}
use Rattle.ipx_settings.specs.declared.expected.Expected.TheVariants as expected
use Rattle.ipx_settings.specs.declared.line.Line.TheVariants as line
use Rattle.ipx_settings.specs.declared.link.Cards.TheVariants as has
use Rattle.ipx_settings.specs.declared.link.End.{End}
use Rattle.ipx_settings.specs.declared.link.End.TheVariants as ends
use Rattle.ipx_settings.specs.declared.link.Frames.TheVariants.{Raw}
use Rattle.ipx_settings.specs.declared.link.Link.{Link}
use Rattle.ipx_settings.specs.declared.link.Link.TheVariants as link
use Rattle.ipx_settings.specs.declared.link.LinkBegun.TheVariants as begun
use Rattle.ipx_settings.specs.declared.network.NetworkBegun.TheVariants as network
use Rattle.ipx_settings.specs.declared.network.Head.{Head}
use Rattle.ipx_settings.specs.declared.reading.Reading.{Reading}

-- (both are on every system)
abbrev read : List ℕ → Reading
read text = reading_of (record { cards = has.None; is_below_tunnel = false; most_clients = 4096 }) text

-- ---- sealed by a key

abbrev all_at : Address
all_at = four_at (0 ∷ 0 ∷ 0 ∷ 0 ∷ []) 2131

abbrev by_key : End
by_key = ends.Peers all_at (padded host_room (codes "/etc/hub.key"))

pub some_places : read (codes "link peers 0.0.0.0:2131 /etc/hub.key raw") ≡ read_to (line.Link (begun.Whole (link.Framed by_key Raw))) 5 None
some_places = refl

pub no_address : read (codes "link peers /etc/hub.key raw") ≡ read_to (line.Link begun.Peers) 2 (Some expected.Address)
no_address = refl

pub no_key : read (codes "link peers 0.0.0.0:2131") ≡ read_to (line.Link (begun.PeersAt all_at)) 3 (Some expected.KeyFile)
no_key = refl

pub no_kind : read (codes "link peers 0.0.0.0:2131 /etc/hub.key") ≡ read_to (line.Link (begun.End by_key)) 4 (Some expected.Frames)
no_kind = refl

pub written_places : spaced (link_words (link.Framed by_key Raw)) ≡ codes "peers 0.0.0.0:2131 /etc/hub.key raw"
unfolding digits
written_places = refl

-- ---- by RFC 1234

abbrev head : Head
head = record { number = 0x1234; cost = 1; longest = 576; shares = None }

abbrev at_a_card : Link
at_a_card = link.Rfc1234 (four_at (192 ∷ 0 ∷ 2 ∷ 7 ∷ []) 213)

pub at_one_card : read (codes "network 1234 1 576 rfc1234 192.0.2.7:213") ≡ read_to (line.Network (network.Link head (begun.Whole at_a_card))) 6 None
at_one_card = refl

pub at_all_cards : read (codes "network 1234 1 576 rfc1234 0.0.0.0:213") ≡ read_to (line.Network (network.Link head begun.Rfc1234)) 5 (Some expected.CardAndPort)
at_all_cards = refl

pub of_six : read (codes "network 1234 1 576 rfc1234 [fd00::7]:213") ≡ read_to (line.Network (network.Link head begun.Rfc1234)) 5 (Some expected.CardAndPort)
of_six = refl

pub no_port : read (codes "network 1234 1 576 rfc1234 192.0.2.7:0") ≡ read_to (line.Network (network.Link head begun.Rfc1234)) 5 (Some expected.CardAndPort)
no_port = refl

pub no_node_there : read (codes "network 1234 1 576 rfc1234 192.0.2.7:213 node 020000000001")
    ≡ read_to (line.Network (network.Link head (begun.Whole at_a_card))) 6 (Some expected.Nothing)
no_node_there = refl

pub written_at_a_card : spaced (link_words at_a_card) ≡ codes "rfc1234 192.0.2.7:213"
unfolding digits
written_at_a_card = refl

-- ---- where others are

abbrev read_place : Option Place → ℕ → Reading
read_place place n = read_to (line.Peer place) n None

abbrev by_name : Place
by_name = Named (padded host_room (codes "play.example.org")) 2131

pub at_a_name : read (codes "peer play.example.org:2131") ≡ read_place (Some by_name) 2
at_a_name = refl

pub at_an_address : read (codes "peer 192.0.2.9:213") ≡ read_place (Some (At (four_at (192 ∷ 0 ∷ 2 ∷ 9 ∷ []) 213))) 2
at_an_address = refl

pub at_a_six : read (codes "peer [::1]:2131") ≡ read_place (Some (At (six_at (0 ∷ 0 ∷ 0 ∷ 0 ∷ 0 ∷ 0 ∷ 0 ∷ 1 ∷ []) 2131))) 2
at_a_six = refl

pub nobody : read (codes "peer") ≡ read_to (line.Peer None) 1 (Some expected.Remote)
nobody = refl

pub at_no_port : read (codes "peer 192.0.2.9:0") ≡ read_to (line.Peer None) 1 (Some expected.Remote)
at_no_port = refl

pub one_of_two : read (codes "peer 192.0.2.9:213 192.0.2.10:213") ≡ read_to (line.Peer (Some (At (four_at (192 ∷ 0 ∷ 2 ∷ 9 ∷ []) 213)))) 2 (Some expected.Nothing)
one_of_two = refl

pub written_name : spaced (line_words (line.Peer (Some by_name))) ≡ codes "peer play.example.org:2131"
unfolding digits
written_name = refl
