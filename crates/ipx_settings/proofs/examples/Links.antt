-- Lines that begin with link.
use Rattle.std.proofs.Common.{◌≡◌, refl, false, ℕ, ◌∷◌, [], List, Some, None}
use Rattle.std.specs.Prelude.{codes}
use Rattle.std.specs.Fmt.{digits}
use Rattle.ipx_settings.specs.Addresses.{own_host, four_at}
use Rattle.ipx_settings.specs.Lines.{reading_of, read_to}
use Rattle.ipx_settings.specs.Names.{padded, host_room}
use Rattle.ipx_settings.specs.WritingLinks.{spaced, link_words}
use Rattle.ipx_settings.specs.declared.addresses.Address.{Address}
use Rattle.ipx_settings.specs.declared.expected.Expected.TheVariants as expected
use Rattle.ipx_settings.specs.declared.line.Line.{Line}
use Rattle.ipx_settings.specs.declared.line.Line.TheVariants as line
use Rattle.ipx_settings.specs.declared.link.Cards.{Cards}
use Rattle.ipx_settings.specs.declared.link.Cards.TheVariants as has
use Rattle.ipx_settings.specs.declared.link.End.{End}
use Rattle.ipx_settings.specs.declared.link.End.TheVariants as ends
use Rattle.ipx_settings.specs.declared.link.Frames.TheVariants.{Raw}
use Rattle.ipx_settings.specs.declared.link.Link.{Link}
use Rattle.ipx_settings.specs.declared.link.Link.TheVariants as link
use Rattle.ipx_settings.specs.declared.link.LinkBegun.TheVariants as begun
use Rattle.ipx_settings.specs.declared.reading.Reading.{Reading}

abbrev read_with : Cards → List ℕ → Reading
read_with cards text = reading_of (record { cards = cards; is_below_tunnel = false; most_clients = 4096 }) text

abbrev read : List ℕ → Reading
read text = read_with has.All text

abbrev framed : End → Link
framed end = link.Framed end Raw

abbrev whole : End → Line
whole end = line.Link (begun.Whole (framed end))

-- ---- a second name

pub udp_is_another_name : read (codes "link udp 213 10.0.0.2:213 raw") ≡ read (codes "link qemu-udp 213 10.0.0.2:213 raw")
udp_is_another_name = refl

-- ---- groups

abbrev group : Address
group = four_at (230 ∷ 0 ∷ 0 ∷ 1 ∷ []) 1234

abbrev card : List ℕ
card = 192 ∷ 168 ∷ 1 ∷ 2 ∷ []

pub a_group : read (codes "link qemu-mcast 230.0.0.1:1234 raw") ≡ read_to (whole (ends.Group group own_host)) 4 None
a_group = refl

pub by_a_card : read (codes "link qemu-mcast 230.0.0.1:1234 via 192.168.1.2 raw") ≡ read_to (whole (ends.Group group card)) 6 None
by_a_card = refl

pub by_this_machine : read_with has.None (codes "link qemu-mcast 230.0.0.1:1234 via 127.0.0.1 raw") ≡ read_to (whole (ends.Group group own_host)) 6 None
by_this_machine = refl

pub no_group : read (codes "link qemu-mcast 10.0.0.1:1234 raw") ≡ read_to (line.Link begun.Multicast) 2 (Some expected.Group)
no_group = refl

pub behind_the_last : read (codes "link qemu-mcast 240.0.0.1:1234 raw") ≡ read_to (line.Link begun.Multicast) 2 (Some expected.Group)
behind_the_last = refl

pub no_port : read (codes "link qemu-mcast 230.0.0.1:0 raw") ≡ read_to (line.Link begun.Multicast) 2 (Some expected.Group)
no_port = refl

pub no_kind : read (codes "link qemu-mcast 230.0.0.1:1234") ≡ read_to (line.Link (begun.Group group)) 3 (Some expected.ViaOrFrames)
no_kind = refl

pub no_card : read (codes "link qemu-mcast 230.0.0.1:1234 via 0.0.0.0 raw") ≡ read_to (line.Link (begun.Via group)) 4 (Some expected.Card)
no_card = refl

pub a_group_is_no_card : read (codes "link qemu-mcast 230.0.0.1:1234 via 230.0.0.1 raw") ≡ read_to (line.Link (begun.Via group)) 4 (Some expected.Card)
a_group_is_no_card = refl

pub all_are_no_card : read (codes "link qemu-mcast 230.0.0.1:1234 via 255.255.255.255 raw") ≡ read_to (line.Link (begun.Via group)) 4 (Some expected.Card)
all_are_no_card = refl

pub a_card_has_no_port : read (codes "link qemu-mcast 230.0.0.1:1234 via 192.168.1.2:1 raw") ≡ read_to (line.Link (begun.Via group)) 4 (Some expected.Card)
a_card_has_no_port = refl

pub written_by_a_card : spaced (link_words (framed (ends.Group group card))) ≡ codes "qemu-mcast 230.0.0.1:1234 via 192.168.1.2 raw"
unfolding digits
written_by_a_card = refl

pub written_alone : spaced (link_words (framed (ends.Group group own_host))) ≡ codes "qemu-mcast 230.0.0.1:1234 raw"
unfolding digits
written_alone = refl

-- ---- switches

abbrev switch : End
switch = ends.Switch (padded host_room (codes "/run/vde.ctl"))

pub a_switch : read (codes "link vde /run/vde.ctl raw") ≡ read_to (whole switch) 4 None
a_switch = refl

pub written_switch : spaced (link_words (framed switch)) ≡ codes "vde /run/vde.ctl raw"
written_switch = refl

-- ---- clients by WebSocket

abbrev web_at : List ℕ → Address
web_at four = four_at four 8080

pub a_tunnel : read (codes "link web 8080") ≡ read_to (line.Link (begun.Whole (link.Web (web_at own_host)))) 3 None
a_tunnel = refl

pub of_frames : read_with has.None (codes "link web 0.0.0.0:8080 raw") ≡ read_to (whole (ends.Web (web_at (0 ∷ 0 ∷ 0 ∷ 0 ∷ [])))) 4 None
of_frames = refl

pub no_frames : read (codes "link web 8080 fast") ≡ read_to (line.Link (begun.Whole (link.Web (web_at own_host)))) 3 (Some expected.FramesOrNothing)
no_frames = refl

pub of_six : read (codes "link web [::1]:8080") ≡ read_to (line.Link begun.Web) 2 (Some expected.AddressOfFour)
of_six = refl

-- ---- what a system has

pub no_switches : read_with has.Interfaces (codes "link vde /run/vde.ctl raw") ≡ read_to (line.Link begun.Nothing) 1 (Some expected.LinkOfSystem)
no_switches = refl

pub no_taps : read_with has.Interfaces (codes "link tap tap0 raw") ≡ read_to (line.Link begun.Nothing) 1 (Some expected.LinkOfSystem)
no_taps = refl

pub interfaces_alone : read_with has.Interfaces (codes "link interface eth0 raw") ≡ read_with has.All (codes "link interface eth0 raw")
interfaces_alone = refl

pub no_interfaces : read_with has.None (codes "link interface eth0 raw") ≡ read_to (line.Link begun.Nothing) 1 (Some expected.LinkOfSystem)
no_interfaces = refl
