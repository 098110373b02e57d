-- Lines that begin with permit or deny.
use Rattle.std.proofs.Common.{◌≡◌, refl, true, false, Bool, ℕ, List, Some, None}
use Rattle.std.specs.Prelude.{codes}
use Rattle.ipx_settings.specs.Lines.{reading_of, read_to}
use Rattle.ipx_settings.specs.Names.{padded}
use Rattle.ipx_settings.specs.WritingLinks.{spaced}
use Rattle.ipx_settings.specs.WritingLines.{bytes_digits, line_words}
use Rattle.ipx_settings.specs.declared.expected.Expected.{Expected}
use Rattle.ipx_settings.specs.declared.expected.Expected.TheVariants as expected
use Rattle.ipx_settings.specs.declared.line.Context.{Context}
use Rattle.ipx_settings.specs.declared.link.Cards.TheVariants as has
use Rattle.ipx_settings.specs.declared.line.Line.{Line}
use Rattle.ipx_settings.specs.declared.line.Line.TheVariants as line
use Rattle.ipx_settings.specs.declared.reading.Reading.{Reading}
use Rattle.ipx_settings.specs.declared.rule.Names.TheVariants as names
use Rattle.ipx_settings.specs.declared.rule.RuleBegun.{RuleBegun}
use Rattle.ipx_settings.specs.declared.rule.RuleBegun.TheVariants as rule
use Rattle.ipx_settings.specs.declared.rule.Way.TheVariants.{In, Out}
use Rattle.ipx_settings.specs.declared.rule.What.{What}
use Rattle.ipx_settings.specs.declared.rule.What.TheVariants as what

abbrev somewhere : Context
somewhere = record { cards = has.All; is_below_tunnel = false; most_clients = 4096 }

abbrev read : List ℕ → Reading
read text = reading_of somewhere text

abbrev whole : Bool → What → Line
whole permits it = line.Rule permits (rule.Whole it)

-- what was read of a wrong line `deny`
abbrev only : RuleBegun → ℕ → Expected → Reading
only it words e = read_to (line.Rule false it) words (Some e)

abbrev lab : List ℕ
lab = padded 48 (codes "LAB")

pub a_type : read (codes "deny type 20 # NetBIOS") ≡ read_to (whole false (what.Kind 20)) 3 None
a_type = refl

pub a_socket : read (codes "deny socket 0457") ≡ read_to (whole false (what.OnSocket 0x457)) 3 None
a_socket = refl

pub the_nearest : read (codes "deny nearest") ≡ read_to (whole false what.Nearest) 2 None
the_nearest = refl

pub a_range : read (codes "deny route 1000-1FFF in") ≡ read_to (whole false (what.Routes In 0x1000 0x1FFF)) 4 None
a_range = refl

pub one_route : read (codes "permit route 1000 out") ≡ read_to (whole true (what.Routes Out 0x1000 0x1000)) 4 None
one_route = refl

pub the_default_route : read (codes "deny route FFFFFFFE in") ≡ read_to (whole false (what.Routes In 0xFFFFFFFE 0xFFFFFFFE)) 4 None
the_default_route = refl

pub one_name : read (codes "permit service 0004 LAB in") ≡ read_to (whole true (what.Services In 4 (names.Is lab))) 5 None
one_name = refl

pub names_that_begin_so : read (codes "deny service 4 LAB* out") ≡ read_to (whole false (what.Services Out 4 (names.Begins lab))) 5 None
names_that_begin_so = refl

pub every_service : read (codes "deny service * * in") ≡ read_to (whole false (what.Services In 0xFFFF names.All)) 5 None
every_service = refl

pub nothing_named : read (codes "deny") ≡ only rule.Nothing 1 expected.Rule
nothing_named = refl

pub another_word : read (codes "deny all") ≡ only rule.Nothing 1 expected.Rule
another_word = refl

pub too_large_a_type : read (codes "deny type 256") ≡ only rule.Kind 2 expected.PacketType
too_large_a_type = refl

pub socket_0 : read (codes "deny socket 0") ≡ only rule.OnSocket 2 expected.Socket
socket_0 = refl

pub from_behind_to : read (codes "deny route 1FFF-1000 in") ≡ only rule.Routes 2 expected.Networks
from_behind_to = refl

pub no_way : read (codes "deny route 1000") ≡ only (rule.RoutesTo 0x1000 0x1000) 3 expected.Way
no_way = refl

pub five_digits : read (codes "deny service 10000 * in") ≡ only rule.Services 2 expected.ServiceType
five_digits = refl

pub a_star_within : read (codes "deny service 4 L*B in") ≡ only (rule.ServicesOf 4) 3 expected.ServiceNames
a_star_within = refl

pub one_more : read (codes "deny nearest in") ≡ only (rule.Whole what.Nearest) 2 expected.Nothing
one_more = refl

pub written : spaced (line_words (whole false (what.Routes In 0x1000 0x1FFF))) ≡ codes "deny route 00001000-00001FFF in"
unfolding bytes_digits
written = refl

pub a_service_written : spaced (line_words (whole true (what.Services Out 4 (names.Begins lab)))) ≡ codes "permit service 0004 LAB* out"
unfolding bytes_digits
a_service_written = refl
