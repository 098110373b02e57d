-- Lines that begin with internal.
use Rattle.std.proofs.Common.{◌≡◌, refl, false, ℕ, List, [], ◌∷◌, Some, None}
use Rattle.std.specs.Prelude.{codes}
use Rattle.ipx_settings.specs.Lines.{reading_of, read_to}
use Rattle.ipx_settings.specs.WritingLinks.{spaced}
use Rattle.ipx_settings.specs.WritingLines.{bytes_digits, line_words}
use Rattle.ipx_settings.specs.declared.expected.Expected.TheVariants as expected
use Rattle.ipx_settings.specs.declared.internal.InternalBegun.TheVariants as internal
use Rattle.ipx_settings.specs.declared.line.Context.{Context}
use Rattle.ipx_settings.specs.declared.link.Cards.TheVariants as has
use Rattle.ipx_settings.specs.declared.line.Line.TheVariants as line
use Rattle.ipx_settings.specs.declared.reading.Reading.{Reading}

abbrev somewhere : Context
somewhere = record { cards = has.All; is_below_tunnel = false; most_clients = 4096 }

abbrev read : List ℕ → Reading
read text = reading_of somewhere text

abbrev a_node : List ℕ
a_node = 2 ∷ 0 ∷ 0x5E ∷ 0 ∷ 0 ∷ 1 ∷ []

pub a_number : read (codes "internal A1 # the router's own") ≡ read_to (line.Internal (internal.Number 0xA1)) 2 None
a_number = refl

pub with_a_node : read (codes "internal FFFFFFFD node 02005E000001") ≡ read_to (line.Internal (internal.Whole 0xFFFFFFFD a_node)) 4 None
with_a_node = refl

pub no_number : read (codes "internal") ≡ read_to (line.Internal internal.Nothing) 1 (Some expected.Network)
no_number = refl

pub the_default_route : read (codes "internal FFFFFFFE") ≡ read_to (line.Internal internal.Nothing) 1 (Some expected.Network)
the_default_route = refl

pub a_cost : read (codes "internal A1 1") ≡ read_to (line.Internal (internal.Number 0xA1)) 2 (Some expected.NodeWord)
a_cost = refl

pub no_node : read (codes "internal A1 node") ≡ read_to (line.Internal (internal.Node 0xA1)) 3 (Some expected.Node)
no_node = refl

pub a_groups_node : read (codes "internal A1 node FFFFFFFFFFFF") ≡ read_to (line.Internal (internal.Node 0xA1)) 3 (Some expected.Node)
a_groups_node = refl

pub one_more : read (codes "internal A1 node 02005E000001 1") ≡ read_to (line.Internal (internal.Whole 0xA1 a_node)) 4 (Some expected.Nothing)
one_more = refl

pub written : spaced (line_words (line.Internal (internal.Whole 0xA1 a_node))) ≡ codes "internal 000000A1 node 02005E000001"
unfolding bytes_digits
written = refl

pub written_without_a_node : spaced (line_words (line.Internal (internal.Number 0xA1))) ≡ codes "internal 000000A1"
unfolding bytes_digits
written_without_a_node = refl
