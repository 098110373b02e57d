-- Lines that begin with nodes.
use Rattle.std.proofs.Common.{◌≡◌, refl, true, false, ℕ, List, Some, None}
use Rattle.std.specs.Prelude.{codes}
use Rattle.ipx_settings.specs.Lines.{reading_of, read_to}
use Rattle.ipx_settings.specs.WritingLinks.{spaced}
use Rattle.ipx_settings.specs.WritingLines.{line_words}
use Rattle.ipx_settings.specs.declared.expected.Expected.TheVariants as expected
use Rattle.ipx_settings.specs.declared.line.Context.{Context}
use Rattle.ipx_settings.specs.declared.link.Cards.TheVariants as has
use Rattle.ipx_settings.specs.declared.line.Line.TheVariants as line
use Rattle.ipx_settings.specs.declared.reading.Reading.{Reading}

abbrev below_a_tunnel : Context
below_a_tunnel = record { cards = has.All; is_below_tunnel = true; most_clients = 4096 }

abbrev read : List ℕ → Reading
read text = reading_of below_a_tunnel text

pub the_word : read (codes "nodes by-address # old programs") ≡ read_to (line.Nodes true) 2 None
the_word = refl

pub no_word : read (codes "nodes") ≡ read_to (line.Nodes false) 1 (Some expected.ByAddress)
no_word = refl

pub another : read (codes "nodes by-name") ≡ read_to (line.Nodes false) 1 (Some expected.ByAddress)
another = refl

pub one_more : read (codes "nodes by-address 1") ≡ read_to (line.Nodes true) 2 (Some expected.Nothing)
one_more = refl

pub written : spaced (line_words (line.Nodes true)) ≡ codes "nodes by-address"
written = refl
