-- Lines that begin with adopt.
use Rattle.std.proofs.Common.{◌≡◌, refl, true, false, ℕ, List, Some, None}
use Rattle.std.specs.Prelude.{codes}
use Rattle.ipx_settings.specs.Lines.{reading_of, read_to}
use Rattle.ipx_settings.specs.WritingLinks.{spaced}
use Rattle.ipx_settings.specs.WritingLines.{line_words}
use Rattle.ipx_settings.specs.declared.expected.Expected.TheVariants as expected
use Rattle.ipx_settings.specs.declared.line.Context.{Context}
use Rattle.ipx_settings.specs.declared.link.Cards.TheVariants as has
use Rattle.ipx_settings.specs.declared.line.Line.TheVariants as line
use Rattle.ipx_settings.specs.declared.reading.Reading.{Reading}

abbrev somewhere : Context
somewhere = record { cards = has.All; is_below_tunnel = false; most_clients = 4096 }

abbrev read : List ℕ → Reading
read text = reading_of somewhere text

pub the_word : read (codes "adopt no # as it was") ≡ read_to (line.Adopt true) 2 None
the_word = refl

pub no_word : read (codes "adopt") ≡ read_to (line.Adopt false) 1 (Some expected.No)
no_word = refl

pub another : read (codes "adopt yes") ≡ read_to (line.Adopt false) 1 (Some expected.No)
another = refl

pub one_more : read (codes "adopt no no") ≡ read_to (line.Adopt true) 2 (Some expected.Nothing)
one_more = refl

pub written : spaced (line_words (line.Adopt true)) ≡ codes "adopt no"
written = refl
