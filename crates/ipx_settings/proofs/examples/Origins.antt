-- Lines that begin with origins.
use Rattle.std.proofs.Common.{◌≡◌, refl, true, false, ℕ, List, Some, None}
use Rattle.std.specs.Prelude.{codes}
use Rattle.ipx_settings.specs.Lines.{reading_of, read_to}
use Rattle.ipx_settings.specs.Names.{padded, origin_room, origin_of}
use Rattle.ipx_settings.specs.declared.expected.Expected.TheVariants as expected
use Rattle.ipx_settings.specs.declared.line.Context.{Context}
use Rattle.ipx_settings.specs.declared.line.Line.TheVariants as line
use Rattle.ipx_settings.specs.declared.link.Cards.TheVariants as has
use Rattle.ipx_settings.specs.declared.reading.Reading.{Reading}

abbrev below_a_tunnel : Context
below_a_tunnel = record { cards = has.None; is_below_tunnel = true; most_clients = 4096 }

abbrev read : List ℕ → Reading
read text = reading_of below_a_tunnel text

pub some_pages : read (codes "origins https://games.example http://127.0.0.1:8000") ≡ read_to (line.Origins true) 3 None
some_pages = refl

pub all_pages : read (codes "origins *") ≡ read_to (line.Origins true) 2 None
all_pages = refl

pub no_origin : read (codes "origins") ≡ read_to (line.Origins false) 1 (Some expected.Origin)
no_origin = refl

pub no_scheme : read (codes "origins games.example") ≡ read_to (line.Origins false) 1 (Some expected.Origin)
no_scheme = refl

pub a_slash_behind : read (codes "origins https://games.example/") ≡ read_to (line.Origins false) 1 (Some expected.Origin)
a_slash_behind = refl

pub no_host : read (codes "origins * https://") ≡ read_to (line.Origins true) 2 (Some expected.Origin)
no_host = refl

pub with_zeros_behind : origin_of (codes "http://a") ≡ Some (padded origin_room (codes "http://a"))
with_zeros_behind = refl
