-- What C wants written as a line of a configuration has it.
use Rattle.std.specs.Prelude.{ℕ, ◌==◌, ◌&&◌, if◌then◌else◌, List, slice_index, Option, Some, None}
use Rattle.std.specs.Option.{option_map, option_and_then, unwrap_or}
use Rattle.ipx_settings.specs.Writing.{written_size, written_into}
use Rattle.ipx_settings.specs.WritingLinks.{spaced, link_words}
use Rattle.ipx_settings.specs.declared.addresses.Address.{Address}
use Rattle.ipx_settings.specs.declared.addresses.Host.TheVariants.{Four, Six}
use Rattle.ipx_settings.specs.declared.addresses.Place.{Place}
use Rattle.ipx_settings.specs.declared.addresses.Place.TheVariants.{At, Named}
use Rattle.ipx_settings.specs.declared.link.End.{End}
use Rattle.ipx_settings.specs.declared.link.End.TheVariants as ends
use Rattle.ipx_settings.specs.declared.link.Frames.{Frames}
use Rattle.ipx_settings.specs.declared.link.Frames.TheVariants.{Ethernet2, Raw, Llc, Snap, Any}
use Rattle.ipx_settings.specs.declared.link.Link.{Link}
use Rattle.ipx_settings.specs.declared.link.Link.TheVariants as link
use Rattle.ipx_c.specs.declared.settings_values.HostValues.{HostValues}
use Rattle.ipx_c.specs.declared.settings_values.LinkSaid.{LinkSaid}

abbrev pub address_of : HostValues → Address
address_of host = record { host = if host.is_six then Six host.six else Four host.four; port = host.port }

-- by a name, where there is one
abbrev pub place_of : HostValues → List ℕ → Place
place_of remote name = if slice_index name 0 == 0 then At (address_of remote) else Named name remote.port

abbrev pub frames_of : ℕ → Option Frames
frames_of number =
    if number == 1 then Some Ethernet2
    else if number == 2 then Some Raw
    else if number == 3 then Some Llc
    else if number == 4 then Some Snap
    else if number == 5 then Some Any
    else None

abbrev pub end_of : LinkSaid → Option End
end_of it =
    if it.carrier == 2 then Some (ends.Udp (address_of it.local) (place_of it.remote it.host))
    else if it.carrier == 3 then Some (ends.Listen (address_of it.local))
    else if it.carrier == 4 then Some (ends.Connect (place_of it.remote it.host))
    else if it.carrier == 5 then Some (ends.Tap it.name)
    else if it.carrier == 6 then Some (ends.Interface it.name)
    else if it.carrier == 7 then Some (ends.Group (address_of it.remote) it.local.four)
    else if it.carrier == 8 then Some (ends.Switch it.host)
    else if it.carrier == 9 then Some (ends.Web (address_of it.local))
    else if it.carrier == 10 then Some (ends.Peers (address_of it.local) it.host)
    else None

-- the link that these values are, if they are one
abbrev pub link_of : LinkSaid → Option Link
link_of it =
    if it.carrier == 1 then Some (link.Tunnel (address_of it.local))
    else if (it.carrier == 9) && (it.frames == 0) then Some (link.Web (address_of it.local))
    else if it.carrier == 11 then Some (link.Rfc1234 (address_of it.local))
    else option_and_then (λ end. option_map (link.Framed end) (frames_of it.frames)) (end_of it)

-- how many bytes its words have, 0 where they don't have room; what is no link has none
abbrev pub link_size : Option Link → List ℕ → ℕ
link_size None room = 0
link_size (Some it) room = unwrap_or (written_size (spaced (link_words it)) room) 0

abbrev pub link_into : Option Link → List ℕ → List ℕ
link_into None room = room
link_into (Some it) room = written_into (spaced (link_words it)) room
