-- What lines say of networks and links.
use Rattle.std.specs.Prelude.{ℕ, ◌+◌, Bool, ◌==◌, nat_lt, if◌then◌else◌, List, [], ◌∷◌, take, replicate, slice_set}
use Rattle.std.specs.List.{list_any}
use Rattle.ipx_settings.specs.Names.{origin_room}
use Rattle.ipx_settings.specs.declared.addresses.HostRange.{HostRange}
use Rattle.ipx_configuration.specs.declared.carrier.Carrier.{Carrier}
use Rattle.ipx_configuration.specs.declared.said.ClientsSaid.{ClientsSaid}
use Rattle.ipx_configuration.specs.declared.said.InternalSaid.{InternalSaid}
use Rattle.ipx_configuration.specs.declared.said.LinkSetting.{LinkSetting}
use Rattle.ipx_configuration.specs.declared.said.NumberSaid.{NumberSaid}
use Rattle.ipx_configuration.specs.declared.said.OriginSaid.{OriginSaid}
use Rattle.ipx_configuration.specs.declared.said.Origins.{Origins}
use Rattle.ipx_configuration.specs.declared.said.Ranges.{Ranges}
use Rattle.ipx_configuration.specs.declared.said.RateSaid.{RateSaid}
use Rattle.ipx_configuration.specs.declared.said.Sockets.{Sockets}

-- the most sockets that a network extends, and ranges or origins of a list
abbrev pub most_sockets : ℕ
most_sockets = 16

abbrev pub most_ranges : ℕ
most_ranges = 16

-- ---- lists: the first so many places of memory

abbrev pub no_sockets : Sockets
no_sockets = record { list = replicate 16 0; count = 0 }

abbrev pub has_socket : Sockets → ℕ → Bool
has_socket s socket = list_any (λ other. other == socket) (take s.count s.list)

abbrev pub with_socket : Sockets → ℕ → Sockets
with_socket s socket =
    if nat_lt s.count most_sockets then record { list = slice_set s.list s.count socket; count = s.count + 1 } else s

abbrev pub no_range : HostRange
no_range = record { first = replicate 4 0; bits = 0 }

abbrev pub no_ranges : Ranges
no_ranges = record { list = replicate 16 no_range; count = 0 }

-- the room for an origin
abbrev pub no_origin : OriginSaid
no_origin = record { text = replicate origin_room 0 }

abbrev pub no_origins : Origins
no_origins = record { list = replicate 16 no_origin; count = 0 }

abbrev pub origin_said : List ℕ → OriginSaid
origin_said text = record { text = text }

abbrev pub with_origin : Origins → List ℕ → Origins
with_origin o text =
    if nat_lt o.count most_ranges then record { list = slice_set o.list o.count (origin_said text); count = o.count + 1 } else o

abbrev pub with_range : Ranges → HostRange → Ranges
with_range r range =
    if nat_lt r.count most_ranges then record { list = slice_set r.list r.count range; count = r.count + 1 } else r

-- ---- what no line says

abbrev pub no_clients : ClientsSaid
no_clients = record { line = 0; all = 0; of_address = 0 }

abbrev pub no_rate : RateSaid
no_rate = record { line = 0; rate = 0; share = 0; household = 0 }

abbrev pub no_number : NumberSaid
no_number = record { line = 0; number = 0 }

abbrev pub no_internal : InternalSaid
no_internal = record { line = 0; number = 0; node = replicate 6 0 }

-- the router's node in its own network, where the line doesn't say one
abbrev pub usual_node : List ℕ
usual_node = 0 ∷ 0 ∷ 0 ∷ 0 ∷ 0 ∷ 1 ∷ []

abbrev pub link_at : ℕ → ℕ → Carrier → ClientsSaid → RateSaid → NumberSaid → NumberSaid → Ranges → Ranges → ℕ → Origins → LinkSetting
link_at line network carrier clients rate strangers kilobits allowed trusted nodes_line origins = record {
  line = line;
  network = network;
  carrier = carrier;
  clients = clients;
  rate = rate;
  strangers = strangers;
  kilobits = kilobits;
  allowed = allowed;
  trusted = trusted;
  nodes_line = nodes_line;
  origins = origins;
}

-- a link of which its own line alone says something
abbrev pub new_link : ℕ → ℕ → Carrier → LinkSetting
new_link line network carrier = link_at line network carrier no_clients no_rate no_number no_number no_ranges no_ranges 0 no_origins
