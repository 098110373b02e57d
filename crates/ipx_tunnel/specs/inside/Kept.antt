-- What a tunnel does with the clients that it keeps.
use Rattle.std.specs.Prelude.{ℕ, ◌-◌, Bool, ◌==◌, ◌%◌, nat_lt, if◌then◌else◌, List, [], ◌∷◌, ◌++◌, map}
use Rattle.ipx_wire.specs.declared.node.Node.{Node}
use Rattle.ipx_tunnel.specs.declared.client.Client.{Client}
use Rattle.ipx_tunnel.specs.declared.sender.Sender.{Sender}
use Rattle.ipx_tunnel.specs.Numbers.{ping_every}
use Rattle.ipx_tunnel.specs.declared.setting.Setting.{Setting}
use Rattle.ipx_tunnel.specs.Places.{same_node}
use Rattle.ipx_tunnel.specs.Clients.{is_open}

abbrev pub places_of : List Client → List Node
places_of clients = map (λ c. c.place) clients

-- somebody as a client that was heard now
abbrev pub fresh : Sender → ℕ → Client
fresh from lasts = record { place = from.place; cookie = from.cookies.current; seconds_left = lasts }

-- a client after somebody was heard: it, or another one
abbrev pub refreshed : Sender → ℕ → Client → Client
refreshed from lasts c = if same_node c.place from.place then record { place = c.place; cookie = from.cookies.current; seconds_left = lasts } else c

-- the clients after somebody was heard
abbrev pub with_heard : Setting → Sender → ℕ → List Client → List Client
with_heard setting from lasts clients =
    map (refreshed from lasts) clients ++ (if is_open setting from.place (places_of clients) then fresh from lasts ∷ [] else [])

-- the clients after somebody said something, which counts so many seconds or doesn't
abbrev pub admitted : Setting → Sender → ℕ → List Client → List Client
admitted setting from lasts clients = if nat_lt 0 lasts then with_heard setting from lasts clients else clients

-- a client a second later
abbrev pub later : Client → Client
later c = record { place = c.place; cookie = c.cookie; seconds_left = c.seconds_left - 1 }

abbrev pub stays : Client → Bool
stays c = nat_lt 0 c.seconds_left

abbrev pub pings_now : Client → Bool
pings_now c = c.seconds_left % ping_every == 0
