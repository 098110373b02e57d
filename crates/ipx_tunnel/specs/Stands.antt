-- A tunnel stands for a history: it has the clients of the history, in the order in which they came, and no others.
use Rattle.std.specs.Prelude.{◌≡◌, List, map}
use Rattle.ipx_wire.specs.declared.node.Node.{Node}
use Rattle.ipx_tunnel.specs.declared.client.Client.{Client}
use Rattle.ipx_tunnel.specs.declared.setting.Setting.{Setting}
use Rattle.ipx_tunnel.specs.Events.{History}
use Rattle.ipx_tunnel.specs.Clients.{seconds_left, cookie, clients}

-- what a tunnel has
pub record State : Type 0 where
  pub setting : Setting
  pub clients : List Client

-- a client as a tunnel keeps it
abbrev pub client_at : Setting → History → Node → Client
client_at setting history place = record {
  place = place;
  cookie = cookie setting place history;
  seconds_left = seconds_left setting place history;
}

abbrev pub Stands : State → History → Type 0
Stands state history = state.clients ≡ map (client_at state.setting history) (clients state.setting history)
