-- What crosses to C in a struct, as a tunnel knows it.
use Rattle.std.specs.Prelude.{ℕ, List}
use Rattle.ipx_wire.specs.Header.{header_bytes}
use Rattle.ipx_wire.specs.declared.node.Node.{Node}
use Rattle.ipx_tunnel.specs.Own.{header_of}
use Rattle.ipx_tunnel.specs.declared.client.Client.{Client}
use Rattle.ipx_tunnel.specs.declared.own.Own.{Own}
use Rattle.ipx_tunnel.specs.declared.sender.Sender.{Sender}
use Rattle.ipx_tunnel.specs.declared.setting.Setting.{Setting}
use Rattle.ipx_c.specs.declared.tunnel_values.ClientRecord.{ClientRecord}
use Rattle.ipx_c.specs.declared.tunnel_values.OwnRecord.{OwnRecord}
use Rattle.ipx_c.specs.declared.tunnel_values.SenderValues.{SenderValues}
use Rattle.ipx_c.specs.declared.tunnel_values.TunnelSetting.{TunnelSetting}

abbrev pub node_of : List ℕ → Node
node_of bytes = record { 0 = bytes }

-- the setting that has these values
abbrev pub setting_of : TunnelSetting → Setting
setting_of v = record { network = record { 0 = v.network }; node = node_of v.node; capacity = v.capacity; share = v.share }

-- who sent a datagram
abbrev pub sender_of : SenderValues → Sender
sender_of v = record {
  place = node_of v.place;
  cookies = record { current = node_of v.current; previous = node_of v.previous };
  is_trusted = v.is_trusted;
}

-- a datagram of the tunnel's own: where it goes, and its bytes
abbrev pub own_record : Own → OwnRecord
own_record own = record { place = own.place.0; bytes = header_bytes (header_of own) }

-- a client without its cookie
abbrev pub client_record : Client → ClientRecord
client_record client = record { place = client.place.0; seconds_left = client.seconds_left }
