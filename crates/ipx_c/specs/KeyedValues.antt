-- What crosses to C in a struct, as a tunnel with keyed nodes knows it.
use Rattle.ipx_keyed.specs.declared.client.Client.{Client}
use Rattle.ipx_keyed.specs.declared.sender.Sender.{Sender}
use Rattle.ipx_keyed.specs.declared.setting.Setting.{Setting}
use Rattle.ipx_c.specs.TunnelValues.{node_of}
use Rattle.ipx_c.specs.declared.keyed_values.KeyedMember.{KeyedMember}
use Rattle.ipx_c.specs.declared.keyed_values.KeyedSender.{KeyedSender}
use Rattle.ipx_c.specs.declared.keyed_values.KeyedSetting.{KeyedSetting}

-- the setting that has these values
abbrev pub setting_of : KeyedSetting → Setting
setting_of v = record {
  network = record { 0 = v.network };
  node = node_of v.node;
  capacity = v.capacity;
  share = v.share;
  remembered = v.remembered;
  remembered_share = v.remembered_share;
}

-- who sent a datagram
abbrev pub sender_of : KeyedSender → Sender
sender_of v = record {
  place = node_of v.place;
  node = node_of v.node;
  former = node_of v.former;
  cookies = record { current = node_of v.current; previous = node_of v.previous };
  is_trusted = v.is_trusted;
  may_register = v.may_register;
}

-- a client, or one who is remembered, without its cookie
abbrev pub member_of : Client → KeyedMember
member_of client = record { place = client.place.0; node = client.node.0; seconds_left = client.seconds_left }
