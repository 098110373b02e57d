-- Files by the grammar: a recording of three blocks, packets in the three forms, and a file that is refused.
use Rattle.std.proofs.Common.{◌≡◌, ℕ, List, [], ◌∷◌, ◌++◌, refl, arith}
use Rattle.ipx_capture.proofs.examples.Words.{typed, zeros}
use Rattle.ipx_capture.specs.declared.order.Order.TheVariants.{Little}
use Rattle.ipx_recording.specs.Blocks.{IsSection, IsInterface, IsPacket, enhanced, old, simple}
use Rattle.ipx_recording.specs.Chain.{Place, AreBlocks, IsFile, start, section, interface, packet, none, more}
use Rattle.ipx_recording.specs.Differs.{IsRefused, IsWrong, differs, wrong, of_none, two_lengths, cut, no_length, Nothing}
use Rattle.ipx_recording.specs.Differs as say
use Rattle.ipx_recording.specs.Met.{fields_of}
use Rattle.ipx_recording.specs.declared.interface.Interface.{Interface}
use Rattle.ipx_recording.specs.declared.recording_fault.RecordingFault.TheVariants.{NoInterface}
use Rattle.ipx_recording.proofs.examples.Words as words
use Rattle.ipx_recording.proofs.examples.Words.{section_fields, little_section, little_interface, little_packet, packet_fields}

-- all is kept of a packet of Ethernet
abbrev pub ethernet : Interface
ethernet = record { link = 1; most = 0 }

abbrev pub opened : Place
opened = record { order = Little; interfaces = []; number = 1 }

abbrev pub described : Place
described = record { order = Little; interfaces = ethernet ∷ []; number = 1 }

is_section : IsSection Little little_section
is_section = record {
  front = section_fields;
  options = [];
  again = 28 ∷ 0 ∷ 0 ∷ 0 ∷ [];
  layout = refl;
  fields = refl;
  mark_is = refl;
  order_is = refl;
  version = refl;
  long = record { four = refl; fours = refl; in_front = refl; at_end = refl };
}

is_interface : IsInterface Little ethernet (little_interface 1)
is_interface = record {
  front = 1 ∷ 0 ∷ 0 ∷ 0 ∷ 20 ∷ 0 ∷ 0 ∷ 0 ∷ 1 ∷ 0 ∷ 0 ∷ 0 ∷ zeros;
  options = [];
  again = 20 ∷ 0 ∷ 0 ∷ 0 ∷ [];
  layout = refl;
  fields = refl;
  kind = refl;
  link = refl;
  most = refl;
  long = record { four = refl; fours = refl; in_front = refl; at_end = refl };
}

-- 54 bytes kept of 54, and two that pad a block
abbrev pub padding : List ℕ
padding = 0 ∷ 0 ∷ []

abbrev pub wire : List ℕ
wire = 54 ∷ 0 ∷ 0 ∷ 0 ∷ []

pub is_packet : IsPacket Little (ethernet ∷ []) 1 54 typed (little_packet 0)
is_packet = record {
  front = 6 ∷ 0 ∷ 0 ∷ 0 ∷ 88 ∷ 0 ∷ 0 ∷ 0 ∷ 0 ∷ 0 ∷ 0 ∷ 0 ∷ (zeros ++ zeros ++ wire);
  on_wire = wire;
  options = padding;
  again = 88 ∷ 0 ∷ 0 ∷ 0 ∷ [];
  layout = refl;
  four = refl;
  of = ethernet;
  fields = enhanced refl refl;
  link_is = refl;
  wire_is = refl;
  few = omega arith;
  long = record { four = refl; fours = refl; in_front = refl; at_end = refl };
}

-- the old form: two bytes for the interface, and two for packets lost
pub is_old_packet : IsPacket Little (ethernet ∷ []) 1 54 typed words.old_packet
is_old_packet = record {
  front = 2 ∷ 0 ∷ 0 ∷ 0 ∷ 88 ∷ 0 ∷ 0 ∷ 0 ∷ 0 ∷ 0 ∷ 7 ∷ 0 ∷ (zeros ++ zeros ++ wire);
  on_wire = wire;
  options = padding;
  again = 88 ∷ 0 ∷ 0 ∷ 0 ∷ [];
  layout = refl;
  four = refl;
  of = ethernet;
  fields = old refl refl;
  link_is = refl;
  wire_is = refl;
  few = omega arith;
  long = record { four = refl; fours = refl; in_front = refl; at_end = refl };
}

-- a simple packet, of which the interface keeps no more than 54 bytes
pub is_simple_packet : IsPacket Little (record { link = 9; most = 54 } ∷ []) 9 60 typed words.simple_packet
is_simple_packet = record {
  front = 3 ∷ 0 ∷ 0 ∷ 0 ∷ 72 ∷ 0 ∷ 0 ∷ 0 ∷ [];
  on_wire = 60 ∷ 0 ∷ 0 ∷ 0 ∷ [];
  options = padding;
  again = 72 ∷ 0 ∷ 0 ∷ 0 ∷ [];
  layout = refl;
  four = refl;
  of = record { link = 9; most = 54 };
  fields = simple refl refl;
  link_is = refl;
  wire_is = refl;
  few = omega arith;
  long = record { four = refl; fours = refl; in_front = refl; at_end = refl };
}

-- a section, an interface and a packet are a recording with that packet
two_blocks : AreBlocks start (little_section ++ little_interface 1) [] described
two_blocks = more {next = opened} {block = little_section} (section is_section) (more {next = described} {block = little_interface 1} (interface is_interface (omega arith)) none)

pub a_recording : IsFile (little_section ++ little_interface 1 ++ little_packet 0) (words.packet 1 1 ∷ [])
a_recording = record {
  marked = refl;
  end = record { order = Little; interfaces = ethernet ∷ []; number = 2 };
  blocks = more {next = opened} {block = little_section} (section is_section)
      (more {next = described} {block = little_interface 1} (interface is_interface (omega arith)) (more {block = little_packet 0} (packet is_packet) none));
}

-- a packet of a second interface differs, behind two blocks
fields_there : fields_of 6 ≡ 24
unfolding fields_of
fields_there = refl

pub a_refusal : IsRefused (little_section ++ little_interface 1 ++ little_packet 1) [] NoInterface
a_refusal =
    differs {front = little_section ++ little_interface 1} {rest = little_packet 1} (omega arith) refl refl two_blocks
    (wrong (omega arith) (omega (arith, fields_there)) (of_none (say.enhanced refl refl)))
