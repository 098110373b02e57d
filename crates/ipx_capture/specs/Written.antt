-- The frame in which a packet is sent: the layouts of `Frame`, with the fields that a sender writes, and padding behind the packet.
use Rattle.std.specs.Prelude.{ℕ, ◌+◌, ◌-◌, Bool, true, nat_le, ◌&&◌, if◌then◌else◌, List, [], ◌∷◌, ◌++◌, length, drop, replicate, Option, Some, None}
use Rattle.std.specs.Int.{to_be_bytes, w16}
use Rattle.ipx_capture.specs.Frame.{Kind, EthernetII, Raw, Llc, Snap, llc_front, snap_front, begins}
use Rattle.ipx_capture.specs.declared.kinds.FrameKind.{FrameKind}
use Rattle.ipx_capture.specs.declared.kinds.FrameKind.TheVariants as code

-- the kind that the code's value stands for
abbrev pub kind_of : FrameKind → Kind
kind_of code.EthernetII = EthernetII
kind_of code.Raw = Raw
kind_of code.Llc = Llc
kind_of code.Snap = Snap

-- bytes of the shortest frame, and the most that one carries behind its type or length
abbrev pub shortest_frame : ℕ
shortest_frame = 60

abbrev pub most_carried : ℕ
most_carried = 1500

-- what stands before the packet, behind the type or length
abbrev pub front_of : Kind → List ℕ
front_of EthernetII = []
front_of Raw = []
front_of Llc = llc_front
front_of Snap = snap_front

-- the type of IPX, or how many bytes are carried
abbrev pub field_of : Kind → ℕ → ℕ
field_of EthernetII carried = 0x8137
field_of Raw carried = carried
field_of Llc carried = carried
field_of Snap carried = carried

-- a raw frame is known by a packet without a checksum
abbrev pub may_carry : Kind → List ℕ → Bool
may_carry EthernetII packet = true
may_carry Raw packet = begins (0xFF ∷ 0xFF ∷ []) packet
may_carry Llc packet = true
may_carry Snap packet = true

-- how many bytes a kind carries for a packet
abbrev pub carried : Kind → List ℕ → ℕ
carried kind packet = length (front_of kind) + length packet

-- where its packet ends
abbrev pub used : Kind → List ℕ → ℕ
used kind packet = 14 + length (front_of kind) + length packet

-- zeros up to the shortest frame
abbrev pub padding : Kind → List ℕ → List ℕ
padding kind packet = replicate (shortest_frame - used kind packet) 0

-- the whole frame: from whom it is stands behind to whom
unfoldable pub written : Kind → List ℕ → List ℕ → List ℕ → List ℕ
written kind to from packet =
    to ++ from ++ to_be_bytes w16 (field_of kind (carried kind packet)) ++ front_of kind ++ packet ++ padding kind packet

-- how long it is
abbrev pub written_size : Kind → List ℕ → ℕ
written_size kind packet = used kind packet + (shortest_frame - used kind packet)

-- whether a kind can carry a packet
abbrev pub is_carried : Kind → List ℕ → Bool
is_carried kind packet = may_carry kind packet && nat_le (carried kind packet) most_carried

-- whether a buffer of that many bytes takes the frame
abbrev pub is_written : Kind → List ℕ → ℕ → Bool
is_written kind packet room = is_carried kind packet && nat_le (written_size kind packet) room

-- how long the frame is, where it is written
abbrev pub count_written : Kind → List ℕ → ℕ → Option ℕ
count_written kind packet room = if is_written kind packet room then Some (written_size kind packet) else None

-- what a buffer has then: the frame, and behind it what it had
abbrev pub buffer_written : Kind → List ℕ → List ℕ → List ℕ → List ℕ → List ℕ
buffer_written kind to from packet old =
    if is_written kind packet (length old) then written kind to from packet ++ drop (written_size kind packet) old else old
