-- What `frame` answers, as kind and packet.
use Rattle.std.specs.Prelude.{ℕ, List, Option, Some, None}
use Rattle.ipx_capture.specs.Frame as kinds
use Rattle.ipx_capture.specs.declared.kinds.Frame.{Frame}
use Rattle.ipx_capture.specs.declared.kinds.Frame.TheVariants.{EthernetII, Raw, Llc, Snap, Other}

-- kind and packet, or none for a frame that carries none
abbrev pub framed : Frame → Option (kinds.Kind × List ℕ)
framed (EthernetII packet) = Some (kinds.EthernetII, packet.now)
framed (Raw packet) = Some (kinds.Raw, packet.now)
framed (Llc packet) = Some (kinds.Llc, packet.now)
framed (Snap packet) = Some (kinds.Snap, packet.now)
framed Other = None
