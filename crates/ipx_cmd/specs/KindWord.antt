-- The words of the kinds of frames.
use Rattle.std.specs.Prelude.{ℕ, List, codes}
use Rattle.ipx_capture.specs.Frame.{Kind, EthernetII, Raw, Llc, Snap}

-- how a frame carries its packet, in a word
abbrev pub kind_word : Kind → List ℕ
kind_word EthernetII = codes "EthernetII"
kind_word Raw = codes "Raw"
kind_word Llc = codes "Llc"
kind_word Snap = codes "Snap"
