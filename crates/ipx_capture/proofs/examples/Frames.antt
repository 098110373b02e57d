-- The request in a frame of each kind, and frames that carry none.
use Rattle.std.proofs.Common.{◌≡◌, ℕ, List, [], ◌∷◌, ◌++◌, refl, lit<, take, Some, None}
use Rattle.ipx_capture.specs.Frame.{EthernetII, Raw, Llc, Snap, IsFrame, frame_of}
use Rattle.ipx_capture.proofs.examples.Words.{request, addresses, typed}

abbrev raw : List ℕ
raw = addresses ++ (0x00 ∷ 0x28 ∷ []) ++ request

abbrev llc : List ℕ
llc = addresses ++ (0x00 ∷ 0x2B ∷ 0xE0 ∷ 0xE0 ∷ 0x03 ∷ []) ++ request

abbrev snap : List ℕ
snap = addresses ++ (0x00 ∷ 0x30 ∷ 0xAA ∷ 0xAA ∷ 0x03 ∷ 0x00 ∷ 0x00 ∷ 0x00 ∷ 0x81 ∷ 0x37 ∷ []) ++ request

pub typed_read : frame_of typed ≡ Some (EthernetII, request)
typed_read = refl

pub typed_is : IsFrame typed EthernetII request
typed_is = record { addresses = addresses; twelve = refl; layout = refl }

pub raw_read : frame_of raw ≡ Some (Raw, request)
raw_read = refl

pub raw_is : IsFrame raw Raw request
raw_is = (record { addresses = addresses; field = 0x00 ∷ 0x28 ∷ []; twelve = refl; two = refl; small = lit< tt; layout = refl }, (_, refl))

pub llc_read : frame_of llc ≡ Some (Llc, request)
llc_read = refl

pub llc_is : IsFrame llc Llc request
llc_is = record { addresses = addresses; field = 0x00 ∷ 0x2B ∷ []; twelve = refl; two = refl; small = lit< tt; layout = refl }

pub snap_read : frame_of snap ≡ Some (Snap, request)
snap_read = refl

pub snap_is : IsFrame snap Snap request
snap_is = record { addresses = addresses; field = 0x00 ∷ 0x30 ∷ []; twelve = refl; two = refl; small = lit< tt; layout = refl }

-- type 0800h
pub internet_protocol : frame_of (addresses ++ (0x08 ∷ 0x00 ∷ 0x45 ∷ [])) ≡ None
internet_protocol = refl

-- a protocol other than 8137h behind an 802.2 header
pub other_protocol : frame_of (addresses ++ (0x00 ∷ 0x08 ∷ 0xAA ∷ 0xAA ∷ 0x03 ∷ 0x00 ∷ 0x00 ∷ 0x00 ∷ 0x08 ∷ 0x00 ∷ [])) ≡ None
other_protocol = refl

-- too few bytes for a type
pub cut_short : frame_of (take 13 typed) ≡ None
cut_short = refl
