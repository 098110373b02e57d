-- What may not stand beside each other.
use Rattle.std.specs.Prelude.{ℕ, Bool, true, false, not, ◌==◌, ◌&&◌, ◌||◌, if◌then◌else◌, nat_lt, List, [], ◌∷◌, Option, Some, None, slice_get}
use Rattle.std.specs.List.{position}
use Rattle.std.specs.Option.{is_some, unwrap_or, option_map}
use Rattle.ipx_settings.specs.Cutting.{◌>>=◌}
use Rattle.ipx_settings.specs.declared.expected.Expected.{Expected}
use Rattle.ipx_settings.specs.declared.expected.Expected.TheVariants as expected
use Rattle.ipx_settings.specs.declared.link.Link.TheVariants as link
use Rattle.ipx_settings.specs.declared.link.LinkBegun.{LinkBegun}
use Rattle.ipx_settings.specs.declared.link.LinkBegun.TheVariants as begun
use Rattle.ipx_configuration.specs.Carriers.{tunnel, peers, any_frames, carrier_of, same_carrier, take_the_same, share_a_path, may_hear_itself, longest_of}
use Rattle.ipx_configuration.specs.declared.carrier.Carrier.{Carrier}
use Rattle.ipx_configuration.specs.declared.fault.Fault.{Fault}
use Rattle.ipx_configuration.specs.declared.fault.Fault.TheVariants as fault
use Rattle.ipx_configuration.specs.declared.said.LinkSetting.{LinkSetting}

-- ---- checks, of which the first that fails is told

abbrev pub when : Bool → Fault → Option Fault
when true f = Some f
when false f = None

abbrev pub first_of : List (Option Fault) → Option Fault
first_of [] = None
first_of (Some f ∷ checks) = Some f
first_of (None ∷ checks) = first_of checks

-- what is wrong with the line by itself
abbrev pub line_fault : Option Expected → Option Fault
line_fault own = option_map fault.Line own

-- ---- links beside each other

-- on one carrier links are told apart by their kinds of frames
abbrev pub kind_clash : ℕ → ℕ → ℕ → Option Fault
kind_clash frames other line =
    if other == any_frames then Some (fault.OtherCarrier line)
    else if frames == any_frames then Some (fault.OneKind line)
    else when (frames == other) (fault.OtherKind line)

-- clients by WebSocket would come by one path to a network
abbrev pub is_on_path : ℕ → Carrier → LinkSetting → Bool
is_on_path network carrier other = (network == other.network) && share_a_path carrier other.carrier

-- a network has one link of peers
abbrev pub are_of_peers : ℕ → Carrier → LinkSetting → Bool
are_of_peers network carrier other = (network == other.network) && (carrier.number == peers) && (other.carrier.number == peers)

-- two links are on one carrier with different kinds of frames, or take different addresses of this machine, or have different paths there
-- (the first is of the network with that number)
abbrev pub clash : ℕ → Carrier → LinkSetting → Option Fault
clash network carrier other =
    if not (carrier.number == tunnel) && same_carrier carrier other.carrier then kind_clash carrier.frames other.carrier.frames other.line
    else first_of (
    when (take_the_same carrier other.carrier || is_on_path network carrier other) (fault.OtherPort other.line)
    ∷ when (are_of_peers network carrier other) (fault.OnePeers other.line)
    ∷ [])

abbrev pub clashes : ℕ → Carrier → LinkSetting → Bool
clashes network carrier other = is_some (clash network carrier other)

-- the first link that it may not stand beside
abbrev pub first_clash : ℕ → Carrier → List LinkSetting → Option Fault
first_clash network carrier links = position (clashes network carrier) links >>= λ k. slice_get links k >>= λ other. clash network carrier other

-- ---- a link beside those above it

abbrev pub carrier_in : LinkBegun → Option Carrier
carrier_in (begun.Whole it) = Some (carrier_of it)
carrier_in other = None

-- it is its network's only link, by RFC 1234, as far as it was read
abbrev pub is_only : LinkBegun → Bool
is_only begun.Rfc1234 = true
is_only (begun.Whole (link.Rfc1234 local)) = true
is_only other = false

abbrev pub carrier_fault : ℕ → Carrier → ℕ → List LinkSetting → Option Expected → Option Fault
carrier_fault network carrier longest links own =
    first_of (
    first_clash network carrier links
    ∷ when (may_hear_itself carrier) fault.OwnAddress
    ∷ when (nat_lt (longest_of carrier) longest) (fault.Longest longest (longest_of carrier))
    ∷ line_fault own
    ∷ [])

abbrev pub link_by : ℕ → Option Carrier → ℕ → List LinkSetting → Option Expected → Option Fault
link_by network None longest links own = Some (fault.Line (unwrap_or own expected.Link))
link_by network (Some carrier) longest links own = carrier_fault network carrier longest links own

-- what is wrong with a link, in the network with that number, with packets of so many bytes
abbrev pub link_fault : ℕ → LinkBegun → ℕ → List LinkSetting → Option Expected → Option Fault
link_fault network begun longest links own = link_by network (carrier_in begun) longest links own
