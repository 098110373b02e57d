-- What a line below a link says of it.
use Rattle.std.specs.Prelude.{ℕ, ◌+◌, ◌*◌, Bool, not, ◌==◌, ◌&&◌, if◌then◌else◌, nat_lt, List, [], ◌∷◌, take, drop, Option, Some, None, slice_get}
use Rattle.std.specs.List.{position}
use Rattle.std.specs.Option.{unwrap_or, option_map}
use Rattle.ipx_settings.specs.Addresses.{range_of}
use Rattle.ipx_settings.specs.Cutting.{◌>>=◌}
use Rattle.ipx_settings.specs.Lines.{most_rate}
use Rattle.ipx_settings.specs.Names.{origin_of}
use Rattle.ipx_settings.specs.Words.{words, before_mark}
use Rattle.ipx_settings.specs.declared.addresses.HostRange.{HostRange}
use Rattle.ipx_settings.specs.declared.expected.Expected.{Expected}
use Rattle.ipx_settings.specs.declared.line.ClientsBegun.{ClientsBegun}
use Rattle.ipx_settings.specs.declared.line.ClientsBegun.TheVariants as clients
use Rattle.ipx_settings.specs.declared.line.Line.{Line}
use Rattle.ipx_settings.specs.declared.line.Line.TheVariants as line
use Rattle.ipx_settings.specs.declared.line.RateBegun.{RateBegun}
use Rattle.ipx_settings.specs.declared.line.RateBegun.TheVariants as rate
use Rattle.ipx_settings.specs.declared.reading.Reading.{Reading}
use Rattle.ipx_configuration.specs.Carriers.{tunnel, same_carrier}
use Rattle.ipx_configuration.specs.Clashes.{first_of, when, line_fault}
use Rattle.ipx_configuration.specs.Said.{most_ranges, with_range, with_origin, link_at}
use Rattle.ipx_configuration.specs.declared.carrier.Carrier.{Carrier}
use Rattle.ipx_configuration.specs.declared.fault.Fault.{Fault}
use Rattle.ipx_configuration.specs.declared.fault.Fault.TheVariants as fault
use Rattle.ipx_configuration.specs.declared.said.ClientsSaid.{ClientsSaid}
use Rattle.ipx_configuration.specs.declared.said.LinkSetting.{LinkSetting}
use Rattle.ipx_configuration.specs.declared.said.NumberSaid.{NumberSaid}
use Rattle.ipx_configuration.specs.declared.said.Origins.{Origins}
use Rattle.ipx_configuration.specs.declared.said.Ranges.{Ranges}
use Rattle.ipx_configuration.specs.declared.said.RateSaid.{RateSaid}

-- a line says what no other says already, and is right by itself
abbrev pub once : ℕ → Option Expected → Option Fault
once said own = first_of (when (nat_lt 0 said) (fault.Once said) ∷ line_fault own ∷ [])

-- ---- numbers

abbrev pub clients_at : ℕ → ℕ → ℕ → ClientsSaid
clients_at line all of_address = record { line = line; all = all; of_address = of_address }

-- where a line doesn't say it, all clients may be of one address
abbrev pub clients_said : ℕ → ClientsBegun → ClientsSaid
clients_said line clients.Nothing = clients_at line 0 0
clients_said line (clients.All n) = clients_at line n n
clients_said line (clients.OfAddress n m) = clients_at line n m

-- what a sender that says little has at most, and so many times the rate all clients of an address, where no line says it
abbrev pub usual_share : ℕ
usual_share = 50

abbrev pub usual_household : ℕ
usual_household = 16

abbrev pub at_most : ℕ → ℕ → ℕ
at_most most n = if nat_lt n most then n else most

abbrev pub rate_whole : ℕ → ℕ → ℕ → ℕ → RateSaid
rate_whole line r share household = record { line = line; rate = r; share = share; household = household }

abbrev pub rate_at : ℕ → ℕ → ℕ → RateSaid
rate_at line r share = rate_whole line r share (usual_household * at_most most_rate r)

abbrev pub rate_said : ℕ → RateBegun → RateSaid
rate_said line rate.Nothing = rate_at line 0 0
rate_said line (rate.Rate r) = rate_at line r (at_most usual_share r)
rate_said line (rate.Share r share) = rate_at line r share
rate_said line (rate.Household r share household) = rate_whole line r share household

abbrev pub number_said : ℕ → Option ℕ → NumberSaid
number_said line n = record { line = line; number = unwrap_or n 0 }

-- ---- what lines above say already

-- links with frames on one carrier have one rate
abbrev pub shares_rate : Carrier → LinkSetting → Bool
shares_rate carrier other = not (carrier.number == tunnel) && nat_lt 0 other.rate.line && same_carrier carrier other.carrier

abbrev pub rate_or : LinkSetting → Option LinkSetting → RateSaid
rate_or link None = link.rate
rate_or link (Some other) = other.rate

-- that of the first line below any of them, or below the link itself
abbrev pub rate_of : LinkSetting → List LinkSetting → RateSaid
rate_of link links = rate_or link (position (shares_rate link.carrier) links >>= λ k. slice_get links k)

abbrev pub has_kilobits : LinkSetting → Bool
has_kilobits link = nat_lt 0 link.kilobits.number

abbrev pub first_kilobits : List LinkSetting → Option NumberSaid
first_kilobits links = option_map (λ link. link.kilobits) (position has_kilobits links >>= λ k. slice_get links k)

-- all networks that are reached by a line share one
abbrev pub other_kilobits : LinkSetting → Option ℕ → List LinkSetting → Option Fault
other_kilobits link n links =
    n >>= λ kilobits. first_kilobits links >>= λ said.
    when ((link.kilobits.line == 0) && not (said.number == kilobits)) (fault.OtherKilobits said.number said.line)

-- ---- a link behind the line, and what is wrong with that

-- the next one where nothing is wrong
abbrev pub if_right : {A : Type 0} → Option Fault → A → A → A × Option Fault
if_right None was next = (next, None)
if_right (Some f) was next = (was, Some f)

abbrev pub with_clients : LinkSetting → ClientsSaid → LinkSetting
with_clients l said = link_at l.line l.network l.carrier said l.rate l.strangers l.kilobits l.allowed l.trusted l.nodes_line l.origins

abbrev pub with_rate : LinkSetting → RateSaid → LinkSetting
with_rate l said = link_at l.line l.network l.carrier l.clients said l.strangers l.kilobits l.allowed l.trusted l.nodes_line l.origins

abbrev pub with_strangers : LinkSetting → NumberSaid → LinkSetting
with_strangers l said = link_at l.line l.network l.carrier l.clients l.rate said l.kilobits l.allowed l.trusted l.nodes_line l.origins

abbrev pub with_kilobits : LinkSetting → NumberSaid → LinkSetting
with_kilobits l said = link_at l.line l.network l.carrier l.clients l.rate l.strangers said l.allowed l.trusted l.nodes_line l.origins

abbrev pub with_allowed : LinkSetting → Ranges → LinkSetting
with_allowed l said = link_at l.line l.network l.carrier l.clients l.rate l.strangers l.kilobits said l.trusted l.nodes_line l.origins

abbrev pub with_trusted : LinkSetting → Ranges → LinkSetting
with_trusted l said = link_at l.line l.network l.carrier l.clients l.rate l.strangers l.kilobits l.allowed said l.nodes_line l.origins

abbrev pub with_nodes : LinkSetting → ℕ → LinkSetting
with_nodes l said = link_at l.line l.network l.carrier l.clients l.rate l.strangers l.kilobits l.allowed l.trusted said l.origins

abbrev pub with_origins : LinkSetting → Origins → LinkSetting
with_origins l said = link_at l.line l.network l.carrier l.clients l.rate l.strangers l.kilobits l.allowed l.trusted l.nodes_line said

abbrev pub clients_taken : ℕ → LinkSetting → ClientsBegun → Option Expected → LinkSetting × Option Fault
clients_taken line link begun own = if_right (once link.clients.line own) link (with_clients link (clients_said line begun))

abbrev pub rate_taken : ℕ → LinkSetting → RateBegun → Option Expected → List LinkSetting → LinkSetting × Option Fault
rate_taken line link begun own links = if_right (once (rate_of link links).line own) link (with_rate link (rate_said line begun))

abbrev pub strangers_taken : ℕ → LinkSetting → Option ℕ → Option Expected → LinkSetting × Option Fault
strangers_taken line link n own = if_right (once link.strangers.line own) link (with_strangers link (number_said line n))

abbrev pub kilobits_fault : LinkSetting → Option ℕ → Option Expected → List LinkSetting → Option Fault
kilobits_fault link n own links = first_of (other_kilobits link n links ∷ once link.kilobits.line own ∷ [])

abbrev pub kilobits_taken : ℕ → LinkSetting → Option ℕ → Option Expected → List LinkSetting → LinkSetting × Option Fault
kilobits_taken line link n own links = if_right (kilobits_fault link n own links) link (with_kilobits link (number_said line n))

abbrev pub nodes_taken : ℕ → LinkSetting → Option Expected → LinkSetting × Option Fault
nodes_taken line link own = if_right (once link.nodes_line own) link (with_nodes link line)

-- ---- ranges

-- the words that were read, from one on
abbrev pub words_from : List ℕ → ℕ → ℕ → List (List ℕ)
words_from text at read = drop at (take read (words (before_mark text)))

-- a range more, and then others; what stands before the end of the room counts
abbrev pub range_then : Ranges → ℕ → Option HostRange → (Ranges → Ranges × Option Fault) → Ranges × Option Fault
range_then ranges number None more = (ranges, None)
range_then ranges number (Some range) more =
    if nat_lt ranges.count most_ranges then more (with_range ranges range) else (ranges, Some (fault.ManyRanges number))

-- the ranges of words, of which the first has that number
abbrev pub ranges_from : Ranges → ℕ → List (List ℕ) → Ranges × Option Fault
ranges_from ranges number [] = (ranges, None)
ranges_from ranges number (word ∷ more) = range_then ranges number (range_of word) (λ next. ranges_from next (number + 1) more)

abbrev pub or_own : {A : Type 0} → A × Option Fault → Option Expected → A × Option Fault
or_own taken own = (taken.0, first_of (taken.1 ∷ line_fault own ∷ []))

abbrev pub ranges_taken : Ranges → List ℕ → ℕ → Option Expected → Ranges × Option Fault
ranges_taken ranges text read own = or_own (ranges_from ranges 1 (words_from text 1 read)) own

abbrev pub allowed_taken : LinkSetting → List ℕ → ℕ → Option Expected → LinkSetting × Option Fault
allowed_taken link text read own =
    (with_allowed link (ranges_taken link.allowed text read own).0, (ranges_taken link.allowed text read own).1)

abbrev pub trusted_taken : LinkSetting → List ℕ → ℕ → Option Expected → LinkSetting × Option Fault
trusted_taken link text read own =
    (with_trusted link (ranges_taken link.trusted text read own).0, (ranges_taken link.trusted text read own).1)

-- ---- origins

-- an origin more, and then others; what stands before the end of the room counts
abbrev pub origin_then : Origins → ℕ → Option (List ℕ) → (Origins → Origins × Option Fault) → Origins × Option Fault
origin_then origins number None more = (origins, None)
origin_then origins number (Some text) more =
    if nat_lt origins.count most_ranges then more (with_origin origins text) else (origins, Some (fault.ManyRanges number))

-- the origins of words, of which the first has that number
abbrev pub origins_from : Origins → ℕ → List (List ℕ) → Origins × Option Fault
origins_from origins number [] = (origins, None)
origins_from origins number (word ∷ more) = origin_then origins number (origin_of word) (λ next. origins_from next (number + 1) more)

abbrev pub origins_taken : LinkSetting → List ℕ → ℕ → Option Expected → LinkSetting × Option Fault
origins_taken link text read own = (
  with_origins link (origins_from link.origins 1 (words_from text 1 read)).0,
  (or_own (origins_from link.origins 1 (words_from text 1 read)) own).1,
)

-- ---- lines

abbrev pub link_by : ℕ → List ℕ → Line → ℕ → Option Expected → List LinkSetting → LinkSetting → LinkSetting × Option Fault
link_by n text (line.Clients begun) read own links link = clients_taken n link begun own
link_by n text (line.Rate begun) read own links link = rate_taken n link begun own links
link_by n text (line.Strangers begun) read own links link = strangers_taken n link begun own
link_by n text (line.Kilobits begun) read own links link = kilobits_taken n link begun own links
link_by n text (line.Allow has_some) read own links link = allowed_taken link text read own
link_by n text (line.Trust has_some) read own links link = trusted_taken link text read own
link_by n text (line.Nodes by_address) read own links link = nodes_taken n link own
link_by n text (line.Origins has_some) read own links link = origins_taken link text read own
link_by n text other read own links link = (link, None)

-- what a link is behind a line that says more of it, and what is wrong with that line
abbrev pub link_taken : ℕ → List ℕ → Reading → List LinkSetting → LinkSetting → LinkSetting × Option Fault
link_taken n text r links link = link_by n text r.line r.read r.fault links link
