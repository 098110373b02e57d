-- The words of a line.
use Rattle.std.specs.Prelude.{ℕ, Bool, true, false, not, if◌then◌else◌, List, [], length, Option, Some, None, Result, Ok, Err, codes, ◌==◌, ◌+◌, ◌∷◌, nat_lt}
use Rattle.std.specs.Option.{is_some}
use Rattle.ipx_settings.specs.Addresses.{remote_of, range_of, is_first}
use Rattle.ipx_settings.specs.Internals.{internal_step, internal_ends}
use Rattle.ipx_settings.specs.Links.{said, is_the, link_step, link_ends}
use Rattle.ipx_settings.specs.Names.{origin_of}
use Rattle.ipx_settings.specs.Networks.{network_step, network_ends}
use Rattle.ipx_settings.specs.Numbers.{number_of, hexadecimal_of}
use Rattle.ipx_settings.specs.Rules.{rule_step, rule_ends}
use Rattle.ipx_settings.specs.Statics.{route_step, route_ends, service_step, service_ends}
use Rattle.ipx_settings.specs.Words.{words, before_mark, most_words}
use Rattle.ipx_settings.specs.declared.reading.Reading.{Reading}
use Rattle.ipx_settings.specs.declared.addresses.HostRange.{HostRange}
use Rattle.ipx_settings.specs.declared.addresses.Place.{Place}
use Rattle.ipx_settings.specs.declared.expected.Expected.{Expected}
use Rattle.ipx_settings.specs.declared.expected.Expected.TheVariants as expected
use Rattle.ipx_settings.specs.declared.internal.InternalBegun.{InternalBegun}
use Rattle.ipx_settings.specs.declared.internal.InternalBegun.TheVariants as internal
use Rattle.ipx_settings.specs.declared.line.ClientsBegun.{ClientsBegun}
use Rattle.ipx_settings.specs.declared.line.ClientsBegun.TheVariants as clients
use Rattle.ipx_settings.specs.declared.line.Context.{Context}
use Rattle.ipx_settings.specs.declared.line.Line.{Line}
use Rattle.ipx_settings.specs.declared.line.Line.TheVariants as line
use Rattle.ipx_settings.specs.declared.line.RateBegun.{RateBegun}
use Rattle.ipx_settings.specs.declared.line.RateBegun.TheVariants as rate
use Rattle.ipx_settings.specs.declared.link.LinkBegun.{LinkBegun}
use Rattle.ipx_settings.specs.declared.link.LinkBegun.TheVariants as begun
use Rattle.ipx_settings.specs.declared.network.NetworkBegun.{NetworkBegun}
use Rattle.ipx_settings.specs.declared.network.NetworkBegun.TheVariants as network
use Rattle.ipx_settings.specs.declared.rule.RuleBegun.{RuleBegun}
use Rattle.ipx_settings.specs.declared.rule.RuleBegun.TheVariants as rule_begun
use Rattle.ipx_settings.specs.declared.statics.RouteBegun.{RouteBegun}
use Rattle.ipx_settings.specs.declared.statics.RouteBegun.TheVariants as route
use Rattle.ipx_settings.specs.declared.statics.ServiceBegun.{ServiceBegun}
use Rattle.ipx_settings.specs.declared.statics.ServiceBegun.TheVariants as service

-- the most of a rate, and of the kilobits of a line
abbrev pub most_rate : ℕ
most_rate = 1000000

abbrev pub most_kilobits : ℕ
most_kilobits = 10000000

-- a number a second, or 0 for `none`
abbrev pub rate_or_none : List ℕ → Option ℕ
rate_or_none word = if is_the word (codes "none") then Some 0 else number_of 1 most_rate word

abbrev pub socket_of : List ℕ → Option ℕ
socket_of word = hexadecimal_of 4 1 65535 word

-- the word that begins a line
abbrev pub line_first : List ℕ → Result Line Expected
line_first word =
    if is_the word (codes "network") then Ok (line.Network network.Nothing)
    else if is_the word (codes "link") then Ok (line.Link begun.Nothing)
    else if is_the word (codes "extend") then Ok (line.Extend false)
    else if is_the word (codes "clients") then Ok (line.Clients clients.Nothing)
    else if is_the word (codes "allow") then Ok (line.Allow false)
    else if is_the word (codes "trust") then Ok (line.Trust false)
    else if is_the word (codes "rate") then Ok (line.Rate rate.Nothing)
    else if is_the word (codes "strangers") then Ok (line.Strangers None)
    else if is_the word (codes "line") then Ok (line.Kilobits None)
    else if is_the word (codes "nodes") then Ok (line.Nodes false)
    else if is_the word (codes "internal") then Ok (line.Internal internal.Nothing)
    else if is_the word (codes "adopt") then Ok (line.Adopt false)
    else if is_the word (codes "permit") then Ok (line.Rule true rule_begun.Nothing)
    else if is_the word (codes "deny") then Ok (line.Rule false rule_begun.Nothing)
    else if is_the word (codes "route") then Ok (line.Route route.Nothing)
    else if is_the word (codes "service") then Ok (line.Service service.Nothing)
    else if is_the word (codes "origins") then Ok (line.Origins false)
    else if is_the word (codes "peer") then Ok (line.Peer None)
    else Err expected.Line

-- the most clients, and the most of one address, which are no more
abbrev pub clients_step : ClientsBegun → ℕ → List ℕ → Result Line Expected
clients_step clients.Nothing most word = said expected.Clients (λ n. line.Clients (clients.All n)) (number_of 1 most word)
clients_step (clients.All n) most word = said expected.ClientsOfAddress (λ m. line.Clients (clients.OfAddress n m)) (number_of 1 n word)
clients_step (clients.OfAddress n m) most word = Err expected.Nothing

-- a share is at most the rate; where there is none, nothing follows
abbrev pub share_behind : ℕ → List ℕ → Result Line Expected
share_behind r word =
    if r == 0 then Err expected.Nothing
    else said expected.Share (λ share. line.Rate (rate.Share r share)) (number_of 1 r word)

abbrev pub rate_step : RateBegun → Bool → List ℕ → Result Line Expected
rate_step rate.Nothing is_below_tunnel word = said expected.Rate (λ r. line.Rate (rate.Rate r)) (rate_or_none word)
rate_step (rate.Rate r) is_below_tunnel word = share_behind r word
rate_step (rate.Share r share) is_below_tunnel word =
    if not is_below_tunnel then Err expected.Nothing
    else said expected.Household (λ household. line.Rate (rate.Household r share household)) (rate_or_none word)
rate_step (rate.Household r share household) is_below_tunnel word = Err expected.Nothing

abbrev pub strangers_step : Option ℕ → List ℕ → Result Line Expected
strangers_step begun word =
    if is_some begun then Err expected.Nothing
    else said expected.Strangers (λ r. line.Strangers (Some r)) (rate_or_none word)

abbrev pub kilobits_step : Option ℕ → List ℕ → Result Line Expected
kilobits_step begun word =
    if is_some begun then Err expected.Nothing
    else said expected.Kilobits (λ n. line.Kilobits (Some n)) (number_of 1 most_kilobits word)

-- the one kind of nodes that has a word
abbrev pub nodes_step : Bool → List ℕ → Result Line Expected
nodes_step by_address word =
    if by_address then Err expected.Nothing
    else if is_the word (codes "by-address") then Ok (line.Nodes true)
    else Err expected.ByAddress

-- the one word that may follow adopt
abbrev pub adopt_step : Bool → List ℕ → Result Line Expected
adopt_step is_off word =
    if is_off then Err expected.Nothing
    else if is_the word (codes "no") then Ok (line.Adopt true)
    else Err expected.No

abbrev pub socket_step : List ℕ → Result Line Expected
socket_step word = said expected.Socket (λ socket. line.Extend true) (socket_of word)

abbrev pub origin_step : List ℕ → Result Line Expected
origin_step word = said expected.Origin (λ origin. line.Origins true) (origin_of word)

-- one place where somebody can be reached
abbrev pub peer_step : Option Place → List ℕ → Result Line Expected
peer_step begun word =
    if is_some begun then Err expected.Nothing
    else said expected.Remote (λ place. line.Peer (Some place)) (remote_of word)

-- a range whose address is 0 behind the bits that count
abbrev pub range_by : Line → Option HostRange → Result Line Expected
range_by next None = Err expected.Range
range_by next (Some range) = if is_first range then Ok next else Err (expected.FirstOf range.bits)

abbrev pub range_step : Line → List ℕ → Result Line Expected
range_step next word = range_by next (range_of word)

abbrev pub with_network : Result NetworkBegun Expected → Result Line Expected
with_network (Ok next) = Ok (line.Network next)
with_network (Err e) = Err e

abbrev pub with_link : Result LinkBegun Expected → Result Line Expected
with_link (Ok next) = Ok (line.Link next)
with_link (Err e) = Err e

abbrev pub with_internal : Result InternalBegun Expected → Result Line Expected
with_internal (Ok next) = Ok (line.Internal next)
with_internal (Err e) = Err e

abbrev pub with_rule : Bool → Result RuleBegun Expected → Result Line Expected
with_rule permits (Ok next) = Ok (line.Rule permits next)
with_rule permits (Err e) = Err e

abbrev pub with_route : Result RouteBegun Expected → Result Line Expected
with_route (Ok next) = Ok (line.Route next)
with_route (Err e) = Err e

abbrev pub with_service : Result ServiceBegun Expected → Result Line Expected
with_service (Ok next) = Ok (line.Service next)
with_service (Err e) = Err e

-- a word more
abbrev pub line_step : Context → Line → List ℕ → Result Line Expected
line_step c line.Nothing word = line_first word
line_step c (line.Network begun) word = with_network (network_step c.cards begun word)
line_step c (line.Link begun) word = with_link (link_step c.cards begun word)
line_step c (line.Extend has_some) word = socket_step word
line_step c (line.Clients begun) word = clients_step begun c.most_clients word
line_step c (line.Allow has_some) word = range_step (line.Allow true) word
line_step c (line.Trust has_some) word = range_step (line.Trust true) word
line_step c (line.Rate begun) word = rate_step begun c.is_below_tunnel word
line_step c (line.Strangers begun) word = strangers_step begun word
line_step c (line.Kilobits begun) word = kilobits_step begun word
line_step c (line.Nodes by_address) word = nodes_step by_address word
line_step c (line.Internal begun) word = with_internal (internal_step begun word)
line_step c (line.Adopt is_off) word = adopt_step is_off word
line_step c (line.Rule permits begun) word = with_rule permits (rule_step begun word)
line_step c (line.Route begun) word = with_route (route_step begun word)
line_step c (line.Service begun) word = with_service (service_step begun word)
line_step c (line.Origins has_some) word = origin_step word
line_step c (line.Peer begun) word = peer_step begun word

abbrev pub clients_end : ClientsBegun → Bool
clients_end clients.Nothing = false
clients_end (clients.All n) = true
clients_end (clients.OfAddress n m) = true

abbrev pub rate_ends : RateBegun → Bool
rate_ends rate.Nothing = false
rate_ends (rate.Rate r) = true
rate_ends (rate.Share r share) = true
rate_ends (rate.Household r share household) = true

-- where a line may end
abbrev pub line_ends : Line → Bool
line_ends line.Nothing = true
line_ends (line.Network begun) = network_ends begun
line_ends (line.Link begun) = link_ends begun
line_ends (line.Extend has_some) = has_some
line_ends (line.Clients begun) = clients_end begun
line_ends (line.Allow has_some) = has_some
line_ends (line.Trust has_some) = has_some
line_ends (line.Rate begun) = rate_ends begun
line_ends (line.Strangers begun) = is_some begun
line_ends (line.Kilobits begun) = is_some begun
line_ends (line.Nodes by_address) = by_address
line_ends (line.Internal begun) = internal_ends begun
line_ends (line.Adopt is_off) = is_off
line_ends (line.Rule permits begun) = rule_ends begun
line_ends (line.Route begun) = route_ends begun
line_ends (line.Service begun) = service_ends begun
line_ends (line.Origins has_some) = has_some
line_ends (line.Peer begun) = is_some begun

abbrev pub fault_of : {A : Type 0} → Result A Expected → Option Expected
fault_of (Ok a) = None
fault_of (Err e) = Some e

-- what is expected where it ends and may not: what no empty word is
abbrev pub ended : Context → Line → Option Expected
ended c l = if line_ends l then None else fault_of (line_step c l [])

-- ---- all words

abbrev pub read_to : Line → ℕ → Option Expected → Reading
read_to l read fault = record { line = l; read = read; fault = fault }

abbrev pub on_step : Result Line Expected → (Line → Reading) → (Expected → Reading) → Reading
on_step (Ok next) on off = on next
on_step (Err e) on off = off e

-- the words behind the first so many, which said that; what was said before the first fault stays said
abbrev pub read_from : Context → Line → ℕ → List (List ℕ) → Reading
read_from c l read [] = read_to l read (ended c l)
read_from c l read (word ∷ more) = on_step (line_step c l word) (λ next. read_from c next (read + 1) more) (λ e. read_to l read (Some e))

-- all words of a line; a line has at most so many
abbrev pub reading_by : Context → List (List ℕ) → Reading
reading_by c ws =
    if nat_lt most_words (length ws) then read_to line.Nothing most_words (Some expected.FewerWords)
    else read_from c line.Nothing 0 ws

abbrev pub reading_of : Context → List ℕ → Reading
reading_of c text = reading_by c (words (before_mark text))
