-- The words of a rule: packets, routes and services that pass between a network and the router, or don't.
use Rattle.std.specs.Prelude.{ℕ, Bool, true, false, ◌&&◌, not, ◌==◌, nat_lt, nat_le, if◌then◌else◌, List, length, Option, Some, None, Result, Ok, Err, codes}
use Rattle.std.specs.List.{list_all}
use Rattle.std.specs.Option.{option_map}
use Rattle.ipx_settings.specs.Cutting.{◌>>=◌, cut_at}
use Rattle.ipx_settings.specs.Links.{said, is_the}
use Rattle.ipx_settings.specs.Names.{padded, hyphen}
use Rattle.ipx_settings.specs.Numbers.{number_of, hexadecimal_of}
use Rattle.ipx_settings.specs.declared.expected.Expected.{Expected}
use Rattle.ipx_settings.specs.declared.expected.Expected.TheVariants as expected
use Rattle.ipx_settings.specs.declared.rule.Names.{Names}
use Rattle.ipx_settings.specs.declared.rule.Names.TheVariants as names
use Rattle.ipx_settings.specs.declared.rule.RuleBegun.{RuleBegun}
use Rattle.ipx_settings.specs.declared.rule.RuleBegun.TheVariants as rule
use Rattle.ipx_settings.specs.declared.rule.Way.{Way}
use Rattle.ipx_settings.specs.declared.rule.Way.TheVariants.{In, Out}
use Rattle.ipx_settings.specs.declared.rule.What.TheVariants as what

-- ---- names of services

abbrev pub star : ℕ
star = 42

-- bytes of one, with a 0 behind
abbrev pub service_room : ℕ
service_room = 48

abbrev pub is_service_byte : ℕ → Bool
is_service_byte byte = not (byte == 0) && not (byte == star)

abbrev pub is_service_name : List ℕ → Bool
is_service_name name = not (length name == 0) && nat_lt (length name) service_room && list_all is_service_byte name

abbrev pub service_name_of : List ℕ → Option (List ℕ)
service_name_of name = if is_service_name name then Some (padded service_room name) else None

-- NAME is one, NAME* those that begin so, and * all
abbrev pub names_by : Option (List ℕ × List ℕ) → List ℕ → Option Names
names_by None word = option_map names.Is (service_name_of word)
names_by (Some parts) word =
    if not (length parts.1 == 0) then None
    else if length parts.0 == 0 then Some names.All
    else option_map names.Begins (service_name_of parts.0)

abbrev pub names_of : List ℕ → Option Names
names_of word = names_by (cut_at star word) word

-- ---- networks, types and ways

-- the largest number of a network that routes lead to: the default route's
abbrev pub last_route : ℕ
last_route = 4294967294

abbrev pub one_network : List ℕ → Option ℕ
one_network word = hexadecimal_of 8 1 last_route word

-- NETWORK is one, and FIRST-LAST are several
abbrev pub networks_by : Option (List ℕ × List ℕ) → List ℕ → Option (ℕ × ℕ)
networks_by None word = option_map (λ n. (n, n)) (one_network word)
networks_by (Some parts) word =
    one_network parts.0 >>= λ from. one_network parts.1 >>= λ to. if nat_le from to then Some (from, to) else None

abbrev pub networks_of : List ℕ → Option (ℕ × ℕ)
networks_of word = networks_by (cut_at hyphen word) word

-- every type of services, which * says
abbrev pub every_type : ℕ
every_type = 65535

abbrev pub service_type_of : List ℕ → Option ℕ
service_type_of word = if is_the word (codes "*") then Some every_type else hexadecimal_of 4 0 65535 word

abbrev pub way_of : List ℕ → Option Way
way_of word =
    if is_the word (codes "in") then Some In
    else if is_the word (codes "out") then Some Out
    else None

-- ---- rules

-- the word that says what is permitted or denied
abbrev pub rule_first : List ℕ → Result RuleBegun Expected
rule_first word =
    if is_the word (codes "type") then Ok rule.Kind
    else if is_the word (codes "socket") then Ok rule.OnSocket
    else if is_the word (codes "nearest") then Ok (rule.Whole what.Nearest)
    else if is_the word (codes "route") then Ok rule.Routes
    else if is_the word (codes "service") then Ok rule.Services
    else Err expected.Rule

-- a word more
abbrev pub rule_step : RuleBegun → List ℕ → Result RuleBegun Expected
rule_step rule.Nothing word = rule_first word
rule_step rule.Kind word = said expected.PacketType (λ n. rule.Whole (what.Kind n)) (number_of 0 255 word)
rule_step rule.OnSocket word = said expected.Socket (λ n. rule.Whole (what.OnSocket n)) (hexadecimal_of 4 1 65535 word)
rule_step rule.Routes word = said expected.Networks (λ r. rule.RoutesTo r.0 r.1) (networks_of word)
rule_step (rule.RoutesTo from to) word = said expected.Way (λ way. rule.Whole (what.Routes way from to)) (way_of word)
rule_step rule.Services word = said expected.ServiceType rule.ServicesOf (service_type_of word)
rule_step (rule.ServicesOf kind) word = said expected.ServiceNames (rule.ServicesNamed kind) (names_of word)
rule_step (rule.ServicesNamed kind names) word = said expected.Way (λ way. rule.Whole (what.Services way kind names)) (way_of word)
rule_step (rule.Whole it) word = Err expected.Nothing

abbrev pub rule_ends : RuleBegun → Bool
rule_ends (rule.Whole it) = true
rule_ends other = false
