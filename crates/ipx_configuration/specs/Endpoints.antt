-- Addresses of this machine and of others.
use Rattle.std.specs.Prelude.{ℕ, Bool, true, false, not, ◌==◌, ◌&&◌, ◌||◌, if◌then◌else◌, nat_eq, List, [], ◌∷◌, replicate, slice_index}
use Rattle.std.specs.Cmp.Lexicographic.{pointwise}
use Rattle.std.specs.List.{list_all}
use Rattle.ipx_settings.specs.declared.addresses.Address.{Address}
use Rattle.ipx_settings.specs.declared.addresses.Host.{Host}
use Rattle.ipx_settings.specs.declared.addresses.Host.TheVariants.{Four, Six}
use Rattle.ipx_configuration.specs.declared.endpoint.Endpoint.{Endpoint}

abbrev pub endpoint_at : List ℕ → List ℕ → ℕ → Bool → Endpoint
endpoint_at four six port is_six = record { four = four; six = six; port = port; is_six = is_six }

abbrev pub no_four : List ℕ
no_four = replicate 4 0

abbrev pub no_six : List ℕ
no_six = replicate 8 0

-- what isn't said is 0
abbrev pub no_endpoint : Endpoint
no_endpoint = endpoint_at no_four no_six 0 false

abbrev pub endpoint_by : Host → ℕ → Endpoint
endpoint_by (Four four) port = endpoint_at four no_six port false
endpoint_by (Six six) port = endpoint_at no_four six port true

abbrev pub endpoint_of : Address → Endpoint
endpoint_of address = endpoint_by address.host address.port

abbrev pub is_zero : ℕ → Bool
is_zero n = n == 0

-- all addresses of this machine of its kind: 0.0.0.0 or [::]
abbrev pub is_all : Endpoint → Bool
is_all at = list_all is_zero at.four && list_all is_zero at.six

-- both of IPv4, or both of IPv6
abbrev pub is_of_one_kind : Endpoint → Endpoint → Bool
is_of_one_kind a b = if a.is_six then b.is_six else not b.is_six

abbrev pub same_endpoint : Endpoint → Endpoint → Bool
same_endpoint a b = pointwise nat_eq a.four b.four && pointwise nat_eq a.six b.six && (a.port == b.port) && is_of_one_kind a b

-- one address of this machine is the other, or contains it: both can't be taken
abbrev pub overlap : Endpoint → Endpoint → Bool
overlap a b = not (a.port == 0) && (a.port == b.port) && is_of_one_kind a b && (is_all a || is_all b || same_endpoint a b)

abbrev pub loopback_of_six : List ℕ
loopback_of_six = 0 ∷ 0 ∷ 0 ∷ 0 ∷ 0 ∷ 0 ∷ 0 ∷ 1 ∷ []

-- an address of whichever machine asks
abbrev pub is_surely_own : Endpoint → Bool
is_surely_own at = is_all at || (if at.is_six then pointwise nat_eq at.six loopback_of_six else (slice_index at.four 0 == 127))
