-- What is written: addresses with a port.
use Rattle.std.specs.Prelude.{ℕ, Bool, ◌&&◌, ◌==◌, not, if◌then◌else◌, List, [], ◌∷◌, ◌++◌, take, drop, slice_index, codes, decimal, bytes_eq}
use Rattle.std.specs.Net.Addr.{octets_of}
use Rattle.std.specs.Net.Text.{ipv4_text, ipv6_text}
use Rattle.ipx_settings.specs.declared.addresses.Address.{Address}
use Rattle.ipx_settings.specs.declared.addresses.Host.{Host}
use Rattle.ipx_settings.specs.declared.addresses.Host.TheVariants.{Four, Six}

-- six groups of 0, and behind them an address of IPv4 that isn't a number of 16 bits alone
abbrev pub is_compatible : List ℕ → Bool
is_compatible six = bytes_eq (take 6 six) (0 ∷ 0 ∷ 0 ∷ 0 ∷ 0 ∷ 0 ∷ []) && not (slice_index six 6 == 0)

-- the prefix of addresses of IPv4
abbrev pub is_mapped : List ℕ → Bool
is_mapped six = bytes_eq (take 6 six) (0 ∷ 0 ∷ 0 ∷ 0 ∷ 0 ∷ 0xffff ∷ [])

-- an address of IPv6 as RFC 5952 has it; such a one ends with the address of IPv4
abbrev pub six_words : List ℕ → List ℕ
six_words six = if is_compatible six then codes "::" ++ ipv4_text (octets_of (drop 6 six)) else ipv6_text six

abbrev pub host_words : Host → List ℕ
host_words (Four four) = ipv4_text four
host_words (Six six) = codes "[" ++ six_words six ++ codes "]"

-- HOST:PORT or [HOST]:PORT
abbrev pub address_words : Address → List ℕ
address_words address = host_words address.host ++ codes ":" ++ decimal address.port
