use Rattle.std.proofs.Common.{◌≡◌, ◌≢◌, ℕ, ◌^◌, ◌<◌, List, [], ◌∷◌, ◌++◌, length, get_or, refl, sym, ap, ◌∙◌, subst, arith, Some, append_assoc, ne_eqb}
use Rattle.std.specs.Char.{digit_value}
use Rattle.std.specs.List.{AllByRecursion}
use Rattle.std.specs.Net.Text.{ipv4_text}
use Rattle.std.specs.Option.{unwrap_or}
use Rattle.std.specs.Prelude.{codes, decimal}
use Rattle.ipx_settings.specs.Addresses.{opening, closing, port_of, host_of, six_and_port, four_and_port, address_of}
use Rattle.ipx_settings.specs.Cutting.{colon}
use Rattle.ipx_settings.specs.Hosts.{six_of}
use Rattle.ipx_settings.specs.Right.{AreNumbers, IsHost, IsAddress}
use Rattle.ipx_settings.specs.WritingAddresses.{six_words, host_words, address_words}
use Rattle.ipx_settings.specs.declared.addresses.Address.{Address}
use Rattle.ipx_settings.specs.declared.addresses.Host.{Host}
use Rattle.ipx_settings.specs.declared.addresses.Host.TheVariants.{Four, Six}
use Rattle.ipx_settings.proofs.NumbersAgain.{number_again, each-decimal, each-four, length-four, four_again}
use Rattle.ipx_settings.proofs.SixAgain.{six_again, each-six}
use Rattle.ipx_settings.proofs.Without.{Without, each-append, other_byte, cut_front}

pub port_again : (port : ℕ) → port < 2 ^ 16 → port_of (decimal port) ≡ Some port
port_again port low = number_again 0 65535 port (omega (arith, low)) (omega arith) (omega (arith, low))

-- a text begins with none of the bytes that it is without
pub first_other : (byte : ℕ) (xs ys : List ℕ) → 0 < length xs → Without byte xs → get_or (xs ++ ys) 0 0 ≢ byte
first_other byte [] ys some none = absurd (omega (arith, some))
first_other byte (x ∷ xs) ys some none = none.0

host_again : (four : List ℕ) → AreNumbers 4 8 four → host_of (ipv4_text four) ≡ Some four
host_again four are =
    let long = length-four four are in
    rw (ne_eqb (length (ipv4_text four)) 0 (λ e. omega (arith, e, long))) (four_again four are)

-- a text behind a bracket, and one that has none
bracketed : (text : List ℕ) → address_of (91 ∷ text) ≡ six_and_port text
bracketed text = refl

pub plain : (text host port : List ℕ) → get_or text 0 0 ≢ opening → text ≡ host ++ 58 ∷ port → Without colon host
    → address_of text ≡ four_and_port (Some (host, port)) text
plain text host port other is none = rw (ne_eqb (get_or text 0 0) opening other, is, cut_front colon host port none) refl

four_read : (text four : List ℕ) (host : List ℕ) (port : ℕ) → port < 2 ^ 16 → host_of host ≡ Some four
    → four_and_port (Some (host, decimal port)) text ≡ Some (record { host = Four four; port = port })
four_read text four host port low is = rw (port_again port low, is) refl

six_read : (text six : List ℕ) (port : ℕ) → port < 2 ^ 16 → six_of text ≡ Some six → Without closing text
    → six_and_port (text ++ 93 ∷ 58 ∷ decimal port) ≡ Some (record { host = Six six; port = port })
six_read text six port low is none = rw (cut_front closing text (58 ∷ decimal port) none, port_again port low, is) refl

between : (words port : List ℕ) → codes "[" ++ words ++ codes "]" ++ codes ":" ++ port ≡ 91 ∷ (words ++ 93 ∷ 58 ∷ port)
between words port = ap (λ l. 91 ∷ l) (append_assoc (words ++ codes "]") (codes ":") port ∙ append_assoc words (codes "]") (58 ∷ port))

pub written_again : (host : Host) (port : ℕ) → IsHost host → port < 2 ^ 16
    → address_of (host_words host ++ codes ":" ++ decimal port) ≡ Some (record { host = host; port = port })
written_again (Four four) port are low =
    let text = host_words (Four four) ++ codes ":" ++ decimal port in
    let host = ipv4_text four in
    let split : text ≡ host ++ 58 ∷ decimal port = append_assoc host (codes ":") (decimal port) in
    let none = each-four (λ c. c ≢ opening) four are (λ c. other_byte opening c refl) (omega arith) in
    let some : 0 < length host = omega (arith, length-four four are) in
    let begins : get_or text 0 0 ≢ opening = subst (λ (l : List ℕ). get_or l 0 0 ≢ opening) (sym split) (first_other opening host (58 ∷ decimal port) some none) in
    plain text host (decimal port) begins split (each-four (λ c. c ≢ colon) four are (λ c. other_byte colon c refl) (omega arith))
    ∙ four_read text four host port low (host_again four are)
written_again (Six six) port are low =
    let words = six_words six in
    let split : host_words (Six six) ++ codes ":" ++ decimal port ≡ 91 ∷ (words ++ 93 ∷ 58 ∷ decimal port) = between words (decimal port) in
    rw split
    (bracketed (words ++ 93 ∷ 58 ∷ decimal port)
    ∙ six_read words six port low (six_again six are) (each-six (λ c. c ≢ closing) six are (λ c. other_byte closing c refl) (omega arith) (omega arith)))

pub address_again : (address : Address) → IsAddress address → address_of (address_words address) ≡ Some address
address_again address is = written_again address.host address.port is.0 is.1

-- what holds of digits and of its marks holds of each byte of an address
pub each-address : (P : ℕ → Type 0) (host : Host) (port : ℕ) → IsHost host → port < 2 ^ 16 → ((c : ℕ) → digit_value c < 16 → P c) → P 46 → P 58 → P 91 → P 93
    → AllByRecursion P (host_words host ++ codes ":" ++ decimal port)
each-address P (Four four) port are low each dot mark left right =
    let host : AllByRecursion P (ipv4_text four ++ codes ":") = each-append P (ipv4_text four) (codes ":") (each-four P four are each dot) (mark, tt) in
    each-append P (ipv4_text four ++ codes ":") (decimal port) host (each-decimal P port (omega (arith, low)) each)
each-address P (Six six) port are low each dot mark left right =
    let inside : AllByRecursion P (six_words six ++ codes "]") = each-append P (six_words six) (codes "]") (each-six P six are each dot mark) (right, tt) in
    let host : AllByRecursion P (host_words (Six six) ++ codes ":") = (left, each-append P (six_words six ++ codes "]") (codes ":") inside (mark, tt)) in
    each-append P (host_words (Six six) ++ codes ":") (decimal port) host (each-decimal P port (omega (arith, low)) each)

-- what is read as one thing alone is one
pub one_value : {A : Type 0} (a b : A) → Some a ≡ Some b → a ≡ b
one_value a b e = ap (λ o. unwrap_or o a) e

pub addresses_once : (a b : Address) → IsAddress a → IsAddress b → address_words a ≡ address_words b → a ≡ b
addresses_once a b is also same = one_value a b (sym (address_again a is) ∙ ap address_of same ∙ address_again b also)
