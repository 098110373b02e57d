use Rattle.std.proofs.Common.{◌≡◌, ℕ, ◌<◌, ◌≤◌, ◌≢◌, true, List, [], ◌∷◌, ◌++◌, length, map, refl, ap₂, arith, Some, None, append_assoc}
use Rattle.std.proofs.lemmas.List.{length-append, length-map}
use Rattle.std.specs.List.{AllByRecursion}
use Rattle.std.specs.Net.Text.{ipv4_text}
use Rattle.std.specs.Prelude.{codes, decimal}
use Rattle.ipx_settings.specs.Addresses.{host_bits, range_of}
use Rattle.ipx_settings.specs.Beginnings.{said_by, IsLine}
use Rattle.ipx_settings.specs.Cutting.{slash}
use Rattle.ipx_settings.specs.Lines.{socket_of, read_to, reading_of}
use Rattle.ipx_settings.specs.Right.{IsInWord, IsWord}
use Rattle.ipx_settings.specs.RightLines.{Within, IsRange, AreListed}
use Rattle.ipx_settings.specs.Words.{most_words}
use Rattle.ipx_settings.specs.WritingLinks.{spaced}
use Rattle.ipx_settings.specs.WritingLines.{socket_word, range_word, sockets_words, allow_words, trust_words}
use Rattle.ipx_settings.specs.declared.addresses.HostRange.{HostRange}
use Rattle.ipx_settings.specs.declared.line.Context.{Context}
use Rattle.ipx_settings.specs.declared.line.Line.TheVariants as line
use Rattle.ipx_settings.proofs.DigitsAgain.{in_digit, socket_again, socket_is_word}
use Rattle.ipx_settings.proofs.LinesAgain.{text_read}
use Rattle.ipx_settings.proofs.LinksAgain.{literal}
use Rattle.ipx_settings.proofs.NumbersAgain.{number_again, each-decimal, each-four, four_again}
use Rattle.ipx_settings.proofs.Without.{each-append, other_byte, cut_front}

-- ---- sockets

is_socket : (n : ℕ) → Within 1 65535 n → socket_of (socket_word n) ≡ Some n
is_socket n is = socket_again n is.0 (omega (arith, is.1))

sockets_said : (c : Context) (sockets : List ℕ) → AllByRecursion (Within 1 65535) sockets → said_by c (line.Extend true) (map socket_word sockets) ≡ Some (line.Extend true)
sockets_said c [] are = refl
sockets_said c (n ∷ sockets) are = rw (is_socket n are.0) (sockets_said c sockets are.1)

sockets_line : (c : Context) (sockets : List ℕ) → 0 < length sockets → AllByRecursion (Within 1 65535) sockets → IsLine c (line.Extend true) (sockets_words sockets)
sockets_line c [] some are = absurd (omega (arith, some))
sockets_line c (n ∷ sockets) some are = (rw (is_socket n are.0) (sockets_said c sockets are.1), refl)

sockets_are_words : (sockets : List ℕ) → AllByRecursion IsWord (map socket_word sockets)
sockets_are_words [] = tt
sockets_are_words (n ∷ sockets) = (socket_is_word n, sockets_are_words sockets)

sockets_same : (sockets : List ℕ) → AllByRecursion (Within 1 65535) sockets → map socket_of (map socket_word sockets) ≡ map Some sockets
sockets_same [] are = refl
sockets_same (n ∷ sockets) are = ap₂ ◌∷◌ (is_socket n are.0) (sockets_same sockets are.1)

pub sockets_again : (c : Context) (sockets : List ℕ) → AreListed (Within 1 65535) sockets
    → (reading_of c (spaced (sockets_words sockets)) ≡ read_to (line.Extend true) (length (sockets_words sockets)) None) × (map socket_of (map socket_word sockets) ≡ map Some sockets)
sockets_again c sockets are =
    let few : length (sockets_words sockets) ≤ most_words = omega (arith, length-map sockets socket_word, are.1) in
    (text_read c (line.Extend true) (sockets_words sockets) (literal (codes "extend") (omega arith) refl, sockets_are_words sockets) few (sockets_line c sockets are.0 are.2), sockets_same sockets are.2)

-- ---- ranges

is_range : (range : HostRange) → IsRange range → range_of (range_word range) ≡ Some range
is_range range is =
    let host = ipv4_text range.first in
    let split : range_word range ≡ host ++ 47 ∷ decimal range.bits = append_assoc host (codes "/") (decimal range.bits) in
    let none = each-four (λ c. c ≢ slash) range.first is.0 (λ c. other_byte slash c refl) (omega arith) in
    rw (split, cut_front slash host (decimal range.bits) none, number_again 0 host_bits range.bits (omega (arith, is.1)) (omega arith) is.1, four_again range.first is.0) refl

range_is_word : (range : HostRange) → IsRange range → IsWord (range_word range)
range_is_word range is =
    let host = ipv4_text range.first in
    let front : AllByRecursion IsInWord (host ++ codes "/") = each-append IsInWord host (codes "/") (each-four IsInWord range.first is.0 in_digit (refl, refl)) ((refl, refl), tt) in (
      omega (arith, length-append (host ++ codes "/") (decimal range.bits), length-append host (codes "/")),
      each-append IsInWord (host ++ codes "/") (decimal range.bits) front (each-decimal IsInWord range.bits (omega (arith, is.1)) in_digit),
    )

ranges_are_words : (ranges : List HostRange) → AllByRecursion IsRange ranges → AllByRecursion IsWord (map range_word ranges)
ranges_are_words [] are = tt
ranges_are_words (range ∷ ranges) are = (range_is_word range are.0, ranges_are_words ranges are.1)

ranges_same : (ranges : List HostRange) → AllByRecursion IsRange ranges → map range_of (map range_word ranges) ≡ map Some ranges
ranges_same [] are = refl
ranges_same (range ∷ ranges) are = ap₂ ◌∷◌ (is_range range are.0) (ranges_same ranges are.1)

allow_said : (c : Context) (ranges : List HostRange) → AllByRecursion IsRange ranges → said_by c (line.Allow true) (map range_word ranges) ≡ Some (line.Allow true)
allow_said c [] are = refl
allow_said c (range ∷ ranges) are = rw (is_range range are.0, are.0.2) (allow_said c ranges are.1)

trust_said : (c : Context) (ranges : List HostRange) → AllByRecursion IsRange ranges → said_by c (line.Trust true) (map range_word ranges) ≡ Some (line.Trust true)
trust_said c [] are = refl
trust_said c (range ∷ ranges) are = rw (is_range range are.0, are.0.2) (trust_said c ranges are.1)

allow_line : (c : Context) (ranges : List HostRange) → 0 < length ranges → AllByRecursion IsRange ranges → IsLine c (line.Allow true) (allow_words ranges)
allow_line c [] some are = absurd (omega (arith, some))
allow_line c (range ∷ ranges) some are = (rw (is_range range are.0, are.0.2) (allow_said c ranges are.1), refl)

trust_line : (c : Context) (ranges : List HostRange) → 0 < length ranges → AllByRecursion IsRange ranges → IsLine c (line.Trust true) (trust_words ranges)
trust_line c [] some are = absurd (omega (arith, some))
trust_line c (range ∷ ranges) some are = (rw (is_range range are.0, are.0.2) (trust_said c ranges are.1), refl)

pub allow_again : (c : Context) (ranges : List HostRange) → AreListed IsRange ranges
    → (reading_of c (spaced (allow_words ranges)) ≡ read_to (line.Allow true) (length (allow_words ranges)) None) × (map range_of (map range_word ranges) ≡ map Some ranges)
allow_again c ranges are =
    let few : length (allow_words ranges) ≤ most_words = omega (arith, length-map ranges range_word, are.1) in
    (text_read c (line.Allow true) (allow_words ranges) (literal (codes "allow") (omega arith) refl, ranges_are_words ranges are.2) few (allow_line c ranges are.0 are.2), ranges_same ranges are.2)

pub trust_again : (c : Context) (ranges : List HostRange) → AreListed IsRange ranges
    → reading_of c (spaced (trust_words ranges)) ≡ read_to (line.Trust true) (length (trust_words ranges)) None
trust_again c ranges are =
    let few : length (trust_words ranges) ≤ most_words = omega (arith, length-map ranges range_word, are.1) in
    text_read c (line.Trust true) (trust_words ranges) (literal (codes "trust") (omega arith) refl, ranges_are_words ranges are.2) few (trust_line c ranges are.0 are.2)
