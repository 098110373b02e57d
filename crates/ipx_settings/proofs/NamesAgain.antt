use Rattle.std.proofs.Common.{◌≡◌, ◌≢◌, ℕ, suc, ◌-◌, ◌^◌, ◌<◌, ◌==◌, ◌||◌, Bool, true, false, List, [], ◌∷◌, ◌++◌, length, get_or, take, replicate, refl, sym, ap, ◌∙◌, subst, arith, inl, inr, Option, Some, None, append_assoc, true≢false, ne_eqb}
use Rattle.std.proofs.Math.Seq.{take-append_seam}
use Rattle.std.proofs.lemmas.Bool.{cases_Bool, and_parts}
use Rattle.std.proofs.lemmas.Bool.Decides.{nat_tests}
use Rattle.std.proofs.lemmas.List.Splits.{join_with_byte-slice_split}
use Rattle.std.specs.Char.{is_ascii_alphabetic}
use Rattle.std.specs.List.{AllByRecursion, list_all, list_any, join_with_byte}
use Rattle.std.specs.Prelude.{codes, decimal}
use Rattle.ipx_settings.specs.Addresses.{opening, host_of, four_and_port, address_of, named_of, place_of, port_at, remote_of}
use Rattle.ipx_settings.specs.Cutting.{◌>>=◌, cut_at, parts, dot, colon}
use Rattle.ipx_settings.specs.Hosts.{octet_of, four_of}
use Rattle.ipx_settings.specs.Names.{padded, name_room, is_name_byte, is_name, name_of, is_path_byte, is_path, path_of, is_file, file_of, host_room, is_label_byte, is_label, are_labels, is_host_name}
use Rattle.ipx_settings.specs.Numbers.{is_digit_to}
use Rattle.ipx_settings.specs.Right.{IsRemote, IsName, IsPath, IsFile}
use Rattle.ipx_settings.specs.WritingLinks.{name_in, place_words}
use Rattle.ipx_settings.specs.declared.addresses.Place.{Place}
use Rattle.ipx_settings.specs.declared.addresses.Place.TheVariants.{At, Named}
use Rattle.ipx_settings.proofs.AddressesAgain.{address_again, port_again, first_other, plain, one_value}
use Rattle.ipx_settings.proofs.Cuts.{last_label, more_labels, no_labels}
use Rattle.ipx_settings.proofs.Without.{Without, each-append, first_place, cut_front, cut_none}

-- all that pass a test, one by one
pub each_of : (p : ℕ → Bool) (xs : List ℕ) → list_all p xs ≡ true → AllByRecursion (λ c. p c ≡ true) xs
each_of p [] all = tt
each_of p (x ∷ xs) all =
    let both = and_parts (p x) (list_all p xs) all in
    (both.0, each_of p xs both.1)

pub each_weaker : (P Q : ℕ → Type 0) → ((c : ℕ) → P c → Q c) → (xs : List ℕ) → AllByRecursion P xs → AllByRecursion Q xs
each_weaker P Q f [] all = tt
each_weaker P Q f (x ∷ xs) all = (f x all.0, each_weaker P Q f xs all.1)

-- what passes isn't what fails
pub isnt : (p : ℕ → Bool) (byte c : ℕ) → p byte ≡ false → p c ≡ true → c ≢ byte
isnt p byte c fails passes e = true≢false (sym passes ∙ ap p e ∙ fails)

-- ---- names with zeros behind them

front_is : (name : List ℕ) (more : ℕ) → Without 0 name → name_in (name ++ replicate (suc more) 0) ≡ name
front_is name more none =
    let rest = replicate more 0 in
    ap (λ n. take n (name ++ 0 ∷ rest)) (first_place 0 name rest none) ∙ take-append_seam name (0 ∷ rest)

pub name_is : (name : List ℕ) (room : ℕ) → length name < room → Without 0 name → name_in (padded room name) ≡ name
name_is name room few none =
    let more : suc (room - length name - 1) ≡ room - length name = omega (arith, few) in
    subst (λ n. name_in (name ++ replicate n 0) ≡ name) more (front_is name (room - length name - 1) none)

-- ---- names of hosts

-- a byte of such a name
abbrev pub IsNameByte : ℕ → Type 0
IsNameByte c = (is_label_byte c || (c == 46)) ≡ true

label_bytes : (part : List ℕ) → is_label part ≡ true → AllByRecursion IsNameByte part
label_bytes part is =
    let outer = and_parts _ _ is in
    each_weaker (λ c. is_label_byte c ≡ true) IsNameByte (λ c e. rw e refl) part (each_of is_label_byte part outer.1)

-- bytes of parts with dots between them
each_part : (P : ℕ → Type 0) (byte : ℕ) (ps : List (List ℕ)) → P byte → AllByRecursion (AllByRecursion P) ps → AllByRecursion P (join_with_byte byte ps)
each_part P byte [] mark all = tt
each_part P byte (a ∷ []) mark all = all.0
each_part P byte (a ∷ b ∷ more) mark all = each-append P a (byte ∷ join_with_byte byte (b ∷ more)) all.0 (mark, each_part P byte (b ∷ more) mark all.1)

labels_bytes : (ps : List (List ℕ)) → are_labels ps ≡ true → AllByRecursion (AllByRecursion IsNameByte) ps
labels_bytes [] are = tt
labels_bytes (last ∷ []) are = (label_bytes last (and_parts (is_label last) _ are).0, tt)
labels_bytes (part ∷ next ∷ more) are =
    let both = and_parts (is_label part) (are_labels (next ∷ more)) are in
    (label_bytes part both.0, labels_bytes (next ∷ more) both.1)

host_bytes : (name : List ℕ) → are_labels (parts dot name) ≡ true → AllByRecursion IsNameByte name
host_bytes name are =
    subst (AllByRecursion IsNameByte) (join_with_byte-slice_split dot name) (each_part IsNameByte dot (parts dot name) refl (labels_bytes (parts dot name) are))

pub name_bytes : (name : List ℕ) → is_host_name name ≡ true → AllByRecursion IsNameByte name
name_bytes name is = host_bytes name (and_parts _ (are_labels (parts dot name)) is).1

pub name_without : (byte : ℕ) (name : List ℕ) → is_host_name name ≡ true → (is_label_byte byte || (byte == 46)) ≡ false → Without byte name
name_without byte name is fails = each_weaker IsNameByte (λ c. c ≢ byte) (λ c passes. isnt (λ b. is_label_byte b || (b == 46)) byte c fails passes) name (name_bytes name is)

pub name_size : (name : List ℕ) → is_host_name name ≡ true → length name < host_room
name_size name is = (let low = (and_parts _ (are_labels (parts dot name)) is).0 in grind (arith, nat_tests))

pub name_some : (name : List ℕ) → is_host_name name ≡ true → 0 < length name
name_some [] is = absurd (true≢false (sym is))
name_some (c ∷ more) is = omega arith

-- ---- no name is an address

-- digits alone have no letter
no_letter : (ds : List ℕ) → list_all (is_digit_to 10) ds ≡ true → list_any is_ascii_alphabetic ds ≡ false
no_letter [] all = refl
no_letter (d ∷ ds) all =
    let both = and_parts (is_digit_to 10 d) (list_all (is_digit_to 10) ds) all in
    rw (plain_digit d both.0, no_letter ds both.1) refl
  where
    plain_digit : (c : ℕ) → is_digit_to 10 c ≡ true → is_ascii_alphabetic c ≡ false
    plain_digit c is = grind (arith, nat_tests)

digits_of : (part : List ℕ) (x : ℕ) → octet_of part ≡ Some x → list_all (is_digit_to 10) part ≡ true
digits_of part x is = grind arith

-- what is the last of a name isn't a number
not_last : (part : List ℕ) (o : Option ℕ) → octet_of part ≡ o → are_labels (parts dot part) ≡ true → octet_of part ≡ None
not_last part None is are = is
not_last part (Some x) is are =
    let all = digits_of part x is in
    let none = each_weaker (λ c. is_digit_to 10 c ≡ true) (λ c. c ≢ dot) (λ c passes. isnt (is_digit_to 10) dot c refl passes) part (each_of (is_digit_to 10) part all) in
    let whole = sym are ∙ last_label dot part (sym (cut_none dot part none)) in
    absurd (true≢false (sym (and_parts (is_label part) (list_any is_ascii_alphabetic part) (sym whole)).1 ∙ no_letter part all))

labels_behind : (text part more : List ℕ) → cut_at dot text ≡ Some (part, more) → are_labels (parts dot text) ≡ true → are_labels (parts dot more) ≡ true
labels_behind text part more cut are =
    elim (cases_Bool (is_label part)) [
      | inl fine ↦ sym (more_labels dot text part more (sym cut) fine) ∙ are
      | inr bad ↦ absurd (true≢false (sym are ∙ no_labels dot text part more (sym cut) bad))
    ]

last_none : (o p q : Option ℕ) → (o >>= λ w. p >>= λ x. q >>= λ y. (None >>= λ z. Some (w ∷ x ∷ y ∷ z ∷ []))) ≡ None
last_none None p q = refl
last_none (Some w) None q = refl
last_none (Some w) (Some x) None = refl
last_none (Some w) (Some x) (Some y) = refl

-- three cuts of a name leave one more of its parts
host_isnt_four : (name : List ℕ) → are_labels (parts dot name) ≡ true → four_of name ≡ None
host_isnt_four name are = by_first (cut_at dot name) refl
  where
    by_third : (a b text : List ℕ) → are_labels (parts dot text) ≡ true → (o : Option (List ℕ × List ℕ)) → cut_at dot text ≡ o
        → (o >>= λ c. octet_of a >>= λ w. octet_of b >>= λ x. octet_of c.0 >>= λ y. octet_of c.1 >>= λ z. Some (w ∷ x ∷ y ∷ z ∷ [])) ≡ None
    by_third a b text are None cut = refl
    by_third a b text are (Some c) cut =
        rw (not_last c.1 (octet_of c.1) refl (labels_behind text c.0 c.1 cut are)) (last_none (octet_of a) (octet_of b) (octet_of c.0))

    by_second : (a text : List ℕ) → are_labels (parts dot text) ≡ true → (o : Option (List ℕ × List ℕ)) → cut_at dot text ≡ o
        → (o >>= λ b. cut_at dot b.1 >>= λ c. octet_of a >>= λ w. octet_of b.0 >>= λ x. octet_of c.0 >>= λ y. octet_of c.1 >>= λ z. Some (w ∷ x ∷ y ∷ z ∷ [])) ≡ None
    by_second a text are None cut = refl
    by_second a text are (Some b) cut = by_third a b.0 b.1 (labels_behind text b.0 b.1 cut are) (cut_at dot b.1) refl

    by_first : (o : Option (List ℕ × List ℕ)) → cut_at dot name ≡ o
        → (o >>= λ a. cut_at dot a.1 >>= λ b. cut_at dot b.1 >>= λ c. octet_of a.0 >>= λ w. octet_of b.0 >>= λ x. octet_of c.0 >>= λ y. octet_of c.1 >>= λ z. Some (w ∷ x ∷ y ∷ z ∷ [])) ≡ None
    by_first None cut = refl
    by_first (Some a) cut = by_second a.0 a.1 (labels_behind name a.0 a.1 cut are) (cut_at dot a.1) refl

four_missing : (text host : List ℕ) (port : ℕ) → port < 2 ^ 16 → host_of host ≡ None → four_and_port (Some (host, decimal port)) text ≡ None
four_missing text host port low is = rw (port_again port low, is) refl

named_read : (text name : List ℕ) (port : ℕ) → text ≡ name ++ 58 ∷ decimal port → Without colon name → port < 2 ^ 16 → is_host_name name ≡ true
    → named_of text ≡ Some (Named (padded host_room name) port)
named_read text name port split none low is = rw (split, cut_front colon name (decimal port) none, port_again port low, is) refl

named_again : (name : List ℕ) (port : ℕ) → is_host_name name ≡ true → port < 2 ^ 16 → place_of (name ++ codes ":" ++ decimal port) ≡ Some (Named (padded host_room name) port)
named_again name port is low =
    let text = name ++ codes ":" ++ decimal port in
    let split : text ≡ name ++ 58 ∷ decimal port = append_assoc name (codes ":") (decimal port) in
    let none = name_without colon name is refl in
    let begins : get_or text 0 0 ≢ opening = subst (λ (l : List ℕ). get_or l 0 0 ≢ opening) (sym split) (first_other opening name (58 ∷ decimal port) (name_some name is) (name_without opening name is refl)) in
    let host : host_of name ≡ None = rw (ne_eqb (length name) 0 (λ e. omega (arith, e, name_some name is))) (host_isnt_four name (and_parts _ (are_labels (parts dot name)) is).1) in
    let no_address : address_of text ≡ None = plain text name (decimal port) begins split none ∙ four_missing text name port low host in
    rw no_address (named_read text name port split none low is)

reached : (text : List ℕ) (place : Place) (port : ℕ) → place_of text ≡ Some place → port_at place ≡ port → 0 < port → remote_of text ≡ Some place
reached text place port is at some = rw (is, at, ne_eqb port 0 (λ e. omega (arith, e, some))) refl

pub remote_again : (place : Place) → IsRemote place → remote_of (place_words place) ≡ Some place
remote_again (At address) is =
    let place : place_of (place_words (At address)) ≡ Some (At address) = rw (address_again address is.0) refl in
    reached (place_words (At address)) (At address) address.port place refl is.1
remote_again (Named host port) is =
    let (name, right, same) = is.0 in
    let words : name_in host ≡ name = ap name_in same ∙ name_is name host_room (name_size name right) (name_without 0 name right refl) in
    let place : place_of (place_words (Named host port)) ≡ Some (Named host port) =
    rw (words, same) (named_again name port right is.2) in
    reached (place_words (Named host port)) (Named host port) port place refl is.1

-- ---- names of interfaces

is_name_size : (name : List ℕ) → is_name name ≡ true → length name < 16
is_name_size name right = grind (arith, nat_tests)

is_name_bytes : (name : List ℕ) → is_name name ≡ true → list_all is_name_byte name ≡ true
is_name_bytes name right = grind arith

is_path_size : (path : List ℕ) → is_path path ≡ true → length path < 254
is_path_size path right = grind (arith, nat_tests)

is_path_bytes : (path : List ℕ) → is_path path ≡ true → list_all is_path_byte path ≡ true
is_path_bytes path right = grind arith

is_file_size : (file : List ℕ) → is_file file ≡ true → length file < 254
is_file_size file right = grind (arith, nat_tests)

is_file_bytes : (file : List ℕ) → is_file file ≡ true → list_all is_path_byte file ≡ true
is_file_bytes file right = grind arith

name_by : (name bytes : List ℕ) (right : Bool) → is_name name ≡ right → name_of name ≡ Some bytes → name_in bytes ≡ name
name_by name bytes false wrong read = (let none : None ≡ Some bytes = sym (rw wrong refl) ∙ read in cc)
name_by name bytes true right read =
    let same : padded name_room name ≡ bytes = one_value (padded name_room name) bytes (sym (rw right refl) ∙ read) in
    let none : Without 0 name = each_weaker (λ c. is_name_byte c ≡ true) (λ c. c ≢ 0) (λ c passes. isnt is_name_byte 0 c refl passes) name (each_of is_name_byte name (is_name_bytes name right)) in
    ap name_in (sym same) ∙ name_is name name_room (is_name_size name right) none

pub name_words : (bytes : List ℕ) (is : IsName bytes) → name_in bytes ≡ is.0
name_words bytes is = name_by is.0 bytes (is_name is.0) refl is.2

pub name_again : (bytes : List ℕ) → IsName bytes → name_of (name_in bytes) ≡ Some bytes
name_again bytes is = ap name_of (name_words bytes is) ∙ is.2

-- ---- paths

-- bytes of paths in their room
path_is : (path bytes : List ℕ) → padded host_room path ≡ bytes → length path < 254 → list_all is_path_byte path ≡ true → name_in bytes ≡ path
path_is path bytes same low all =
    let none : Without 0 path = each_weaker (λ c. is_path_byte c ≡ true) (λ c. c ≢ 0) (λ c passes. isnt is_path_byte 0 c refl passes) path (each_of is_path_byte path all) in
    ap name_in (sym same) ∙ name_is path host_room low none

path_by : (path bytes : List ℕ) (right : Bool) → is_path path ≡ right → path_of path ≡ Some bytes → name_in bytes ≡ path
path_by path bytes false wrong read = (let none : None ≡ Some bytes = sym (rw wrong refl) ∙ read in cc)
path_by path bytes true right read =
    path_is path bytes (one_value (padded host_room path) bytes (sym (rw right refl) ∙ read)) (is_path_size path right) (is_path_bytes path right)

file_by : (file bytes : List ℕ) (right : Bool) → is_file file ≡ right → file_of file ≡ Some bytes → name_in bytes ≡ file
file_by file bytes false wrong read = (let none : None ≡ Some bytes = sym (rw wrong refl) ∙ read in cc)
file_by file bytes true right read =
    path_is file bytes (one_value (padded host_room file) bytes (sym (rw right refl) ∙ read)) (is_file_size file right) (is_file_bytes file right)

pub path_words : (bytes : List ℕ) (is : IsPath bytes) → name_in bytes ≡ is.0
path_words bytes is = path_by is.0 bytes (is_path is.0) refl is.2

pub path_again : (bytes : List ℕ) → IsPath bytes → path_of (name_in bytes) ≡ Some bytes
path_again bytes is = ap path_of (path_words bytes is) ∙ is.2

pub file_words : (bytes : List ℕ) (is : IsFile bytes) → name_in bytes ≡ is.0
file_words bytes is = file_by is.0 bytes (is_file is.0) refl is.2

pub file_again : (bytes : List ℕ) → IsFile bytes → file_of (name_in bytes) ≡ Some bytes
file_again bytes is = ap file_of (file_words bytes is) ∙ is.2
