use Rattle.std.proofs.Common.{◌≡◌, ℕ, ◌+◌, List, [], ◌∷◌, take, drop, refl, sym, ap, subst, ◌∙◌, arith, Option, Some, None, false, true, ◌&&◌}
use Rattle.std.proofs.lemmas.List.{drop-drop}
use Rattle.std.proofs.lemmas.List.Elements.{All-from_get_or}
use Rattle.std.proofs.lemmas.List.Splits.{slice_split_first, slice_split_none}
use Rattle.std.proofs.lemmas.List.Sums.{fails_before_first}
use Rattle.std.specs.List.{position, list_any}
use Rattle.std.specs.Option.{option_map, unwrap_or}
use Rattle.ipx_settings.specs.Cutting.{◌>>=◌, is_byte, cut_at, parts}
use Rattle.std.specs.Char.{is_ascii_alphabetic}
use Rattle.ipx_settings.specs.Names.{is_label, are_labels}
use Rattle.ipx_settings.specs.Hosts.{groups_from, with_part}
use Rattle.ipx_settings.specs.declared.hosts.Groups.{Groups}
use Rattle.ipx_settings.proofs.Parts.{is_at, is_past}

split_first : (byte : ℕ) (text : List ℕ) (k : ℕ) → position (is_byte byte) text ≡ Some k
    → parts byte text ≡ take k text ∷ parts byte (drop (k + 1) text)
split_first byte text k e =
    let place = is_at (is_byte byte) text k e in
    subst (λ n. parts byte text ≡ take n text ∷ parts byte (drop (n + 1) text)) place.0
    (slice_split_first (is_byte byte) text 0 (omega (arith, place.0, place.1)))

split_none : (byte : ℕ) (text : List ℕ) → position (is_byte byte) text ≡ None → parts byte text ≡ text ∷ []
split_none byte text e =
    let past = is_past (is_byte byte) text e in
    slice_split_none (is_byte byte) text (All-from_get_or (λ b. is_byte byte b ≡ false) text 0 (λ i low. fails_before_first (is_byte byte) text i 0 (omega (arith, low, past))))

cut_by : (byte : ℕ) (text part more : List ℕ) (o : Option ℕ) → position (is_byte byte) text ≡ o
    → option_map {U = List ℕ × List ℕ} (λ k. (take k text, drop (k + 1) text)) o ≡ Some (part, more) → parts byte text ≡ part ∷ parts byte more
cut_by byte text part more None e bad = absurd cc
cut_by byte text part more (Some k) e same =
    let front : take k text ≡ part = ap (λ (o : Option (List ℕ × List ℕ)). (unwrap_or o (text, text)).0) same in
    let rest : drop (k + 1) text ≡ more = ap (λ (o : Option (List ℕ × List ℕ)). (unwrap_or o (text, text)).1) same in
    split_first byte text k e ∙ rw (front, rest) refl

-- a text that is cut has the part in front, and those behind it
pub parts_cut : (byte : ℕ) (text part more : List ℕ) → Some (part, more) ≡ cut_at byte text → parts byte text ≡ part ∷ parts byte more
parts_cut byte text part more e = cut_by byte text part more (position (is_byte byte) text) refl (sym e)

uncut_by : (byte : ℕ) (text : List ℕ) (o : Option ℕ) → position (is_byte byte) text ≡ o
    → option_map {U = List ℕ × List ℕ} (λ k. (take k text, drop (k + 1) text)) o ≡ None → parts byte text ≡ text ∷ []
uncut_by byte text None e same = split_none byte text e
uncut_by byte text (Some k) e bad = absurd cc

-- any other is its only part
pub parts_uncut : (byte : ℕ) (text : List ℕ) → None ≡ cut_at byte text → parts byte text ≡ text ∷ []
parts_uncut byte text e = uncut_by byte text (position (is_byte byte) text) refl (sym e)

-- what is cut at a place
pub cut_is : (byte : ℕ) (text front rest behind : List ℕ) (k : ℕ) → position (is_byte byte) text ≡ Some k
    → front ≡ take k text → rest ≡ drop k text → behind ≡ drop 1 rest → Some (front, behind) ≡ cut_at byte text
cut_is byte text front rest behind k e f g h = rw (e, f, h, g, drop-drop) refl

-- groups of parts, one after the other
pub more_groups : (byte : ℕ) (text part more : List ℕ) (g h : Groups) → Some (part, more) ≡ cut_at byte text → Some h ≡ with_part part g
    → groups_from g (parts byte text) ≡ groups_from h (parts byte more)
more_groups byte text part more g h cut e = rw (parts_cut byte text part more cut, sym e) refl

pub no_more_groups : (byte : ℕ) (text part more : List ℕ) (g : Groups) → Some (part, more) ≡ cut_at byte text → None ≡ with_part part g
    → groups_from g (parts byte text) ≡ None
no_more_groups byte text part more g cut e = rw (parts_cut byte text part more cut, sym e) refl

maybe : (o : Option Groups) → (o >>= λ h. Some h) ≡ o
maybe None = refl
maybe (Some g) = refl

pub last_groups : (byte : ℕ) (text : List ℕ) (g : Groups) → None ≡ cut_at byte text
    → groups_from g (parts byte text) ≡ with_part text g
last_groups byte text g uncut = rw (parts_uncut byte text uncut) (maybe (with_part text g))

labels_by : (part : List ℕ) (byte : ℕ) (more : List ℕ) (o : Option ℕ) → position (is_byte byte) more ≡ o
    → are_labels (part ∷ parts byte more) ≡ (is_label part && are_labels (parts byte more))
labels_by part byte more None e = rw (split_none byte more e) refl
labels_by part byte more (Some k) e = rw (split_first byte more k e) refl

-- parts of a name, one after the other
pub more_labels : (byte : ℕ) (text part more : List ℕ) → Some (part, more) ≡ cut_at byte text → is_label part ≡ true
    → are_labels (parts byte text) ≡ are_labels (parts byte more)
more_labels byte text part more cut fine = rw (parts_cut byte text part more cut) (labels_by part byte more (position (is_byte byte) more) refl ∙ rw fine refl)

pub no_labels : (byte : ℕ) (text part more : List ℕ) → Some (part, more) ≡ cut_at byte text → is_label part ≡ false
    → are_labels (parts byte text) ≡ false
no_labels byte text part more cut bad = rw (parts_cut byte text part more cut) (labels_by part byte more (position (is_byte byte) more) refl ∙ rw bad refl)

pub last_label : (byte : ℕ) (text : List ℕ) → None ≡ cut_at byte text
    → are_labels (parts byte text) ≡ (is_label text && list_any is_ascii_alphabetic text)
last_label byte text uncut = rw (parts_uncut byte text uncut) refl
