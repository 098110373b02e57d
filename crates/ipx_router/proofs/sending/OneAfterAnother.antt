-- Packets that are put into an outbox one after another.
use Rattle.std.proofs.lemmas.Grind.{common_steps}
use Rattle.std.proofs.Common.{◌≡◌, refl, sym, ap, subst, ◌∙◌, ℕ, ◌+◌, ◌*◌, ◌<◌, ◌≤◌, List, [], ◌∷◌, ◌++◌, map, drop, get_or, length, arith, append-nil, append_assoc, length-append}
use Rattle.std.proofs.lemmas.List.{drop_all}
use Rattle.std.specs.List.{AllByRecursion, flat_map}
use Rattle.ipx_router.specs.Outbox.{Contents, HasRoom, Fits, Appends, total}
use Rattle.ipx_router.specs.inside.Owed.{Pays, owed}
use Rattle.ipx_router.specs.Relays.{Sent}
use Rattle.ipx_router.proofs.lists.CountOfPages.{room_left}

pub total-append : (ps qs : List Sent) → total (ps ++ qs) ≡ total ps + total qs
total-append [] qs = omega arith
total-append (p ∷ ps) qs = omega (arith, total-append ps qs)

-- ---- what is sent in two parts

pub appends_none : (o : Contents) → Appends o o []
appends_none o = record { sent = sym (append-nil o.sent); places = omega arith; spare = omega arith; memory = refl }

pub appends_then : {a b c : Contents} {ps qs : List Sent} → Appends a b ps → Appends b c qs → Appends a c (ps ++ qs)
appends_then {a} {b} {c} {ps} {qs} first second = grind (arith, append_assoc, length-append, total-append)

-- what fits, fits without its end
pub fits_front : {o : Contents} (ps qs : List Sent) → Fits o (ps ++ qs) → Fits o ps
fits_front ps qs fits = grind (arith, length-append, total-append)

-- the end of what fits, fits once its front was sent
pub fits_then : {a b : Contents} (ps qs : List Sent) → Fits a (ps ++ qs) → Appends a b ps → Fits b qs
fits_then ps qs fits first = grind (arith, length-append, total-append)

pub first_fits : {o : Contents} (p : Sent) (ps : List Sent) → Fits o (p ∷ ps) → Fits o (p ∷ [])
first_fits p ps fits = fits_front (p ∷ []) ps fits

-- ---- room in numbers

-- packets of at most that many bytes each
pub total_most : (most : ℕ) (ps : List Sent) → AllByRecursion (λ p. length p.bytes ≤ most) ps → total ps ≤ length ps * most
total_most most [] all = omega arith
total_most most (p ∷ ps) all = omega (arith, all.0, total_most most ps all.1)

-- room for that many is room for these
pub fits_room : {o : Contents} (packets bytes : ℕ) (ps : List Sent) → HasRoom o packets bytes → length ps ≤ packets → total ps ≤ bytes → Fits o ps
fits_room packets bytes ps room few short = grind arith

-- ---- what is owed

pub pays_none : (o : Contents) (ps : List Sent) → Pays o o ps ps
pays_none o ps = record { sent = []; whole = refl; appends = appends_none o }

pub pays_same : (o : Contents) {ps qs : List Sent} → ps ≡ qs → Pays o o ps qs
pays_same o e = record { sent = []; whole = e; appends = appends_none o }

-- the first packets were sent
pub pays_first : {a b : Contents} {ps : List Sent} (qs : List Sent) → Appends a b ps → Pays a b (ps ++ qs) qs
pays_first {a} {b} {ps} qs appends = record { sent = ps; whole = refl; appends = appends }

pub pays_one : {a b : Contents} {p : Sent} (ps : List Sent) → Appends a b (p ∷ []) → Pays a b (p ∷ ps) ps
pays_one ps appends = pays_first ps appends

pub pays_then : {a b c : Contents} {ps qs rs : List Sent} → Pays a b ps qs → Pays b c qs rs → Pays a c ps rs
pays_then {a} {b} {c} {ps} {qs} {rs} first second = record {
  sent = first.sent ++ second.sent;
  whole = first.whole ∙ ap (λ (x : List Sent). first.sent ++ x) second.whole ∙ sym (append_assoc first.sent second.sent rs);
  appends = appends_then first.appends second.appends;
}

-- where nothing is owed, all was sent
pub paid : {a b : Contents} {ps : List Sent} → Pays a b ps [] → Appends a b ps
paid {a} {b} pays = subst (Appends a b) (sym (append-nil pays.sent) ∙ sym pays.whole) pays.appends

-- what is still owed fits where all of it did
pub still_fits : {a b : Contents} {ps qs : List Sent} → Fits a ps → Pays a b ps qs → Fits b qs
still_fits {a} {b} {ps} {qs} fits pays = fits_then pays.sent qs (subst (Fits a) pays.whole fits) pays.appends

-- ---- what is owed of a page and of the items that follow it

module _ {X : Type 0} (n : ℕ) (packet : List X → Sent) where
  pub owed_room : (page : List X) (x : X) (xs : List X) → length page < n → owed n packet page (x ∷ xs) ≡ owed n packet (page ++ x ∷ []) xs
  owed_room page x xs room = ap (map packet) (room_left n page x xs room)

  pub owed_full : (page : List X) (x : X) (xs : List X) → 1 ≤ n → n ≤ length page → owed n packet page (x ∷ xs) ≡ packet page ∷ owed n packet (x ∷ []) xs
  owed_full page x xs some full = grind arith

  pub owed_last : (page : List X) → 1 ≤ length page → owed n packet page [] ≡ packet page ∷ []
  owed_last page some = grind arith

  pub owed_none : owed n packet [] [] ≡ []
  owed_none = refl

  -- where all fits, so does a full page
  pub page_fits : {o : Contents} (page : List X) (x : X) (xs : List X) → 1 ≤ n → n ≤ length page → Fits o (owed n packet page (x ∷ xs)) → Fits o (packet page ∷ [])
  page_fits {o} page x xs some full fits = first_fits (packet page) (owed n packet (x ∷ []) xs) (subst (Fits o) (owed_full page x xs some full) fits)

-- ---- what is sent for one item after the other, as for ports

-- what is still owed of the items at place k
behind : {X : Type 0} (f : X → List Sent) (xs : List X) (k : ℕ) (d : X) → k < length xs
    → flat_map f (drop k xs) ≡ f (get_or xs k d) ++ flat_map f (drop (k + 1) xs)
behind f xs k d below = grind (arith, common_steps)

module _ {X : Type 0} (f : X → List Sent) (xs : List X) (k : ℕ) (d : X) (below : k < length xs) {a b : Contents} {whole : List Sent} (pays : Pays a b whole (flat_map f (drop k xs))) where
  -- there is room for the next item
  pub next_fits : Fits a whole → Fits b (f (get_or xs k d))
  next_fits fits = fits_front (f (get_or xs k d)) (flat_map f (drop (k + 1) xs)) (subst (Fits b) (behind f xs k d below) (still_fits fits pays))

  -- what is owed once it was sent
  pub next_pays : {c : Contents} → Appends b c (f (get_or xs k d)) → Pays a c whole (flat_map f (drop (k + 1) xs))
  next_pays {c} appends =
      pays_then pays (subst (λ (ps : List Sent). Pays b c ps (flat_map f (drop (k + 1) xs))) (sym (behind f xs k d below)) (pays_first (flat_map f (drop (k + 1) xs)) appends))

-- behind the last item all was sent
pub all_paid : {X : Type 0} (f : X → List Sent) (xs : List X) (k : ℕ) {a b : Contents} {whole : List Sent} → length xs ≤ k
    → Pays a b whole (flat_map f (drop k xs)) → Appends a b whole
all_paid f xs k {a} {b} {whole} full pays = paid (subst (λ (ys : List Sent). Pays a b whole ys) (ap (flat_map f) (drop_all k xs full)) pays)
