-- Services that are written into a packet where it lies, and its front before them.
use Rattle.std.proofs.Common.{◌≡◌, ℕ, zero, suc, ◌+◌, ◌*◌, ◌≤◌, ◌<◌, List, [], ◌∷◌, ◌++◌, length, take, drop, refl, sym, ap, ◌∙◌, arith, append-nil, append_assoc, length-append, length-take, length-drop, take-add}
use Rattle.std.proofs.lemmas.Grind.{flat_map-append}
use Rattle.std.proofs.lemmas.List.{take_at, drop_at, take-append-drop}
use Rattle.std.specs.List.{flat_map}
use Rattle.ipx_wire.specs.Put.{PutsAt}
use Rattle.ipx_wire.specs.WriteServices.{service_bytes}
use Rattle.ipx_wire.specs.declared.service.Service.{Service}
use Rattle.ipx_wire.proofs.Puts.{then}
use Rattle.ipx_router.specs.Numbers.{services_a_page}
use Rattle.ipx_router.specs.inside.Putting.{PutsServices, PutsAfter, packet_size}

-- nothing is written yet
pub none_put : (left : List Service) (old : List ℕ) → PutsServices left left 0 old old
none_put left old = record {
  services = [];
  whole = refl;
  counted = refl;
  sizes = refl;
  bytes = sym (ap (λ (x : List ℕ). x ++ drop 32 old) (append-nil (take 32 old)) ∙ take-append-drop 32 old);
}

module _ {left leaves : List Service} {count : ℕ} {old out : List ℕ} (before : PutsServices left leaves count old out) where
  abbrev written : List ℕ
  written = flat_map service_bytes before.services

  -- the packet is as long as it was
  pub same_length : 32 + 64 * count ≤ length old → length out ≡ length old
  same_length room =
      let sizes = before.sizes in
      ap length before.bytes
      ∙ omega (
        arith,
        length-append (take 32 old ++ written) (drop (32 + length written) old),
        length-append (take 32 old) written,
        length-take 32 old,
        length-drop (32 + length written) old,
        sizes,
        room,
      )

  -- more of them are written
  pub more_put : {rest : List Service} {new : List ℕ} {counts : ℕ} (more : List Service) → leaves ≡ more ++ rest → 32 + 64 * count ≤ length old
      → PutsAfter count more counts out new → PutsServices left rest counts old new
  more_put {rest} {new} {counts} more e room puts =
      let sizes = before.sizes in
      let long = puts.sizes in
      let counted = before.counted in
      let many = puts.counted in
      let first : PutsAt old 32 written out = record { room = omega (arith, sizes, room); after = before.bytes } in
      let both : PutsAt old 32 (written ++ flat_map service_bytes more) new = then first puts.bytes (omega (arith, sizes)) in
      let whole : flat_map service_bytes (before.services ++ more) ≡ written ++ flat_map service_bytes more = flat_map-append service_bytes before.services more in
      record {
        services = before.services ++ more;
        whole = before.whole ∙ ap (λ (ss : List Service). before.services ++ ss) e ∙ sym (append_assoc before.services more rest);
        counted = omega (arith, length-append before.services more, counted, many);
        sizes = ap length whole ∙ omega (arith, length-append written (flat_map service_bytes more), sizes, long, many);
        bytes = both.after ∙ sym (ap (λ (ys : List ℕ). take 32 old ++ ys ++ drop (32 + length ys) old) whole);
      }

  -- one of them isn't sent
  pub none_more : {rest : List Service} → leaves ≡ rest → PutsServices left rest count old out
  none_more e = grind arith

-- one service, written behind others
pub one_after : {count : ℕ} {out new : List ℕ} (x : Service) → PutsAt out (32 + 64 * count) (service_bytes x) new → length (service_bytes x) ≡ 64
    → PutsAfter count (x ∷ []) (count + 1) out new
one_after {count} {out} {new} x puts size = grind (arith, append-nil)

-- ---- room

-- the front of a list that has more
take_over : {X : Type 0} (xs : List X) (x : X) (rest : List X) (n : ℕ) → length xs < n → (tail : List X) × (take n (xs ++ x ∷ rest) ≡ xs ++ x ∷ tail)
take_over [] x rest zero more = absurd (omega (arith, more))
take_over [] x rest (suc n) more = (take n rest, refl)
take_over (y ∷ xs) x rest zero more = absurd (omega (arith, more))
take_over {X} (y ∷ xs) x rest (suc n) more =
    let found = take_over xs x rest n (omega (arith, more)) in
    (found.0, ap (λ (l : List X). y ∷ l) found.1)

size_of : (ss : List Service) → 1 ≤ length ss → packet_size ss ≡ 32 + length (flat_map service_bytes (take services_a_page ss))
size_of ss some = grind arith

-- a packet with room for the next services has room for one more, until it has as many as it may have
pub room_for_one : {left rest : List Service} {count : ℕ} {old out : List ℕ} (x : Service) (before : PutsServices left (x ∷ rest) count old out)
    → count < services_a_page → packet_size left ≤ length old → length (service_bytes x) ≡ 64 → 32 + 64 * count + 64 ≤ length old
room_for_one {left} {rest} {count} {old} {out} x before few room size =
    let counted = before.counted in
    let sizes = before.sizes in
    let found = take_over before.services x rest services_a_page (omega (arith, counted, few)) in
    let some : 1 ≤ length left = omega (arith, ap length before.whole, length-append before.services (x ∷ rest)) in
    let front : take services_a_page left ≡ before.services ++ x ∷ found.0 = ap (take services_a_page) before.whole ∙ found.1 in
    let bytes : flat_map service_bytes (take services_a_page left) ≡ flat_map service_bytes before.services ++ (service_bytes x ++ flat_map service_bytes found.0) =
    ap (flat_map service_bytes) front ∙ flat_map-append service_bytes before.services (x ∷ found.0) in
    omega (
      arith,
      room,
      size_of left some,
      ap length bytes,
      sizes,
      size,
      length-append (flat_map service_bytes before.services) (service_bytes x ++ flat_map service_bytes found.0),
      length-append (service_bytes x) (flat_map service_bytes found.0),
    )

-- where as many bytes are there as before, there was room for those that were written
pub room_was_there : {left leaves : List Service} {count : ℕ} {old out : List ℕ} (before : PutsServices left leaves count old out)
    → length out ≡ length old → 1 ≤ count → 32 + 64 * count ≤ length old
room_was_there {left} {leaves} {count} {old} {out} before same some =
    let sizes = before.sizes in
    let bytes = flat_map service_bytes before.services in
    omega (
      arith,
      same,
      some,
      sizes,
      ap length before.bytes,
      length-append (take 32 old ++ bytes) (drop (32 + length bytes) old),
      length-append (take 32 old) bytes,
      length-take 32 old,
      length-drop (32 + length bytes) old,
    )

-- ---- the whole packet

-- once its front was written, too
pub whole_packet : {left leaves : List Service} {count : ℕ} (start : ℕ) (room lent out front packet : List ℕ)
    (before : PutsServices left leaves count (drop start room) (drop start lent))
    → 32 + 64 * count ≤ length (drop start room) → length front ≡ 32 → packet ≡ front ++ flat_map service_bytes before.services
    → drop start out ≡ front ++ drop 32 (drop start lent) → take start out ≡ take start room
    → take (start + (32 + 64 * count)) out ≡ take start room ++ packet
whole_packet {left} {leaves} {count} start room lent out front packet before there size is behind first =
    let sizes = before.sizes in
    let bytes = flat_map service_bytes before.services in
    let rest = drop (32 + length bytes) (drop start room) in
    let kept : drop 32 (drop start lent) ≡ bytes ++ rest =
    ap (drop 32) (before.bytes ∙ append_assoc (take 32 (drop start room)) bytes rest)
    ∙ drop_at (take 32 (drop start room)) (bytes ++ rest) 32 (omega (arith, length-take 32 (drop start room), there)) in
    take-add start (32 + 64 * count) out
    ∙ ap (λ (l : List ℕ). l ++ take (32 + 64 * count) (drop start out)) first
    ∙ ap (λ (l : List ℕ). take start room ++ l)
    (ap (take (32 + 64 * count)) (behind ∙ ap (λ (l : List ℕ). front ++ l) kept ∙ sym (append_assoc front bytes rest))
    ∙ take_at (front ++ bytes) rest (32 + 64 * count) (omega (arith, length-append front bytes, size, sizes))
    ∙ sym is)

-- where room for them is left behind those bytes that are used
pub room_behind : {left leaves : List Service} {count : ℕ} (start : ℕ) (room lent : List ℕ) → PutsServices left leaves count (drop start room) (drop start lent)
    → length lent ≡ length room → 1 ≤ count → start ≤ length room → start + (32 + 64 * count) ≤ length room
room_behind {left} {leaves} {count} start room lent before same some within =
    let there = room_was_there before (omega (arith, same, length-drop start room, length-drop start lent)) some in
    omega (arith, there, length-drop start room, within)
