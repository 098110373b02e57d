-- One more packet behind those of an outbox.
use Rattle.std.proofs.Common.{◌≡◌, refl, sym, ap, ◌∙◌, ℕ, ◌+◌, ◌≤◌, List, [], ◌∷◌, ◌++◌, length, take, map, rules, arith, append_assoc, length-append, length-drop}
use Rattle.std.proofs.lemmas.List.{take-take, take-append-le, drop-append-le, drop_at, take_at, take_all, length-take-le, map-append}
use Rattle.std.specs.List.{AllByRecursion}
use Rattle.ipx_router.specs.Outbox.{Memory, Contents, Appends}
use Rattle.ipx_router.specs.Relays.{Sent}
use Rattle.ipx_router.specs.Slots.{sent_in, IsIn, IsFlat}
use Rattle.ipx_router.specs.declared.outbox.Slot.{Slot}
use Rattle.ipx_router.proofs.sending.OneAfterAnother.{total-append}
use Rattle.ipx_router.proofs.tables.HeldWasOffered.{all-append}

-- a slot with these bytes
abbrev with_bytes : Slot → List ℕ → Sent
with_bytes slot bytes = record { port = slot.port; link = slot.link; bytes = bytes }

-- the packet of a slot is the same where more bytes follow
same_packet : (bytes more : List ℕ) (slot : Slot) → IsIn bytes slot → sent_in (bytes ++ more) slot ≡ sent_in bytes slot
same_packet bytes more slot is = grind (arith, drop-append-le, take-append-le, length-drop)

same_packets : (bytes more : List ℕ) (slots : List Slot) → AllByRecursion (IsIn bytes) slots → map (sent_in (bytes ++ more)) slots ≡ map (sent_in bytes) slots
same_packets bytes more [] are = refl
same_packets bytes more (slot ∷ slots) are = grind (arith, same_packets bytes more slots are.1, same_packet)

still_in : (bytes more : List ℕ) (slots : List Slot) → AllByRecursion (IsIn bytes) slots → AllByRecursion (IsIn (bytes ++ more)) slots
still_in bytes more [] are = tt
still_in bytes more (slot ∷ slots) are = grind (arith, still_in bytes more slots are.1, length-append)

-- the packet of the slot that comes behind the others
new_packet : (bytes more : List ℕ) (slot : Slot) → slot.start ≡ length bytes → slot.size ≡ length more → sent_in (bytes ++ more) slot ≡ with_bytes slot more
new_packet bytes more slot start size = grind (arith, drop_at, take_all)

-- the packets of the slots and of one more
pub one_more : (bytes more : List ℕ) (slots : List Slot) (slot : Slot) → AllByRecursion (IsIn bytes) slots → slot.start ≡ length bytes → slot.size ≡ length more
    → map (sent_in (bytes ++ more)) (slots ++ slot ∷ []) ≡ map (sent_in bytes) slots ++ with_bytes slot more ∷ []
one_more bytes more slots slot are start size = grind (arith, map-append, same_packets, new_packet)

-- ---- the same, of what an outbox keeps before and after: `n` more bytes of its room are used

module _ {room : List ℕ} {used n : ℕ} {slots slots2 : List Slot} (room2 more : List ℕ) (slot : Slot) (flat : IsFlat room used slots)
    (there : used + n ≤ length room2) (front : take (used + n) room2 ≡ take used room ++ more) (added : slots2 ≡ slots ++ slot ∷ [])
    (start : slot.start ≡ used) (size : slot.size ≡ n) (whole : n ≡ length more) where
  -- the slot's bytes come behind those that were used
  behind : slot.start ≡ length (take used room)
  behind = start ∙ sym (length-take-le used room flat.fits)

  sent_after : map (sent_in (take (used + n) room2)) slots2 ≡ map (sent_in (take used room)) slots ++ with_bytes slot more ∷ []
  sent_after = rw (front, added) (one_more (take used room) more slots slot flat.each behind (size ∙ whole))

  each_after : AllByRecursion (IsIn (take used room ++ more)) (slots ++ slot ∷ [])
  each_after = grind (arith, all-append, still_in, behind, length-append)

  pub flat_after : IsFlat room2 (used + n) slots2
  flat_after = grind (arith, each_after, sent_after, total-append)

  -- as its callers see it
  pub one_appended : {old : Contents} {places places2 spare spare2 : ℕ} {memory memory2 : Memory}
      → record { sent = map (sent_in (take used room)) slots; places = places; spare = spare; memory = memory } ≡ old
      → places ≡ places2 + 1 → spare ≡ spare2 + n → memory2 ≡ memory
      → Appends old (record { sent = map (sent_in (take (used + n) room2)) slots2; places = places2; spare = spare2; memory = memory2 }) (with_bytes slot more ∷ [])
  one_appended {old} {places} {places2} {spare} {spare2} {memory} {memory2} is fewer shorter same = grind (arith, sent_after)

-- what the front of a room of `size` bytes holds once `n` bytes of a packet were written from `start` on
pub written_front : {room lent out : List ℕ} {start n size : ℕ} (packet further after behind : List ℕ) → lent ≡ room → out ≡ packet ++ further → n ≡ length packet
    → start ≤ length room → start + n ≤ size
    → take (start + n) (take size ((take start lent ++ (out ++ after)) ++ behind)) ≡ take start room ++ packet
written_front {room} {lent} {out} {start} {n} {size} packet further after behind same is whole there short =
    take-take (start + n) size _ short
    ∙ ap (take (start + n)) (ap (λ (ys : List ℕ). (take start ys ++ (out ++ after)) ++ behind) same
    ∙ ap (λ (ys : List ℕ). (take start room ++ (ys ++ after)) ++ behind) is
    ∙ search (rules, append_assoc))
    ∙ take_at (take start room ++ packet) (further ++ (after ++ behind)) (start + n)
    (omega (arith, whole, length-append (take start room) packet, length-take-le start room there))
