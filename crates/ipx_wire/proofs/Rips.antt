use Rattle.std.proofs.Common.{◌≡◌, ℕ, ◌+◌, ◌-◌, ◌*◌, ◌/◌, ◌≤◌, ◌<◌, List, ◌++◌, length, take, drop, refl, sym, ap, ◌∙◌, arith, append_assoc, length-append, length-drop}
use Rattle.std.proofs.lemmas.List.{take-append-drop, get_or-drop}
use Rattle.std.specs.Int.{to_be_bytes, from_be_bytes, w16}
use Rattle.std.specs.List.{flat_map}
use Rattle.ipx_wire.specs.Piece.{IsBytes}
use Rattle.ipx_wire.specs.Rip.{RipParts, IsRip, entry_bytes, entries_at, operation_number, operation_field}
use Rattle.ipx_wire.specs.declared.rip.Operation.{Operation}
use Rattle.ipx_wire.specs.declared.rip.Operation.TheVariants.{Request, Response}
use Rattle.ipx_wire.specs.declared.rip.RipEntry.{RipEntry}
use Rattle.ipx_wire.proofs.Pieces.{bytes_16}
use Rattle.ipx_wire.proofs.Entries.{length-entries_at, entries_back, entries_ranges, entries_again, length-entries}

-- what the places say, the operation being known
abbrev pub rip_at : Operation → List ℕ → RipParts
rip_at operation payload = record { operation = operation; entries = entries_at ((length payload - 2) / 8) (drop 2 payload) }

-- the comparisons that a packet's data pass
pub record Counted (payload : List ℕ) (operation : Operation) : Type 0 where
  pub enough : 10 ≤ length payload
  pub within : length payload < 410
  pub number : operation_field payload ≡ operation_number operation

-- the bytes behind the operation are bytes
bytes_after : (payload : List ℕ) → IsBytes payload → IsBytes (drop 2 payload)
bytes_after payload are = λ i. rw (get_or-drop 2 payload i 0) (are (2 + i))

-- how long three lists are together
size_of_three : (x y z : List ℕ) (m n : ℕ) → length x ≡ m → length y ≡ n → length (x ++ y ++ z) ≡ m + n + length z
size_of_three x y z m n a b = omega (arith, length-append (x ++ y) z, length-append x y, a, b)

-- what passes the comparisons is such a packet
pub is_rip : (payload : List ℕ) (operation : Operation) → IsBytes payload → Counted payload operation → IsRip payload (rip_at operation payload)
is_rip payload operation are counted =
    let enough = counted.enough in
    let within = counted.within in
    let n = (length payload - 2) / 8 in
    let body = drop 2 payload in
    let long : length body ≡ length payload - 2 = length-drop 2 payload in
    let fits : 8 * n ≤ length body = omega (arith, long) in
    let front : to_be_bytes w16 (operation_number operation) ≡ take 2 payload =
    ap (to_be_bytes w16) (sym counted.number) ∙ bytes_16 payload 0 are (omega arith) in
    let entries = entries_back n body (bytes_after payload are) fits in
    record {
      further = drop (8 * n) body;
      layout =
          sym (ap (λ (x : List ℕ). x ++ flat_map entry_bytes (entries_at n body) ++ drop (8 * n) body) front
          ∙ ap (λ (x : List ℕ). take 2 payload ++ x ++ drop (8 * n) body) entries
          ∙ append_assoc (take 2 payload) (take (8 * n) body) (drop (8 * n) body)
          ∙ ap (λ (x : List ℕ). take 2 payload ++ x) (take-append-drop (8 * n) body)
          ∙ take-append-drop 2 payload);
      some = omega (arith, length-entries_at n body);
      most = omega (arith, length-entries_at n body);
      ignored = omega (arith, long, length-drop (8 * n) body);
      ranges = entries_ranges n body (bytes_after payload are) fits;
    }

-- how many bytes such data have
rip_size : (payload : List ℕ) (r : RipParts) (is : IsRip payload r) → length payload ≡ 2 + 8 * length r.entries + length is.further
rip_size payload r is =
    ap length is.layout
    ∙ (let e : length (to_be_bytes w16 (operation_number r.operation) ++ flat_map entry_bytes r.entries ++ is.further) ≡ 2 + 8 * length r.entries + length is.further =
    size_of_three (to_be_bytes w16 (operation_number r.operation)) (flat_map entry_bytes r.entries) is.further 2 (8 * length r.entries) refl (length-entries r.entries) in e)

-- the operation stands at the front
front_field : (n : ℕ) (x y : List ℕ) → operation_field ((to_be_bytes w16 n ++ x) ++ y) ≡ from_be_bytes w16 (to_be_bytes w16 n)
front_field n x y = refl

-- its number is read again
numbered : (operation : Operation) → from_be_bytes w16 (to_be_bytes w16 (operation_number operation)) ≡ operation_number operation
numbered Request = refl
numbered Response = refl

-- such a packet passes the comparisons
pub rip_counted : (payload : List ℕ) (r : RipParts) → IsRip payload r → Counted payload r.operation
rip_counted payload r is =
    let size = rip_size payload r is in
    let some = is.some in
    let most = is.most in
    let ignored = is.ignored in
    record {
      enough = omega arith;
      within = omega arith;
      number = ap operation_field is.layout ∙ front_field (operation_number r.operation) (flat_map entry_bytes r.entries) is.further ∙ numbered r.operation;
    }

-- such a packet is what its places say
pub rip_parts : (payload : List ℕ) (r : RipParts) → IsRip payload r → rip_at r.operation payload ≡ r
rip_parts payload r is =
    let size = rip_size payload r is in
    let ignored = is.ignored in
    let count : (length payload - 2) / 8 ≡ length r.entries = omega arith in
    let body : drop 2 payload ≡ flat_map entry_bytes r.entries ++ is.further =
    ap (drop 2) (is.layout ∙ append_assoc (to_be_bytes w16 (operation_number r.operation)) (flat_map entry_bytes r.entries) is.further) in
    ap (λ (n : ℕ). (let p : RipParts = record { operation = r.operation; entries = entries_at n (drop 2 payload) } in p)) count
    ∙ ap (λ (b : List ℕ). (let p : RipParts = record { operation = r.operation; entries = entries_at (length r.entries) b } in p)) body
    ∙ ap (λ (es : List RipEntry). (let p : RipParts = record { operation = r.operation; entries = es } in p)) (entries_again r.entries is.further is.ranges)

-- no number is both 1 and 2
one_number : (n : ℕ) → n ≡ 1 → n ≡ 2 → ⊥
one_number n one two = omega arith

-- one packet has one operation
pub one_operation : (payload : List ℕ) (a b : Operation) → Counted payload a → Counted payload b → a ≡ b
one_operation payload Request Request x y = refl
one_operation payload Response Response x y = refl
one_operation payload Request Response x y = absurd (one_number (operation_field payload) x.number y.number)
one_operation payload Response Request x y = absurd (one_number (operation_field payload) y.number x.number)

-- what the reader keeps is what the places say
pub kept_rip : (operation : Operation) (payload body : List ℕ) → body ≡ drop 2 payload
    → (let p : RipParts = record { operation = operation; entries = entries_at ((length payload - 2) / 8) body } in p) ≡ rip_at operation payload
kept_rip operation payload body e =
    ap (λ (b : List ℕ). (let p : RipParts = record { operation = operation; entries = entries_at ((length payload - 2) / 8) b } in p)) e
