-- The data of service advertising: the function and the relation, each from the other.
use Rattle.std.proofs.Common.{◌≡◌, ◌≢◌, ℕ, ◌+◌, ◌-◌, ◌*◌, ◌/◌, ◌≤◌, ◌<◌, List, ◌++◌, length, take, drop, map, Bool, true, false, refl, sym, ap, ◌∙◌, arith, subst, inl, inr, ◌⊎◌, Ok, Err, Result, IfOk, IfErr, append_assoc, length-append, length-drop}
use Rattle.std.proofs.lemmas.List.{take-append-drop, length-map}
use Rattle.std.proofs.lemmas.Nat.{from_be_bytes-to_be_bytes_2}
use Rattle.std.proofs.lemmas.Bool.{cases_lt, cases_eq, lt-ltb, le-ltb, ne_eqb}
use Rattle.std.proofs.lemmas.Result.{IfOk-at_ok}
use Rattle.std.specs.Int.{to_be_bytes, from_be_bytes, w16}
use Rattle.std.specs.List.{flat_map}
use Rattle.ipx_wire.specs.Piece.{piece, IsBytes}
use Rattle.ipx_wire.specs.Items.{items}
use Rattle.ipx_wire.specs.Rip.{operation_field}
use Rattle.ipx_wire.specs.Write.{query_number}
use Rattle.ipx_wire.specs.Sap.{IsQuery, IsResponse, IsSap, IsNoSap, IsQueryNumber, IsResponseNumber, response_number, query_of, response_of, numbered_of, sap_of}
use Rattle.ipx_wire.specs.SapEntries.{IsStored, stored_bytes, sap_entry_at, sap_entries_at}
use Rattle.ipx_wire.specs.declared.sap.Sap.{Sap}
use Rattle.ipx_wire.specs.declared.sap.Sap.TheVariants.{Query, Response}
use Rattle.ipx_wire.specs.declared.sap.SapFault.{SapFault}
use Rattle.ipx_wire.specs.declared.sap.SapFault.TheVariants.{Short, Operation as UnknownOperation, NoEntry, TooMany}
use Rattle.ipx_wire.specs.declared.sap_entries.SapEntry.{SapEntry}
use Rattle.ipx_wire.proofs.Pieces.{glue, bytes_16, range_16}
use Rattle.ipx_wire.proofs.Items.{bytes_behind, length-items, items_back, items_each, items_again, length-written, map-items}
use Rattle.ipx_wire.proofs.StoredEntries.{stored_at, stored_back, stored_is, stored_again, length-stored_bytes}

-- the number in the place of a query's type
abbrev pub kind_field : List ℕ → ℕ
kind_field payload = from_be_bytes w16 (piece payload 2 2)

-- the entries that the places of a response give
abbrev pub entries_in : List ℕ → List SapEntry
entries_in payload = sap_entries_at ((length payload - 2) / 64) (drop 2 payload)

-- the comparisons that a query passes
pub record Asked (payload : List ℕ) (nearest : Bool) : Type 0 where
  pub enough : 4 ≤ length payload
  pub number : operation_field payload ≡ query_number nearest

-- the comparisons that a response passes
pub record Told (payload : List ℕ) (nearest : Bool) : Type 0 where
  pub enough : 66 ≤ length payload
  pub within : length payload < 514
  pub number : operation_field payload ≡ response_number nearest

-- the operation stands at the front
front_field : (n : ℕ) (x y : List ℕ) → operation_field ((to_be_bytes w16 n ++ x) ++ y) ≡ from_be_bytes w16 (to_be_bytes w16 n)
front_field n x y = refl

-- the type stands behind it
second_field : (n k : ℕ) (y : List ℕ) → kind_field ((to_be_bytes w16 n ++ to_be_bytes w16 k) ++ y) ≡ from_be_bytes w16 (to_be_bytes w16 k)
second_field n k y = refl

-- the number of an operation is read again
query_again : (nearest : Bool) → from_be_bytes w16 (to_be_bytes w16 (query_number nearest)) ≡ query_number nearest
query_again true = refl
query_again false = refl

response_again : (nearest : Bool) → from_be_bytes w16 (to_be_bytes w16 (response_number nearest)) ≡ response_number nearest
response_again true = refl
response_again false = refl

-- the front of data is the bytes of their operation
front_bytes : (payload : List ℕ) (n : ℕ) → IsBytes payload → 2 ≤ length payload → operation_field payload ≡ n → to_be_bytes w16 n ≡ take 2 payload
front_bytes payload n are room e = ap (to_be_bytes w16) (sym e) ∙ bytes_16 payload 0 are room

-- what passes the comparisons of a query is one
pub is_query : (payload : List ℕ) (nearest : Bool) → IsBytes payload → Asked payload nearest → IsQuery payload nearest (kind_field payload)
is_query payload nearest are asked =
    let enough = asked.enough in
    let front = front_bytes payload (query_number nearest) are (omega (arith, enough)) asked.number in
    let four = glue _ _ payload 0 2 2 2 refl front (bytes_16 payload 2 are (omega (arith, enough))) in
    record {
      further = drop 4 payload;
      layout = sym (ap (λ (x : List ℕ). x ++ drop 4 payload) four ∙ take-append-drop 4 payload);
      range = range_16 payload 2 are (omega (arith, enough));
    }

-- a query passes its comparisons
pub query_asked : (payload : List ℕ) (nearest : Bool) (kind : ℕ) → IsQuery payload nearest kind → Asked payload nearest
query_asked payload nearest kind is =
    let size : length payload ≡ 4 + length is.further =
    ap length is.layout ∙ (let e : length (to_be_bytes w16 (query_number nearest) ++ to_be_bytes w16 kind ++ is.further) ≡ 4 + length is.further =
    length-append (to_be_bytes w16 (query_number nearest) ++ to_be_bytes w16 kind) is.further in e) in
    record {
      enough = omega (arith, size);
      number = ap operation_field is.layout ∙ front_field (query_number nearest) (to_be_bytes w16 kind) is.further ∙ query_again nearest;
    }

-- a query's type is what its place says
pub query_kind : (payload : List ℕ) (nearest : Bool) (kind : ℕ) → IsQuery payload nearest kind → kind_field payload ≡ kind
query_kind payload nearest kind is =
    ap kind_field is.layout ∙ second_field (query_number nearest) kind is.further ∙ from_be_bytes-to_be_bytes_2 kind is.range

-- what passes the comparisons of a response is one
pub is_response : (payload : List ℕ) (nearest : Bool) → IsBytes payload → Told payload nearest → IsResponse payload nearest (entries_in payload)
is_response payload nearest are told =
    let enough = told.enough in
    let within = told.within in
    let n = (length payload - 2) / 64 in
    let body = drop 2 payload in
    let behind = bytes_behind payload 2 are in
    let long : length body ≡ length payload - 2 = length-drop 2 payload in
    let fits : 64 * n ≤ length body = omega (arith, long) in
    let front = front_bytes payload (response_number nearest) are (omega (arith, enough)) told.number in
    let stored = items stored_at 64 n body in
    let entries = items_back stored_at stored_bytes 64 stored_back n body behind fits in
    record {
      stored = stored;
      further = drop (64 * n) body;
      layout =
          sym (ap (λ (x : List ℕ). x ++ flat_map stored_bytes stored ++ drop (64 * n) body) front
          ∙ ap (λ (x : List ℕ). take 2 payload ++ x ++ drop (64 * n) body) entries
          ∙ append_assoc (take 2 payload) (take (64 * n) body) (drop (64 * n) body)
          ∙ ap (λ (x : List ℕ). take 2 payload ++ x) (take-append-drop (64 * n) body)
          ∙ take-append-drop 2 payload);
      told = sym (map-items stored_at (λ s. s.entry) 64 n body);
      some = omega (arith, length-items sap_entry_at 64 n body, enough);
      most = omega (arith, length-items sap_entry_at 64 n body, within);
      ignored = omega (arith, long, length-drop (64 * n) body);
      each = items_each stored_at IsStored 64 stored_is n body behind fits;
    }

-- how many bytes a response has
response_size : (payload : List ℕ) (nearest : Bool) (entries : List SapEntry) (is : IsResponse payload nearest entries)
    → length payload ≡ 2 + 64 * length is.stored + length is.further
response_size payload nearest entries is =
    let front = to_be_bytes w16 (response_number nearest) in
    let middle = flat_map stored_bytes is.stored in
    ap length is.layout
    ∙ (let e : length (front ++ middle ++ is.further) ≡ 2 + 64 * length is.stored + length is.further =
    omega (arith, length-append (front ++ middle) is.further, length-append front middle, length-written stored_bytes IsStored 64 length-stored_bytes is.stored is.each) in e)

-- as many entries as there are stored
as_many : (payload : List ℕ) (nearest : Bool) (entries : List SapEntry) (is : IsResponse payload nearest entries) → length entries ≡ length is.stored
as_many payload nearest entries is = ap length is.told ∙ length-map is.stored (λ s. s.entry)

-- a response passes its comparisons
pub response_told : (payload : List ℕ) (nearest : Bool) (entries : List SapEntry) → IsResponse payload nearest entries → Told payload nearest
response_told payload nearest entries is =
    let size = response_size payload nearest entries is in
    let many = as_many payload nearest entries is in
    let some = is.some in
    let most = is.most in
    let ignored = is.ignored in
    record {
      enough = omega (arith, size, many);
      within = omega (arith, size, many);
      number = ap operation_field is.layout ∙ front_field (response_number nearest) (flat_map stored_bytes is.stored) is.further ∙ response_again nearest;
    }

-- a response's entries are what its places say
pub response_entries : (payload : List ℕ) (nearest : Bool) (entries : List SapEntry) → IsResponse payload nearest entries → entries_in payload ≡ entries
response_entries payload nearest entries is =
    let size = response_size payload nearest entries is in
    let ignored = is.ignored in
    let count : (length payload - 2) / 64 ≡ length is.stored = omega (arith, size) in
    let body : drop 2 payload ≡ flat_map stored_bytes is.stored ++ is.further =
    ap (drop 2) (is.layout ∙ append_assoc (to_be_bytes w16 (response_number nearest)) (flat_map stored_bytes is.stored) is.further) in
    ap (λ (n : ℕ). sap_entries_at n (drop 2 payload)) count
    ∙ ap (λ (b : List ℕ). sap_entries_at (length is.stored) b) body
    ∙ sym (map-items stored_at (λ s. s.entry) 64 (length is.stored) (flat_map stored_bytes is.stored ++ is.further))
    ∙ ap (map (λ s. s.entry)) (items_again stored_at stored_bytes IsStored 64 length-stored_bytes stored_again is.stored is.further is.each)
    ∙ sym is.told

-- data of a query's number are read as a query, and of a response's as a response
queried : (n : ℕ) (nearest : Bool) (payload : List ℕ) → n ≡ query_number nearest → numbered_of n payload ≡ query_of nearest payload
queried n true payload e = rw e refl
queried n false payload e = rw e refl

responded : (n : ℕ) (nearest : Bool) (payload : List ℕ) → n ≡ response_number nearest → numbered_of n payload ≡ response_of nearest payload
responded n true payload e = rw e refl
responded n false payload e = rw e refl

-- a number is that of a query, that of a response, or neither
numbers : (n : ℕ) → ((nearest : Bool) × (n ≡ query_number nearest)) ⊎ (((nearest : Bool) × (n ≡ response_number nearest)) ⊎ ((n ≢ 1) × (n ≢ 2) × (n ≢ 3) × (n ≢ 4)))
numbers n =
    elim (cases_eq n 1) [
      | inl one ↦ inl (false, one)
      | inr not_1 ↦ elim (cases_eq n 2) [
        | inl two ↦ inr (inl (false, two))
        | inr not_2 ↦ elim (cases_eq n 3) [
          | inl three ↦ inl (true, three)
          | inr not_3 ↦ elim (cases_eq n 4) [
            | inl four ↦ inr (inl (true, four))
            | inr not_4 ↦ inr (inr (not_1, not_2, not_3, not_4))
          ]
        ]
      ]
    ]

-- the numbers of queries and responses, by name and by value
query_valued : (n : ℕ) (nearest : Bool) → n ≡ query_number nearest → IsQueryNumber n
query_valued n true e = inr e
query_valued n false e = inl e

response_valued : (n : ℕ) (nearest : Bool) → n ≡ response_number nearest → IsResponseNumber n
response_valued n true e = inr e
response_valued n false e = inl e

query_named : (n : ℕ) → IsQueryNumber n → (nearest : Bool) × (n ≡ query_number nearest)
query_named n (inl one) = (false, one)
query_named n (inr three) = (true, three)

response_named : (n : ℕ) → IsResponseNumber n → (nearest : Bool) × (n ≡ response_number nearest)
response_named n (inl two) = (false, two)
response_named n (inr four) = (true, four)

-- the seven ends of the comparisons
sap_short : (payload : List ℕ) → length payload < 2 → sap_of payload ≡ Err Short
unfolding sap_of
sap_short payload short = rw (lt-ltb (length payload) 2 short) refl

sap_long : (payload : List ℕ) → 2 ≤ length payload → sap_of payload ≡ numbered_of (operation_field payload) payload
unfolding sap_of
sap_long payload enough = rw (le-ltb (length payload) 2 enough) refl

sap_unknown : (payload : List ℕ) → 2 ≤ length payload → operation_field payload ≢ 1 → operation_field payload ≢ 2 → operation_field payload ≢ 3
    → operation_field payload ≢ 4 → sap_of payload ≡ Err (UnknownOperation (operation_field payload))
sap_unknown payload enough not_1 not_2 not_3 not_4 =
    sap_long payload enough
    ∙ rw (ne_eqb (operation_field payload) 1 not_1, ne_eqb (operation_field payload) 2 not_2, ne_eqb (operation_field payload) 3 not_3, ne_eqb (operation_field payload) 4 not_4) refl

no_kind : (payload : List ℕ) (nearest : Bool) → 2 ≤ length payload → length payload < 4 → operation_field payload ≡ query_number nearest → sap_of payload ≡ Err Short
no_kind payload nearest enough few e =
    sap_long payload enough ∙ queried (operation_field payload) nearest payload e ∙ rw (lt-ltb (length payload) 4 few) refl

pub sap_of-asked : (payload : List ℕ) (nearest : Bool) → Asked payload nearest → sap_of payload ≡ Ok (Query nearest (kind_field payload))
sap_of-asked payload nearest asked =
    let enough = asked.enough in
    sap_long payload (omega (arith, enough)) ∙ queried (operation_field payload) nearest payload asked.number ∙ rw (le-ltb (length payload) 4 enough) refl

no_entry : (payload : List ℕ) (nearest : Bool) → 2 ≤ length payload → length payload < 66 → operation_field payload ≡ response_number nearest → sap_of payload ≡ Err NoEntry
no_entry payload nearest enough few e =
    sap_long payload enough ∙ responded (operation_field payload) nearest payload e ∙ rw (lt-ltb (length payload) 66 few) refl

too_many : (payload : List ℕ) (nearest : Bool) → 513 < length payload → operation_field payload ≡ response_number nearest → sap_of payload ≡ Err TooMany
too_many payload nearest many e =
    sap_long payload (omega (arith, many)) ∙ responded (operation_field payload) nearest payload e
    ∙ rw (le-ltb (length payload) 66 (omega (arith, many)), lt-ltb 513 (length payload) many) refl

pub sap_of-told : (payload : List ℕ) (nearest : Bool) → Told payload nearest → sap_of payload ≡ Ok (Response nearest (entries_in payload))
sap_of-told payload nearest told =
    let enough = told.enough in
    let within = told.within in
    sap_long payload (omega (arith, enough)) ∙ responded (operation_field payload) nearest payload told.number
    ∙ rw (le-ltb (length payload) 66 enough, le-ltb 513 (length payload) (let few : length payload ≤ 513 = omega (arith, within) in few)) refl

-- data are refused, or pass the comparisons of a query or of a response
outcome : (payload : List ℕ) → ((f : SapFault) × IsNoSap payload f × (sap_of payload ≡ Err f)) ⊎ (((nearest : Bool) × Asked payload nearest) ⊎ ((nearest : Bool) × Told payload nearest))
outcome payload =
    elim (cases_lt (length payload) 2) [
      | inl short ↦ inl (Short, inl short, sap_short payload short)
      | inr enough ↦ elim (numbers (operation_field payload)) [
        | inl (nearest, e) ↦ elim (cases_lt (length payload) 4) [
          | inl few ↦ inl (Short, inr (enough, few, query_valued (operation_field payload) nearest e), no_kind payload nearest enough few e)
          | inr more ↦ inr (inl (nearest, record { enough = more; number = e }))
        ]
        | inr (inl (nearest, e)) ↦ elim (cases_lt (length payload) 66) [
          | inl few ↦ inl (NoEntry, (enough, few, response_valued (operation_field payload) nearest e), no_entry payload nearest enough few e)
          | inr some ↦ elim (cases_lt 513 (length payload)) [
            | inl many ↦ inl (TooMany, (many, response_valued (operation_field payload) nearest e), too_many payload nearest many e)
            | inr within ↦ inr (inr (nearest, record { enough = some; within = omega (arith, within); number = e }))
          ]
        ]
        | inr (inr (not_1, not_2, not_3, not_4)) ↦
            inl (UnknownOperation (operation_field payload), (enough, refl, not_1, not_2, not_3, not_4), sap_unknown payload enough not_1 not_2 not_3 not_4)
      ]
    ]

-- data that are answered are such by the relation
pub sap_found : (payload : List ℕ) → IsBytes payload → IfOk (sap_of payload) (IsSap payload)
sap_found payload are =
    elim (outcome payload) [
      | inl (f, is, e) ↦ rw e tt
      | inr (inl (nearest, asked)) ↦ rw (sap_of-asked payload nearest asked) (is_query payload nearest are asked)
      | inr (inr (nearest, told)) ↦ rw (sap_of-told payload nearest told) (is_response payload nearest are told)
    ]

-- a fault that is answered is the first that holds
pub sap_refused : (payload : List ℕ) → IfErr (sap_of payload) (IsNoSap payload)
sap_refused payload =
    elim (outcome payload) [
      | inl (f, is, e) ↦ rw e is
      | inr (inl (nearest, asked)) ↦ rw (sap_of-asked payload nearest asked) tt
      | inr (inr (nearest, told)) ↦ rw (sap_of-told payload nearest told) tt
    ]

-- a fault that holds is answered
pub sap_fault : (payload : List ℕ) (f : SapFault) → IsNoSap payload f → sap_of payload ≡ Err f
sap_fault payload Short (inl short) = sap_short payload short
sap_fault payload Short (inr (enough, few, number)) =
    let (nearest, e) = query_named (operation_field payload) number in no_kind payload nearest enough few e
sap_fault payload (UnknownOperation number) is =
    let e = is.1 in
    sap_unknown payload is.0 (subst (λ (n : ℕ). n ≢ 1) e is.2) (subst (λ (n : ℕ). n ≢ 2) e is.3) (subst (λ (n : ℕ). n ≢ 3) e is.4) (subst (λ (n : ℕ). n ≢ 4) e is.5)
    ∙ ap (λ (n : ℕ). (let r : Result Sap SapFault = Err (UnknownOperation n) in r)) (sym e)
sap_fault payload NoEntry is =
    let (nearest, e) = response_named (operation_field payload) is.2 in no_entry payload nearest is.0 is.1 e
sap_fault payload TooMany is =
    let (nearest, e) = response_named (operation_field payload) is.1 in
    let long = is.0 in too_many payload nearest (omega (arith, long)) e

-- the function answers such data
pub sap_only : (payload : List ℕ) (s : Sap) → IsSap payload s → sap_of payload ≡ Ok s
sap_only payload (Query nearest kind) is =
    sap_of-asked payload nearest (query_asked payload nearest kind is)
    ∙ ap (λ (k : ℕ). (let r : Result Sap SapFault = Ok (Query nearest k) in r)) (query_kind payload nearest kind is)
sap_only payload (Response nearest entries) is =
    sap_of-told payload nearest (response_told payload nearest entries is)
    ∙ ap (λ (es : List SapEntry). (let r : Result Sap SapFault = Ok (Response nearest es) in r)) (response_entries payload nearest entries is)

-- data say at most one thing
pub one_sap : (payload : List ℕ) (s t : Sap) → IsSap payload s → IsSap payload t → s ≡ t
one_sap payload s t is_s is_t =
    let same : (let r : Result Sap SapFault = Ok s in r) ≡ Ok t = sym (sap_only payload s is_s) ∙ sap_only payload t is_t in
    IfOk-at_ok (λ (q : Sap). s ≡ q) same refl
