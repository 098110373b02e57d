-- A numbered packet is read again.
use Rattle.std.proofs.Common.{◌≡◌, ◌∙◌, refl, sym, subst, ap, ap₂, arith, ℕ, zero, suc, ◌+◌, ◌-◌, ◌*◌, ◌/◌, ◌^◌, ◌<◌, ◌≤◌, ◌==◌, ◌&&◌, nat_lt, Bool, true, false, if◌then◌else◌, ◌⊎◌, inl, inr, List, ◌∷◌, length, length-drop, length-take-le, take, drop, map, Ok, Err, Result}
use Rattle.std.specs.Int.{from_be_bytes, w16, w32}
use Rattle.std.proofs.lemmas.List.{drop-drop}
use Rattle.std.proofs.lemmas.Bool.{cases_lt}
use Rattle.std.proofs.lemmas.Nat.{from_be_bytes-to_be_bytes_2}
use Rattle.std.proofs.Math.Nat.{mul-suc}
use Rattle.ipx_wire.specs.Header.{header_at, length_field}
use Rattle.ipx_wire.specs.Items.{items}
use Rattle.ipx_wire.specs.Numbers.{no_checksum, local_network}
use Rattle.ipx_wire.specs.Packet.{Parts, packet_of}
use Rattle.ipx_wire.specs.Piece.{piece}
use Rattle.ipx_wire.specs.Sap.{sap_of}
use Rattle.ipx_wire.specs.SapEntries.{sap_entry_at, sap_entries_at}
use Rattle.ipx_wire.specs.declared.network.Network.{Network}
use Rattle.ipx_wire.specs.declared.packet.PacketFault.{PacketFault}
use Rattle.ipx_wire.specs.declared.sap.Sap.{Sap}
use Rattle.ipx_wire.specs.declared.sap.Sap.TheVariants.{Query, Response}
use Rattle.ipx_wire.specs.declared.sap.SapFault.{SapFault}
use Rattle.ipx_wire.specs.declared.sap_entries.SapEntry.{SapEntry}
use Rattle.ipx_wire.proofs.Items.{length-items}
use Rattle.ipx_wire.proofs.Saps.{Told, sap_of-told}
use Rattle.ipx_router.specs.Port.{Port}
use Rattle.ipx_edge.specs.Places.{source_place, service_place, hops_place}
use Rattle.ipx_edge.specs.Numbered.{is_unnumbered, with_source, is_own_service, with_services, services_in, services_told, numbered_in, numbered}
use Rattle.ipx_edge.specs.Laws.{own_network, own_service, own_services, is_for_services, IsNumbered, IsApart}
use Rattle.ipx_edge.proofs.Advertised.{advertises, all_fit}
use Rattle.ipx_edge.proofs.Headers.{SameFields, same_header, same_byte, from_network, checksum_is, payload_piece, data_piece, SameService, same_service}
use Rattle.ipx_edge.proofs.Numbers.{SameOrNone, same_or_none, Room, length_source, apart_source, checksum_source, number_source, length_services, apart_services, checksum_services, number_services}
use Rattle.ipx_edge.proofs.Pieces.{piece_within, piece_behind}
use Rattle.ipx_edge.proofs.Packets.{parts_at, reads, is_read, has_room}

-- ---- lists of entries

pub items_changed : {E : Type 0} (read : List ℕ → E) (f : E → E) (size n : ℕ) (a b : List ℕ)
    → ((k : ℕ) → k < n → read (drop (size * k) a) ≡ f (read (drop (size * k) b))) → items read size n a ≡ map f (items read size n b)
unfolding items
items_changed read f size zero a b each = refl
items_changed {E} read f size (suc n) a b each =
    let none : size * 0 ≡ 0 = omega arith in
    let first = subst (λ (m : ℕ). read (drop m a) ≡ f (read (drop m b))) none (each 0 (omega arith)) in
    let next = λ (k : ℕ) (below : k < n).
    let order : size + size * k ≡ size * suc k = omega (arith, mul-suc size k) in
    ap read (drop-drop (size * k) size a ∙ ap (λ (m : ℕ). drop m a) order)
    ∙ each (suc k) (omega (arith, below))
    ∙ ap (λ (l : List ℕ). f (read l)) (sym (drop-drop (size * k) size b ∙ ap (λ (m : ℕ). drop m b) order)) in
    ap₂ (λ (x : E) (xs : List E). x ∷ xs) first (items_changed read f size n (drop size a) (drop size b) next)

-- ---- how many services are numbered

told_by : (t : Bool) (n k : ℕ) → k < (if t then n else 0) → k < n
told_by true n k below = below
told_by false n k below = absurd (omega (arith, below))

pub told_fit : (port : Port) (bytes : List ℕ) (p : Parts) → packet_of bytes ≡ Ok p → Room port bytes (services_told port p)
told_fit port bytes p is k below =
    omega (arith, has_room bytes p is, all_fit p.payload (sap_of p.payload) k refl (told_by (is_for_services port p) (services_in (sap_of p.payload)) k below))

-- ---- the bytes

module _ (port : Port) (bytes : List ℕ) (p : Parts) (fits : port.network.0 < 2 ^ 32) (is : packet_of bytes ≡ Ok p) where
  abbrev count : ℕ
  count = services_told port p

  abbrev sourced : List ℕ
  sourced = with_source port bytes

  abbrev pub new : List ℕ
  new = with_services port count sourced

  long : 30 ≤ length bytes
  long = omega (arith, has_room bytes p is)

  room : Room port sourced count
  room = λ k below. omega (arith, told_fit port bytes p is k below, length_source port bytes long)

  pub length_new : length new ≡ length bytes
  length_new = length_services port sourced count room ∙ length_source port bytes long

  pub apart_new : (i n : ℕ) → 2 ≤ i → IsApart i n source_place → ((k : ℕ) → k < count → IsApart i n (service_place k)) → piece new i n ≡ piece bytes i n
  apart_new i n far source services = apart_services port sourced count room i n far services ∙ apart_source port bytes long i n far source

  -- in front of the services
  front_new : (i n : ℕ) → 2 ≤ i → IsApart i n source_place → i + n ≤ 82 → piece new i n ≡ piece bytes i n
  front_new i n far source before = apart_new i n far source (λ k below. inl (omega (arith, before)))

  pub checksum_new : SameOrNone new bytes
  checksum_new = same_or_none new sourced bytes (checksum_services port sourced count room) (checksum_source port bytes long)

  pub source_new : from_be_bytes w32 (piece new 18 4) ≡ (if is_unnumbered 18 bytes then port.network.0 else from_be_bytes w32 (piece bytes 18 4))
  source_new =
      ap (from_be_bytes w32) (apart_services port sourced count room 18 4 (omega arith) (λ k below. inl (omega arith)))
      ∙ number_source port bytes long fits

  own_source : (k : ℕ) → is_own_service k sourced ≡ is_own_service k bytes
  own_source k =
      ap₂ (λ (a b : List ℕ). (from_be_bytes w32 a == local_network) && nat_lt (from_be_bytes w16 b) 2)
      (apart_source port bytes long (service_place k) 4 (omega arith) (inr (omega arith)))
      (apart_source port bytes long (hops_place k) 2 (omega arith) (inr (omega arith)))

  pub service_new : (k : ℕ) → k < count → from_be_bytes w32 (piece new (service_place k) 4)
      ≡ (if is_own_service k bytes then port.network.0 else from_be_bytes w32 (piece bytes (service_place k) 4))
  service_new k below =
      number_services port sourced fits count room k below
      ∙ ap₂ (λ (t : Bool) (b : List ℕ). if t then port.network.0 else from_be_bytes w32 b)
      (own_source k) (apart_source port bytes long (service_place k) 4 (omega arith) (inr (omega arith)))

  -- ---- the header

  abbrev size : ℕ
  size = length_field bytes

  same_fields : SameFields new bytes
  same_fields = record {
    count = front_new 2 2 (omega arith) (inl (omega arith)) (omega arith);
    control = same_byte new bytes 4 (omega (arith, long, length_new)) (omega (arith, long)) (front_new 4 1 (omega arith) (inl (omega arith)) (omega arith));
    kind = same_byte new bytes 5 (omega (arith, long, length_new)) (omega (arith, long)) (front_new 5 1 (omega arith) (inl (omega arith)) (omega arith));
    to_network = front_new 6 4 (omega arith) (inl (omega arith)) (omega arith);
    to_node = front_new 10 6 (omega arith) (inl (omega arith)) (omega arith);
    to_socket = front_new 16 2 (omega arith) (inl (omega arith)) (omega arith);
    from_node = front_new 22 6 (omega arith) (inr (omega arith)) (omega arith);
    from_socket = front_new 28 2 (omega arith) (inr (omega arith)) (omega arith);
  }

  abbrev pub again : Parts
  again = parts_at new size

  pub read_new : packet_of new ≡ Ok again
  read_new =
      let read = reads bytes p is in
      is_read new size (ap (from_be_bytes w16) same_fields.count) read.long (omega (arith, read.within, length_new))

  pub numbered_is : numbered port bytes ≡ new
  unfolding numbered
  numbered_is = ap (λ (r : Result Parts PacketFault). numbered_in port r bytes) is

-- ---- what it says

own_number : (t : Bool) (a b : Network) → (if t then a.0 else b.0) ≡ (if t then a else b).0
own_number true a b = refl
own_number false a b = refl

told_none : (t : Bool) (n : ℕ) → t ≡ false → (if t then n else 0) ≡ 0
told_none t n is = rw is refl

told_zero : (t : Bool) (n : ℕ) → n ≡ 0 → (if t then n else 0) ≡ 0
told_zero true n is = is
told_zero false n is = refl

told_all : (t : Bool) (n : ℕ) → t ≡ true → (if t then n else 0) ≡ n
told_all t n is = rw is refl

-- within service number k the bytes of its network stand apart from all others, and so do these
within_service : (k i n : ℕ) → (i + n ≤ 50) ⊎ (54 ≤ i) → i + n ≤ 64 → (j : ℕ) → IsApart (32 + 64 * k + i) n (service_place j)
within_service k i n (inl front) fits j = elim (cases_lt j k) [
  | inl before ↦ inr (omega (arith, before))
  | inr behind ↦ inl (omega (arith, front, behind))
]
within_service k i n (inr back) fits j = elim (cases_lt k j) [
  | inl before ↦ inl (omega (arith, before, fits))
  | inr behind ↦ inr (omega (arith, back, behind))
]

module _ (port : Port) (bytes : List ℕ) (p : Parts) (fits : port.network.0 < 2 ^ 32) (is : packet_of bytes ≡ Ok p) where
  abbrev told : ℕ
  told = services_told port p

  abbrev fresh : List ℕ
  fresh = new port bytes p fits is

  abbrev n : ℕ
  n = length_field bytes

  abbrev q : Parts
  q = again port bytes p fits is

  old_data : p.payload ≡ drop 30 (take n bytes)
  old_data = ap (λ (r : Parts). r.payload) (reads bytes p is).parts

  header_again : q.header ≡ record p.header { checksum = q.header.checksum; source = record p.header.source { network = own_network port p.header.source.network } }
  header_again =
      let h = header_at bytes in
      let number : from_be_bytes w32 (piece fresh 18 4) ≡ (own_network port h.source.network).0 =
      source_new port bytes p fits is
      ∙ ap (λ (m : ℕ). if m == local_network then port.network.0 else m) (sym (from_network bytes))
      ∙ own_number (h.source.network.0 == local_network) port.network h.source.network in
      subst (λ (r : Parts). q.header ≡ record r.header { checksum = q.header.checksum; source = record r.header.source { network = own_network port r.header.source.network } })
      (sym (reads bytes p is).parts) (same_header fresh bytes (own_network port h.source.network) (same_fields port bytes p fits is) number)

  checksum_again : (q.header.checksum ≡ no_checksum) ⊎ (q.header.checksum ≡ p.header.checksum)
  checksum_again =
      let old : p.header.checksum ≡ from_be_bytes w16 (piece bytes 0 2) = ap (λ (r : Parts). r.header.checksum) (reads bytes p is).parts ∙ checksum_is bytes in
      elim (checksum_new port bytes p fits is) [
        | inl none ↦ inl (checksum_is fresh ∙ ap (from_be_bytes w16) none ∙ from_be_bytes-to_be_bytes_2 no_checksum (omega arith))
        | inr same ↦ inr (checksum_is fresh ∙ ap (from_be_bytes w16) same ∙ sym old)
      ]

  payload_again : told ≡ 0 → q.payload ≡ p.payload
  payload_again none =
      let read = reads bytes p is in
      payload_piece fresh n read.long
      ∙ apart_new port bytes p fits is 30 (n - 30) (omega arith) (inr (omega arith)) (λ k below. absurd (omega (arith, below, none)))
      ∙ sym (payload_piece bytes n read.long)
      ∙ sym old_data

  sizes : length q.payload ≡ length p.payload
  sizes =
      let read = reads bytes p is in
      omega (arith, length-drop 30 (take n fresh), length-take-le n fresh (omega (arith, read.within, length_new port bytes p fits is)), read.size)

  -- the pieces of service number k
  module _ (k : ℕ) (room : 32 + 64 * k + 64 ≤ n) (below : k < told) where
    abbrev service : List ℕ → List ℕ
    service x = drop (64 * k) (drop 2 (drop 30 (take n x)))

    same_piece : (i m : ℕ) → (i + m ≤ 50) ⊎ (54 ≤ i) → i + m ≤ 64 → piece (service fresh) i m ≡ piece (service bytes) i m
    same_piece i m apart fit =
        data_piece fresh n (64 * k) i m (omega (arith, room, fit))
        ∙ apart_new port bytes p fits is (32 + 64 * k + i) m (omega arith) (inr (omega arith)) (λ j under. within_service k i m apart fit j)
        ∙ sym (data_piece bytes n (64 * k) i m (omega (arith, room, fit)))

    network_place : (x : List ℕ) → piece (service x) 50 4 ≡ piece x (service_place k) 4
    network_place x =
        let place : 32 + 64 * k + 50 ≡ service_place k = omega arith in
        data_piece x n (64 * k) 50 4 (omega (arith, room)) ∙ ap (λ (m : ℕ). piece x m 4) place

    hops_are : (x : List ℕ) → piece (service x) 62 2 ≡ piece x (hops_place k) 2
    hops_are x =
        let place : 32 + 64 * k + 62 ≡ hops_place k = omega arith in
        data_piece x n (64 * k) 62 2 (omega (arith, room)) ∙ ap (λ (m : ℕ). piece x m 2) place

    service_again : SameService port (service fresh) (service bytes)
    service_again = record {
      kind = same_piece 0 2 (inl (omega arith)) (omega arith);
      name = same_piece 2 48 (inl (omega arith)) (omega arith);
      node = same_piece 54 6 (inr (omega arith)) (omega arith);
      socket = same_piece 60 2 (inr (omega arith)) (omega arith);
      hops = same_piece 62 2 (inr (omega arith)) (omega arith);
      number =
          ap (from_be_bytes w32) (network_place fresh)
          ∙ service_new port bytes p fits is k below
          ∙ ap₂ (λ (a b : List ℕ). if (from_be_bytes w32 a == local_network) && nat_lt (from_be_bytes w16 b) 2 then port.network.0 else from_be_bytes w32 a)
          (sym (network_place bytes)) (sym (hops_are bytes));
    }

  -- a response's entries
  response_again : (nearest : Bool) (entries : List SapEntry) → sap_of p.payload ≡ Ok (Response nearest entries) → told ≡ length entries
      → sap_of q.payload ≡ Ok (Response nearest (map (own_service port) entries))
  response_again nearest entries said all =
      let read = reads bytes p is in
      let response = advertises p.payload nearest entries said in
      let count = (length p.payload - 2) / 64 in
      let many : length entries ≡ count = ap length response.are ∙ length-items sap_entry_at 64 count (drop 2 p.payload) in
      let operation : piece q.payload 0 2 ≡ piece p.payload 0 2 =
      piece_behind (take n fresh) 30 0 2
      ∙ piece_within fresh n 30 2 (omega (arith, read.size, response.least))
      ∙ apart_new port bytes p fits is 30 2 (omega arith) (inr (omega arith)) (λ k below. inl (omega arith))
      ∙ sym (piece_within bytes n 30 2 (omega (arith, read.size, response.least)))
      ∙ sym (piece_behind (take n bytes) 30 0 2)
      ∙ ap (λ (l : List ℕ). piece l 0 2) (sym old_data) in
      let told_again : Told q.payload nearest = record {
        enough = omega (arith, sizes, response.least);
        within = omega (arith, sizes, response.most);
        number = ap (from_be_bytes w16) operation ∙ response.operation;
      } in
      let each = λ (k : ℕ) (below : k < count).
      same_service port (drop (64 * k) (drop 2 q.payload)) (drop (64 * k) (drop 2 (drop 30 (take n bytes))))
      (service_again k (omega (arith, below, read.size, response.least)) (omega (arith, below, many, all))) in
      sap_of-told q.payload nearest told_again
      ∙ ap (λ (m : ℕ). Ok (Response nearest (sap_entries_at ((m - 2) / 64) (drop 2 q.payload)))) sizes
      ∙ ap (λ (es : List SapEntry). Ok (Response nearest es))
      (items_changed sap_entry_at (own_service port) 64 count (drop 2 q.payload) (drop 2 (drop 30 (take n bytes))) each
      ∙ ap (λ (l : List ℕ). map (own_service port) (sap_entries_at count (drop 2 l))) (sym old_data)
      ∙ ap (map (own_service port)) (sym response.are))

  services_again : (r : Result Sap SapFault) → sap_of p.payload ≡ r → is_for_services port p ≡ true → sap_of q.payload ≡ own_services port r
  services_again (Ok (Query nearest kind)) said true_is =
      ap sap_of (payload_again (told_zero (is_for_services port p) (services_in (sap_of p.payload)) (ap services_in said))) ∙ said
  services_again (Ok (Response nearest entries)) said true_is =
      response_again nearest entries said (told_all (is_for_services port p) (services_in (sap_of p.payload)) true_is ∙ ap services_in said)
  services_again (Err fault) said true_is =
      ap sap_of (payload_again (told_zero (is_for_services port p) (services_in (sap_of p.payload)) (ap services_in said))) ∙ said

  pub is_numbered : IsNumbered port p q
  is_numbered = record {
    header = header_again;
    checksum = checksum_again;
    services = λ true_is. services_again (sap_of p.payload) refl true_is;
    other = λ false_is. payload_again (told_none (is_for_services port p) (services_in (sap_of p.payload)) false_is);
  }

  pub reads_again : packet_of (numbered port bytes) ≡ Ok q
  reads_again = ap packet_of (numbered_is port bytes p fits is) ∙ read_new port bytes p fits is
