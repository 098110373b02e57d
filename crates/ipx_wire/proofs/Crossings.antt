use Rattle.std.proofs.Common.{◌≡◌, ◌==◌, true, inl, inr, IfOk, IfErr, ℕ, ◌*◌, ◌≤◌, ◌<◌, List, [], ◌∷◌, ◌++◌, length, take, drop, slice_get, Some, Ok, Err, Result, refl, sym, ap, ◌∙◌, arith, length-append}
use Rattle.std.proofs.lemmas.Bool.{cases_lt, eq-eqb, lt-ltb, le-ltb}
use Rattle.std.proofs.lemmas.List.{take-append-drop}
use Rattle.std.proofs.lemmas.List.Folds.{list_any_at}
use Rattle.std.proofs.lemmas.Option.{get_or_from_slice_get, slice_get_within}
use Rattle.std.proofs.lemmas.Nat.{from_be_bytes-to_be_bytes_4}
use Rattle.std.specs.List.{flat_map, AllByRecursion}
use Rattle.ipx_wire.specs.Piece.{IsBytes}
use Rattle.ipx_wire.specs.Crossed.{IsNetwork, IsCrossed, IsNotCrossed, is_among, network_bytes, network_at, networks_at, crossed_of}
use Rattle.ipx_wire.specs.Numbers.{crossed_places, crossed_bytes}
use Rattle.ipx_wire.specs.declared.crossed.CrossedFault.{CrossedFault}
use Rattle.ipx_wire.specs.declared.crossed.CrossedFault.TheVariants.{Short, Full}
use Rattle.ipx_wire.specs.declared.network.Network.{Network}
use Rattle.ipx_wire.proofs.Pieces.{bytes_32, range_32}
use Rattle.ipx_wire.proofs.Items.{length-items, items_back, items_each, items_again, slice_get-items}

-- a network is four bytes
pub length-network_bytes : (n : Network) → length (network_bytes n) ≡ 4
unfolding network_bytes
length-network_bytes n = refl

-- how many bytes networks have
pub length-networks : (ns : List Network) → length (flat_map network_bytes ns) ≡ 4 * length ns
length-networks [] = refl
length-networks (n ∷ ns) =
    omega (arith, length-append (network_bytes n) (flat_map network_bytes ns), length-network_bytes n, length-networks ns)

pub length-networks_at : (n : ℕ) (bytes : List ℕ) → length (networks_at n bytes) ≡ n
length-networks_at n bytes = length-items (λ b. network_at b 0) 4 n bytes

-- the bytes of a network are read as that network, whatever follows
network_again : (n : Network) (further : List ℕ) → IsNetwork n → network_at (network_bytes n ++ further) 0 ≡ n
unfolding network_bytes network_at
network_again n further is = rw (from_be_bytes-to_be_bytes_4 n.0 is) refl

-- what is read as a network has the bytes that were read
network_back : (bytes : List ℕ) → IsBytes bytes → 4 ≤ length bytes → network_bytes (network_at bytes 0) ≡ take 4 bytes
unfolding network_bytes network_at
network_back bytes are room = bytes_32 bytes 0 are (omega arith)

-- what is read as a network is a number of four bytes
network_range : (bytes : List ℕ) → IsBytes bytes → 4 ≤ length bytes → IsNetwork (network_at bytes 0)
unfolding network_at
network_range bytes are room = range_32 bytes 0 are (omega arith)

-- a network further on
network_shifted : (bytes : List ℕ) (place : ℕ) → network_at (drop place bytes) 0 ≡ network_at bytes place
unfolding network_at
network_shifted bytes place = refl

-- networks that were read have the bytes that were read
networks_back : (n : ℕ) (bytes : List ℕ) → IsBytes bytes → 4 * n ≤ length bytes → flat_map network_bytes (networks_at n bytes) ≡ take (4 * n) bytes
networks_back n bytes are room = items_back (λ b. network_at b 0) network_bytes 4 network_back n bytes are room

-- so have all networks that are read
networks_ranges : (n : ℕ) (bytes : List ℕ) → IsBytes bytes → 4 * n ≤ length bytes → AllByRecursion IsNetwork (networks_at n bytes)
networks_ranges n bytes are room = items_each (λ b. network_at b 0) IsNetwork 4 network_range n bytes are room

-- the bytes of networks are read as these networks, whatever follows
networks_again : (ns : List Network) (further : List ℕ) → AllByRecursion IsNetwork ns → networks_at (length ns) (flat_map network_bytes ns ++ further) ≡ ns
networks_again ns further are =
    items_again (λ b. network_at b 0) network_bytes IsNetwork 4 (λ n is. length-network_bytes n) (λ n further is. network_again n further is) ns further are

-- the network with k others before it
pub slice_get-networks_at : (n k : ℕ) (bytes : List ℕ) → k < n → slice_get (networks_at n bytes) k ≡ Some (network_at bytes (4 * k))
slice_get-networks_at n k bytes below = slice_get-items (λ b. network_at b 0) 4 n k bytes below ∙ ap Some (network_shifted bytes (4 * k))

-- the comparisons that a list of networks crossed passes
pub record Listed (control : ℕ) (payload : List ℕ) : Type 0 where
  pub eight : crossed_bytes ≤ length payload
  pub free : control < crossed_places

-- what passes them is such a list
pub is_crossed : (control : ℕ) (payload : List ℕ) → IsBytes payload → Listed control payload → IsCrossed control payload (networks_at control payload)
is_crossed control payload are listed =
    let eight = listed.eight in
    let free = listed.free in
    let fits : 4 * control ≤ length payload = omega arith in
    record {
      further = drop (4 * control) payload;
      layout =
          sym (ap (λ (x : List ℕ). x ++ drop (4 * control) payload) (networks_back control payload are fits)
          ∙ take-append-drop (4 * control) payload);
      listed = length-networks_at control payload;
      free = free;
      eight = eight;
      ranges = networks_ranges control payload are fits;
    }

-- such a list is what its places say
pub crossed_networks : (control : ℕ) (payload : List ℕ) (ns : List Network) → IsCrossed control payload ns → networks_at control payload ≡ ns
crossed_networks control payload ns is =
    ap (λ (n : ℕ). networks_at n payload) (sym is.listed)
    ∙ ap (networks_at (length ns)) is.layout
    ∙ networks_again ns is.further is.ranges

-- the three ends of the comparisons
pub crossed_short : (control : ℕ) (payload : List ℕ) → length payload < crossed_bytes → crossed_of control payload ≡ Err Short
unfolding crossed_of
crossed_short control payload short = rw (lt-ltb (length payload) crossed_bytes short) refl

pub crossed_full : (control : ℕ) (payload : List ℕ) → crossed_bytes ≤ length payload → crossed_places ≤ control → crossed_of control payload ≡ Err Full
unfolding crossed_of
crossed_full control payload eight full = rw (le-ltb (length payload) crossed_bytes eight, le-ltb control crossed_places full) refl

pub crossed_listed : (control : ℕ) (payload : List ℕ) → Listed control payload → crossed_of control payload ≡ Ok (networks_at control payload)
unfolding crossed_of
crossed_listed control payload listed = rw (le-ltb (length payload) crossed_bytes listed.eight, lt-ltb control crossed_places listed.free) refl

-- networks that are answered are such a list by the relation
pub crossed_found : (control : ℕ) (payload : List ℕ) → IsBytes payload → IfOk (crossed_of control payload) (IsCrossed control payload)
crossed_found control payload are =
    elim (cases_lt (length payload) crossed_bytes) [
      | inl short ↦ rw (crossed_short control payload short) tt
      | inr eight ↦ elim (cases_lt control crossed_places) [
        | inl free ↦
            let listed : Listed control payload = record { eight = eight; free = free } in
            rw (crossed_listed control payload listed) (is_crossed control payload are listed)
        | inr full ↦ rw (crossed_full control payload eight full) tt
      ]
    ]

-- a fault that is answered is the first that holds
pub crossed_refused : (control : ℕ) (payload : List ℕ) → IfErr (crossed_of control payload) (IsNotCrossed control payload)
crossed_refused control payload =
    elim (cases_lt (length payload) crossed_bytes) [
      | inl short ↦ rw (crossed_short control payload short) short
      | inr eight ↦ elim (cases_lt control crossed_places) [
        | inl free ↦
            let listed : Listed control payload = record { eight = eight; free = free } in
            rw (crossed_listed control payload listed) tt
        | inr full ↦ rw (crossed_full control payload eight full) (eight, full)
      ]
    ]

-- a fault that holds is answered
pub crossed_fault : (control : ℕ) (payload : List ℕ) (f : CrossedFault) → IsNotCrossed control payload f → crossed_of control payload ≡ Err f
crossed_fault control payload Short is = crossed_short control payload is
crossed_fault control payload Full is = crossed_full control payload is.0 is.1

-- the function answers such a list
pub crossed_only : (control : ℕ) (payload : List ℕ) (ns : List Network) → IsCrossed control payload ns → crossed_of control payload ≡ Ok ns
crossed_only control payload ns is =
    crossed_listed control payload (record { eight = is.eight; free = is.free })
    ∙ ap (λ (ms : List Network). (let r : Result (List Network) CrossedFault = Ok ms in r)) (crossed_networks control payload ns is)

-- data tell at most one list
pub one_crossed : (control : ℕ) (payload : List ℕ) (ms ns : List Network) → IsCrossed control payload ms → IsCrossed control payload ns → ms ≡ ns
one_crossed control payload ms ns is_ms is_ns =
    sym (crossed_networks control payload ms is_ms) ∙ crossed_networks control payload ns is_ns

-- a network that stands at a place is among them
pub among_at : (network : Network) (ns : List Network) (k : ℕ) (n : Network) → slice_get ns k ≡ Some n → n.0 ≡ network.0 → is_among network ns ≡ true
among_at network ns k n e same =
    list_any_at (λ (m : Network). m.0 == network.0) ns k n (slice_get_within ns k n e)
    (ap (λ (m : Network). m.0 == network.0) (get_or_from_slice_get ns k n n e) ∙ eq-eqb n.0 network.0 same)
