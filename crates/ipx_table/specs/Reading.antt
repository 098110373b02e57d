-- What a table reads of an offer, and what decides between two.
use Rattle.std.specs.Prelude.{ℕ, ◌&&◌, ◌==◌, nat_eq, Bool, List, length, slice_get}
use Rattle.std.specs.List.{filter}
use Rattle.std.specs.Option.{unwrap_or}
use Rattle.std.specs.Ordering.{nat_cmp, is_eq, is_gt, ordering_then}
use Rattle.std.specs.declared.cmp.Ordering.{Ordering}
use Rattle.std.specs.Cmp.Lexicographic.{pointwise}
use Rattle.ipx_wire.specs.declared.node.Node.{Node}
use Rattle.ipx_table.specs.declared.held.Held.{Held}

-- the readings of an offer: what it is an offer of, the port and node it came from, how good it is (smaller is better),
-- and whether it says that there is no way any more
pub record Reading (O K : Type 0) : Type 0 where
  pub key : O → K
  pub source : O → ℕ × Node
  pub rank : O → ℕ × ℕ
  pub is_down : O → Bool

-- two offers came from one port and one node of it
abbrev pub one_source : ℕ × Node → ℕ × Node → Bool
one_source a b = (a.0 == b.0) && pointwise nat_eq a.1.0 b.1.0

-- ranks are compared by their first number, then by their second
abbrev pub rank_order : ℕ × ℕ → ℕ × ℕ → Ordering
rank_order a b = ordering_then (nat_cmp a.0 b.0) (nat_cmp a.1 b.1)

-- the port by which an offer came
abbrev pub port_of : {O K : Type 0} → Reading O K → O → ℕ
port_of reading offer = (reading.source offer).0

-- the share of a port: how many records it may have; the capacity, where it was given none
abbrev pub share_of : ℕ → List ℕ → ℕ → ℕ
share_of capacity shares port = unwrap_or (slice_get shares port) capacity

-- how many of the records came by that port
abbrev pub count_by : {O : Type 0} → (O → ℕ) → ℕ → List (Held O) → ℕ
count_by port_by port held = length (filter (λ h. port_by h.offer == port) held)

-- all that decides what a table does with an offer, how many it holds, and how many of them by each port
pub record Rules (O : Type 0) : Type 0 where
  pub by_key : O → O → Ordering
  pub port : O → ℕ
  pub same_source : O → O → Bool
  pub is_worse : O → O → Bool
  pub is_down : O → Bool
  pub capacity : ℕ
  pub share : ℕ → ℕ

-- the rules of a table of that capacity whose ports, numbered from 0, have those shares, for offers with those readings
-- and keys in that order
abbrev pub rules_of : {O K : Type 0} → Reading O K → (K → K → Ordering) → ℕ → List ℕ → Rules O
rules_of reading order capacity shares = record {
  by_key = λ a b. order (reading.key a) (reading.key b);
  port = port_of reading;
  same_source = λ a b. one_source (reading.source a) (reading.source b);
  is_worse = λ a b. is_gt (rank_order (reading.rank a) (reading.rank b));
  is_down = reading.is_down;
  capacity = capacity;
  share = share_of capacity shares;
}

-- two offers are of one key
abbrev pub same_key : {O : Type 0} → (O → O → Ordering) → O → O → Bool
same_key by_key a b = is_eq (by_key a b)
