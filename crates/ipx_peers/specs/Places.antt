-- What is known of a place.
use Rattle.std.specs.Prelude.{ℕ, ◌-◌, Bool, ◌==◌, not, nat_eq, nat_lt, if◌then◌else◌, List, [], ◌∷◌, replicate}
use Rattle.std.specs.Cmp.Lexicographic.{pointwise}
use Rattle.ipx_peers.specs.declared.opened.Opened.{Opened}
use Rattle.ipx_peers.specs.Numbers.{place_lasts, session_size}
use Rattle.ipx_peers.specs.Windows.{newest}

-- the same session, or the same address
abbrev pub same : List ℕ → List ℕ → Bool
same a b = pointwise nat_eq a b

-- zeros stand for no session
abbrev pub no_session : List ℕ
no_session = replicate session_size 0

abbrev pub is_session : List ℕ → Bool
is_session session = not (same session no_session)

pub record Place : Type 0 where
  pub session : List ℕ
  -- where it is
  pub address : List ℕ
  -- the numbers that were heard of it, the latest word first
  pub numbers : List ℕ
  -- for how many seconds it is present still, unless it is heard
  pub left : ℕ

-- what stands where there is no place
abbrev pub nobody : Place
nobody = record { session = []; address = []; numbers = []; left = 0 }

abbrev pub is_of : List ℕ → Place → Bool
is_of session place = same place.session session

abbrev pub is_away : Place → Bool
is_away place = place.left == 0

-- a place whose first datagram it is
abbrev pub first : Opened → Place
first opened = record { session = opened.session; address = opened.address; numbers = opened.number ∷ []; left = place_lasts }

-- a place of which a datagram is heard: it is there, if no higher number of it was heard
abbrev pub heard : Opened → Place → Place
heard opened place = record {
  session = place.session;
  address = if nat_lt (newest place.numbers) opened.number then opened.address else place.address;
  numbers = opened.number ∷ place.numbers;
  left = place_lasts;
}

-- a new place is at an address: whoever was there isn't present any more
abbrev pub yielded : List ℕ → Place → Place
yielded address place = record {
  session = place.session;
  address = place.address;
  numbers = place.numbers;
  left = if same place.address address then 0 else place.left;
}

-- a second later
abbrev pub later : Place → Place
later place = record { session = place.session; address = place.address; numbers = place.numbers; left = place.left - 1 }
