-- Which queue somebody gets who begins to speak: where there are more speakers than queues, some share one.
use Rattle.std.specs.Prelude.{◌≡◌, ◌⊎◌, ℕ, ◌+◌, ◌-◌, ◌*◌, ◌<◌, ◌≤◌, ◌^◌, min, max, nat_lt, if◌then◌else◌, List, [], ◌∷◌, take, drop, get_or, set}
use Rattle.ipx_limits.specs.declared.queues.Queues.{Queues}

-- how many have a queue
abbrev pub users_of : Queues → ℕ → ℕ
users_of queues number = get_or queues.users number 0

-- how far a queue is behind the one that was given last: round and round
abbrev pub behind : ℕ → ℕ → ℕ
behind last number = if nat_lt last number then number - last else number + 256 - last

-- what is compared: how many have it, and of equal ones how far it is behind
abbrev pub rank : Queues → ℕ → ℕ
rank queues number = 512 * users_of queues number + behind queues.last number

-- no queue of those comes first
abbrev pub IsFirst : Queues → ℕ → ℕ → ℕ → Type 0
IsFirst queues first last number = (other : ℕ) → first ≤ other → other ≤ last → rank queues number ≤ rank queues other

-- of the queues from the first to the last one is given that the fewest have; where the last is no later, the first
pub record Taken (first last number : ℕ) (old new : Queues) : Type 0 where
  pub not_before : first ≤ number
  pub not_behind : number ≤ max first last
  pub fewest : IsFirst old first last number
  pub users : new.users ≡ set old.users number (min (users_of old number + 1) (2 ^ 32 - 1))
  pub given : new.last ≡ number

pub record GivenBack (number : ℕ) (old new : Queues) : Type 0 where
  pub users : new.users ≡ set old.users number (users_of old number - 1)
  pub same : new.last ≡ old.last

-- nobody has one of the queues from the first to the last
pub record HasFree (first last : ℕ) (queues : Queues) : Type 0 where
  pub other : ℕ
  pub not_before : first ≤ other
  pub not_behind : other ≤ last
  pub free : users_of queues other ≡ 0

-- somebody who shares his gets one that is free; who doesn't, or if there is none, keeps his
pub record MovesTo (first last number number_then : ℕ) (old new : Queues) : Type 0 where
  pub shares : 1 < users_of old number
  pub between : Queues
  pub given_back : GivenBack number old between
  pub taken : Taken first last number_then between new
  pub alone : users_of new number_then ≡ 1

pub record Stays (first last number number_then : ℕ) (old new : Queues) : Type 0 where
  pub why : (users_of old number ≤ 1) ⊎ (HasFree first last old → ⊥)
  pub same : new ≡ old
  pub keeps : number_then ≡ number

abbrev pub Unshared : (first last number number_then : ℕ) (old new : Queues) → Type 0
Unshared first last number number_then old new = MovesTo first last number number_then old new ⊎ Stays first last number number_then old new

-- ---- how many have the queues from the first to the last

abbrev pub total : List ℕ → ℕ
total [] = 0
total (users ∷ others) = users + total others

abbrev pub speakers : Queues → ℕ → ℕ → ℕ
speakers queues first last = total (take (last + 1 - first) (drop first queues.users))
