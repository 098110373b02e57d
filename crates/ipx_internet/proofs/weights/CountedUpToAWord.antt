-- Numbers that are counted up to the greatest of a word: sums, products, and what grows by levels.
use Rattle.std.proofs.Common.{◌≡◌, ap, ℕ, suc, ◌+◌, ◌-◌, ◌*◌, ◌^◌, ◌≤◌, arith, mul_comm, mul-add}
use Rattle.std.proofs.lemmas.Bool.{cases_lt}
use Rattle.ipx_internet.specs.Internet.{Internet}
use Rattle.ipx_internet.specs.InternetWeight.{most_hearers, weight_in_reach}
use Rattle.ipx_internet.specs.Most.{most_of}
use Rattle.ipx_internet.specs.inside.Scales.{saturated}

-- the greatest number of a word
abbrev most : ℕ
most = 2 ^ 64 - 1

-- a sum of numbers that are counted so
pub added : (a b : ℕ) → saturated (saturated a + saturated b) ≡ saturated (a + b)
added a b = omega arith

-- a number that is too great for a word, so many times
times_great : (a b : ℕ) → 2 ^ 64 ≤ b → saturated (saturated a * saturated b) ≡ saturated (a * b)
times_great a b great = grind arith

-- a product
pub scaled : (a b : ℕ) → saturated (saturated a * saturated b) ≡ saturated (a * b)
scaled a b = grind (arith, cases_lt, times_great, mul_comm)

-- a product as it is counted, and a number more
pub scaled_more : (a b n times product : ℕ) → times ≡ saturated a → n ≡ saturated b → product ≡ saturated (times * n) → product ≡ saturated (a * b)
scaled_more a b n times product is_times is_n is = grind (arith, scaled)

-- ---- weights are counted so, one level more

-- a packet that is sent on once more
pub tree_next : (d n degree whole product sum next : ℕ) → degree ≡ saturated d → whole ≡ saturated (most_of d n) → product ≡ saturated (degree * whole)
    → sum ≡ saturated (product + 1) → next ≡ n + 1 → sum ≡ saturated (most_of d next)
tree_next d n degree whole product sum next is_degree is_whole is_product is_sum is_next =
    let times = scaled_more d (most_of d n) whole degree product is_degree is_whole is_product in
    let more : next ≡ suc n = omega (arith, is_next) in
    let level = ap (most_of d) more in
    omega (arith, times, is_sum, level)

-- an entry that one router more may take
pub reach_next : (net : Internet) (n hearers whole sum product next : ℕ) → hearers ≡ saturated (most_hearers net) → whole ≡ saturated (weight_in_reach net n)
    → sum ≡ saturated (whole + 2) → product ≡ saturated (hearers * sum) → next ≡ n + 1 → product ≡ saturated (weight_in_reach net next)
reach_next net n hearers whole sum product next is_hearers is_whole is_sum is_product is_next =
    let d = most_hearers net in
    let w = weight_in_reach net n in
    let two_more : sum ≡ saturated (w + 2) = omega (arith, is_whole, is_sum) in
    let times = scaled_more d (w + 2) sum hearers product is_hearers two_more is_product in
    let split = mul-add d w 2 in
    let twice = mul_comm d 2 in
    let more : next ≡ suc n = omega (arith, is_next) in
    let level = ap (weight_in_reach net) more in
    omega (arith, times, split, twice, level)
