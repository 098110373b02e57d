-- Whoever says no more than his parts finds room on a narrow line.
use Rattle.std.proofs.Common.{◌≡◌, ◌∙◌, refl, sym, ap, ap₂, subst, arith, ℕ, zero, suc, ◌+◌, ◌-◌, ◌*◌, ◌<◌, ◌≤◌, ◌⊎◌, inl, inr, ◌==◌, Bool, true, false, ◌&&◌, ◌||◌, not, nat_le, if◌then◌else◌, None, Some, List, [], ◌∷◌, length, map, get_or, set, replicate}
use Rattle.std.specs.List.{AllByRecursion}
use Rattle.std.proofs.Math.Nat.{mul-le-mul_left, mul-le-mul_right, mul-sub, le_of_mul-le-mul_left}
use Rattle.std.proofs.lemmas.Bool.{and_parts, and_from, both_ways, not-true, not_from_false, leb-true, le-leb}
use Rattle.ipx_fair.specs.Queues.{total, lowered}
use Rattle.ipx_fair.specs.Hearing.{queue_of}
use Rattle.ipx_fair.proofs.Queues.{total-set, length-lowered}
use Rattle.ipx_limits.specs.declared.line.Line.{Line}
use Rattle.ipx_limits.specs.declared.line.LineAddress.{LineAddress}
use Rattle.ipx_limits.specs.declared.line_room.LineUse.{LineUse}
use Rattle.ipx_limits.specs.declared.rank.Rank.{Rank}
use Rattle.ipx_limits.specs.declared.rank.Rank.TheVariants.{Beyond, OfAddress, OfSpeaker, Little, Within}
use Rattle.ipx_limits.specs.Numbers.{line_short, room_of_speaker, at_once, said_at_once, own_parts, own_at_once}
use Rattle.ipx_limits.specs.LineParts.{cost, longest, receivers, speakers, sharers, pairs, more, pair_cost, said_cost, most_within, most_said, most_spoken}
use Rattle.ipx_limits.specs.LineRoom.{is_within, has_part, is_alone, speaks_to_itself, says_little, rank_of, most_room, room_of, has_room, room_for, is_little, is_of_part, own_cost}
use Rattle.ipx_limits.specs.LineLaws.{Busy, none_to, quiet, Event, Passing, Copies, Own, ToStranger, busy_then, said_to, within_after, Copied, SentOut, Runs, own_fill, IsWide, HasParts, Saying, Later, Says, SayingRuns, said_fill}
use Rattle.ipx_limits.proofs.NarrowLine.{cost_less, cost_most, found}

-- ---- lists

-- each of them is no more than so much
abbrev Each : ℕ → List ℕ → Type 0
Each most [] = Unit {0}
Each most (q ∷ qs) = (q ≤ most) × Each most qs

each_lowered : (most time : ℕ) (qs : List ℕ) → Each most qs → Each most (lowered time qs)
each_lowered most time [] each = tt
each_lowered most time (q ∷ qs) each = (omega (arith, each.0), each_lowered most time qs each.1)

each_set : (most : ℕ) (qs : List ℕ) (k x : ℕ) → Each most qs → x ≤ most → Each most (set qs k x)
each_set most [] k x each less = tt
each_set most (q ∷ qs) zero x each less = (less, each.1)
each_set most (q ∷ qs) (suc k) x each less = (each.0, each_set most qs k x each.1 less)

each_none : (most count : ℕ) → Each most (replicate count 0)
each_none most zero = tt
each_none most (suc count) = (omega arith, each_none most count)

one_more : (count most : ℕ) → (1 + count) * most ≡ most + count * most
one_more count most = omega arith

each_total : (most : ℕ) (qs : List ℕ) → Each most qs → total qs ≤ length qs * most
each_total most [] each = omega arith
each_total most (q ∷ qs) each = omega (arith, each.0, each_total most qs each.1, one_more (length qs) most)

total_lowered : (time : ℕ) (qs : List ℕ) → total qs ≤ total (lowered time qs) + length qs * time
total_lowered time [] = omega arith
total_lowered time (q ∷ qs) = omega (arith, total_lowered time qs, one_more (length qs) time)

length_none : (count : ℕ) → length (replicate {A = ℕ} count 0) ≡ count
length_none zero = refl
length_none (suc count) = ap suc (length_none count)

length_set : (qs : List ℕ) (k x : ℕ) → length (set qs k x) ≡ length qs
length_set [] k x = refl
length_set (q ∷ qs) zero x = refl
length_set (q ∷ qs) (suc k) x = ap suc (length_set qs k x)

-- what so many use of a part that they share, and what it is filled with by all of them
lowered_share : (n x time : ℕ) (qs : List ℕ) → n * x ≤ total qs → length qs ≤ n → n * (x - time) ≤ total (lowered time qs)
lowered_share n x time qs less few =
    let all : length qs * time ≤ n * time = mul-le-mul_right time few in
    omega (arith, mul-sub n x time, less, total_lowered time qs, all)

-- ---- the parts of all addresses, and what they are filled with together

abbrev Filled : ℕ → List ℕ → List (List ℕ) → ℕ → Type 0
Filled most [] [] all = all ≡ 0
Filled most (n ∷ ns) (w ∷ ws) all =
    (x : ℕ) × ((rest : ℕ) × ((all ≡ x + rest) × ((length w ≡ n) × (Each most w × ((n * x ≤ total w) × Filled most ns ws rest)))))
Filled most [] (w ∷ ws) all = 0 ≡ suc all
Filled most (n ∷ ns) [] all = 0 ≡ suc all

filled_none : (most : ℕ) (ns : List ℕ) → Filled most ns (none_to ns) 0
filled_none most [] = refl
filled_none most (n ∷ ns) = (0, (0, (refl, (length_none n, (each_none most n, (omega arith, filled_none most ns))))))

filled_later : (most time : ℕ) (ns : List ℕ) (ws : List (List ℕ)) (all : ℕ) → Filled most ns ws all
    → (all_then : ℕ) × (Filled most ns (map (lowered time) ws) all_then × (all ≤ all_then + length ns * time))
filled_later most time [] [] all filled = (all, (filled, omega arith))
filled_later most time (n ∷ ns) (w ∷ ws) all filled =
    let x = filled.0 in
    let rest = filled.1.0 in
    let sum = filled.1.1.0 in
    let few = filled.1.1.1.0 in
    let each = filled.1.1.1.1.0 in
    let less = filled.1.1.1.1.1.0 in
    let others = filled_later most time ns ws rest filled.1.1.1.1.1.1 in (
      (x - time) + others.0,
      (
        (
          x - time,
          (
            others.0,
            (
              refl,
              (
                length-lowered time w ∙ few,
                (each_lowered most time w each, (lowered_share n x time w less (omega (arith, few)), others.1.0)),
              ),
            ),
          ),
        ),
        omega (arith, sum, others.1.1, one_more (length ns) time),
      ),
    )
filled_later most time [] (w ∷ ws) all filled = (all, (filled, omega arith))
filled_later most time (n ∷ ns) [] all filled = (all, (filled, omega arith))

filled_set : (most : ℕ) (ns : List ℕ) (ws : List (List ℕ)) (all address speaker more : ℕ) → Filled most ns ws all → address < length ws
    → speaker < length (said_to ws address) → queue_of (said_to ws address) speaker + get_or ns address 0 * more ≤ most
    → Filled most ns (set ws address (set (said_to ws address) speaker (queue_of (said_to ws address) speaker + get_or ns address 0 * more))) (all + more)
filled_set most [] [] all address speaker more filled there one fits = omega (arith, there)
filled_set most (n ∷ ns) (w ∷ ws) all zero speaker more filled there one fits =
    let x = filled.0 in
    let rest = filled.1.0 in
    let sum = filled.1.1.0 in
    let few = filled.1.1.1.0 in
    let each = filled.1.1.1.1.0 in
    let less = filled.1.1.1.1.1.0 in
    let used = queue_of w speaker + n * more in (
      x + more,
      (
        rest,
        (
          omega (arith, sum),
          (
            length_set w speaker used ∙ few,
            (each_set most w speaker used each fits, (omega (arith, less, total-set w speaker used one, spread n x more), filled.1.1.1.1.1.1)),
          ),
        ),
      ),
    )
  where
    spread : (n x more : ℕ) → n * (x + more) ≡ n * x + n * more
    spread n x more = omega arith
filled_set most (n ∷ ns) (w ∷ ws) all (suc address) speaker more filled there one fits =
    let others = filled_set most ns ws filled.1.0 address speaker more filled.1.1.1.1.1.1 (omega (arith, there)) one fits in
    (filled.0, (filled.1.0 + more, (omega (arith, filled.1.1.0), (filled.1.1.1.0, (filled.1.1.1.1.0, (filled.1.1.1.1.1.0, others))))))
filled_set most [] (w ∷ ws) all zero speaker more filled there one fits = omega (arith, filled)
filled_set most [] (w ∷ ws) all (suc address) speaker more filled there one fits = omega (arith, filled)
filled_set most (n ∷ ns) [] all address speaker more filled there one fits = omega (arith, filled)

-- what fills a part that so many share is no more than each of them may use
share_most : (n x most : ℕ) (qs : List ℕ) → n * x ≤ total qs → length qs ≤ n → Each most qs → 0 < n → x ≤ most
share_most n x most qs less few each some =
    let all : length qs * most ≤ n * most = mul-le-mul_right most few in
    let sum : n * x ≤ n * most = omega (arith, less, each_total most qs each, all) in
    le_of_mul-le-mul_left sum some

filled_most : (most : ℕ) (ns : List ℕ) (ws : List (List ℕ)) (all : ℕ) → Filled most ns ws all → AllByRecursion (λ n. 0 < n) ns → all ≤ length ns * most
filled_most most [] [] all filled some = omega (arith, filled)
filled_most most (n ∷ ns) (w ∷ ws) all filled some =
    let one = share_most n filled.0 most w filled.1.1.1.1.1.0 (omega (arith, filled.1.1.1.0)) filled.1.1.1.1.0 some.0 in
    omega (arith, filled.1.1.0, one, filled_most most ns ws filled.1.0 filled.1.1.1.1.1.1 some.1, one_more (length ns) most)
filled_most most [] (w ∷ ws) all filled some = omega (arith, filled)
filled_most most (n ∷ ns) [] all filled some = omega (arith, filled)

-- ---- a step

-- of what a copy within a part takes, and of one that says little
part_charged : (m cost : ℕ) → 32 * (m * cost) ≤ 29 * (m * (cost + more cost))
part_charged m cost =
    let one : 32 * cost ≤ 29 * (cost + more cost) = omega arith in
    omega (arith, mul-le-mul_left m one)

little_charged : (m cost : ℕ) → 32 * (m * cost) ≤ m * (own_parts * cost)
little_charged m cost = omega arith

more_of : (m a b : ℕ) → m * (a + b) ≡ m * a + m * b
more_of m a b = omega arith

busier : (m busy next taken : ℕ) → next ≤ busy + taken → m * next ≤ m * busy + m * taken
busier m busy next taken less = omega (arith, mul-le-mul_left m less)

later : (m busy time rest parts parts_then little own strangers count : ℕ) → count ≤ m
    → 32 * (m * busy) ≤ rest + 29 * parts + m * little + m * own + m * strangers → parts ≤ parts_then + count * time
    → 32 * (m * (busy - time)) ≤ rest + 29 * parts_then + m * (little - time) + m * (own - time) + m * (strangers - time)
later m busy time rest parts parts_then little own strangers count few less parts_less =
    let all : count * time ≤ m * time = mul-le-mul_right time few in
    omega (arith, mul-sub m busy time, mul-sub m little time, mul-sub m own time, mul-sub m strangers time, less, parts_less, all)

-- what a rank says
is_within_parts : (line : Line) (to : LineAddress) (number bytes : ℕ) (used : LineUse) → rank_of line to number bytes used ≡ Within
    → (not (speaks_to_itself line to number) && nat_le (used.within + pair_cost line to bytes) (most_within line to)) ≡ true
is_within_parts line to number bytes used is =
    (and_parts (not (number == 0)) (not (speaks_to_itself line to number) && nat_le (used.within + pair_cost line to bytes) (most_within line to))
    (says (is_within line to number bytes used) (says_little line number bytes used) (nat_le used.spoken (most_spoken line to)) (has_part used) is)).1
  where
    says : (within little spoken part : Bool)
        → (if within then Within else if little then Little else if spoken then OfSpeaker else if part then OfAddress else Beyond) ≡ Within → within ≡ true
    says true little spoken part e = refl
    says false true spoken part e = ap is_of_part e
    says false false true part e = ap is_of_part e
    says false false false true e = ap is_of_part e
    says false false false false e = ap is_of_part e

is_within_says : (line : Line) (to : LineAddress) (number bytes : ℕ) (used : LineUse) → rank_of line to number bytes used ≡ Within
    → used.within + pair_cost line to bytes ≤ most_within line to
is_within_says line to number bytes used is =
    leb-true (used.within + pair_cost line to bytes) (most_within line to)
    (and_parts (not (speaks_to_itself line to number)) (nat_le (used.within + pair_cost line to bytes) (most_within line to))
    (is_within_parts line to number bytes used is)).1

pub never_itself : (line : Line) (to : LineAddress) (number bytes : ℕ) (used : LineUse) → speaks_to_itself line to number ≡ true
    → rank_of line to number bytes used ≡ Within → ⊥
never_itself line to number bytes used itself is =
    both_ways (speaks_to_itself line to number)
    (not-true (speaks_to_itself line to number) (and_parts (not (speaks_to_itself line to number)) (nat_le (used.within + pair_cost line to bytes) (most_within line to))
    (is_within_parts line to number bytes used is)).0) itself

little_says : (line : Line) (to : LineAddress) (number bytes : ℕ) (used : LineUse) → rank_of line to number bytes used ≡ Little
    → used.said + said_cost line bytes ≤ most_said line
little_says line to number bytes used is =
    leb-true (used.said + said_cost line bytes) (most_said line)
    (and_parts (not (number == 0) && (has_part used || not (is_alone line number))) (nat_le (used.said + said_cost line bytes) (most_said line))
    (says (is_within line to number bytes used) (says_little line number bytes used) (nat_le used.spoken (most_spoken line to)) (has_part used) is)).1
  where
    says : (within little spoken part : Bool)
        → (if within then Within else if little then Little else if spoken then OfSpeaker else if part then OfAddress else Beyond) ≡ Little → little ≡ true
    says true true spoken part e = refl
    says true false spoken part e = ap is_little e
    says false true spoken part e = refl
    says false false true part e = ap is_little e
    says false false false true e = ap is_little e
    says false false false false e = ap is_little e

-- a line that is wide enough lets nobody have more at once
wide_within : (line : Line) (to : LineAddress) → IsWide line → 0 < speakers line → most_within line to ≤ at_once
wide_within line to wide some =
    let v = cost line line_short + more (cost line line_short) in
    let fewer : sharers line to ≤ speakers line = omega (arith, some) in
    let pairs_fewer : pairs line to ≤ receivers line * speakers line = mul-le-mul_left (receivers line) fewer in
    let all : pairs line to * v ≤ receivers line * speakers line * v = mul-le-mul_right v pairs_fewer in
    omega (arith, all, wide.of_parts)

wide_little : (line : Line) → IsWide line → most_said line ≤ said_at_once
wide_little line wide = omega (arith, wide.of_all)

in_turn : (m n v : ℕ) → m * n * v ≡ n * (m * v)
in_turn m n v = omega arith

module _ (line : Line) (speak_to : List ℕ) (speak : ℕ) (has : HasParts line speak speak_to) (wide : IsWide line) where
  -- what the speakers' parts are filled with, and what is said to all; and so the line
  record Holds (own : ℕ) (b : Busy) : Type 0 where
    parts : ℕ
    little : ℕ
    of_parts : Filled at_once speak_to b.within parts
    so_many : length b.said ≡ speak
    each : Each said_at_once b.said
    of_little : speakers line * little ≤ total b.said
    of_strangers : b.strangers ≤ own_at_once + own_cost line line_short
    busy : 32 * (receivers line * b.line) ≤ 32 * (receivers line * (room_of_speaker + longest line)) + 29 * parts + receivers line * little
        + receivers line * own + receivers line * b.strangers

  begins : Holds 0 (quiet speak speak_to)
  begins = record {
    parts = 0;
    little = 0;
    of_parts = filled_none at_once speak_to;
    so_many = length_none speak;
    each = each_none said_at_once speak;
    of_little = omega arith;
    of_strangers = omega arith;
    busy = omega arith;
  }

  passes : (own time : ℕ) (old new : Busy) → Holds own old
      → new ≡ record { line = old.line - time; strangers = old.strangers - time; said = lowered time old.said; within = map (lowered time) old.within }
      → Holds (own - time) new
  passes own time old new h is =
      let filled = filled_later at_once time speak_to old.within h.parts h.of_parts in
      let said : new.said ≡ lowered time old.said = ap (λ (b : Busy). b.said) is in
      let strangers : new.strangers ≡ old.strangers - time = ap (λ (b : Busy). b.strangers) is in
      let shared = lowered_share (speakers line) h.little time old.said h.of_little (omega (arith, h.so_many, has.all_speak)) in
      let rest = 32 * (receivers line * (room_of_speaker + longest line)) in
      let busy = later (receivers line) old.line time rest h.parts filled.0 h.little own old.strangers (length speak_to) has.all_receive h.busy filled.1.1 in
      record {
        parts = filled.0;
        little = h.little - time;
        of_parts = subst (λ (ws : List (List ℕ)). Filled at_once speak_to ws filled.0) (sym (ap (λ (b : Busy). b.within) is)) filled.1.0;
        so_many = ap length said ∙ length-lowered time old.said ∙ h.so_many;
        each = subst (Each said_at_once) (sym said) (each_lowered said_at_once time old.said h.each);
        of_little = omega (arith, shared, ap total said);
        of_strangers = omega (arith, strangers, h.of_strangers);
        busy = omega (arith, busy, ap (λ (b : Busy). receivers line * b.line) is, ap (λ (b : Busy). receivers line * b.strangers) is);
      }

  -- nothing but the line changes, which was short, or didn't change either
  same_but : (own : ℕ) (old new : Busy) → Holds own old → new.within ≡ old.within → new.said ≡ old.said → new.strangers ≡ old.strangers
      → (new.line ≤ old.line) ⊎ (new.line ≤ room_of_speaker + longest line) → Holds own new
  same_but own old new h within said strangers line_is =
      record {
        parts = h.parts;
        little = h.little;
        of_parts = subst (λ (ws : List (List ℕ)). Filled at_once speak_to ws h.parts) (sym within) h.of_parts;
        so_many = ap length said ∙ h.so_many;
        each = subst (Each said_at_once) (sym said) h.each;
        of_little = omega (arith, h.of_little, ap total said);
        of_strangers = omega (arith, strangers, h.of_strangers);
        busy = less line_is;
      }
    where
      less : (new.line ≤ old.line) ⊎ (new.line ≤ room_of_speaker + longest line) → 32 * (receivers line * new.line)
          ≤ 32 * (receivers line * (room_of_speaker + longest line)) + 29 * h.parts + receivers line * h.little + receivers line * own + receivers line * new.strangers
      less (inl no_more) = omega (arith, h.busy, mul-le-mul_left (receivers line) no_more, ap (λ (n : ℕ). receivers line * n) strangers)
      less (inr short) = omega (arith, mul-le-mul_left (receivers line) short)

  goes_within : (own address speaker bytes : ℕ) (old new : Busy) → Copied line speak_to address speaker bytes Within true old new → Holds own old → Holds own new
  goes_within own address speaker bytes old new c h =
      let pair = c.is_of_pair refl in
      let taken = receivers line * (cost line bytes + more (cost line bytes)) in
      let n = get_or speak_to address 0 in
      let is : pair_cost line c.to bytes ≡ n * taken =
      ap (λ (k : ℕ). receivers line * k * (cost line bytes + more (cost line bytes))) pair.so_many ∙ in_turn (receivers line) n (cost line bytes + more (cost line bytes)) in
      let fits = is_within_says line c.to c.number bytes c.used (sym c.decided) in
      let most = wide_within line c.to wide has.some_speak in
      let less : queue_of (said_to old.within address) speaker + n * taken ≤ at_once = omega (arith, fits, most, is, pair.is_used) in
      let filled = filled_set at_once speak_to old.within h.parts address speaker taken h.of_parts pair.address_there pair.speaker_there less in
      let within : new.within ≡ set old.within address (set (said_to old.within address) speaker (queue_of (said_to old.within address) speaker + n * taken)) =
      c.within_then ∙ ap (λ (k : ℕ). set old.within address (set (said_to old.within address) speaker (queue_of (said_to old.within address) speaker + k))) is in
      let next : new.line ≡ busy_then line bytes old.line = c.line_then in
      let line_busier = busier (receivers line) old.line new.line (cost line bytes) (omega (arith, next)) in
      let strangers : new.strangers ≡ old.strangers = c.strangers_then in
      let said : new.said ≡ old.said = c.said_then in
      record {
        parts = h.parts + taken;
        little = h.little;
        of_parts = subst (λ (ws : List (List ℕ)). Filled at_once speak_to ws (h.parts + taken)) (sym within) filled;
        so_many = ap length said ∙ h.so_many;
        each = subst (Each said_at_once) (sym said) h.each;
        of_little = omega (arith, h.of_little, ap total said);
        of_strangers = omega (arith, strangers, h.of_strangers);
        busy = omega (arith, h.busy, line_busier, part_charged (receivers line) (cost line bytes), ap (λ (k : ℕ). receivers line * k) strangers);
      }

  goes_little : (own address speaker bytes : ℕ) (old new : Busy) → Copied line speak_to address speaker bytes Little true old new → Holds own old → Holds own new
  goes_little own address speaker bytes old new c h =
      let there = (c.is_of_speaker refl).0 in
      let used_is : c.used.said ≡ queue_of old.said speaker = (c.is_of_speaker refl).1 in
      let taken = own_parts * cost line bytes in
      let fits = little_says line c.to c.number bytes c.used (sym c.decided) in
      let most = wide_little line wide in
      let used = queue_of old.said speaker + said_cost line bytes in
      let said : new.said ≡ set old.said speaker used = c.said_then in
      let next : new.line ≡ busy_then line bytes old.line = c.line_then in
      let line_busier = busier (receivers line) old.line new.line (cost line bytes) (omega (arith, next)) in
      let strangers : new.strangers ≡ old.strangers = c.strangers_then in
      let within : new.within ≡ old.within = c.within_then in
      record {
        parts = h.parts;
        little = h.little + taken;
        of_parts = subst (λ (ws : List (List ℕ)). Filled at_once speak_to ws h.parts) (sym within) h.of_parts;
        so_many = ap length said ∙ length_set old.said speaker used ∙ h.so_many;
        each = subst (Each said_at_once) (sym said) (each_set said_at_once old.said speaker used h.each (omega (arith, fits, used_is, most)));
        of_little = omega (arith, h.of_little, ap total said, total-set old.said speaker used there, more_of (speakers line) h.little taken);
        of_strangers = omega (arith, strangers, h.of_strangers);
        busy = omega (arith, h.busy, line_busier, little_charged (receivers line) (cost line bytes), more_of (receivers line) h.little taken, ap (λ (k : ℕ). receivers line * k) strangers);
      }

  goes_own : (own bytes : ℕ) (old new : Busy) → new ≡ record old { line = busy_then line bytes old.line } → Holds own old → Holds (own + own_cost line bytes) new
  goes_own own bytes old new is h =
      let said : new.said ≡ old.said = ap (λ (b : Busy). b.said) is in
      let strangers : new.strangers ≡ old.strangers = ap (λ (b : Busy). b.strangers) is in
      let next : new.line ≡ busy_then line bytes old.line = ap (λ (b : Busy). b.line) is in
      let line_busier = busier (receivers line) old.line new.line (cost line bytes) (omega (arith, next)) in
      record {
        parts = h.parts;
        little = h.little;
        of_parts = subst (λ (ws : List (List ℕ)). Filled at_once speak_to ws h.parts) (sym (ap (λ (b : Busy). b.within) is)) h.of_parts;
        so_many = ap length said ∙ h.so_many;
        each = subst (Each said_at_once) (sym said) h.each;
        of_little = omega (arith, h.of_little, ap total said);
        of_strangers = omega (arith, strangers, h.of_strangers);
        busy = omega (arith, h.busy, line_busier, own_more (receivers line) own (cost line bytes), ap (λ (k : ℕ). receivers line * k) strangers);
      }
    where
      own_more : (m own cost : ℕ) → m * (own + own_parts * cost) ≡ m * own + 32 * (m * cost)
      own_more m own cost = omega arith

  goes_to_stranger : (own bytes : ℕ) (old new : Busy) → SentOut line bytes old new → Holds own old → Holds own new
  goes_to_stranger own bytes old new s h =
      let said : new.said ≡ old.said = ap (λ (b : Busy). b.said) s.is_new in
      let strangers : new.strangers ≡ old.strangers + own_cost line bytes = ap (λ (b : Busy). b.strangers) s.is_new in
      let next : new.line ≡ busy_then line bytes old.line = ap (λ (b : Busy). b.line) s.is_new in
      let line_busier = busier (receivers line) old.line new.line (cost line bytes) (omega (arith, next)) in
      let room : old.strangers ≤ own_at_once = leb-true old.strangers own_at_once s.room in
      let short = cost_less line bytes line_short (omega (arith, s.short)) in
      record {
        parts = h.parts;
        little = h.little;
        of_parts = subst (λ (ws : List (List ℕ)). Filled at_once speak_to ws h.parts) (sym (ap (λ (b : Busy). b.within) s.is_new)) h.of_parts;
        so_many = ap length said ∙ h.so_many;
        each = subst (Each said_at_once) (sym said) h.each;
        of_little = omega (arith, h.of_little, ap total said);
        of_strangers = omega (arith, strangers, room, short);
        busy = omega (arith, h.busy, line_busier, strangers_more (receivers line) old.strangers (cost line bytes), ap (λ (k : ℕ). receivers line * k) strangers);
      }
    where
      strangers_more : (m used cost : ℕ) → m * (used + own_parts * cost) ≡ m * used + 32 * (m * cost)
      strangers_more m used cost = omega arith

  -- a copy that comes behind those found the line short
  goes_behind : (own address speaker bytes : ℕ) (rank : Rank) (old new : Busy) → Copied line speak_to address speaker bytes rank true old new
      → is_little rank ≡ false → is_of_part rank ≡ false → room_of line rank ≤ room_of_speaker → Holds own old → Holds own new
  goes_behind own address speaker bytes rank old new c not_little not_within short h =
      let next : new.line ≡ busy_then line bytes old.line = c.line_then in
      let room = found line speak_to address speaker bytes rank true old new c refl in
      same_but own old new h
      (c.within_then ∙ ap (λ (b : Bool). if true && b then within_after line c.to address speaker bytes old.within else old.within) not_within)
      (c.said_then ∙ ap (λ (b : Bool). if true && b then set old.said speaker (queue_of old.said speaker + said_cost line bytes) else old.said) not_little)
      c.strangers_then (inr (omega (arith, next, room, short, cost_most line bytes)))

  holds : (own : ℕ) (old new : Busy) (events : List Event) → Runs line speak_to old events new → Holds own old → Holds (own_fill line own events) new
  holds own old new [] run h = subst (Holds own) (sym run) h
  holds own old new (Passing time ∷ events) run h = holds (own - time) run.0 new events run.2 (passes own time old run.0 h run.1)
  holds own old new (Copies address speaker bytes Within true ∷ events) run h =
      holds own run.0 new events run.2 (goes_within own address speaker bytes old run.0 run.1 h)
  holds own old new (Copies address speaker bytes Little true ∷ events) run h =
      holds own run.0 new events run.2 (goes_little own address speaker bytes old run.0 run.1 h)
  holds own old new (Copies address speaker bytes OfSpeaker true ∷ events) run h =
      holds own run.0 new events run.2 (goes_behind own address speaker bytes OfSpeaker old run.0 run.1 refl refl (omega arith) h)
  holds own old new (Copies address speaker bytes OfAddress true ∷ events) run h =
      holds own run.0 new events run.2 (goes_behind own address speaker bytes OfAddress old run.0 run.1 refl refl (omega arith) h)
  holds own old new (Copies address speaker bytes Beyond true ∷ events) run h =
      holds own run.0 new events run.2 (goes_behind own address speaker bytes Beyond old run.0 run.1 refl refl (omega arith) h)
  holds own old new (Copies address speaker bytes rank false ∷ events) run h =
      let same : run.0.line ≡ old.line = run.1.line_then in
      holds own run.0 new events run.2
      (same_but own old run.0 h run.1.within_then run.1.said_then run.1.strangers_then (inl (omega (arith, same))))
  holds own old new (Own bytes ∷ events) run h = holds (own + own_cost line bytes) run.0 new events run.2 (goes_own own bytes old run.0 run.1 h)
  holds own old new (ToStranger bytes ∷ events) run h = holds own run.0 new events run.2 (goes_to_stranger own bytes old run.0 run.1 h)

  -- so the line is never busier than the room of those within their parts
  never_full : (own : ℕ) (b : Busy) → Holds own b → own ≤ own_at_once + own_cost line line_short → b.line ≤ most_room line
  never_full own b h few =
      let n = speakers line in
      let parts = filled_most at_once speak_to b.within h.parts h.of_parts has.some_to_each in
      let parts_all : length speak_to * at_once ≤ receivers line * at_once = mul-le-mul_right at_once has.all_receive in
      let little = share_most n h.little said_at_once b.said h.of_little (omega (arith, h.so_many, has.all_speak)) h.each has.some_speak in
      let little_all = mul-le-mul_left (receivers line) little in
      let own_all = mul-le-mul_left (receivers line) few in
      let strangers_all = mul-le-mul_left (receivers line) h.of_strangers in
      let sum : receivers line * b.line ≤ receivers line * most_room line =
      omega (arith, h.busy, parts, parts_all, little_all, own_all, strangers_all, apart (receivers line) (longest line) (cost line line_short)) in
      le_of_mul-le-mul_left sum has.some_receive
    where
      apart : (m long short : ℕ) → m * (310000000 + long + 2 * short) ≡ 310000000 * m + m * long + 2 * (m * short)
      apart m long short = omega arith

  heard : (rank : Rank) (new : Busy) (events : List Event) (to : LineAddress) (number bytes : ℕ) (used : LineUse) → room_of line rank ≡ most_room line
      → Runs line speak_to (quiet speak speak_to) events new → own_fill line 0 events ≤ own_at_once + own_cost line line_short → used.line ≡ new.line
      → rank_of line to number bytes used ≡ rank → room_for line to number bytes used ≡ Some rank
  heard rank new events to number bytes used most run own same is =
      let busy = never_full (own_fill line 0 events) new (holds 0 (quiet speak speak_to) new events run begins) own in
      let room : has_room line rank used ≡ true = le-leb used.line (room_of line rank) (omega (arith, busy, same, most)) in
      ap (λ (r : Rank). if has_room line r used then Some r else None) is ∙ ap (λ (b : Bool). if b then Some rank else None) room

  pub within_heard : (new : Busy) (events : List Event) (to : LineAddress) (number bytes : ℕ) (used : LineUse) → Runs line speak_to (quiet speak speak_to) events new
      → own_fill line 0 events ≤ own_at_once + own_cost line line_short → used.line ≡ new.line → rank_of line to number bytes used ≡ Within
      → room_for line to number bytes used ≡ Some Within
  within_heard new events to number bytes used run own same is = heard Within new events to number bytes used refl run own same is

  pub little_heard : (new : Busy) (events : List Event) (to : LineAddress) (number bytes : ℕ) (used : LineUse) → Runs line speak_to (quiet speak speak_to) events new
      → own_fill line 0 events ≤ own_at_once + own_cost line line_short → used.line ≡ new.line → rank_of line to number bytes used ≡ Little
      → room_for line to number bytes used ≡ Some Little
  little_heard new events to number bytes used run own same is = heard Little new events to number bytes used refl run own same is

-- ---- and who keeps to his part is within it

fills : (line : Line) (to : LineAddress) (old new : ℕ) (sayings : List Saying) (bucket : ℕ) → SayingRuns line to old sayings new → old ≤ bucket
    → new ≤ said_fill line to bucket sayings
fills line to old new [] bucket run less = omega (arith, less, run)
fills line to old new (Later time ∷ sayings) bucket run less = fills line to run.0 new sayings (bucket - time) run.2 (omega (arith, less, run.1))
fills line to old new (Says bytes ∷ sayings) bucket run less =
    fills line to run.0 new sayings (bucket + pair_cost line to bytes) run.2 (omega (arith, less, run.1))

pub keeps_within : (line : Line) (to : LineAddress) (number bytes : ℕ) (old new : ℕ) (sayings : List Saying) (used : LineUse) → not (number == 0) ≡ true
    → speaks_to_itself line to number ≡ false → SayingRuns line to old sayings new → used.within ≤ new → said_fill line to old sayings + pair_cost line to bytes ≤ most_within line to
    → rank_of line to number bytes used ≡ Within
keeps_within line to number bytes old new sayings used is_address another run less fits =
    let filled = fills line to old new sayings old run (omega arith) in
    let room : nat_le (used.within + pair_cost line to bytes) (most_within line to) ≡ true =
    le-leb (used.within + pair_cost line to bytes) (most_within line to) (omega (arith, less, filled, fits)) in
    ap (λ (b : Bool). if b then Within else if says_little line number bytes used then Little else if nat_le used.spoken (most_spoken line to) then OfSpeaker
    else if has_part used then OfAddress else Beyond)
    (and_from (not (number == 0)) _ is_address (and_from (not (speaks_to_itself line to number)) _ (not_from_false (speaks_to_itself line to number) another) room))
