-- A frame that is written piece by piece.
use Rattle.std.proofs.Common.{◌≡◌, ℕ, ◌+◌, List, ◌++◌, length, drop, arith, length-append}
use Rattle.ipx_wire.specs.Put.{PutsAt}
use Rattle.ipx_wire.proofs.Puts.{then, whole_put}

-- six pieces one behind the other
pub whole_frame : {old a b c d e new : List ℕ} (to from field front packet pad : List ℕ) (size : ℕ)
    → length to ≡ 6 → length from ≡ 6 → length field ≡ 2 → 14 + length front + length packet + length pad ≡ size
    → PutsAt old 0 to a → PutsAt a 6 from b → PutsAt b 12 field c → PutsAt c 14 front d
    → PutsAt d (14 + length front) packet e → PutsAt e (14 + length front + length packet) pad new
    → new ≡ to ++ from ++ field ++ front ++ packet ++ pad ++ drop size old
whole_frame {old} {a} {b} {c} {d} {e} {new} to from field front packet pad size six six2 two all put1 put2 put3 put4 put5 put6 =
    let l2 = length-append to from in
    let l3 = length-append (to ++ from) field in
    let l4 = length-append (to ++ from ++ field) front in
    let l5 = length-append (to ++ from ++ field ++ front) packet in
    let l6 = length-append (to ++ from ++ field ++ front ++ packet) pad in
    let s2 = then put1 put2 (omega (arith, six)) in
    let s3 = then s2 put3 (omega (arith, six, six2, l2)) in
    let s4 = then s3 put4 (omega (arith, six, six2, two, l2, l3)) in
    let s5 = then s4 put5 (omega (arith, six, six2, two, l2, l3, l4)) in
    let s6 = then s5 put6 (omega (arith, six, six2, two, l2, l3, l4, l5)) in
    whole_put old (to ++ from ++ field ++ front ++ packet ++ pad) new size s6 (omega (arith, six, six2, two, l2, l3, l4, l5, l6, all))
