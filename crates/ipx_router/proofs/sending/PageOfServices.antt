-- A page on which all that is told of changed services was written.
use Rattle.std.proofs.Common.{◌≡◌, ℕ, ◌+◌, ◌*◌, ◌<◌, ◌≤◌, List, [], ◌++◌, length, take, drop, sym, ap, ◌∙◌, arith, append_assoc, length-take}
use Rattle.std.proofs.lemmas.List.{take_at, drop_at}
use Rattle.std.specs.List.{flat_map}
use Rattle.ipx_wire.specs.WriteServices.{service_bytes}
use Rattle.ipx_wire.specs.declared.service.Service.{Service}
use Rattle.ipx_router.specs.Numbers.{services_a_page}
use Rattle.ipx_router.specs.inside.Putting.{IsPage, PutsServices}
use Rattle.ipx_router.proofs.sending.RoomForServices.{all_sent}
use Rattle.ipx_router.proofs.sending.ServicesInPlace.{same_length}

pub page_of : {left leaves : List Service} {count : ℕ} {old new : List ℕ} → PutsServices left leaves count old new → length left ≤ services_a_page
    → count ≤ services_a_page → (count < services_a_page → leaves ≡ []) → 32 + 64 * services_a_page ≤ length old → IsPage left count new
page_of {left} {leaves} {count} {old} {new} puts few most last room =
    let written = flat_map service_bytes puts.services in
    let others = drop (32 + length written) old in
    let sizes = puts.sizes in
    let whole : left ≡ puts.services = all_sent puts.whole puts.counted few last in
    let behind : drop 32 new ≡ written ++ others =
    ap (drop 32) (puts.bytes ∙ append_assoc (take 32 old) written others)
    ∙ drop_at (take 32 old) (written ++ others) 32 (omega (arith, length-take 32 old, room)) in
    record {
      counted = ap length whole ∙ puts.counted;
      few = most;
      sizes = ap (λ (ss : List Service). length (flat_map service_bytes ss)) whole ∙ sizes;
      room = omega (arith, same_length puts (omega (arith, most, room)), most, room);
      bytes = ap (take (64 * count)) behind ∙ take_at written others (64 * count) sizes ∙ ap (flat_map service_bytes) (sym whole);
    }
