use Rattle.std.proofs.Common.{◌≡◌, ◌+◌, ◌-◌, refl, arith}
use Rattle.std.specs.Vec.{vec_len, vec_capacity}
use Rattle.ipx_router.proofs.sending.OnePacketMore.{flat_after, one_appended}
use Rattle.ipx_router.proofs.outbox.Outbox.append_query.Goals as goal

pub invariant_of-self : goal.invariant_of-self
invariant_of-self c =
    let put = c.put_query-size.ensures in
    flat_after c.put_query-size.new.bytes.items _ _ c.self.invariant put.there put.front c.add_slot.ensures.items refl refl put.size

pub returns : goal.returns
returns c =
    let o = c.self.inside in
    let bytes = c.put_query-size.new.bytes in
    let slots = c.add_slot.new.slots in
    let put = c.put_query-size.ensures in
    let slot = c.add_slot.ensures in
    let fewer : vec_capacity o.slots - vec_len o.slots ≡ vec_capacity slots - vec_len slots + 1 = omega (arith, slot.len, slot.capacity, slots.ok) in
    let shorter : vec_len o.bytes - o.used ≡ vec_len bytes - (o.used + c.put_query-size.result) + c.put_query-size.result = omega (arith, put.len, put.there, bytes.ok) in
    one_appended bytes.items _ _ c.self.invariant put.there put.front slot.items refl refl put.size c.self.view_is fewer shorter
    (λ i. record { packets = slot.capacity i; bytes = put.capacity i })
