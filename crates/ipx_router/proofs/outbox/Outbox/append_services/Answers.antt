use Rattle.std.proofs.Common.{◌≡◌, ◌+◌, ◌-◌, ◌*◌, ◌≤◌, ℕ, ◌++◌, false, nat_eq, refl, sym, ap, ◌∙◌, subst, take, length, length-append, length-drop, arith}
use Rattle.std.proofs.lemmas.Bool.{ne_eqb}
use Rattle.std.specs.List.{flat_map}
use Rattle.std.specs.Vec.{vec_len, vec_capacity}
use Rattle.ipx_wire.specs.WriteServices.{sap_front, sap_packet, service_bytes}
use Rattle.ipx_router.specs.Numbers.{services_a_page}
use Rattle.ipx_router.specs.Outbox.{Appends}
use Rattle.ipx_router.specs.inside.Envelope.{services_in}
use Rattle.ipx_router.proofs.sending.OnePacketMore.{flat_after, one_appended}
use Rattle.ipx_router.proofs.sending.PagesFilledFirst.{one_packet}
use Rattle.ipx_router.proofs.sending.ServicesInPlace.{room_behind, whole_packet}
use Rattle.ipx_router.proofs.outbox.Outbox.append_services.Goals as goal

pub put_front-size-requires-clause-room : goal.put_front-size-requires-clause-room
put_front-size-requires-clause-room g c =
    let o = c.self.inside in
    let put = c.put_next-count.ensures in
    let lent = c.put_next-count.new.bytes in
    let within = c.self.invariant.fits in
    let there = room_behind o.used o.bytes.items lent.items put.puts (omega (arith, put.len, o.bytes.ok, lent.ok)) (omega (arith, c.if-count-gt0.true)) within in
    omega (arith, there, put.len, o.bytes.ok, lent.ok)

pub invariant_of-self : goal.invariant_of-self
invariant_of-self g c =
    let o = c.self.inside in
    let put = c.put_next-count.ensures in
    let lent = c.put_next-count.new.bytes in
    let out = c.put_front-size.new.bytes in
    let front = c.put_front-size.ensures in
    let e = c.args.envelope in
    let within = c.self.invariant.fits in
    let there = room_behind o.used o.bytes.items lent.items put.puts (omega (arith, put.len, o.bytes.ok, lent.ok)) (omega (arith, c.if-count-gt0.true)) within in
    let packet = sap_packet e.from e.to false put.puts.services in
    let whole = front.packet put.puts.services put.puts.counted in
    let bytes : take (o.used + (32 + 64 * c.put_next-count.result)) out.items ≡ take o.used o.bytes.items ++ packet =
    whole_packet o.used o.bytes.items lent.items out.items (sap_front e.from e.to false c.put_next-count.result) packet put.puts
    (omega (arith, there, length-drop o.used o.bytes.items)) front.front whole front.behind (front.before ∙ put.before) in
    let sizes = put.puts.sizes in
    let long : c.put_front-size.result ≡ length packet =
    omega (arith, front.size, ap length whole, length-append (sap_front e.from e.to false c.put_next-count.result) (flat_map service_bytes put.puts.services), front.front, sizes) in
    flat_after out.items _ _ c.self.invariant (omega (arith, there, front.size, front.len, put.len, o.bytes.ok, lent.ok, out.ok))
    (subst (λ (n : ℕ). take (o.used + n) out.items ≡ take o.used o.bytes.items ++ packet) (sym front.size) bytes)
    c.add_slot.ensures.items refl refl long

pub returns-then-count-gt0-clause-sends : goal.returns-then-count-gt0-clause-sends
returns-then-count-gt0-clause-sends g c =
    let o = c.self.inside in
    let put = c.put_next-count.ensures in
    let lent = c.put_next-count.new.bytes in
    let out = c.put_front-size.new.bytes in
    let slots = c.add_slot.new.slots in
    let slot = c.add_slot.ensures in
    let front = c.put_front-size.ensures in
    let e = c.args.envelope in
    let within = c.self.invariant.fits in
    let some : 1 ≤ c.put_next-count.result = omega (arith, c.if-count-gt0.true) in
    let there = room_behind o.used o.bytes.items lent.items put.puts (omega (arith, put.len, o.bytes.ok, lent.ok)) some within in
    let services = put.puts.services in
    let packet = sap_packet e.from e.to false services in
    let whole = front.packet services put.puts.counted in
    let bytes : take (o.used + (32 + 64 * c.put_next-count.result)) out.items ≡ take o.used o.bytes.items ++ packet =
    whole_packet o.used o.bytes.items lent.items out.items (sap_front e.from e.to false c.put_next-count.result) packet put.puts
    (omega (arith, there, length-drop o.used o.bytes.items)) front.front whole front.behind (front.before ∙ put.before) in
    let sizes = put.puts.sizes in
    let counted = put.puts.counted in
    let long : c.put_front-size.result ≡ length packet =
    omega (arith, front.size, ap length whole, length-append (sap_front e.from e.to false c.put_next-count.result) (flat_map service_bytes services), front.front, sizes) in
    let within_out : o.used + c.put_front-size.result ≤ length out.items = omega (arith, there, front.size, front.len, put.len, o.bytes.ok, lent.ok, out.ok) in
    let fewer : vec_capacity o.slots - vec_len o.slots ≡ vec_capacity slots - vec_len slots + 1 = omega (arith, slot.len, slot.capacity, slots.ok) in
    let shorter : vec_len o.bytes - o.used ≡ vec_len out - (o.used + c.put_front-size.result) + c.put_front-size.result =
    omega (arith, front.len, put.len, within_out, out.ok) in
    let appends = one_appended out.items _ _ c.self.invariant within_out
    (subst (λ (n : ℕ). take (o.used + n) out.items ≡ take o.used o.bytes.items ++ packet) (sym front.size) bytes)
    slot.items refl refl long c.self.view_is fewer shorter
    (λ i. record { packets = slot.capacity i; bytes = (front.capacity ∙ put.capacity) i }) in
    let places = appends.places in
    let spare = appends.spare in
    let filled : false ≡ nat_eq (length services) 0 = sym (ne_eqb (length services) 0 (λ none. omega (arith, none, counted, some))) in
    record {
      services = services;
      whole = put.puts.whole;
      counted = counted;
      appends = subst (Appends c.args.self.now _) (sym (one_packet services_a_page (services_in false e) (omega arith) services (omega (arith, counted, put.few)) filled)) appends;
      single = omega (arith, places);
      short = omega (arith, spare, front.size, long);
    }
