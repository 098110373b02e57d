use Rattle.std.proofs.Common.{◌≡◌, ◌+◌, ◌-◌, arith, length, refl, subst, List, ℕ, replicate}
use Rattle.std.specs.Int.{to_be_bytes, w16}
use Rattle.ipx_wire.specs.Put.{PutsAt}
use Rattle.ipx_capture.specs.Written.{kind_of, front_of, field_of, carried, padding, written, written_size}
use Rattle.std.proofs.lemmas.List.{length-replicate}
use Rattle.ipx_capture.proofs.WholeFrame.{whole_frame}
use Rattle.ipx_capture.proofs.writing.put_frame.Goals as goal

pub returns : goal.returns
unfolding written
returns c =
    let kind = kind_of c.args.kind in
    let packet = c.args.packet.now in
    let field = to_be_bytes w16 (field_of kind (carried kind packet)) in
    let front = c.front_of-front.ensures in
    let four = subst (λ (l : List ℕ). PutsAt c.put_field.new.out 14 l c.put.new.out) front c.put.ensures in
    let five = subst (λ (l : List ℕ). PutsAt c.put.new.out (14 + length l) packet c.put-2.new.out) front c.put-2.ensures in
    let zeros : c.padding.result.now ≡ padding kind packet =
    subst (λ (l : List ℕ). c.padding.result.now ≡ replicate (60 - (14 + length l + length packet)) 0) front
    (subst (λ (n : ℕ). c.padding.result.now ≡ replicate n 0) c.saturating_sub.ensures c.padding.ensures) in
    let six = subst (λ (l : List ℕ). PutsAt c.put-2.new.out (14 + length l + length packet) c.padding.result.now c.put-3.new.out) front c.put-3.ensures in
    let last = subst (λ (z : List ℕ). PutsAt c.put-2.new.out (14 + length (front_of kind) + length packet) z c.put-3.new.out) zeros six in
    whole_frame c.args.to.0 c.args.from.0 field (front_of kind) packet (padding kind packet) (written_size kind packet)
    c.put_node.ensures.size c.put_node-2.ensures.size refl (omega (arith, length-replicate {A = ℕ} (60 - (14 + length (front_of kind) + length packet)) 0))
    c.put_node.ensures.bytes c.put_node-2.ensures.bytes c.put_field.ensures.bytes four five last
