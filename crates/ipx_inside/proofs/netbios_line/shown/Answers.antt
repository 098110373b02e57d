use Rattle.std.proofs.Common.{◌≡◌, arith, ℕ, suc, ◌+◌, ◌==◌, if◌then◌else◌, ap, sym, subst, ◌∙◌, refl, List, slice_index}
use Rattle.ipx_inside.specs.NetBiosText.{shown}
use Rattle.ipx_inside.proofs.netbios_line.shown.Goals as goal

-- with one byte more
more : (name : List ℕ) (n : ℕ) → shown name (n + 1) ≡ (if slice_index name (n + 1) == 0x20 then shown name n else n + 2)
unfolding shown
more name n =
    let next : suc n ≡ n + 1 = omega arith in
    subst (λ (k : ℕ). shown name k ≡ (if slice_index name k == 0x20 then shown name n else n + 2)) next refl

pub loop-place-init : goal.loop-place-init
unfolding shown
loop-place-init c = (refl, omega arith)

pub loop-place-preserved : goal.loop-place-preserved
loop-place-preserved c = (
  c.shown_at-end.ensures.size
      ∙ ap (λ (end : ℕ). if slice_index c.args.name.now (c.loop-place.place + 1) == 0x20 then end else c.loop-place.place + 2) c.loop-place.invariant.0
      ∙ sym (more c.args.name.now c.loop-place.place),
  omega (arith, c.shown_at-end.ensures.most),
)
