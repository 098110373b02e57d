use Rattle.std.proofs.Common.{rules, ◌≡◌, ◌∙◌, sym, ap, ap₂, subst, ◌≤◌, ◌<◌, ℕ, List, length, take, arith}
use Rattle.std.specs.List.{AllByRecursion, zip}
use Rattle.ipx_table.specs.Alive.{lifetime}
use Rattle.ipx_table.specs.Slots.{seen}
use Rattle.ipx_table.specs.inside.Clock.{AreKept}
use Rattle.ipx_table.proofs.Pairs.{length-pairs, take-pairs}
use Rattle.ipx_table.proofs.Halving.{length-take-same}
use Rattle.ipx_table.proofs.slotted.Slotted.entries.Goals as goal

pub front_of-requires : goal.front_of-requires
front_of-requires g c =
    let size : length c.args.self.now ≡ length c.self.inside.offers.items =
    ap length (sym c.self.view_is) ∙ length-pairs c.self.inside.offers.items c.self.inside.slots.items c.self.invariant in
    let within : c.args.live ≤ length c.self.inside.offers.items = omega (arith, c.requires.within, size, c.self.invariant) in
    search (rules, within)

pub front_of-requires-2 : goal.front_of-requires-2
front_of-requires-2 g c =
    let size : length c.args.self.now ≡ length c.self.inside.offers.items =
    ap length (sym c.self.view_is) ∙ length-pairs c.self.inside.offers.items c.self.inside.slots.items c.self.invariant in
    let within : c.args.live ≤ length c.self.inside.slots.items = omega (arith, c.requires.within, size, c.self.invariant) in
    search (rules, within)

pub of-requires : goal.of-requires
of-requires g c =
    let offers = c.self.inside.offers.items in
    let slots = c.self.inside.slots.items in
    let first = ap₂ zip c.front_of.ensures.value c.front_of-2.ensures.value ∙ take-pairs offers slots c.args.live ∙ ap (take c.args.live) c.self.view_is in
    let kept : AreKept c.front_of.result.now c.front_of-2.result.now c.args.clock = record {
      same = ap length c.front_of-2.ensures.value ∙ length-take-same c.args.live offers slots c.self.invariant ∙ sym (ap length c.front_of.ensures.value);
      below = subst (λ (ps : List (g.row.O.Denot × ℕ)). AllByRecursion (λ p. p.1 < lifetime) ps) (sym first) c.requires.slots;
      going = c.requires.going;
    } in
    search (rules, kept)

pub returns : goal.returns
returns g c =
    let offers = c.self.inside.offers.items in
    let slots = c.self.inside.slots.items in
    c.of.ensures
    ∙ ap (seen c.args.clock) (ap₂ zip c.front_of.ensures.value c.front_of-2.ensures.value ∙ take-pairs offers slots c.args.live ∙ ap (take c.args.live) c.self.view_is)
