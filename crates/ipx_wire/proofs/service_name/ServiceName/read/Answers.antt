use Rattle.std.proofs.Common.{◌≡◌, ℕ, ◌≤◌, ◌<◌, ◌⊎◌, inl, inr, List, ◌∙◌, sym, ap, arith, subst, take, Some}
use Rattle.ipx_wire.specs.Name.{IsName, IsServiceName, IsKeptName, before_zero}
use Rattle.ipx_wire.proofs.Names.{zero_at, no_name, nameless, is_name, before_is, inside, cleared, cleared_front}
use Rattle.ipx_wire.proofs.service_name.ServiceName.read.Goals as goal

-- where the first zero stands, if no name was answered
nowhere : (c : goal.Joined-then-count-eq0) → (zero_at c.args.field.now ≡ 0) ⊎ (zero_at c.args.field.now ≡ 48)
nowhere c =
    elim c.then-count-eq0.either [
      | inl none ↦ inl (sym c.before_zero-count.ensures ∙ none)
      | inr (_, whole) ↦ inr (sym c.before_zero-count.ensures ∙ whole)
    ]

pub returns-then-count-eq0-clause-only : goal.returns-then-count-eq0-clause-only
returns-then-count-eq0-clause-only c = λ name is. absurd (nameless c.args.field.now name (nowhere c) is)

pub returns-then-count-eq0-clause-refused : goal.returns-then-count-eq0-clause-refused
returns-then-count-eq0-clause-refused c = no_name c.args.field.now c.told-field (nowhere c)

pub clear_behind-requires : goal.clear_behind-requires
clear_behind-requires c =
    let place = inside c.args.field.now c.before_zero-count.result c.told-field c.before_zero-count.ensures c.if-count-eq0.false c.if-count-eq-SIZE.false in
    omega (arith, c.before_zero-count.ensures, c.told-field, place.1)

-- where it stands, if one was answered
somewhere : (c : goal.After-sent-3-1) → (0 < zero_at c.args.field.now) × (zero_at c.args.field.now < 48)
somewhere c =
    inside c.args.field.now c.before_zero-count.result c.told-field c.before_zero-count.ensures c.if-count-eq0.false c.if-count-eq-SIZE.false

-- the relation holds of what stands before the zero
named : (c : goal.After-sent-3-1) → IsName c.args.field.now (before_zero c.args.field.now)
named c =
    let place = somewhere c in is_name c.args.field.now c.told-field place.0 place.1

within : (c : goal.After-sent-3-1) → c.before_zero-count.result ≤ 48
within c =
    let place = somewhere c in omega (arith, c.before_zero-count.ensures, place.1)

front : (c : goal.After-sent-3-1) → take c.before_zero-count.result c.clear_behind.new.bytes ≡ before_zero c.args.field.now
front c =
    ap (take c.before_zero-count.result) c.clear_behind.ensures
    ∙ cleared_front c.args.field.now c.before_zero-count.result c.told-field (within c)
    ∙ ap (λ (k : ℕ). take k c.args.field.now) c.before_zero-count.ensures

pub invariant_of-result : goal.invariant_of-result
invariant_of-result c =
    let count = c.before_zero-count.result in
    let kept = subst (λ (k : ℕ). IsServiceName (take k c.args.field.now)) (sym c.before_zero-count.ensures) (named c).named in
    subst (λ (new : List ℕ). IsKeptName new (take count new) count) (sym c.clear_behind.ensures)
    (cleared c.args.field.now count c.told-field kept (within c))

pub returns-clause-found : goal.returns-clause-found
returns-clause-found c = subst (IsName c.args.field.now) (sym (front c)) (named c)

pub returns-clause-only : goal.returns-clause-only
returns-clause-only c = λ name is. ap Some (front c ∙ before_is c.args.field.now name is)
