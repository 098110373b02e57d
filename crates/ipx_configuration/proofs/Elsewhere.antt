-- Routes lead to no network that has a line.
use Rattle.std.proofs.Common.{◌≡◌, ℕ, Bool, ◌<◌, true, List, [], ◌∷◌, length, get_or, if◌then◌else◌, refl, sym, subst, arith, Option, Some, None, true≢false, eq-eqb, inl, inr}
use Rattle.std.proofs.lemmas.Bool.{lt-ltb}
use Rattle.std.proofs.lemmas.List.Quantifiers.{position-Some}
use Rattle.std.proofs.lemmas.Option.{slice_get_cases}
use Rattle.std.specs.List.{list_any, position, position_or_len}
use Rattle.std.specs.Option.{is_some}
use Rattle.std.specs.Prelude.{slice_get}
use Rattle.ipx_settings.specs.Cutting.{◌>>=◌}
use Rattle.ipx_settings.specs.Internals.{internal_number}
use Rattle.ipx_settings.specs.Networks.{number_in, link_in}
use Rattle.ipx_settings.specs.Statics.{route_to}
use Rattle.ipx_settings.specs.declared.expected.Expected.{Expected}
use Rattle.ipx_settings.specs.declared.internal.InternalBegun.{InternalBegun}
use Rattle.ipx_settings.specs.declared.network.NetworkBegun.{NetworkBegun}
use Rattle.ipx_settings.specs.declared.statics.RouteBegun.{RouteBegun}
use Rattle.ipx_configuration.specs.Clashes.{first_of, when, line_fault}
use Rattle.ipx_configuration.specs.Configurations.{names_link, more_links, head_or_none, network_fault, internal_fault, route_clash}
use Rattle.ipx_configuration.specs.Internals.{is_said, is_full, internal_clash}
use Rattle.ipx_configuration.specs.Memory.{networks_in}
use Rattle.ipx_configuration.specs.Numbers.{has_number, number_fault, has_route, routed_line, routed_fault}
use Rattle.ipx_configuration.specs.Statics.{first_route}
use Rattle.ipx_configuration.specs.declared.configuration.Capacity.{Capacity}
use Rattle.ipx_configuration.specs.declared.configuration.Configuration.{Configuration}
use Rattle.ipx_configuration.specs.declared.fault.Fault.{Fault}
use Rattle.ipx_configuration.specs.declared.fault.Fault.TheVariants as fault
use Rattle.ipx_configuration.specs.declared.said.NetworkSetting.{NetworkSetting}
use Rattle.ipx_configuration.proofs.Leading.{within, second, third, mapped}

-- where one passes, the first that does is found, and what is told of those that pass is told
found : {X B : Type 0} (p : X → Bool) (g : X → Option B) (xs : List X) → list_any p xs ≡ true → ((x : X) → p x ≡ true → is_some (g x) ≡ true)
    → is_some (position p xs >>= λ k. slice_get xs k >>= g) ≡ true
found p g xs some told =
    let there = within p xs some in
    let place : position p xs ≡ Some (position_or_len p xs) = rw (lt-ltb (position_or_len p xs) (length xs) there) refl in
    elim (slice_get_cases xs (position_or_len p xs)).1 [
      | inl at ↦
          let passes : p (get_or xs (position_or_len p xs) at.0) ≡ true = (position-Some p xs (position_or_len p xs) at.0 place).1 in
          rw (place, at.2) (told at.0 (subst (λ x. p x ≡ true) at.3 passes))
      | inr missing ↦ absurd (omega (arith, there, missing.0))
    ]

number_found : (o : Option ℕ) (networks : List NetworkSetting) (to : ℕ) → o ≡ Some to → list_any (has_number to) networks ≡ true
    → is_some (number_fault o networks) ≡ true
number_found o networks to is some = rw is (found (has_number to) (λ network. Some (fault.OtherNetwork network.line)) networks some (λ x _. refl))

routed_found : (o : Option ℕ) (networks : List NetworkSetting) (to : ℕ) → o ≡ Some to → list_any (has_route to) networks ≡ true
    → is_some (routed_fault o networks) ≡ true
routed_found o networks to is some =
    rw is (mapped fault.OtherNetwork (routed_line to networks) (found (has_route to) (λ network. first_route to network.static_routes) networks some (λ x passes. passes)))

first : (a : Option Fault) (more : List (Option Fault)) → is_some a ≡ true → is_some (first_of (a ∷ more)) ≡ true
first None more is = absurd (true≢false (sym is))
first (Some f) more is = refl

fourth : (a b c d : Option Fault) (more : List (Option Fault)) → is_some d ≡ true → is_some (first_of (a ∷ b ∷ c ∷ d ∷ more)) ≡ true
fourth None b c d more is = third b c d more is
fourth (Some g) b c d more is = refl

pub to_a_network : (b : RouteBegun) (c : Configuration) (to : ℕ) → route_to b ≡ Some to → list_any (has_number to) (networks_in c.networks) ≡ true
    → is_some (route_clash b c) ≡ true
to_a_network b c to is some = first _ _ (number_found (route_to b) (networks_in c.networks) to is some)

pub to_the_internal : (b : RouteBegun) (c : Configuration) → 0 < c.internal.line → route_to b ≡ Some c.internal.number → is_some (route_clash b c) ≡ true
to_the_internal b c said is =
    let clash : is_some (internal_clash (route_to b) c.internal) ≡ true = rw (is, lt-ltb 0 c.internal.line said, eq-eqb c.internal.number c.internal.number refl) refl in
    second _ _ [] clash

pub network_routed : (capacity : Capacity) (b : NetworkBegun) (own : Option Expected) (c : Configuration) (number : ℕ) → number_in b ≡ Some number
    → list_any (has_route number) (networks_in c.networks) ≡ true → is_some (network_fault capacity b own c) ≡ true
network_routed capacity b own c number is some =
    fourth (when (is_full capacity c) fault.ManyNetworks) (number_fault (number_in b) (networks_in c.networks)) (internal_clash (number_in b) c.internal)
    (routed_fault (number_in b) (networks_in c.networks))
    ((if names_link b own then more_links c.networks.count (link_in b) (head_or_none b).longest c.links own else line_fault own) ∷ []) (routed_found (number_in b) (networks_in c.networks) number is some)

pub internal_routed : (capacity : Capacity) (b : InternalBegun) (own : Option Expected) (c : Configuration) (number : ℕ) → internal_number b ≡ Some number
    → list_any (has_route number) (networks_in c.networks) ≡ true → is_some (internal_fault capacity b own c) ≡ true
internal_routed capacity b own c number is some =
    fourth (when (is_said c.internal) (fault.Once c.internal.line)) (when (is_full capacity c) fault.ManyNetworks)
    (number_fault (internal_number b) (networks_in c.networks)) (routed_fault (internal_number b) (networks_in c.networks)) (line_fault own ∷ []) (routed_found (internal_number b) (networks_in c.networks) number is some)
