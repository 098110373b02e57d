-- What it is to be apart, and to be wrong.
use Rattle.std.proofs.Common.{◌≡◌, ℕ, Bool, true, false, not, ◌==◌, ◌&&◌, ◌||◌, nat_lt, if◌then◌else◌, List, [], ◌∷◌, refl, sym, ap, ◌∙◌, Option, Some, None, inl, inr, true≢false}
use Rattle.std.specs.Option.{is_some}
use Rattle.std.proofs.lemmas.Bool.{cases_Bool}
use Rattle.ipx_settings.specs.declared.expected.Expected.{Expected}
use Rattle.ipx_settings.specs.declared.line.Line.{Line}
use Rattle.ipx_settings.specs.declared.line.Line.TheVariants as line
use Rattle.ipx_settings.specs.declared.link.LinkBegun.{LinkBegun}
use Rattle.ipx_settings.specs.declared.network.NetworkBegun.{NetworkBegun}
use Rattle.ipx_settings.specs.declared.reading.Reading.{Reading}
use Rattle.ipx_configuration.specs.Carriers.{tunnel, any_frames, same_carrier, take_the_same}
use Rattle.ipx_configuration.specs.Clashes.{when, first_of, kind_clash, is_on_path, are_of_peers, clash}
use Rattle.ipx_configuration.specs.Configurations.{a_wrong_network, network_fault, after_network, link_line_fault, link_line, taken_by}
use Rattle.ipx_configuration.specs.Wholes.{is_of_network_or_link}
use Rattle.ipx_configuration.specs.declared.carrier.Carrier.{Carrier}
use Rattle.ipx_configuration.specs.declared.configuration.Capacity.{Capacity}
use Rattle.ipx_configuration.specs.declared.configuration.Configuration.{Configuration}
use Rattle.ipx_configuration.specs.declared.fault.Fault.{Fault}
use Rattle.ipx_configuration.specs.declared.fault.Fault.TheVariants as fault
use Rattle.ipx_configuration.specs.declared.said.LinkSetting.{LinkSetting}

-- ---- links that don't clash

on_one : (t s : Bool) (k w : Option Fault) → (if not t && s then k else w) ≡ None → t ≡ false → s ≡ true → k ≡ None
on_one true s k w e no_tunnel same = absurd (true≢false no_tunnel)
on_one false true k w e no_tunnel same = e
on_one false false k w e no_tunnel same = absurd (true≢false (sym same))

of_tunnels : (t s : Bool) (k w : Option Fault) → (if not t && s then k else w) ≡ None → t ≡ true → w ≡ None
of_tunnels true s k w e is = e
of_tunnels false s k w e is = absurd (true≢false (sym is))

on_two : (t s : Bool) (k w : Option Fault) → (if not t && s then k else w) ≡ None → s ≡ false → w ≡ None
on_two true s k w e other = e
on_two false true k w e other = absurd (true≢false other)
on_two false false k w e other = e

never : (b : Bool) (f : Fault) → when b f ≡ None → b ≡ false
never true f e = absurd cc
never false f e = refl

-- two checks that hold
neither_fails : (o p : Option Fault) → first_of (o ∷ p ∷ []) ≡ None → (o ≡ None) × (p ≡ None)
neither_fails None None e = (refl, refl)
neither_fails None (Some f) e = absurd cc
neither_fails (Some f) p e = absurd cc

none_of : (a b : Bool) → (a || b) ≡ false → (a ≡ false) × (b ≡ false)
none_of true b e = absurd (true≢false e)
none_of false b e = (refl, e)

no_kind : (a b d : Bool) (f g h : Fault) → (if a then Some f else if b then Some g else when d h) ≡ None → (a ≡ false) × (b ≡ false) × (d ≡ false)
no_kind true b d f g h e = absurd cc
no_kind false true d f g h e = absurd cc
no_kind false false d f g h e = (refl, refl, never d h e)

module _ (network : ℕ) (carrier : Carrier) (other : LinkSetting) (apart : clash network carrier other ≡ None) where
  abbrev kind_fault : Option Fault
  kind_fault = kind_clash carrier.frames other.carrier.frames other.line

  abbrev address_fault : Option Fault
  address_fault =
      first_of (
      when (take_the_same carrier other.carrier || is_on_path network carrier other) (fault.OtherPort other.line)
      ∷ when (are_of_peers network carrier other) (fault.OnePeers other.line)
      ∷ [])

  both_hold : address_fault ≡ None
      → (when (take_the_same carrier other.carrier || is_on_path network carrier other) (fault.OtherPort other.line) ≡ None)
      × (when (are_of_peers network carrier other) (fault.OnePeers other.line) ≡ None)
  both_hold e = neither_fails _ _ e

  neither : address_fault ≡ None → (take_the_same carrier other.carrier ≡ false) × (is_on_path network carrier other ≡ false)
  neither e =
      none_of (take_the_same carrier other.carrier) (is_on_path network carrier other)
      (never (take_the_same carrier other.carrier || is_on_path network carrier other) (fault.OtherPort other.line) (both_hold e).0)

  pub kinds : (carrier.number == tunnel) ≡ false → same_carrier carrier other.carrier ≡ true
      → ((other.carrier.frames == any_frames) ≡ false) × ((carrier.frames == any_frames) ≡ false) × ((carrier.frames == other.carrier.frames) ≡ false)
  kinds no_tunnel same =
      no_kind (other.carrier.frames == any_frames) (carrier.frames == any_frames) (carrier.frames == other.carrier.frames)
      (fault.OtherCarrier other.line) (fault.OneKind other.line) (fault.OtherKind other.line)
      (on_one (carrier.number == tunnel) (same_carrier carrier other.carrier) kind_fault address_fault apart no_tunnel same)

  pub tunnels : (carrier.number == tunnel) ≡ true → take_the_same carrier other.carrier ≡ false
  tunnels is = (neither (of_tunnels (carrier.number == tunnel) (same_carrier carrier other.carrier) kind_fault address_fault apart is)).0

  pub others : same_carrier carrier other.carrier ≡ false → take_the_same carrier other.carrier ≡ false
  others differ = (neither (on_two (carrier.number == tunnel) (same_carrier carrier other.carrier) kind_fault address_fault apart differ)).0

  pub paths : same_carrier carrier other.carrier ≡ false → is_on_path network carrier other ≡ false
  paths differ = (neither (on_two (carrier.number == tunnel) (same_carrier carrier other.carrier) kind_fault address_fault apart differ)).1

  pub one_of_peers : same_carrier carrier other.carrier ≡ false → are_of_peers network carrier other ≡ false
  one_of_peers differ =
      never (are_of_peers network carrier other) (fault.OnePeers other.line)
      (both_hold (on_two (carrier.number == tunnel) (same_carrier carrier other.carrier) kind_fault address_fault apart differ)).1

-- ---- lines that are wrong

abbrev IsUnchanged : Configuration → Configuration → Type 0
IsUnchanged c d = (d.networks ≡ c.networks) × (d.links ≡ c.links)

network_unchanged : (capacity : Capacity) (n : ℕ) (b : NetworkBegun) (own : Option Expected) (c : Configuration) (f : Fault)
    → network_fault capacity b own c ≡ Some f → IsUnchanged c (after_network capacity n b own c)
network_unchanged capacity n b own c f wrong =
    let is : is_some (network_fault capacity b own c) ≡ true = ap is_some wrong in
    rw is (refl, refl)

link_unchanged : (capacity : Capacity) (n : ℕ) (b : LinkBegun) (own : Option Expected) (c : Configuration) (f : Fault)
    → (link_line capacity n b own c).1 ≡ Some f → IsUnchanged c (link_line capacity n b own c).0
link_unchanged capacity n b own c f wrong = elim (cases_Bool (nat_lt c.above a_wrong_network)) [
  | inl looked ↦ elim (cases_Bool (is_some (link_line_fault capacity b own c))) [
    | inl is ↦ rw (looked, is) (refl, refl)
    | inr right ↦
        let told : link_line_fault capacity b own c ≡ Some f = rw looked at wrong in
        absurd (true≢false (sym (ap is_some told) ∙ right))
  ]
  | inr passed ↦ rw passed (refl, refl)
]

pub unchanged : (capacity : Capacity) (n : ℕ) (text : List ℕ) (r : Reading) (c : Configuration) (f : Fault) (l : Line)
    → is_of_network_or_link l ≡ true → (taken_by capacity n text r l c).1 ≡ Some f → IsUnchanged c (taken_by capacity n text r l c).0
unchanged capacity n text r c f line.Nothing is wrong = absurd (true≢false (sym is))
unchanged capacity n text r c f (line.Network b) is wrong = network_unchanged capacity n b r.fault c f wrong
unchanged capacity n text r c f (line.Link b) is wrong = link_unchanged capacity n b r.fault c f wrong
unchanged capacity n text r c f (line.Extend b) is wrong = absurd (true≢false (sym is))
unchanged capacity n text r c f (line.Clients b) is wrong = absurd (true≢false (sym is))
unchanged capacity n text r c f (line.Allow b) is wrong = absurd (true≢false (sym is))
unchanged capacity n text r c f (line.Trust b) is wrong = absurd (true≢false (sym is))
unchanged capacity n text r c f (line.Origins b) is wrong = absurd (true≢false (sym is))
unchanged capacity n text r c f (line.Peer b) is wrong = absurd (true≢false (sym is))
unchanged capacity n text r c f (line.Rate b) is wrong = absurd (true≢false (sym is))
unchanged capacity n text r c f (line.Strangers b) is wrong = absurd (true≢false (sym is))
unchanged capacity n text r c f (line.Kilobits b) is wrong = absurd (true≢false (sym is))
unchanged capacity n text r c f (line.Nodes b) is wrong = absurd (true≢false (sym is))
unchanged capacity n text r c f (line.Internal b) is wrong = absurd (true≢false (sym is))
unchanged capacity n text r c f (line.Adopt b) is wrong = absurd (true≢false (sym is))
unchanged capacity n text r c f (line.Rule permits b) is wrong = absurd (true≢false (sym is))
unchanged capacity n text r c f (line.Route b) is wrong = absurd (true≢false (sym is))
unchanged capacity n text r c f (line.Service b) is wrong = absurd (true≢false (sym is))
