-- The router's own network: lines that say it, and others.
use Rattle.std.proofs.Common.{◌≡◌, ℕ, ◌<◌, Bool, true, false, ◌==◌, nat_lt, if◌then◌else◌, List, [], ◌∷◌, refl, sym, ap, subst, Option, Some, None, true≢false}
use Rattle.std.specs.Option.{is_some}
use Rattle.std.proofs.lemmas.Bool.{lt-ltb, eq-eqb}
use Rattle.ipx_settings.specs.Networks.{link_in, number_in}
use Rattle.ipx_settings.specs.declared.addresses.Place.{Place}
use Rattle.ipx_settings.specs.declared.expected.Expected.{Expected}
use Rattle.ipx_settings.specs.declared.internal.InternalBegun.{InternalBegun}
use Rattle.ipx_settings.specs.declared.line.Line.{Line}
use Rattle.ipx_settings.specs.declared.line.Line.TheVariants as line
use Rattle.ipx_settings.specs.declared.link.LinkBegun.{LinkBegun}
use Rattle.ipx_settings.specs.declared.network.NetworkBegun.{NetworkBegun}
use Rattle.ipx_settings.specs.declared.reading.Reading.{Reading}
use Rattle.ipx_settings.specs.declared.statics.RouteBegun.{RouteBegun}
use Rattle.ipx_configuration.specs.Clashes.{when, first_of, line_fault}
use Rattle.ipx_configuration.specs.Configurations.{nothing, a_network, a_link, a_wrong_network, names_link, head_or_none, more_links, network_fault, internal_fault, after_internal, link_line_fault, link_line, extended_by, route_clash, routed, peer_clash, peered, link_extended_by, is_below_tunnel, is_web, tunnel_fault, below_network_by, below_link_by, taken_below, taken_by}
use Rattle.ipx_configuration.specs.Internals.{is_full, internal_clash}
use Rattle.ipx_configuration.specs.Memory.{networks_in, last_network, last_link}
use Rattle.ipx_configuration.specs.Numbers.{number_fault, routed_fault}
use Rattle.ipx_configuration.specs.Wholes.{is_of_internal}
use Rattle.ipx_configuration.specs.declared.configuration.Capacity.{Capacity}
use Rattle.ipx_configuration.specs.declared.configuration.Configuration.{Configuration}
use Rattle.ipx_configuration.specs.declared.fault.Fault.{Fault}
use Rattle.ipx_configuration.specs.declared.fault.Fault.TheVariants as fault
use Rattle.ipx_configuration.specs.declared.said.LinkSetting.{LinkSetting}
use Rattle.ipx_configuration.specs.declared.said.NetworkSetting.{NetworkSetting}

-- ---- its line

of_internal : (l : Line) → is_of_internal l ≡ true → (b : InternalBegun) × (l ≡ line.Internal b)
of_internal (line.Internal b) is = (b, refl)
of_internal line.Nothing is = absurd (true≢false (sym is))
of_internal (line.Network b) is = absurd (true≢false (sym is))
of_internal (line.Link b) is = absurd (true≢false (sym is))
of_internal (line.Extend b) is = absurd (true≢false (sym is))
of_internal (line.Clients b) is = absurd (true≢false (sym is))
of_internal (line.Allow b) is = absurd (true≢false (sym is))
of_internal (line.Trust b) is = absurd (true≢false (sym is))
of_internal (line.Origins b) is = absurd (true≢false (sym is))
of_internal (line.Peer b) is = absurd (true≢false (sym is))
of_internal (line.Rate b) is = absurd (true≢false (sym is))
of_internal (line.Strangers b) is = absurd (true≢false (sym is))
of_internal (line.Kilobits b) is = absurd (true≢false (sym is))
of_internal (line.Nodes b) is = absurd (true≢false (sym is))
of_internal (line.Adopt b) is = absurd (true≢false (sym is))
of_internal (line.Rule permits b) is = absurd (true≢false (sym is))
of_internal (line.Route b) is = absurd (true≢false (sym is))
of_internal (line.Service b) is = absurd (true≢false (sym is))

module _ (capacity : Capacity) (n : ℕ) (text : List ℕ) (r : Reading) (c : Configuration) where
  pub again : (l : Line) → is_of_internal l ≡ true → 0 < c.internal.line → (taken_by capacity n text r l c).1 ≡ Some (fault.Once c.internal.line)
  again l is some =
      let b = of_internal l is in
      subst (λ v. (taken_by capacity n text r v c).1 ≡ Some (fault.Once c.internal.line)) (sym b.1) (rw (lt-ltb 0 c.internal.line some) refl)

  abbrev IsKept : Configuration → Type 0
  IsKept d = (d.networks ≡ c.networks) × (d.links ≡ c.links) × (d.internal ≡ c.internal)

  kept : (b : InternalBegun) (f : Fault) → internal_fault capacity b r.fault c ≡ Some f → IsKept (after_internal capacity n b r.fault c)
  kept b f wrong =
      let is : is_some (internal_fault capacity b r.fault c) ≡ true = ap is_some wrong in
      rw is (refl, refl, refl)

  pub unchanged : (f : Fault) (l : Line) → is_of_internal l ≡ true → (taken_by capacity n text r l c).1 ≡ Some f → IsKept (taken_by capacity n text r l c).0
  unchanged f l is wrong =
      let b = of_internal l is in
      let told : internal_fault capacity b.0 r.fault c ≡ Some f = subst (λ v. (taken_by capacity n text r v c).1 ≡ Some f) b.1 wrong in
      subst (λ v. IsKept (taken_by capacity n text r v c).0) (sym b.1) (kept b.0 f told)

-- ---- other lines

module _ (n : ℕ) (text : List ℕ) (r : Reading) (c : Configuration) where
  abbrev Same : Configuration × Option Fault → Type 0
  Same after = after.0.internal ≡ c.internal

  either : (b : Bool) (x y : Configuration × Option Fault) → Same x → Same y → Same (if b then x else y)
  either true x y one other = one
  either false x y one other = other

  one_of : (b : Bool) (x y : Configuration) → x.internal ≡ c.internal → y.internal ≡ c.internal → (if b then x else y).internal ≡ c.internal
  one_of true x y one other = one
  one_of false x y one other = other

  extended_same : (o : Option NetworkSetting) → Same (extended_by c n text r o)
  extended_same None = refl
  extended_same (Some network) = refl

  link_same : (o : Option LinkSetting) → Same (link_extended_by c n text r o)
  link_same None = refl
  link_same (Some link) = refl

  tunnel_same : Same (if is_below_tunnel c then link_extended_by c n text r (last_link c.links) else (c, Some (tunnel_fault c)))
  tunnel_same = either (is_below_tunnel c) (link_extended_by c n text r (last_link c.links)) (c, Some (tunnel_fault c)) (link_same (last_link c.links)) refl

  routed_same : (b : RouteBegun) → Same (routed n text r b c)
  routed_same b = either (is_some (route_clash b c)) (c, route_clash b c) (extended_by c n text r (last_network c.networks)) refl (extended_same (last_network c.networks))

  peered_same : (b : Option Place) → Same (peered n text r b c)
  peered_same b = either (is_some (peer_clash b c)) (c, peer_clash b c) (extended_by c n text r (last_network c.networks)) refl (extended_same (last_network c.networks))

  below_network_same : (l : Line) → Same (below_network_by n text r l c)
  below_network_same line.Nothing = refl
  below_network_same (line.Network b) = refl
  below_network_same (line.Link b) = refl
  below_network_same (line.Extend b) = extended_same (last_network c.networks)
  below_network_same (line.Clients b) = refl
  below_network_same (line.Allow b) = refl
  below_network_same (line.Trust b) = refl
  below_network_same (line.Origins b) = refl
  below_network_same (line.Peer b) = refl
  below_network_same (line.Rate b) = refl
  below_network_same (line.Strangers b) = refl
  below_network_same (line.Kilobits b) = refl
  below_network_same (line.Nodes b) = refl
  below_network_same (line.Internal b) = refl
  below_network_same (line.Adopt b) = extended_same (last_network c.networks)
  below_network_same (line.Rule permits b) = extended_same (last_network c.networks)
  below_network_same (line.Route b) = routed_same b
  below_network_same (line.Service b) = extended_same (last_network c.networks)

  below_link_same : (l : Line) → Same (below_link_by n text r l c)
  below_link_same line.Nothing = tunnel_same
  below_link_same (line.Network b) = tunnel_same
  below_link_same (line.Link b) = tunnel_same
  below_link_same (line.Extend b) = extended_same (last_network c.networks)
  below_link_same (line.Clients b) = tunnel_same
  below_link_same (line.Allow b) = tunnel_same
  below_link_same (line.Trust b) = tunnel_same
  below_link_same (line.Origins b) = either (is_web (last_link c.links)) (link_extended_by c n text r (last_link c.links)) (c, Some fault.BelowWeb) (link_same (last_link c.links)) refl
  below_link_same (line.Peer b) = peered_same b
  below_link_same (line.Rate b) = link_same (last_link c.links)
  below_link_same (line.Strangers b) = tunnel_same
  below_link_same (line.Kilobits b) = tunnel_same
  below_link_same (line.Nodes b) = tunnel_same
  below_link_same (line.Internal b) = tunnel_same
  below_link_same (line.Adopt b) = extended_same (last_network c.networks)
  below_link_same (line.Rule permits b) = extended_same (last_network c.networks)
  below_link_same (line.Route b) = routed_same b
  below_link_same (line.Service b) = extended_same (last_network c.networks)

  below_same : Same (taken_below n text r c)
  below_same =
      either (c.above == nothing) _ _ refl
      (either (c.above == a_network) _ _ (below_network_same r.line)
      (either (c.above == a_link) _ _ (below_link_same r.line) refl))

  link_line_same : (capacity : Capacity) (b : LinkBegun) → Same (link_line capacity n b r.fault c)
  link_line_same capacity b =
      either (nat_lt c.above a_wrong_network) _ _ (one_of (is_some (link_line_fault capacity b r.fault c)) _ _ refl refl) refl

  pub others : (capacity : Capacity) (l : Line) → is_of_internal l ≡ false → Same (taken_by capacity n text r l c)
  others capacity (line.Internal b) is = absurd (true≢false is)
  others capacity line.Nothing is = refl
  others capacity (line.Network b) is = one_of (is_some (network_fault capacity b r.fault c)) _ _ refl refl
  others capacity (line.Link b) is = link_line_same capacity b
  others capacity (line.Extend b) is = below_same
  others capacity (line.Clients b) is = below_same
  others capacity (line.Allow b) is = below_same
  others capacity (line.Trust b) is = below_same
  others capacity (line.Origins b) is = below_same
  others capacity (line.Peer b) is = below_same
  others capacity (line.Rate b) is = below_same
  others capacity (line.Strangers b) is = below_same
  others capacity (line.Kilobits b) is = below_same
  others capacity (line.Nodes b) is = below_same
  others capacity (line.Adopt b) is = below_same
  others capacity (line.Rule permits b) is = below_same
  others capacity (line.Route b) is = below_same
  others capacity (line.Service b) is = below_same

-- ---- its number

third : (a b : Option Fault) (f : Fault) (more : List (Option Fault)) → is_some (first_of (a ∷ b ∷ Some f ∷ more)) ≡ true
third None None f more = refl
third None (Some g) f more = refl
third (Some g) b f more = refl

pub number_taken : (capacity : Capacity) (b : NetworkBegun) (own : Option Expected) (c : Configuration) → 0 < c.internal.line → number_in b ≡ Some c.internal.number
    → is_some (network_fault capacity b own c) ≡ true
number_taken capacity b own c said has =
    let clash : internal_clash (number_in b) c.internal ≡ Some (fault.OtherNetwork c.internal.line) = rw (has, lt-ltb 0 c.internal.line said, eq-eqb c.internal.number c.internal.number refl) refl in
    rw clash
    (third (when (is_full capacity c) fault.ManyNetworks) (number_fault (number_in b) (networks_in c.networks)) (fault.OtherNetwork c.internal.line)
    (routed_fault (number_in b) (networks_in c.networks) ∷ (if names_link b own then more_links c.networks.count (link_in b) (head_or_none b).longest c.links own else line_fault own) ∷ []))
