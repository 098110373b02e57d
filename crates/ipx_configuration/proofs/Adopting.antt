-- A line that says that the router takes what comes from a network as it is.
use Rattle.std.proofs.Common.{◌≡◌, ℕ, ◌<◌, true, false, List, refl, sym, Option, Some, None, true≢false}
use Rattle.std.proofs.lemmas.Bool.{lt-ltb}
use Rattle.ipx_settings.specs.declared.expected.Expected.{Expected}
use Rattle.ipx_settings.specs.declared.line.Line.{Line}
use Rattle.ipx_settings.specs.declared.line.Line.TheVariants as line
use Rattle.ipx_configuration.specs.Extends.{with_adopt, network_by}
use Rattle.ipx_configuration.specs.Lines.{if_right}
use Rattle.ipx_configuration.specs.Peers.{peer_fault}
use Rattle.ipx_configuration.specs.Rules.{rule_fault, more_rules, with_rules}
use Rattle.ipx_configuration.specs.Statics.{route_fault, service_fault}
use Rattle.ipx_configuration.specs.Wholes.{is_of_adopt}
use Rattle.ipx_configuration.specs.declared.fault.Fault.{Fault}
use Rattle.ipx_configuration.specs.declared.fault.Fault.TheVariants as fault
use Rattle.ipx_configuration.specs.declared.said.NetworkSetting.{NetworkSetting}

-- another network that says the same of it
kept : (f : Option Fault) (was next : NetworkSetting) → next.adopt_line ≡ was.adopt_line → (if_right f was next).0.adopt_line ≡ was.adopt_line
kept None was next e = e
kept (Some f) was next e = refl

module _ (number : ℕ) (text : List ℕ) (read : ℕ) (own : Option Expected) (n : NetworkSetting) where
  pub first : (l : Line) → is_of_adopt l ≡ true → own ≡ None → n.adopt_line ≡ 0 → network_by number text l read own n ≡ (with_adopt n number, None)
  first (line.Adopt b) is right none = rw (right, none) refl
  first line.Nothing is right none = absurd (true≢false (sym is))
  first (line.Network b) is right none = absurd (true≢false (sym is))
  first (line.Link b) is right none = absurd (true≢false (sym is))
  first (line.Extend b) is right none = absurd (true≢false (sym is))
  first (line.Clients b) is right none = absurd (true≢false (sym is))
  first (line.Allow b) is right none = absurd (true≢false (sym is))
  first (line.Trust b) is right none = absurd (true≢false (sym is))
  first (line.Origins b) is right none = absurd (true≢false (sym is))
  first (line.Peer b) is right none = absurd (true≢false (sym is))
  first (line.Rate b) is right none = absurd (true≢false (sym is))
  first (line.Strangers b) is right none = absurd (true≢false (sym is))
  first (line.Kilobits b) is right none = absurd (true≢false (sym is))
  first (line.Nodes b) is right none = absurd (true≢false (sym is))
  first (line.Internal b) is right none = absurd (true≢false (sym is))
  first (line.Rule permits b) is right none = absurd (true≢false (sym is))
  first (line.Route b) is right none = absurd (true≢false (sym is))
  first (line.Service b) is right none = absurd (true≢false (sym is))

  pub again : (l : Line) → is_of_adopt l ≡ true → 0 < n.adopt_line → network_by number text l read own n ≡ (n, Some (fault.Once n.adopt_line))
  again (line.Adopt b) is some = rw (lt-ltb 0 n.adopt_line some) refl
  again line.Nothing is some = absurd (true≢false (sym is))
  again (line.Network b) is some = absurd (true≢false (sym is))
  again (line.Link b) is some = absurd (true≢false (sym is))
  again (line.Extend b) is some = absurd (true≢false (sym is))
  again (line.Clients b) is some = absurd (true≢false (sym is))
  again (line.Allow b) is some = absurd (true≢false (sym is))
  again (line.Trust b) is some = absurd (true≢false (sym is))
  again (line.Origins b) is some = absurd (true≢false (sym is))
  again (line.Peer b) is some = absurd (true≢false (sym is))
  again (line.Rate b) is some = absurd (true≢false (sym is))
  again (line.Strangers b) is some = absurd (true≢false (sym is))
  again (line.Kilobits b) is some = absurd (true≢false (sym is))
  again (line.Nodes b) is some = absurd (true≢false (sym is))
  again (line.Internal b) is some = absurd (true≢false (sym is))
  again (line.Rule permits b) is some = absurd (true≢false (sym is))
  again (line.Route b) is some = absurd (true≢false (sym is))
  again (line.Service b) is some = absurd (true≢false (sym is))

  pub others : (l : Line) → is_of_adopt l ≡ false → (network_by number text l read own n).0.adopt_line ≡ n.adopt_line
  others (line.Adopt b) is = absurd (true≢false is)
  others line.Nothing is = refl
  others (line.Network b) is = refl
  others (line.Link b) is = refl
  others (line.Extend b) is = refl
  others (line.Clients b) is = refl
  others (line.Allow b) is = refl
  others (line.Trust b) is = refl
  others (line.Origins b) is = refl
  others (line.Peer b) is = kept (peer_fault n.peers b own) n _ refl
  others (line.Rate b) is = refl
  others (line.Strangers b) is = refl
  others (line.Kilobits b) is = refl
  others (line.Nodes b) is = refl
  others (line.Internal b) is = refl
  others (line.Rule permits b) is = kept (rule_fault n.rules own) n (with_rules n (more_rules n.rules permits b)) refl
  others (line.Route b) is = kept (route_fault n b own) n _ refl
  others (line.Service b) is = kept (service_fault n.static_services b own) n _ refl
