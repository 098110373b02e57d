-- Rules stand in the order of their lines.
use Rattle.std.proofs.Common.{◌≡◌, ℕ, Bool, ◌<◌, ◌≤◌, true, false, List, [], ◌∷◌, ◌++◌, length, refl, sym, arith, Option, Some, None, true≢false, le-ltb}
use Rattle.std.proofs.lemmas.Bool.{lt-ltb}
use Rattle.std.proofs.lemmas.List.{take_more_set}
use Rattle.ipx_settings.specs.declared.expected.Expected.{Expected}
use Rattle.ipx_settings.specs.declared.line.Line.{Line}
use Rattle.ipx_settings.specs.declared.line.Line.TheVariants as line
use Rattle.ipx_settings.specs.declared.rule.RuleBegun.TheVariants as rule
use Rattle.ipx_settings.specs.declared.rule.What.{What}
use Rattle.ipx_configuration.specs.Extends.{network_by}
use Rattle.ipx_configuration.specs.Lines.{once, if_right}
use Rattle.ipx_configuration.specs.Peers.{peer_fault}
use Rattle.ipx_configuration.specs.Rules.{rule_said, rules_in}
use Rattle.ipx_configuration.specs.Statics.{route_fault, service_fault}
use Rattle.ipx_configuration.specs.Wholes.{is_of_rule}
use Rattle.ipx_configuration.specs.declared.fault.Fault.{Fault}
use Rattle.ipx_configuration.specs.declared.fault.Fault.TheVariants as fault
use Rattle.ipx_configuration.specs.declared.said.NetworkSetting.{NetworkSetting}

-- another network with the same rules
kept : (f : Option Fault) (was next : NetworkSetting) → next.rules ≡ was.rules → (if_right f was next).0.rules ≡ was.rules
kept None was next e = e
kept (Some f) was next e = refl

module _ (number : ℕ) (text : List ℕ) (read : ℕ) (own : Option Expected) (n : NetworkSetting) where
  pub last : (l : Line) (permits : Bool) (it : What) → l ≡ line.Rule permits (rule.Whole it) → own ≡ None → n.rules.count < 64 → length n.rules.list ≡ 64
      → rules_in (network_by number text l read own n).0.rules ≡ rules_in n.rules ++ rule_said permits it ∷ []
  last l permits it is right room all =
      rw (is, right, lt-ltb n.rules.count 64 room) (take_more_set n.rules.list n.rules.count (rule_said permits it) (omega (arith, room, all)))

  pub full : (l : Line) → is_of_rule l ≡ true → 64 ≤ n.rules.count → network_by number text l read own n ≡ (n, Some fault.ManyRules)
  full (line.Rule permits b) is many = rw (le-ltb n.rules.count 64 many) refl
  full line.Nothing is many = absurd (true≢false (sym is))
  full (line.Network b) is many = absurd (true≢false (sym is))
  full (line.Link b) is many = absurd (true≢false (sym is))
  full (line.Extend b) is many = absurd (true≢false (sym is))
  full (line.Clients b) is many = absurd (true≢false (sym is))
  full (line.Allow b) is many = absurd (true≢false (sym is))
  full (line.Trust b) is many = absurd (true≢false (sym is))
  full (line.Origins b) is many = absurd (true≢false (sym is))
  full (line.Peer b) is many = absurd (true≢false (sym is))
  full (line.Rate b) is many = absurd (true≢false (sym is))
  full (line.Strangers b) is many = absurd (true≢false (sym is))
  full (line.Kilobits b) is many = absurd (true≢false (sym is))
  full (line.Nodes b) is many = absurd (true≢false (sym is))
  full (line.Internal b) is many = absurd (true≢false (sym is))
  full (line.Adopt b) is many = absurd (true≢false (sym is))
  full (line.Route b) is many = absurd (true≢false (sym is))
  full (line.Service b) is many = absurd (true≢false (sym is))

  pub others : (l : Line) → is_of_rule l ≡ false → (network_by number text l read own n).0.rules ≡ n.rules
  others (line.Rule permits b) is = absurd (true≢false is)
  others line.Nothing is = refl
  others (line.Network b) is = refl
  others (line.Link b) is = refl
  others (line.Extend b) is = refl
  others (line.Clients b) is = refl
  others (line.Allow b) is = refl
  others (line.Trust b) is = refl
  others (line.Origins b) is = refl
  others (line.Peer b) is = kept (peer_fault n.peers b own) n _ refl
  others (line.Rate b) is = refl
  others (line.Strangers b) is = refl
  others (line.Kilobits b) is = refl
  others (line.Nodes b) is = refl
  others (line.Internal b) is = refl
  others (line.Adopt b) is = kept (once n.adopt_line own) n _ refl
  others (line.Route b) is = kept (route_fault n b own) n _ refl
  others (line.Service b) is = kept (service_fault n.static_services b own) n _ refl
