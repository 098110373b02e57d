-- Lines that say which nodes clients have.
use Rattle.std.proofs.Common.{◌≡◌, ℕ, ◌<◌, true, false, List, refl, sym, Option, Some, None, true≢false}
use Rattle.std.proofs.lemmas.Bool.{lt-ltb}
use Rattle.ipx_settings.specs.declared.expected.Expected.{Expected}
use Rattle.ipx_settings.specs.declared.line.Line.{Line}
use Rattle.ipx_settings.specs.declared.line.Line.TheVariants as line
use Rattle.ipx_configuration.specs.Lines.{if_right, once, rate_of, clients_said, rate_said, number_said, with_clients, with_rate, with_strangers, with_kilobits, with_nodes, kilobits_fault, link_by}
use Rattle.ipx_configuration.specs.Wholes.{is_of_nodes}
use Rattle.ipx_configuration.specs.declared.fault.Fault.{Fault}
use Rattle.ipx_configuration.specs.declared.fault.Fault.TheVariants as fault
use Rattle.ipx_configuration.specs.declared.said.LinkSetting.{LinkSetting}

module _ (n : ℕ) (text : List ℕ) (read : ℕ) (own : Option Expected) (links : List LinkSetting) (link : LinkSetting) where
  pub first : (l : Line) → is_of_nodes l ≡ true → own ≡ None → link.nodes_line ≡ 0 → link_by n text l read own links link ≡ (with_nodes link n, None)
  first (line.Nodes b) is right none = rw (right, none) refl
  first line.Nothing is right none = absurd (true≢false (sym is))
  first (line.Network b) is right none = absurd (true≢false (sym is))
  first (line.Link b) is right none = absurd (true≢false (sym is))
  first (line.Extend b) is right none = absurd (true≢false (sym is))
  first (line.Clients b) is right none = absurd (true≢false (sym is))
  first (line.Allow b) is right none = absurd (true≢false (sym is))
  first (line.Trust b) is right none = absurd (true≢false (sym is))
  first (line.Origins b) is right none = absurd (true≢false (sym is))
  first (line.Peer b) is right none = absurd (true≢false (sym is))
  first (line.Rate b) is right none = absurd (true≢false (sym is))
  first (line.Strangers b) is right none = absurd (true≢false (sym is))
  first (line.Kilobits b) is right none = absurd (true≢false (sym is))
  first (line.Internal b) is right none = absurd (true≢false (sym is))
  first (line.Adopt b) is right none = absurd (true≢false (sym is))
  first (line.Rule permits b) is right none = absurd (true≢false (sym is))
  first (line.Route b) is right none = absurd (true≢false (sym is))
  first (line.Service b) is right none = absurd (true≢false (sym is))

  pub again : (l : Line) → is_of_nodes l ≡ true → 0 < link.nodes_line → link_by n text l read own links link ≡ (link, Some (fault.Once link.nodes_line))
  again (line.Nodes b) is some = rw (lt-ltb 0 link.nodes_line some) refl
  again line.Nothing is some = absurd (true≢false (sym is))
  again (line.Network b) is some = absurd (true≢false (sym is))
  again (line.Link b) is some = absurd (true≢false (sym is))
  again (line.Extend b) is some = absurd (true≢false (sym is))
  again (line.Clients b) is some = absurd (true≢false (sym is))
  again (line.Allow b) is some = absurd (true≢false (sym is))
  again (line.Trust b) is some = absurd (true≢false (sym is))
  again (line.Origins b) is some = absurd (true≢false (sym is))
  again (line.Peer b) is some = absurd (true≢false (sym is))
  again (line.Rate b) is some = absurd (true≢false (sym is))
  again (line.Strangers b) is some = absurd (true≢false (sym is))
  again (line.Kilobits b) is some = absurd (true≢false (sym is))
  again (line.Internal b) is some = absurd (true≢false (sym is))
  again (line.Adopt b) is some = absurd (true≢false (sym is))
  again (line.Rule permits b) is some = absurd (true≢false (sym is))
  again (line.Route b) is some = absurd (true≢false (sym is))
  again (line.Service b) is some = absurd (true≢false (sym is))

  kept : (f : Option Fault) (next : LinkSetting) → next.nodes_line ≡ link.nodes_line → (if_right f link next).0.nodes_line ≡ link.nodes_line
  kept None next e = e
  kept (Some f) next e = refl

  pub others : (l : Line) → is_of_nodes l ≡ false → (link_by n text l read own links link).0.nodes_line ≡ link.nodes_line
  others (line.Nodes b) is = absurd (true≢false is)
  others line.Nothing is = refl
  others (line.Network b) is = refl
  others (line.Link b) is = refl
  others (line.Extend b) is = refl
  others (line.Clients b) is = kept (once link.clients.line own) (with_clients link (clients_said n b)) refl
  others (line.Allow b) is = refl
  others (line.Trust b) is = refl
  others (line.Origins b) is = refl
  others (line.Peer b) is = refl
  others (line.Rate b) is = kept (once (rate_of link links).line own) (with_rate link (rate_said n b)) refl
  others (line.Strangers b) is = kept (once link.strangers.line own) (with_strangers link (number_said n b)) refl
  others (line.Kilobits b) is = kept (kilobits_fault link b own links) (with_kilobits link (number_said n b)) refl
  others (line.Internal b) is = refl
  others (line.Adopt b) is = refl
  others (line.Rule permits b) is = refl
  others (line.Route b) is = refl
  others (line.Service b) is = refl
