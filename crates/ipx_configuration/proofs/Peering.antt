-- Other places of a network stand in the order of their lines, each once.
use Rattle.std.proofs.Common.{◌≡◌, ℕ, ◌<◌, ◌≤◌, true, false, List, [], ◌∷◌, ◌++◌, length, refl, sym, arith, Option, Some, None, true≢false, le-ltb}
use Rattle.std.proofs.lemmas.Bool.{lt-ltb}
use Rattle.std.proofs.lemmas.List.{take_more_set}
use Rattle.std.specs.List.{list_any}
use Rattle.std.specs.Option.{is_some, option_map}
use Rattle.ipx_settings.specs.declared.addresses.Place.{Place}
use Rattle.ipx_settings.specs.declared.expected.Expected.{Expected}
use Rattle.ipx_settings.specs.declared.line.Line.{Line}
use Rattle.ipx_settings.specs.declared.line.Line.TheVariants as line
use Rattle.ipx_configuration.specs.Clashes.{line_fault}
use Rattle.ipx_configuration.specs.Extends.{network_by}
use Rattle.ipx_configuration.specs.Lines.{once}
use Rattle.ipx_configuration.specs.Peers.{peer_said, peers_in, is_there, first_peer, peer_fault}
use Rattle.ipx_configuration.specs.Rules.{rule_fault}
use Rattle.ipx_configuration.specs.Statics.{route_fault, service_fault}
use Rattle.ipx_configuration.specs.Wholes.{is_of_peer}
use Rattle.ipx_configuration.specs.declared.fault.Fault.TheVariants as fault
use Rattle.ipx_configuration.specs.declared.said.NetworkSetting.{NetworkSetting}
use Rattle.ipx_configuration.proofs.Leading.{none_first, some_first, kept_by, IsWrong, wrong, second, mapped}

module _ (number : ℕ) (text : List ℕ) (read : ℕ) (own : Option Expected) (n : NetworkSetting) where
  pub last : (l : Line) (place : Place) → l ≡ line.Peer (Some place) → own ≡ None → n.peers.count < 32 → length n.peers.list ≡ 32
      → list_any (is_there place) (peers_in n.peers) ≡ false
      → peers_in (network_by number text l read own n).0.peers ≡ peers_in n.peers ++ peer_said number place ∷ []
  last l place is right room all none =
      let first : first_peer place n.peers ≡ None = none_first (is_there place) (λ p. p.line) (peers_in n.peers) none in
      rw (is, right, lt-ltb n.peers.count 32 room, first) (take_more_set n.peers.list n.peers.count (peer_said number place) (omega (arith, room, all)))

  pub again : (l : Line) (place : Place) → l ≡ line.Peer (Some place) → list_any (is_there place) (peers_in n.peers) ≡ true → IsWrong n (network_by number text l read own n)
  again l place is some =
      let first = some_first (is_there place) (λ p. p.line) (peers_in n.peers) some in
      let other : is_some (option_map fault.OtherPeer (first_peer place n.peers)) ≡ true = mapped fault.OtherPeer (first_peer place n.peers) first in
      rw is (wrong (peer_fault n.peers (Some place) own) n _ (second _ _ (line_fault own ∷ []) other))

  pub full : (l : Line) → is_of_peer l ≡ true → 32 ≤ n.peers.count → network_by number text l read own n ≡ (n, Some fault.ManyPeers)
  full (line.Peer b) is many = rw (le-ltb n.peers.count 32 many) refl
  full line.Nothing is many = absurd (true≢false (sym is))
  full (line.Network b) is many = absurd (true≢false (sym is))
  full (line.Link b) is many = absurd (true≢false (sym is))
  full (line.Extend b) is many = absurd (true≢false (sym is))
  full (line.Clients b) is many = absurd (true≢false (sym is))
  full (line.Allow b) is many = absurd (true≢false (sym is))
  full (line.Trust b) is many = absurd (true≢false (sym is))
  full (line.Origins b) is many = absurd (true≢false (sym is))
  full (line.Rate b) is many = absurd (true≢false (sym is))
  full (line.Strangers b) is many = absurd (true≢false (sym is))
  full (line.Kilobits b) is many = absurd (true≢false (sym is))
  full (line.Nodes b) is many = absurd (true≢false (sym is))
  full (line.Internal b) is many = absurd (true≢false (sym is))
  full (line.Adopt b) is many = absurd (true≢false (sym is))
  full (line.Route b) is many = absurd (true≢false (sym is))
  full (line.Service b) is many = absurd (true≢false (sym is))
  full (line.Rule permits b) is many = absurd (true≢false (sym is))

  pub others : (l : Line) → is_of_peer l ≡ false → (network_by number text l read own n).0.peers ≡ n.peers
  others (line.Peer b) is = absurd (true≢false is)
  others line.Nothing is = refl
  others (line.Network b) is = refl
  others (line.Link b) is = refl
  others (line.Extend b) is = refl
  others (line.Clients b) is = refl
  others (line.Allow b) is = refl
  others (line.Trust b) is = refl
  others (line.Origins b) is = refl
  others (line.Rate b) is = refl
  others (line.Strangers b) is = refl
  others (line.Kilobits b) is = refl
  others (line.Nodes b) is = refl
  others (line.Internal b) is = refl
  others (line.Adopt b) is = kept_by (λ m. m.peers) (once n.adopt_line own) n _ refl
  others (line.Rule permits b) is = kept_by (λ m. m.peers) (rule_fault n.rules own) n _ refl
  others (line.Route b) is = kept_by (λ m. m.peers) (route_fault n b own) n _ refl
  others (line.Service b) is = kept_by (λ m. m.peers) (service_fault n.static_services b own) n _ refl
