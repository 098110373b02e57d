-- Whole configurations: lists of lines.
use Rattle.std.specs.Prelude.{Bool, true, false, ◌≡◌, ℕ, ◌+◌, ◌<◌, ◌≤◌, List, [], ◌∷◌, length, Some, None, slice_get}
use Rattle.ipx_settings.specs.declared.line.Line.{Line}
use Rattle.ipx_settings.specs.declared.line.Line.TheVariants as line
use Rattle.ipx_configuration.specs.Clashes.{clash}
use Rattle.ipx_configuration.specs.Configurations.{after, nothing}
use Rattle.ipx_configuration.specs.Memory.{most_networks, most_links}
use Rattle.ipx_configuration.specs.declared.configuration.Capacity.{Capacity}
use Rattle.ipx_configuration.specs.declared.configuration.Configuration.{Configuration}
use Rattle.ipx_configuration.specs.declared.said.LinkSetting.{LinkSetting}

-- what lines say together, of which the first has that number
abbrev pub after_lines : Capacity → ℕ → Configuration → List (List ℕ) → Configuration
after_lines capacity n c [] = c
after_lines capacity n c (text ∷ more) = after_lines capacity (n + 1) (after capacity n text c) more

-- that of no line, as all bytes 0 are
pub record IsBlank (c : Configuration) : Type 0 where
  pub networks_room : length c.networks.list ≡ most_networks
  pub links_room : length c.links.list ≡ most_links
  pub no_networks : c.networks.count ≡ 0
  pub no_links : c.links.count ≡ 0
  pub no_internal : c.internal.line ≡ 0
  pub at_first : c.above ≡ nothing

-- no link clashes with one above it
abbrev pub AreApart : List LinkSetting → Type 0
AreApart links = (i j : ℕ) (a b : LinkSetting) → i < j → slice_get links i ≡ Some a → slice_get links j ≡ Some b → clash b.network b.carrier a ≡ None

-- links stand in the order of their networks: those of one network behind each other
abbrev pub AreOrdered : List LinkSetting → Type 0
AreOrdered links = (i j : ℕ) (a b : LinkSetting) → i < j → slice_get links i ≡ Some a → slice_get links j ≡ Some b → a.network ≤ b.network

-- a line that begins with network or link
abbrev pub is_of_network_or_link : Line → Bool
is_of_network_or_link (line.Network begun) = true
is_of_network_or_link (line.Link begun) = true
is_of_network_or_link other = false

-- a line that begins with internal
abbrev pub is_of_internal : Line → Bool
is_of_internal (line.Internal begun) = true
is_of_internal other = false

-- a line that begins with adopt
abbrev pub is_of_adopt : Line → Bool
is_of_adopt (line.Adopt is_off) = true
is_of_adopt other = false

-- a line that begins with permit or deny
abbrev pub is_of_rule : Line → Bool
is_of_rule (line.Rule permits begun) = true
is_of_rule other = false

-- a line that begins with route
abbrev pub is_of_route : Line → Bool
is_of_route (line.Route begun) = true
is_of_route other = false

-- a line that begins with service
abbrev pub is_of_service : Line → Bool
is_of_service (line.Service begun) = true
is_of_service other = false

-- a line that begins with peer
abbrev pub is_of_peer : Line → Bool
is_of_peer (line.Peer begun) = true
is_of_peer other = false

-- a line that begins with nodes
abbrev pub is_of_nodes : Line → Bool
is_of_nodes (line.Nodes by_address) = true
is_of_nodes other = false
