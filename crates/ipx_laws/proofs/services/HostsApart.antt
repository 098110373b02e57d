-- Hosts that have no node of a port where they are heard, since a port hears nothing of its own node.
use Rattle.std.proofs.Common.{◌≡◌, ◌≢◌, sym, ◌∙◌, ℕ, true, List, Some, slice_get}
use Rattle.ipx_wire.specs.declared.sap.Sap.TheVariants.{Query, Response}
use Rattle.ipx_router.specs.Facts.{heard_after}
use Rattle.ipx_router.specs.Heard.{Heard, HeardRip, HeardSap}
use Rattle.ipx_router.specs.History.{History, running, ports_up}
use Rattle.ipx_router.specs.Port.{is_up}
use Rattle.ipx_internet.specs.Internet.{Internet, Place, ports_of, port_of, network_of}
use Rattle.ipx_laws.specs.Regular.{Announces, HaveOneVoice}
use Rattle.ipx_laws.specs.Servers.{Announcer, Server}
use Rattle.ipx_laws.proofs.losses.HeldFromOthers.{heard_other}

-- no host has the node of a router's port there that is up, and one node on one network says one number of hops
pub record HostsApart (net : Internet) (up : ℕ → List ℕ) (server : Server) : Type 0 where
  pub from_routers : (which : ℕ) (host : Announcer) (place : Place) → slice_get server.announcers which ≡ Some host → network_of net place ≡ host.network
      → is_up (up place.router) place.port ≡ true → (port_of net place).node ≢ host.node
  pub one_voice : HaveOneVoice server

module _ (net : Internet) (server : Server) (host : Announcer) (to : Place) (same : (port_of net to).node ≡ host.node) where
  pub not_said : (history : History) (bytes : List ℕ) (m : Heard) → heard_after (ports_of net to.router) history to.port bytes ≡ Some m → Announces server host m → ⊥
  not_said history bytes (HeardRip source rip) e says = says
  not_said history bytes (HeardSap source (Query nearest kind)) e says = says
  not_said history bytes (HeardSap source (Response nearest entries)) e says =
      heard_other (ports_of net to.router) (ports_up (ports_of net to.router) history) to.port (running history) bytes (HeardSap source (Response nearest entries)) e
      (says.0 ∙ sym same)
