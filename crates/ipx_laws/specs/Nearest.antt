-- A query for the nearest server of a type: on which ports a router answers it with a service that it has, and with what.
use Rattle.std.specs.Prelude.{◌≡◌, ◌≢◌, ℕ, suc, ◌<◌, ◌≤◌, true, List, [], ◌∷◌, Some, slice_get}
use Rattle.ipx_wire.specs.Piece.{IsBytes}
use Rattle.ipx_wire.specs.declared.address.Address.{Address}
use Rattle.ipx_wire.specs.declared.sap.Sap.TheVariants.{Query}
use Rattle.ipx_wire.specs.declared.service.Service.{Service}
use Rattle.ipx_router.specs.Facts.{heard_after}
use Rattle.ipx_router.specs.Heard.{HeardSap}
use Rattle.ipx_router.specs.History.{History}
use Rattle.ipx_router.specs.Port.{Port, port_at, is_up, reply_to}
use Rattle.ipx_router.specs.Relays.{Sent}
use Rattle.ipx_router.specs.Sends.{services_sent}
use Rattle.ipx_internet.specs.Internet.{Internet, Place, ports_of, network_of}
use Rattle.ipx_internet.specs.Queue.{history_of}
use Rattle.ipx_laws.specs.Servers.{Announcer, Server, IsAway}

-- a service is that many hops away by other ports: each way of the router that begins on the network of this port has more hops. There a host
-- announces it farther away, and so do the other routers
pub record LeadsElsewhere (net : Internet) (up : ℕ → List ℕ) (server : Server) (place : Place) (hops : ℕ) : Type 0 where
  pub hosts : (which : ℕ) (host : Announcer) → slice_get server.announcers which ≡ Some host → network_of net place ≡ host.network → hops < host.hops
  pub neighbours : (from : Place) (others : ℕ) → place.router ≢ from.router → is_up (up from.router) from.port ≡ true → network_of net place ≡ network_of net from
      → IsAway net up server from.router others → hops < suc others

-- one packet is sent, to whoever asked, with one service alone: of that type, with no more hops than that
pub record IsAnswered (ports : List Port) (number : ℕ) (source : Address) (kind most : ℕ) (sent : List Sent) : Type 0 where
  pub service : Service
  pub of_kind : service.kind ≡ kind
  pub near : service.hops ≤ most
  pub alone : sent ≡ services_sent ports number (reply_to (port_at ports number) source) true (service ∷ []) ∷ []

-- those bytes come to that port, after those histories, and the router hears in them a query for the nearest server of a type
abbrev pub Asks : Internet → List History → Place → Address → ℕ → List ℕ → Type 0
Asks net histories place source kind bytes =
    IsBytes bytes
    × (heard_after (ports_of net place.router) (history_of histories place.router) place.port bytes ≡ Some (HeardSap source (Query true kind)))
