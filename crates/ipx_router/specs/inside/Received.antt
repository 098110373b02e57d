-- What is judged of a packet that comes to a router, by its state. Only clauses inside the crate speak of it.
use Rattle.std.specs.Prelude.{◌≡◌, ℕ, true, List, None, Some}
use Rattle.ipx_wire.specs.Packet.{Parts}
use Rattle.ipx_wire.specs.declared.network.Network.{Network}
use Rattle.ipx_wire.specs.declared.node.Node.{Node}
use Rattle.ipx_router.specs.inside.CheckGroups.{IsListed, IsWay}
use Rattle.ipx_router.specs.Facts.{offers}
use Rattle.ipx_router.specs.Heard.{Heard, heard}
use Rattle.ipx_router.specs.inside.Judged.{IsOnward}
use Rattle.ipx_router.specs.Port.{port_at}
use Rattle.ipx_router.specs.Stands.{State}
use Rattle.ipx_router.specs.Why.{why, is_propagated, is_far}
use Rattle.ipx_router.specs.declared.why.Why.{Why}

module _ (s : State) (number : ℕ) (bytes : List ℕ) where
  -- no check drops it
  abbrev pub IsPassed : Type 0
  IsPassed = why s.ports s.up (offers s.routes) s.running number bytes ≡ None

  -- that check drops it
  abbrev pub IsDropped : Why → Type 0
  IsDropped reason = why s.ports s.up (offers s.routes) s.running number bytes ≡ Some reason

  -- that is heard of it
  abbrev pub IsHeard : Heard → Type 0
  IsHeard m = heard s.ports s.up s.running number bytes ≡ Some m

  -- it is the packet, and is to be sent on
  abbrev pub GoesOn : Parts → Type 0
  GoesOn p = IsOnward s.ports s.up (offers s.routes) s.running number bytes p

  -- to all networks that it hasn't crossed
  abbrev pub IsSentOn : Parts → List Network → Type 0
  IsSentOn p networks = GoesOn p × (is_propagated p.header ≡ true) × IsListed p networks

  -- by that way
  abbrev pub IsSentOnTo : Parts → ℕ → Node → Type 0
  IsSentOnTo p out link = GoesOn p × (is_far (port_at s.ports number) p.header ≡ true) × IsWay s.ports s.up (offers s.routes) p.header (record { port = out; link = link })
