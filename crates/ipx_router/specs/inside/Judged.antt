-- What a router makes of bytes that come on a port: a verdict, which is right where it says what `why` and `heard` say.
use Rattle.std.specs.Prelude.{◌≡◌, ℕ, ◌≤◌, Bool, true, List, [], ◌∷◌, ◌++◌, length, Option, None, Some, Ok}
use Rattle.ipx_wire.specs.Numbers.{most_entries}
use Rattle.ipx_wire.specs.Packet.{Parts, packet_of}
use Rattle.ipx_router.specs.inside.CheckGroups.{GoesAs}
use Rattle.ipx_router.specs.Heard.{HeardRip, HeardSap, heard, heard_in}
use Rattle.ipx_router.specs.Port.{Port, port_at}
use Rattle.ipx_router.specs.Why.{why, checks, first_of, when, is_near, is_down_port}
use Rattle.ipx_router.specs.declared.judging.judge.Verdict.{Verdict}
use Rattle.ipx_router.specs.declared.judging.judge.Verdict.TheVariants.{Rip, Sap, Goes}
use Rattle.ipx_router.specs.declared.route_offer.RouteOffer.{RouteOffer}
use Rattle.ipx_router.specs.declared.why.Why.{Why}
use Rattle.ipx_router.specs.declared.why.Why.TheVariants.{DownPort}

-- ---- bytes on a port

-- a packet that no check drops, and that isn't for the router's own processes
pub record IsOnward (ports : List Port) (up : List ℕ) (routes : List RouteOffer) (running : Bool) (number : ℕ) (bytes : List ℕ) (p : Parts) : Type 0 where
  pub undropped : why ports up routes running number bytes ≡ None
  pub unheard : heard ports up running number bytes ≡ None
  pub packet : packet_of bytes ≡ Ok p

abbrev pub IsVerdict : List Port → List ℕ → List RouteOffer → Bool → ℕ → List ℕ → Verdict → Type 0
IsVerdict ports up routes running number bytes (Rip source rip) =
    (why ports up routes running number bytes ≡ None) × (heard ports up running number bytes ≡ Some (HeardRip source rip))
    × (length rip.entries ≤ most_entries)
IsVerdict ports up routes running number bytes (Sap source sap) =
    (why ports up routes running number bytes ≡ None) × (heard ports up running number bytes ≡ Some (HeardSap source sap))
IsVerdict ports up routes running number bytes (Goes onward p) =
    IsOnward ports up routes running number bytes p × GoesAs ports up routes (port_at ports number) p (Some onward)

-- ---- a packet on a port

-- why a packet on the port of that number is dropped: its checks, and one more of the port
abbrev pub packet_why : List Port → List ℕ → List RouteOffer → ℕ → Parts → Option Why
packet_why ports up routes number p = first_of (checks ports up routes (port_at ports number) p ++ when (is_down_port up number) DownPort ∷ [])

-- what was found of a packet that no check drops
abbrev pub IsFound : List Port → List ℕ → List RouteOffer → Port → Parts → Verdict → Type 0
IsFound ports up routes port p (Rip source rip) =
    (is_near port p.header ≡ true) × (heard_in p ≡ Some (HeardRip source rip)) × (length rip.entries ≤ most_entries)
IsFound ports up routes port p (Sap source sap) = (is_near port p.header ≡ true) × (heard_in p ≡ Some (HeardSap source sap))
IsFound ports up routes port p (Goes onward q) = (q ≡ p) × GoesAs ports up routes port p (Some onward)

-- the same of the data of a near packet
abbrev pub IsHearing : Parts → Verdict → Type 0
IsHearing p (Rip source rip) = (heard_in p ≡ Some (HeardRip source rip)) × (length rip.entries ≤ most_entries)
IsHearing p (Sap source sap) = heard_in p ≡ Some (HeardSap source sap)
IsHearing p (Goes onward q) = ⊥
