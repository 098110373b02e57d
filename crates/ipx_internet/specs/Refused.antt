-- Why an internet refuses what it is asked.
use Rattle.std.specs.Prelude.{ℕ, List}
use Rattle.ipx_router.specs.History.{Event}
use Rattle.ipx_router.specs.Port.{Port}
use Rattle.ipx_internet.specs.Internet.{Internet}
use Rattle.ipx_internet.specs.Moment.{Moment, IsThere, SharesNode}
use Rattle.ipx_internet.specs.declared.fault.InternetFault.{InternetFault}
use Rattle.ipx_internet.specs.declared.fault.InternetFault.TheVariants.{SameNode, NoSuchPort, Memory}

-- why a router of those ports isn't added
abbrev pub IsNotAdded : Internet → List Port → InternetFault → Type 0
IsNotAdded net ports SameNode = SharesNode net ports
IsNotAdded net ports Memory = SharesNode net ports → ⊥
IsNotAdded net ports NoSuchPort = ⊥

-- why an event doesn't happen to a router
abbrev pub IsNoEvent : Moment → ℕ → Event → InternetFault → Type 0
IsNoEvent m router event NoSuchPort = IsThere m router event → ⊥
IsNoEvent m router event Memory = IsThere m router event
IsNoEvent m router event SameNode = ⊥
