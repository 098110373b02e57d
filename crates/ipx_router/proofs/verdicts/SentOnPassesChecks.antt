-- Which checks a packet passes that is sent on, and that it passes them all.
use Rattle.std.proofs.Common.{arith}
use Rattle.std.proofs.Common.{◌≡◌, refl, ap, ℕ, ◌<◌, ◌≤◌, ◌&&◌, not, Bool, true, false, List, [], ◌∷◌, ◌++◌, length, Option, Result, Ok, Err, None, Some, is_some, true≢false}
use Rattle.std.specs.List.{AllByRecursion}
use Rattle.std.proofs.lemmas.Bool.{and_parts, not-true, lt-leb, le-ltb}
use Rattle.ipx_wire.specs.Crossed.{networks_at, is_among}
use Rattle.ipx_wire.specs.Numbers.{crossed_places, crossed_bytes}
use Rattle.ipx_wire.specs.Packet.{Parts}
use Rattle.ipx_wire.specs.declared.packet.PacketFault.{PacketFault}
use Rattle.ipx_router.specs.Numbers.{most_routers}
use Rattle.ipx_router.specs.Outgoing.{Way, way_to, is_own_port}
use Rattle.ipx_router.specs.Port.{Port, port_at, is_up}
use Rattle.ipx_router.specs.Why.{checks, first_of, when, is_propagated, is_far, is_own_echo, is_bad_source, is_crossed_short, is_crossed_full, is_crossed_seen, is_through_too_many, is_far_side, is_too_long, is_down_port}
use Rattle.ipx_router.specs.declared.route_offer.RouteOffer.{RouteOffer}
use Rattle.ipx_router.specs.declared.why.Why.{Why}
use Rattle.ipx_router.specs.declared.why.Why.TheVariants.{Malformed, DownPort}

-- ---- a list of checks

abbrev IsNone : Option Why → Type 0
IsNone check = check ≡ None

-- no check of a list holds, if the first that holds is none
all_none : (list : List (Option Why)) → first_of list ≡ None → AllByRecursion IsNone list
all_none [] e = tt
all_none (Some reason ∷ list) e = absurd (true≢false (ap is_some e))
all_none (None ∷ list) e = (refl, all_none list e)

unmet : (c : Bool) (reason : Why) → when c reason ≡ None → c ≡ false
unmet c reason e = grind arith

-- the checks of a packet, and the last of all, of the port on which it came
abbrev pub all_checks : List Port → List ℕ → List RouteOffer → Port → ℕ → Parts → List (Option Why)
all_checks ports up routes port number p = checks ports up routes port p ++ when (is_down_port up number) DownPort ∷ []

-- what is found of what was read from bytes, while the router runs
abbrev pub judged : List Port → List ℕ → List RouteOffer → Port → ℕ → Result Parts PacketFault → Option Why
judged ports up routes port number r =
    first_of
    (elim r [ Ok p ↦ None | Err fault ↦ Some (Malformed fault) ]
    ∷ (elim r [ Ok p ↦ checks ports up routes port p | Err fault ↦ [] ] ++ when (is_down_port up number) DownPort ∷ []))

-- a part of a test that fails, if the part before it holds
pub asked : (a b : Bool) → a ≡ true → (a && b) ≡ false → b ≡ false
asked a b holds e = grind arith

-- ---- what a packet passed that no check drops

pub record Passes (ports : List Port) (up : List ℕ) (routes : List RouteOffer) (port : Port) (number : ℕ) (p : Parts) : Type 0 where
  pub no_echo : is_own_echo port p.header ≡ false
  pub source : is_bad_source p.header ≡ false
  pub roomy : is_crossed_short p ≡ false
  pub free : is_crossed_full p ≡ false
  pub unseen : is_crossed_seen port p ≡ false
  pub few : is_through_too_many port p.header ≡ false
  pub elsewhere : is_far_side ports port p.header ≡ false
  pub short : is_too_long ports up routes port p.header ≡ false
  pub comes_up : is_up up number ≡ true

holds : (b : Bool) → not b ≡ false → b ≡ true
holds b e = grind arith

pub passes : (ports : List Port) (up : List ℕ) (routes : List RouteOffer) (port : Port) (number : ℕ) (p : Parts)
    → first_of (all_checks ports up routes port number p) ≡ None → Passes ports up routes port number p
passes ports up routes port number p e =
    let all = all_none (all_checks ports up routes port number p) e in
    record {
      no_echo = unmet _ _ all.0;
      source = unmet _ _ all.1.0;
      roomy = unmet _ _ all.1.1.0;
      free = unmet _ _ all.1.1.1.0;
      unseen = unmet _ _ all.1.1.1.1.0;
      few = unmet _ _ all.1.1.1.1.1.1.1.1.1.1.1.0;
      elsewhere = unmet _ _ all.1.1.1.1.1.1.1.1.1.1.1.1.0;
      short = unmet _ _ all.1.1.1.1.1.1.1.1.1.1.1.1.1.1.0;
      comes_up = holds (is_up up number) (unmet _ _ all.1.1.1.1.1.1.1.1.1.1.1.1.1.1.1.0);
    }

-- ---- what is sent on passes all checks

module _ (ports : List Port) (up : List ℕ) (routes : List RouteOffer) (port : Port) (number : ℕ) (p : Parts) (comes_up : is_up up number ≡ true) where
  -- a far one
  pub far_passes : (way : Way) → is_own_echo port p.header ≡ false → is_bad_source p.header ≡ false → is_far port p.header ≡ true
      → p.header.control < most_routers → is_own_port ports p.header.destination ≡ false → way_to ports up routes p.header.destination ≡ Some way
      → p.header.length ≤ (port_at ports way.port).longest → first_of (all_checks ports up routes port number p) ≡ None
  far_passes way no_echo source far few elsewhere routed short = grind (arith, and_parts, not-true, lt-leb, le-ltb)

  -- a propagated one
  pub propagated_passes : is_own_echo port p.header ≡ false → is_bad_source p.header ≡ false → is_propagated p.header ≡ true
      → crossed_bytes ≤ length p.payload → p.header.control < crossed_places → is_among port.network (networks_at p.header.control p.payload) ≡ false
      → first_of (all_checks ports up routes port number p) ≡ None
  propagated_passes no_echo source all roomy free unseen = grind arith
