-- Over wires: what is so of one of the steps of some beats; and hosts that are heard in them, on every port of their network that is up, have
-- the node of none of these.
use Rattle.std.proofs.Common.{◌≡◌, refl, ℕ, suc, ◌≤◌, List, [], ◌∷◌, ◌++◌, length, Some, slice_get, inl, inr}
use Rattle.ipx_wire.specs.WriteServices.{entry_of}
use Rattle.ipx_wire.specs.declared.sap.Sap.TheVariants.{Query, Response as SapResponse}
use Rattle.ipx_router.specs.Heard.{Heard, HeardRip, HeardSap}
use Rattle.ipx_router.specs.History.{Start, Stop, Second, Packet, PortDown, PortUp}
use Rattle.ipx_internet.specs.Internet.{Internet, Place, port_of}
use Rattle.ipx_internet.specs.Queue.{history_of}
use Rattle.ipx_laws.specs.Regular.{Announces, HaveOneVoice}
use Rattle.ipx_laws.specs.Servers.{Announcer, Server, at_hops}
use Rattle.ipx_laws.specs.WireRegular.{NamesService, IsHostHeard, AreHostsInTime}
use Rattle.ipx_laws.specs.Wires.{Wires, WireStep, Occurs, Lands, beaten, wired, InSteps, InBeats}
use Rattle.ipx_laws.proofs.lists.SomeElement.{AnyIs}
use Rattle.ipx_laws.proofs.services.HostsApart.{HostsApart, not_said}
use Rattle.ipx_laws.proofs.wires.PartsOfBeats.{parted}

-- where one is such, it is there at a number
pub any_index : {A : Type 0} (P : A → Type 0) (xs : List A) → AnyIs P xs → (which : ℕ) × (x : A) × (slice_get xs which ≡ Some x) × P x
any_index P [] any = absurd any
any_index P (x ∷ xs) (inl is) = (0, x, refl, is)
any_index P (x ∷ xs) (inr any) = let (which, y, at, is) = any_index P xs any in (suc which, y, at, is)

-- ---- what is so of one of some steps

module _ (net : Internet) (most_routes most_services delay : ℕ) where
  in_steps_so : (Is So : Wires → WireStep → Type 0) (Later After : Wires → Type 0) → ((w : Wires) (step : WireStep) → Is w step → So w step)
      → ((w : Wires) → Later w → After w) → (w : Wires) (steps : List WireStep) → InSteps net most_routes most_services delay Is Later w steps
      → InSteps net most_routes most_services delay So After w steps
  in_steps_so Is So Later After so next w [] later = next w later
  in_steps_so Is So Later After so next w (step ∷ steps) (inl now) = inl (so w step now)
  in_steps_so Is So Later After so next w (step ∷ steps) (inr later) =
      inr (in_steps_so Is So Later After so next (wired net most_routes most_services delay w step) steps later)

  pub in_beats_so : (Is So : Wires → WireStep → Type 0) → ((w : Wires) (step : WireStep) → Is w step → So w step) → (w : Wires) (beats : List (List WireStep))
      → InBeats net most_routes most_services delay Is w beats → InBeats net most_routes most_services delay So w beats
  in_beats_so Is So so w [] none = none
  in_beats_so Is So so w (steps ∷ beats) found =
      in_steps_so Is So (λ next. InBeats net most_routes most_services delay Is (beaten next) beats) (λ next. InBeats net most_routes most_services delay So
      (beaten next) beats)
      so (λ next later. in_beats_so Is So so (beaten next) beats later) w steps found

  in_steps_none : (Is : Wires → WireStep → Type 0) (Later : Wires → Type 0) → ((w : Wires) (step : WireStep) → Is w step → ⊥) → ((w : Wires) → Later w → ⊥)
      → (w : Wires) (steps : List WireStep) → InSteps net most_routes most_services delay Is Later w steps → ⊥
  in_steps_none Is Later never none w [] later = none w later
  in_steps_none Is Later never none w (step ∷ steps) (inl now) = never w step now
  in_steps_none Is Later never none w (step ∷ steps) (inr later) = in_steps_none Is Later never none (wired net most_routes most_services delay w step) steps later

  pub in_beats_none : (Is : Wires → WireStep → Type 0) → ((w : Wires) (step : WireStep) → Is w step → ⊥) → (w : Wires) (beats : List (List WireStep))
      → InBeats net most_routes most_services delay Is w beats → ⊥
  in_beats_none Is never w [] found = found
  in_beats_none Is never w (steps ∷ beats) found =
      in_steps_none Is (λ next. InBeats net most_routes most_services delay Is (beaten next) beats) never (λ next later. in_beats_none Is never
      (beaten next) beats later) w steps found

-- who announces it names it
pub announces_names : (server : Server) (host : Announcer) (m : Heard) → Announces server host m → NamesService server host.node m
announces_names server host (HeardRip source rip) says = says
announces_names server host (HeardSap source (Query nearest kind)) says = says
announces_names server host (HeardSap source (SapResponse nearest entries)) (from_it, which, at_it) =
    (from_it, which, entry_of (at_hops server host.hops), at_it, server.name, refl, (refl, refl))

-- ---- hosts are no routers

module _ (net : Internet) (most_routes most_services delay : ℕ) (server : Server) where
  -- no host has the node of a port where it is heard
  not_heard : (host : Announcer) (to : Place) → (port_of net to).node ≡ host.node → (w : Wires) (step : WireStep)
      → IsHostHeard net most_routes most_services delay server to host w step → ⊥
  not_heard host to same w (Occurs router (Packet number bytes)) (there, on, m, heard, says) =
      not_said net server host to same (history_of w.histories to.router) bytes m heard says
  not_heard host to same w (Occurs router Second) none = none
  not_heard host to same w (Occurs router Start) none = none
  not_heard host to same w (Occurs router Stop) none = none
  not_heard host to same w (Occurs router (PortDown number)) none = none
  not_heard host to same w (Occurs router (PortUp number)) none = none
  not_heard host to same w (Lands which) none = none

  pub hosts_apart : (window : ℕ) (up : ℕ → List ℕ) (w : Wires) (beats : List (List WireStep)) → HaveOneVoice server
      → AreHostsInTime net most_routes most_services delay server window up w beats → window ≤ length beats → HostsApart net up server
  hosts_apart window up w beats one_voice in_time long = record {
    from_routers = λ which host place listed there on same.
        in_beats_none net most_routes most_services delay (IsHostHeard net most_routes most_services delay server place host) (not_heard host place same) w front
        (in_time which host place listed on there [] front back whole count);
    one_voice = one_voice;
  }
    where
      cut : (front : List (List WireStep)) × (back : List (List WireStep)) × (beats ≡ front ++ back) × (length front ≡ window)
      cut = parted window beats long

      front : List (List WireStep)
      front = cut.0

      back : List (List WireStep)
      back = cut.1

      whole : beats ≡ [] ++ front ++ back
      whole = cut.2

      count : length front ≡ window
      count = cut.3
