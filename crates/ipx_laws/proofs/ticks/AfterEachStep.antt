-- What is so after each step of a run.
use Rattle.std.proofs.Common.{ℕ, List, [], ◌∷◌, ◌++◌}
use Rattle.std.specs.List.{AllByRecursion}
use Rattle.ipx_wire.specs.declared.network.Network.{Network}
use Rattle.ipx_internet.specs.Internet.{Internet, IsInternet}
use Rattle.ipx_internet.specs.Queue.{Queued}
use Rattle.ipx_internet.specs.Run.{Step, IsStep, Run, forgotten, stepped, run_of}
use Rattle.ipx_internet.proofs.packets.SentOnOrReply.{Layouts}
use Rattle.ipx_laws.specs.Apart.{TellsOnlyOf}
use Rattle.ipx_laws.specs.Meanwhile.{LeavesPorts, SaysOnly}
use Rattle.ipx_laws.proofs.ticks.TickAfterTick.{IsKept, step_so, left_of}

module _ (net : Internet) (most_routes most_services : ℕ) where
  -- it is so after each of some steps
  abbrev pub AfterEach : (Run → Type 0) → Run → List Step → Type 0
  AfterEach Is run [] = Unit
  AfterEach Is run (step ∷ steps) =
      let next = stepped net most_routes most_services run step in
      Is next × AfterEach Is next steps

  pub each_then : (Is So : Run → Type 0) → ((now : Run) → Is now → So now) → (run : Run) (steps : List Step) → AfterEach Is run steps → AfterEach So run steps
  each_then Is So so run [] each = tt
  each_then Is So so run (step ∷ steps) each = (so (stepped net most_routes most_services run step) each.0, each_then Is So so (stepped net most_routes most_services run step) steps each.1)

  pub each-append : (Is : Run → Type 0) (run : Run) (steps more : List Step) → AfterEach Is run steps
      → AfterEach Is (run_of net most_routes most_services run steps) more → AfterEach Is run (steps ++ more)
  each-append Is run [] more each rest = rest
  each-append Is run (step ∷ steps) more each rest = (each.0, each-append Is (stepped net most_routes most_services run step) steps more each.1 rest)

  -- what is so of each of something
  pub each_all : {X : Type 0} (Is : X → Run → Type 0) (run : Run) (steps : List Step) → ((x : X) → AfterEach (Is x) run steps)
      → AfterEach (λ now. (x : X) → Is x now) run steps
  each_all Is run [] all = tt
  each_all Is run (step ∷ steps) all = ((λ x. (all x).0), each_all Is (stepped net most_routes most_services run step) steps (λ x. (all x).1))

module _ (net : Internet) (laws : Layouts) (is : IsInternet net) (most_routes most_services : ℕ) (up : ℕ → List ℕ) (foreign : List Network)
    (Goes : (ℕ → ℕ) → Queued → Type 0) (kept : IsKept net laws is most_routes most_services up foreign Goes) (Is : Run → Type 0)
    (so : (left : ℕ → ℕ) (now : Run) → Goes left (forgotten now) → Is now) where
  -- what follows from a property that seconds and deliveries keep
  pub goes_each : (steps : List Step) (run : Run) → AllByRecursion (IsStep net) steps → AllByRecursion LeavesPorts steps
      → AllByRecursion (SaysOnly (TellsOnlyOf foreign)) steps → Goes (left_of net laws is most_routes most_services up foreign steps) (forgotten run)
      → AfterEach net most_routes most_services Is run steps
  goes_each [] run all leave say goes = tt
  goes_each (step ∷ steps) run all leave say goes =
      let next = stepped net most_routes most_services run step in
      let now = step_so net laws is most_routes most_services up foreign Goes kept step steps run all.0 leave.0 say.0 goes in
      (so (left_of net laws is most_routes most_services up foreign steps) next now, goes_each steps next all.1 leave.1 say.1 now)
