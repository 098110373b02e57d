-- The ticks of a part of the beats in which the same happens as in ticks: where ports stay as they are, so they do in that part.
use Rattle.std.proofs.Common.{◌≡◌, sym, ap, ◌∙◌, subst, ℕ, List, [], ◌∷◌, ◌++◌, length, append_assoc}
use Rattle.std.specs.List.{AllByRecursion}
use Rattle.ipx_router.proofs.lists.EachElement.{all_before}
use Rattle.ipx_internet.specs.BusyTick.{IsBusyTick}
use Rattle.ipx_internet.specs.Internet.{Internet, IsInternet}
use Rattle.ipx_internet.specs.Run.{Step, Run, run_of}
use Rattle.ipx_internet.specs.Ticks.{ticked}
use Rattle.ipx_internet.proofs.packets.SentOnOrReply.{Layouts}
use Rattle.ipx_laws.specs.HeardInTicks.{InTicks}
use Rattle.ipx_laws.specs.Meanwhile.{LeavesPorts, EachStep, EachTick}
use Rattle.ipx_laws.specs.Wires.{Wires, WireStep, beaten, wires_of, beats_of, InBeats}
use Rattle.ipx_laws.proofs.tables.TablesAreRight.{parts_of as ticks_parts}
use Rattle.ipx_laws.proofs.ticks.AfterRest.{steps_keep}
use Rattle.ipx_laws.proofs.ticks.SaidInAMinute.{IsKept}
use Rattle.ipx_laws.proofs.wires.LockStep.{as_wire, as_beat, as_beats, as_many, parts_of, Follows, tick_follows, ticks_follow, ticks_so}

module _ (net : Internet) (most_routes most_services : ℕ) where
  abbrev by : Run → List (List Step) → Run
  by = ticked net most_routes most_services

  abbrev after : Wires → List (List WireStep) → Wires
  after = beats_of net most_routes most_services 0

  abbrev beats_by : Run → Wires → List (List Step) → List (List WireStep)
  beats_by = as_beats net most_routes most_services

  abbrev Busy : Run → List Step → Type 0
  Busy = IsBusyTick net most_routes most_services

  -- the ticks of beats in the middle
  pub record Middle (run : Run) (w : Wires) (ticks : List (List Step)) (before within : List (List WireStep)) : Type 0 where
    pub front : List (List Step)
    pub inside : List (List Step)
    pub later : List (List Step)
    pub whole : ticks ≡ front ++ inside ++ later
    pub fore : beats_by run w front ≡ before
    pub same : beats_by (by run front) (after w before) inside ≡ within

  pub middle_of : (run : Run) (w : Wires) (ticks : List (List Step)) (before within later : List (List WireStep))
      → beats_by run w ticks ≡ before ++ within ++ later → Middle run w ticks before within
  middle_of run w ticks before within later parts =
      let one = parts_of net most_routes most_services run w ticks before (within ++ later) (parts ∙ append_assoc before within later) in
      let two = parts_of net most_routes most_services (by run one.first) (after w before) one.later within later one.behind in
      record {
        front = one.first;
        inside = two.first;
        later = two.later;
        whole = one.whole ∙ ap (λ (ts : List (List Step)). one.first ++ ts) two.whole ∙ sym (append_assoc one.first two.first two.later);
        fore = one.fore;
        same = two.fore;
      }

  -- what is so of a step in ticks, wherever so many follow one another, is so in as many beats
  pub part_so : (Is : Run → Step → Type 0) (So : Wires → WireStep → Type 0)
      → ((run : Run) (w : Wires) (step : Step) → Follows net most_routes most_services run w → Is run step → So w (as_wire net most_routes most_services run w step))
      → (run : Run) (w : Wires) (ticks : List (List Step)) → EachTick net most_routes most_services Busy run ticks
      → Follows net most_routes most_services run w → (before within later : List (List WireStep)) → beats_by run w ticks ≡ before ++ within ++ later
      → ((front inside behind : List (List Step)) → ticks ≡ front ++ inside ++ behind → length inside ≡ length within
      → InTicks net most_routes most_services Is (by run front) inside)
      → InBeats net most_routes most_services 0 So (after w before) within
  part_so Is So so run w ticks busy follows before within later parts in_ticks =
      subst (InBeats net most_routes most_services 0 So (after w before)) middle.same
      (ticks_so net most_routes most_services Is So so (by run middle.front) (after w before) middle.inside
      (ticks_parts net most_routes most_services Busy (by run middle.front) middle.inside middle.later cut.1).0
      (subst (λ (front : List (List WireStep)). Follows net most_routes most_services (by run middle.front) (after w front)) middle.fore
      (ticks_follow net most_routes most_services run w middle.front cut.0 follows))
      (in_ticks middle.front middle.inside middle.later middle.whole long))
    where
      middle : Middle run w ticks before within
      middle = middle_of run w ticks before within later parts

      cut : EachTick net most_routes most_services Busy run middle.front
          × EachTick net most_routes most_services Busy (by run middle.front) (middle.inside ++ middle.later)
      cut =
          ticks_parts net most_routes most_services Busy run middle.front (middle.inside ++ middle.later)
          (subst (EachTick net most_routes most_services Busy run) (middle.whole ∙ append_assoc middle.front middle.inside middle.later) busy)

      long : length middle.inside ≡ length within
      long = sym (as_many net most_routes most_services (by run middle.front) (after w before) middle.inside) ∙ ap length middle.same

-- ---- where ports stay as they are

module _ (net : Internet) (laws : Layouts) (is : IsInternet net) (most_routes most_services : ℕ) (up : ℕ → List ℕ) where
  -- in those ticks, and the same happens in those wires
  pub record Goes (run : Run) (w : Wires) (ticks : List (List Step)) : Type 0 where
    pub kept : IsKept net laws is most_routes most_services up run
    pub follows : Follows net most_routes most_services run w
    pub busy : EachTick net most_routes most_services (IsBusyTick net most_routes most_services) run ticks
    pub leave : EachStep LeavesPorts ticks

  goes_on : (run : Run) (w : Wires) (front rest : List (List Step)) → Goes run w (front ++ rest)
      → Goes (by net most_routes most_services run front) (after net most_routes most_services w (beats_by net most_routes most_services run w front)) rest
  goes_on run w [] rest goes = goes
  goes_on run w (steps ∷ front) rest goes =
      goes_on (run_of net most_routes most_services run steps)
      (beaten (wires_of net most_routes most_services 0 w (as_beat net most_routes most_services run w steps))) front rest (record {
        kept = steps_keep net laws is most_routes most_services up run steps goes.busy.0.happens goes.leave.0 goes.kept;
        follows = tick_follows net most_routes most_services run w steps goes.busy.0 goes.follows;
        busy = goes.busy.1;
        leave = goes.leave.1;
      })

  goes_first : (run : Run) (w : Wires) (front rest : List (List Step)) → Goes run w (front ++ rest) → Goes run w front
  goes_first run w front rest goes = record {
    kept = goes.kept;
    follows = goes.follows;
    busy = (ticks_parts net most_routes most_services (IsBusyTick net most_routes most_services) run front rest goes.busy).0;
    leave = all_before (AllByRecursion LeavesPorts) front rest goes.leave;
  }

  pub middle_goes : (run : Run) (w : Wires) (ticks : List (List Step)) (before within : List (List WireStep))
      → (middle : Middle net most_routes most_services run w ticks before within) → Goes run w ticks
      → Goes (by net most_routes most_services run middle.front) (after net most_routes most_services w before) middle.inside
  middle_goes run w ticks before within middle goes =
      let whole = middle.whole ∙ append_assoc middle.front middle.inside middle.later in
      goes_first (by net most_routes most_services run middle.front) (after net most_routes most_services w before) middle.inside middle.later
      (subst (λ (front : List (List WireStep)).
      Goes (by net most_routes most_services run middle.front) (after net most_routes most_services w front) (middle.inside ++ middle.later)) middle.fore
      (goes_on run w middle.front (middle.inside ++ middle.later) (subst (Goes run w) whole goes)))
