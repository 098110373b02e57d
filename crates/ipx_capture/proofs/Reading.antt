-- What calls to a source add up to.
use Rattle.std.proofs.Common.{◌≡◌, ℕ, ◌<◌, ◌≤◌, false, true, List, [], ◌∷◌, ◌++◌, length, take, refl, sym, ap, ◌∙◌, arith, append_assoc, length-append, append-nil, Result, Ok}
use Rattle.std.proofs.lemmas.Bool.{false≢true}
use Rattle.std.proofs.KnownBytes.{Consumes-nil, Consumes-trans}
use Rattle.ipx_wire.specs.Ends.{Input}
use Rattle.ipx_wire.specs.declared.failed.Failed.{Failed}
use Rattle.ipx_capture.specs.Asks.{Fetched, Lacks}
use Rattle.ipx_capture.specs.declared.capture_fault.CaptureFault.{CaptureFault}
use Rattle.ipx_capture.specs.Reads.{Gained, Filled, Gathered, Lost}
use Rattle.ipx_capture.proofs.Fetching.{AllGave, fetched_from, fetched_none, fetched_trans, all_gave-append, meets_later}

module _ (asked : ℕ → List ℕ → Result ℕ Failed → ℕ → Type 0) where
  -- the one call of a reading
  abbrev filled_once : (old now new more : List ℕ) (before after : Input) (need n : ℕ) → now ≡ old ++ more → length now < need
      → (f : Filled asked now new before after n) → Fetched asked (Lacks need) (old ++ more) f.more before.state after.state
  filled_once old now new more before after need n grown missing f =
      fetched_from asked (Lacks need) now (old ++ more) f.more before.state after.state grown (record {
        asks = record { buffer = f.buffer; answer = Ok n; state = after.state } ∷ [];
        calls = (missing, f.room, f.once, λ _. refl, refl);
        gave = f.gave ∙ sym (append-nil (take n f.buffer));
      })

  -- what a loop of reads keeps: the bytes so far, and that it reads only while some are missing
  pub record Gathering (old now : List ℕ) (before after : Input) (need : ℕ) : Type 0 where
    pub more : List ℕ
    pub gained : Gained before after more
    pub grown : now ≡ old ++ more
    pub fine : after.failed ≡ before.failed
    pub fetched : Fetched asked (Lacks need) old more before.state after.state
    pub all : AllGave fetched.asks
    pub still : need ≤ length old → (after ≡ before) × (now ≡ old)

  pub gathering_none : (old : List ℕ) (before : Input) (need : ℕ) → Gathering old old before before need
  gathering_none old before need = record {
    more = [];
    gained = record { read = Consumes-nil before.left; few = omega arith; bounded = λ h. h };
    grown = sym (append-nil old);
    fine = refl;
    fetched = fetched_none asked (Lacks need) old before.state;
    all = tt;
    still = λ _. (refl, refl);
  }

  pub gained_both : (before mid after : Input) (one two : List ℕ) → Gained before mid one → Gained mid after two → Gained before after (one ++ two)
  gained_both before mid after one two g h = grind (arith, Consumes-trans, length-append)

  pub gathering_more : (old now new : List ℕ) (before mid after : Input) (need n : ℕ) → Gathering old now before mid need → length now < need
      → Filled asked now new mid after n → 0 < n → Gathering old new before after need
  gathering_more old now new before mid after need n g missing f some =
      let once = filled_once old now new g.more mid after need n g.grown missing f in
      record {
        more = g.more ++ f.more;
        gained = gained_both before mid after g.more f.more g.gained f.gained;
        grown = f.grown ∙ ap (λ l. l ++ f.more) g.grown ∙ append_assoc old g.more f.more;
        fine = f.fine ∙ g.fine;
        fetched = fetched_trans asked (Lacks need) old g.more f.more before.state mid.state after.state g.fetched g.all once;
        all = all_gave-append g.fetched.asks once.asks g.all (omega (arith, some, f.counted, ap length f.gave), tt);
        still = λ h. absurd (omega (arith, ap length g.grown, length-append old g.more));
      }

  pub gathering_lost : (old now : List ℕ) (before mid after : Input) (need : ℕ) (fault : CaptureFault) → Gathering old now before mid need
      → Lost asked now mid after need fault → Lost asked old before after need fault
  gathering_lost old now before mid after need fault g l = record {
    more = g.more ++ l.more;
    read = Consumes-trans before.left mid.left after.left g.more l.more g.gained.read l.read;
    told = l.told;
    fetched = fetched_trans asked (Lacks need) old g.more l.more before.state mid.state after.state g.fetched g.all
        (fetched_from asked (Lacks need) now (old ++ g.more) l.more mid.state after.state g.grown l.fetched);
  }

  -- a loop of reads that has what it needs
  pub gathered_all : (old now : List ℕ) (before after : Input) (need : ℕ) → Gathering old now before after need → need ≤ length now
      → Gathered asked old now before after need true
  gathered_all old now before after need g enough = grind arith

  -- a loop of reads that met the source's end
  pub gathered_end : (old now new : List ℕ) (before mid after : Input) (need n : ℕ) → Gathering old now before mid need → length now < need
      → Filled asked now new mid after n → n ≡ 0 → Gathered asked old new before after need false
  gathered_end old now new before mid after need n g missing f none =
      let once = filled_once old now new g.more mid after need n g.grown missing f in
      record {
        more = g.more ++ f.more;
        gained = gained_both before mid after g.more f.more g.gained f.gained;
        grown = f.grown ∙ ap (λ l. l ++ f.more) g.grown ∙ append_assoc old g.more f.more;
        fine = f.fine ∙ g.fine;
        fetched = fetched_trans asked (Lacks need) old g.more f.more before.state mid.state after.state g.fetched g.all once;
        whole = λ e. absurd (false≢true e);
        ended = λ e. (
          omega (arith, ap length f.grown, length-append now f.more, f.counted),
          f.ended none,
          meets_later g.fetched.asks once.asks (record { front = []; last = record { buffer = f.buffer; answer = Ok n; state = after.state }; are = refl; none = ap Ok none }),
        );
      }
