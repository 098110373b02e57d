-- `into_raw_with_allocator` takes the box apart, and the parts own what it owned.
use mathlib.Core.Path.{◌≡◌, refl, sym, subst, ap, ◌∙◌}
use mathlib.Core.List.{List, [], ◌∷◌, ◌++◌}
use seplogic.Ra.Ura.{Ura}
use mir.Syntax.{Fn, Args, Dict, a_type, dcons, dnil}
use mir.MapTy.{inst_fn}
use mir.Raw.{raw as bare}
use mir.Val.{Val, vstruct, of_list}
use base.Logic.{SProp, ent, id⊢, never, fst∗}
use base.Fml.{ftrue, fsep, flft}
use contract.BorrowLft.{◌⊑◌}
use prog.Memory.{Memory}
use prog.Routine.{Routine}
use prog.Wp.{WpFn, Tables}
use types.Logic.{Logic, sem}
use contract.Monad.{Fun, fact}
use contract.Running.{tables, tables_of}
use sound.WpLaws.{fm_of, WpFn-mono}
use types.Kit.{Item, ‵, raw, ◌⊛◌, some, later, ◌$◌, ◌∵◌, !, qed, by, move, drop, use1, join, split, split3, pick, rewrite, fsplit, fjoin, fpick, feq_l, suffices, await, done}
use types.Part.{whole, sub, agg}
use types.Run.{stop, fld, no_more, and_then, of_opd, returns, enter}
use types.ByLocal.{alloc_all, pass_all, free_all, look_at, get, get_in, sets, lands_as}
use denote.RattleType.{RattleType}
use denote.Exit.{no}
use denote.Param.{bounded}
use denote.RawPtr.{Ptr, RawPtr, block_ptr, null_ptr, ptr_val, in_a_block}
use denote.Signature.{plain}
use denote.Steps.{heard, nothing, only}
use denote.Struct.Tuple.{Tuple}
use denote.Triple.Call.{calls_at}
use denote.Triple.Clauses.{Ended, Clauses}
use denote.Triple.Spec.{triple_of}
use denote.Triple.Statement.{Triple, Contract}
use denote.Triple.Table.{entered}
use denote.Triple.Walked.{says, Stays, stay_dropped, walk_of, ends_at, walk_Meets}
use Rattle.core.proofs.alloc.Calls.{token, handle_tells, Goes-blank}
use Rattle.std_alloc.specs.Box.Ownership.{box_owns}
use Rattle.std_alloc.proofs.BoxSteps.Form.{Bx, D, τ, R, P, B, word, box_typed}
use Rattle.std_alloc.proofs.BoxSteps.Steps.{box_out, box_in}
use Rattle.std_alloc.specs.contracts.boxed.Box.into_raw_with_allocator as IntoRaw
use Rattle.std_alloc.proofs.boxed.Box.into_raw_with_allocator.Symbol as into_raw_symbol
use Rattle.std_alloc.proofs.boxed.Box.into_raw_with_allocator.Met as into_raw_met
use Rattle.ipx_c.specs.contracts.cell.Parts as Parts
use Rattle.ipx_c.specs.contracts.cell.Parts.of as Contracted
use Rattle.ipx_c.specs.contracts.cell.Parts.of.Key.{name as symbol}
use Rattle.ipx_c.proofs.cell.Parts.of.Statement as stated
use Rattle.ipx_c.proofs.cell.Parts.of.Code as code

module _ (E : Bx) (dx : Dict) where
  abbrev args : Args
  args = bounded (a_type ∷ a_type ∷ []) (E.row, (E.al.row, tt)) (dcons E.al.d (dcons E.al.drops (dcons dx dnil)))

  abbrev body : Fn
  body = inst_fn args code.function

  abbrev ended : Ended
  ended = Contracted.ended E.row E.al.row E.al.g E.al.d E.al.drops dx

  abbrev stays : Stays ended.signature.params ended.kept
  stays = (stay_dropped (plain (λ _. B E)) no, tt)

  abbrev Made : RattleType
  Made = Parts.the_row (R E) (P E) E.al.g

  module _ {M : Type 1} {𝓤 : Ura M} (𝓛 : Logic 𝓤) (at_mem : Memory → SProp 𝓤) (run : Routine → Fun 𝓤) (𝓣 : Tables 𝓤 𝓛.H) where
    open 𝓛 use {H}

    abbrev clauses : Clauses 𝓤 ended
    clauses = Contracted.clauses E.row E.al.row E.al.g E.al.d E.al.drops dx 𝓛 at_mem run

    abbrev Takes : Contract 𝓤
    Takes = triple_of 𝓛 (IntoRaw.signature E.row E.al.row E.al.g E.al.d E.al.drops dx) (IntoRaw.spec E.row E.al.row E.al.g E.al.d E.al.drops dx 𝓛 at_mem run)

    walk : Triple 𝓤 (𝓣.C (into_raw_symbol.name args)) Takes → (z : (walk_of 𝓛 ended stays clauses).Ghost) → ent 𝓤 ((walk_of 𝓛 ended stays clauses).pre z) (WpFn 𝓤 H 𝓣.C 𝓣.Λ body (z.0.4.0 ++ []) ((walk_of 𝓛 ended stays clauses).post z))
    walk known z =
        let lives = z.0.0 in let shares = z.0.1 in let given = z.0.3.0 in let Post = (walk_of 𝓛 ended stays clauses).post z in
        let tokens : Item 𝓤 = ‵ (flft lives.0 shares.0) ⊛ ‵ (flft lives.1.0 shares.1.0) ⊛ ‵ ftrue in
        let alive : Item 𝓤 = raw (fact 𝓤 (lives.0 ⊑ E.row.lives)) ⊛ raw (fact 𝓤 (lives.1.0 ⊑ E.al.row.lives)) ⊛ ‵ ftrue in
        qed 𝓛 ((tokens ⊛ ‵ (fsep ((B E).own_val given z.0.4.0) ftrue)) ∷ alive ∷ []) ∵ split ! $ move ! (1 ∷ []) $ fsplit ! $
        box_out E ! given z.0.4.0 (λ block offset handle inside words typed. box_in E ! given block offset given.value inside refl $
        let w = word E handle block offset in
        let y : Takes.Ghost = ((lives, shares, tt, (given, tt), (w ∷ [], tt)), tt) in
        let Γ : List (Item 𝓤) = ‵ ((B E).own_val given (w ∷ [])) ∷ ‵ ftrue ∷ tokens ∷ alive ∷ [] in
        by ! (subst (λ (us : List Val). ent 𝓤 (types.Kit.⋆ 𝓛 Γ) (WpFn 𝓤 H 𝓣.C 𝓣.Λ body (us ++ []) Post)) (sym words)
        (qed 𝓛 Γ ∵ enter ! 𝓣.C 𝓣.Λ body (w ∷ []) _ $ alloc_all ! (λ ls. pass_all ! refl (box_typed E handle block offset typed, tt) $ sets ! (of_opd ! (get ! refl)) refl (box_typed E handle block offset typed) $
        fjoin ! $ move ! (1 ∷ 0 ∷ []) $ join ! $ join ! $ use1 𝓛 (raw (Takes.pre y)) (id⊢ 𝓤 _) $
        calls_at ! (fm_of 𝓤 H 𝓛.laws 𝓣) Takes known y (and_then ! (get ! refl) (no_more !)) (λ u.
        -- what the call gives: a pointer and a handle, and what lies at the pointer
        use1 𝓛 (later (some (λ (r : Ptr × E.al.row.Denot). (tokens ⊛ ‵ ((Tuple (RawPtr ∷ P E ∷ [])).own_val r (u ∷ []))) ⊛ some (λ (_ : (Unit {0} × (Unit {0} × Unit {0})) × Unit {0}). ‵ (fsep (fsep ftrue (fsep ftrue ftrue)) ftrue) ⊛ (raw (fact 𝓤 (r.1 ≡ given.alloc)) ⊛ ‵ (box_owns (token E.al given.alloc) (R E) r.0 given.value)))))) (id⊢ 𝓤 _) $
        await ! tt $ pick ! (λ r. split ! $ move ! (1 ∷ []) $ pick ! (λ _. split3 ! $ drop ! $ heard ! (r.1 ≡ given.alloc) (λ same.
        in_a_block ! r.0 (λ p. box_owns (token E.al given.alloc) (R E) p given.value) (fst∗ 𝓤 (never 𝓤) (sem 𝓛 (token E.al given.alloc (bare (τ E)) null_ptr))) (λ block' offset' at'.
        move ! (1 ∷ []) $ split ! $ move ! (1 ∷ []) $ fpick ! (λ vss. fsplit ! $ feq_l ! (λ both. fsplit ! $ feq_l ! (λ pointed. fsplit ! $ rewrite ! 0 (λ (s : E.al.row.Denot). ‵ (E.al.row.own_val s vss.1.0)) same refl $ handle_tells E.al ! given.alloc vss.1.0 (λ handle' handled typed'.
        let laid : D E = record { ptr = block_ptr block' offset'; alloc = given.alloc; value = given.value } in
        let made : Made.Denot = record { at = block_ptr block' offset'; alloc = given.alloc; value = given.value } in
        lands_as ! (ap only (both ∙ (λ j. vstruct (of_list ((pointed ∙ ap (λ (p : Ptr). ptr_val p ∷ []) at') j ++ (handled j ++ []))) ∷ []))) refl (box_typed E handle' block' offset' typed') $
        sets ! (of_opd ! (get_in ! (fld ! refl (stop !)) (sub ! 0 refl (whole !)))) refl (tt, tt) $
        sets ! (of_opd ! (get_in ! (fld ! refl (stop !)) (sub ! 1 refl (whole !)))) refl typed' $ sets ! (of_opd ! (get ! refl)) refl typed' $
        sets ! (agg ! (and_then ! (get ! refl) (and_then ! (get ! refl) (no_more !)))) refl (box_typed E handle' block' offset' typed') $ returns ! (look_at ! 0 refl) $ free_all ! refl $
        -- the parts: the handle, and the pointer with what lies there
        move ! (3 ∷ []) $ fsplit ! $ box_in E ! laid block' offset' given.value refl refl $ use1 𝓛 (‵ (Made.own_val made (word E handle' block' offset' ∷ []))) (id⊢ 𝓤 _) $ move ! (1 ∷ []) $ drop ! $
        suffices ! _ (ends_at 𝓛 ended stays clauses z (word E handle' block' offset') made ((tt, (tt, tt)), tt) (tt, tt)) $ says ! refl $
        nothing ! $ nothing ! $ fjoin ! $ join ! $ move ! (1 ∷ 0 ∷ []) $ join ! $ done !)))))))))))))

pub of_spec : {M : Type 1} → stated.statement M
unfolding tables_of
of_spec 𝓤 𝓛 𝓜 𝓡 wired X Z LX LZ g d dd dx allocator md glue =
    let E : Bx = record { row = X; laws = LX; al = record { row = Z; laws = LZ; g = g; d = d; drops = dd } } in
    let 𝓣 : Tables 𝓤 𝓛.H = tables_of 𝓤 𝓛.H 𝓜 (tables 𝓤 𝓛.H 𝓜 𝓡 𝓡.env) in
    entered 𝓤 𝓛.H (triple_of 𝓛 (ended E dx).signature (Contracted.spec X Z g d dd dx 𝓛 𝓜.mem 𝓡.returns)) 𝓣.C 𝓣.Λ (symbol (args E dx)) (body E dx) (code.unfolded 𝓤 𝓛.H 𝓜 𝓡 wired (X, (Z, tt)) d dd dx)
    (walk_Meets 𝓛 (ended E dx) (stays E dx) (Goes-blank 𝓛 2 (plain (λ _. B E)) no (λ κs x f. tt), tt) (clauses E dx 𝓛 𝓜.mem 𝓡.returns 𝓣) (WpFn 𝓤 𝓛.H 𝓣.C 𝓣.Λ (body E dx)) (WpFn-mono 𝓤 𝓛.H 𝓛.laws 𝓣 (body E dx))
    (walk E dx 𝓛 𝓜.mem 𝓡.returns 𝓣 (into_raw_met.met 𝓤 𝓛 𝓜 𝓡 (code.calls-std_alloc::boxed::Box::into_raw_with_allocator 𝓡.env wired) X Z LX LZ g d dd dx allocator md glue)))
