-- A cell without a machine: the null pointer and a handle, which own nothing.
use mathlib.Core.Path.{refl, sym, subst}
use mathlib.Core.List.{List, [], ◌∷◌, ◌++◌}
use seplogic.Ra.Ura.{Ura}
use mir.Syntax.{Fn, w64, a_type}
use mir.MapTy.{inst_fn}
use mir.Val.{Val, vstruct, vcons, vnil, vint, has_ty}
use base.Logic.{SProp, ent, id⊢}
use base.Fml.{ftrue, fsep, flft}
use lib.Dec.{lit<}
use contract.BorrowLft.{◌⊑◌}
use prog.Memory.{Memory}
use prog.Routine.{Routine}
use prog.Wp.{WpFn, Tables}
use types.Logic.{Logic}
use contract.Monad.{Fun, fact}
use contract.Running.{tables, tables_of}
use sound.WpLaws.{WpFn-mono}
use types.Kit.{Item, ‵, raw, ◌⊛◌, ◌$◌, ◌∵◌, !, qed, by, move, drop, use1, join, split, fsplit, fjoin, feq_i, fpack, suffices, done}
use types.Part.{agg}
use types.Run.{no_more, and_then, lit, returns, enter}
use types.ByLocal.{alloc_all, pass_all, free_all, look_at, get, sets}
use denote.Exit.{yes}
use denote.Param.{layouts}
use denote.Param.Laws.{Laws}
use denote.RawPtr.{RawPtr, null_ptr}
use denote.RattleType.{RattleType, Valss}
use denote.Signature.{plain, type_at}
use denote.Steps.{nothing}
use denote.Struct.Owning.{shape}
use denote.Struct.Struct.{within}
use denote.Triple.Clauses.{Ended, Clauses}
use denote.Triple.Spec.{triple_of}
use denote.Triple.Table.{entered}
use denote.Triple.Walked.{says, Stays, stay_dropped, walk_of, ends_at, Goes-dropped, walk_Meets}
use Rattle.core.proofs.alloc.Calls.{handle_tells, α}
use Rattle.std.proofs.ResultValues.{and_tt}
use Rattle.std.specs.declared.option.Option.TheVariants.{None}
use Rattle.std_heap.specs.contracts.Global as Global
use Rattle.std_alloc.proofs.BoxSteps.Form.{Bx, R, P}
use Rattle.ipx_c.proofs.Boxed.{boxed}
use Rattle.ipx_c.specs.contracts.cell.Cell as Cell
use Rattle.ipx_c.specs.contracts.cell.Cell.none as Contracted
use Rattle.ipx_c.specs.contracts.cell.Cell.none.Key.{name as symbol}
use Rattle.ipx_c.proofs.cell.Cell.none.Statement as stated
use Rattle.ipx_c.proofs.cell.Cell.none.Code as code

module _ (X : RattleType) (LX : Laws X) where
  abbrev E : Bx
  E = boxed X LX

  abbrev body : Fn
  body = inst_fn (layouts (a_type ∷ []) (X, tt)) code.function

  abbrev ended : Ended
  ended = Contracted.ended X

  abbrev stays : Stays ended.signature.params ended.kept
  stays = (stay_dropped (plain (λ _. Global.the_row)) yes, tt)

  module _ {M : Type 1} {𝓤 : Ura M} (𝓛 : Logic 𝓤) (at_mem : Memory → SProp 𝓤) (run : Routine → Fun 𝓤) (𝓣 : Tables 𝓤 𝓛.H) where
    open 𝓛 use {H}

    abbrev clauses : Clauses 𝓤 ended
    clauses = Contracted.clauses X 𝓛 at_mem run

    walk : (z : (walk_of 𝓛 ended stays clauses).Ghost) → ent 𝓤 ((walk_of 𝓛 ended stays clauses).pre z) (WpFn 𝓤 H 𝓣.C 𝓣.Λ body (z.0.4.0 ++ []) ((walk_of 𝓛 ended stays clauses).post z))
    walk z =
        let lives = z.0.0 in let shares = z.0.1 in let Post = (walk_of 𝓛 ended stays clauses).post z in
        let alloc = z.0.3.0 in
        let Made = type_at (Contracted.signature X).result lives in
        let made : Made.Denot = record { at = null_ptr; alloc = alloc; machine = None } in
        let tokens : Item 𝓤 = ‵ (flft lives.0 shares.0) ⊛ ‵ ftrue in
        let alive : Item 𝓤 = raw (fact 𝓤 (lives.0 ⊑ E.row.lives)) ⊛ ‵ ftrue in
        qed 𝓛 ((tokens ⊛ ‵ (fsep ((P E).own_val alloc z.0.4.0) ftrue)) ∷ alive ∷ []) ∵ split ! $ move ! (1 ∷ []) $ fsplit ! $
        handle_tells E.al ! alloc z.0.4.0 (λ handle words typed. move ! (1 ∷ 3 ∷ []) $ drop ! $ drop ! $
        let w : Val = vstruct (vcons (vint w64 0) (vcons handle vnil)) in
        let Γ : List (Item 𝓤) = ‵ ((P E).own_val alloc (handle ∷ [])) ∷ tokens ∷ [] in
        by ! (subst (λ (us : List Val). ent 𝓤 (types.Kit.⋆ 𝓛 Γ) (WpFn 𝓤 H 𝓣.C 𝓣.Λ body (us ++ []) Post)) (sym words)
        (qed 𝓛 Γ ∵ enter ! 𝓣.C 𝓣.Λ body (handle ∷ []) _ $ alloc_all ! (λ ls. pass_all ! refl (typed, tt) $
        sets ! (agg ! (and_then ! (lit ! tt) (and_then ! (get ! refl) (no_more !)))) refl (and_tt (has_ty (α E.al) handle) typed.0, (record { fits = lit< tt }, (typed.1, tt))) $
        returns ! (look_at ! 0 refl) $ free_all ! refl $
        suffices ! _ (ends_at 𝓛 ended stays clauses z w made (tt, tt) (tt, tt)) $ says ! refl $
        nothing ! $ move ! (1 ∷ 0 ∷ []) $ nothing ! $ move ! (1 ∷ 0 ∷ []) $ fjoin ! $
        feq_i ! (List Val) (vint w64 0 ∷ []) (vint w64 0 ∷ []) refl $ fjoin ! $ feq_i ! (List Val) (w ∷ []) (w ∷ []) refl $ fjoin ! $
        fpack ! (Valss (RawPtr ∷ P E ∷ [])) (within (shape (Cell.the_type (R E))) (null_ptr, (((tt, tt), tt), tt)) (w ∷ [])) (vint w64 0 ∷ [], (handle ∷ [], tt)) $ fjoin ! $
        use1 𝓛 (‵ (Made.own_val made (w ∷ []))) (id⊢ 𝓤 _) $ nothing ! $ nothing ! $ fjoin ! $ join ! $ move ! (1 ∷ 0 ∷ []) $ join ! $ done !))))

pub none_spec : {M : Type 1} → stated.statement M
unfolding tables_of
none_spec 𝓤 𝓛 𝓜 𝓡 wired X LX =
    let 𝓣 : Tables 𝓤 𝓛.H = tables_of 𝓤 𝓛.H 𝓜 (tables 𝓤 𝓛.H 𝓜 𝓡 𝓡.env) in
    entered 𝓤 𝓛.H (triple_of 𝓛 (Contracted.signature X) (Contracted.spec X 𝓛 𝓜.mem 𝓡.returns)) 𝓣.C 𝓣.Λ (symbol (layouts (a_type ∷ []) (X, tt))) (body X LX) (code.unfolded 𝓤 𝓛.H 𝓜 𝓡 wired (X, tt))
    (walk_Meets 𝓛 (ended X LX) (stays X LX) (Goes-dropped 𝓛 1 (plain (λ _. Global.the_row)) yes (λ κs x f. refl), tt) (clauses X LX 𝓛 𝓜.mem 𝓡.returns 𝓣) (WpFn 𝓤 𝓛.H 𝓣.C 𝓣.Λ (body X LX)) (WpFn-mono 𝓤 𝓛.H 𝓛.laws 𝓣 (body X LX))
    (walk X LX 𝓛 𝓜.mem 𝓡.returns 𝓣))
