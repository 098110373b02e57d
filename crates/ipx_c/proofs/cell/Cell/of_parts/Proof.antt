-- A cell takes over what the parts own, and their pointer.
use mathlib.Core.Path.{refl, sym, subst}
use mathlib.Core.List.{List, [], ◌∷◌, ◌++◌}
use seplogic.Ra.Ura.{Ura}
use mir.Syntax.{Fn, a_type}
use mir.MapTy.{inst_fn}
use mir.Val.{Val}
use base.Logic.{SProp, ent, id⊢}
use base.Fml.{ftrue, fsep, flft}
use contract.BorrowLft.{◌⊑◌}
use prog.Memory.{Memory}
use prog.Routine.{Routine}
use prog.Wp.{WpFn, Tables}
use types.Logic.{Logic}
use contract.Monad.{Fun, fact}
use contract.Running.{tables, tables_of}
use sound.WpLaws.{WpFn-mono}
use types.Kit.{Item, ‵, raw, ◌⊛◌, ◌$◌, ◌∵◌, !, qed, by, move, drop, use1, join, split, fsplit, fjoin, suffices, done}
use types.Part.{whole, sub, agg}
use types.Run.{stop, fld, no_more, and_then, of_opd, returns, enter}
use types.ByLocal.{alloc_all, pass_all, free_all, look_at, get, get_in, sets}
use denote.Exit.{no}
use denote.Param.{layouts}
use denote.Signature.{type_at}
use denote.Steps.{nothing}
use denote.Triple.Clauses.{Ended, Clauses}
use denote.Triple.Spec.{triple_of}
use denote.Triple.Table.{entered}
use denote.Triple.Walked.{says, Stays, stay_dropped, walk_of, ends_at, walk_Meets}
use Rattle.core.proofs.alloc.Calls.{Goes-blank}
use Rattle.std_alloc.proofs.BoxSteps.Form.{Bx, D, B, word, box_typed}
use Rattle.std_alloc.proofs.BoxSteps.Steps.{box_out, box_in}
use Rattle.std.specs.declared.option.Option.TheVariants.{Some}
use Rattle.ipx_c.proofs.Boxed.{boxed, Apart}
use Rattle.ipx_c.specs.contracts.cell.Cell.of_parts as Contracted
use Rattle.ipx_c.specs.contracts.cell.Cell.of_parts.Key.{name as symbol}
use Rattle.ipx_c.proofs.cell.Cell.of_parts.Statement as stated
use Rattle.ipx_c.proofs.cell.Cell.of_parts.Code as code
use denote.RattleType.{RattleType}
use denote.Param.Laws.{Laws}

module _ (X : RattleType) (LX : Laws X) where
  abbrev E : Bx
  E = boxed X LX

  abbrev body : Fn
  body = inst_fn (layouts (a_type ∷ []) (X, tt)) code.function

  abbrev ended : Ended
  ended = Contracted.ended X

  abbrev stays : Stays ended.signature.params ended.kept
  stays = (stay_dropped (Apart E) no, tt)

  module _ {M : Type 1} {𝓤 : Ura M} (𝓛 : Logic 𝓤) (at_mem : Memory → SProp 𝓤) (run : Routine → Fun 𝓤) (𝓣 : Tables 𝓤 𝓛.H) where
    open 𝓛 use {H}

    abbrev clauses : Clauses 𝓤 ended
    clauses = Contracted.clauses X 𝓛 at_mem run

    walk : (z : (walk_of 𝓛 ended stays clauses).Ghost) → ent 𝓤 ((walk_of 𝓛 ended stays clauses).pre z) (WpFn 𝓤 H 𝓣.C 𝓣.Λ body (z.0.4.0 ++ []) ((walk_of 𝓛 ended stays clauses).post z))
    walk z =
        let lives = z.0.0 in let shares = z.0.1 in let Post = (walk_of 𝓛 ended stays clauses).post z in
        let given : D E = record { ptr = z.0.3.0.at; alloc = z.0.3.0.alloc; value = z.0.3.0.value } in
        let Made = type_at (Contracted.signature X).result lives in
        let made : Made.Denot = record { at = given.ptr; alloc = given.alloc; machine = Some given.value } in
        let tokens : Item 𝓤 = ‵ (flft lives.0 shares.0) ⊛ ‵ ftrue in
        let alive : Item 𝓤 = raw (fact 𝓤 (lives.0 ⊑ E.row.lives)) ⊛ ‵ ftrue in
        qed 𝓛 ((tokens ⊛ ‵ (fsep ((B E).own_val given z.0.4.0) ftrue)) ∷ alive ∷ []) ∵ split ! $ move ! (1 ∷ []) $ fsplit ! $
        box_out E ! given z.0.4.0 (λ block offset handle inside words typed.
        let w = word E handle block offset in
        box_in E ! given block offset given.value inside refl $ use1 𝓛 (‵ (Made.own_val made (w ∷ []))) (id⊢ 𝓤 _) $ move ! (1 ∷ 3 ∷ []) $ drop ! $ drop ! $
        let Γ : List (Item 𝓤) = ‵ (Made.own_val made (w ∷ [])) ∷ tokens ∷ [] in
        by ! (subst (λ (us : List Val). ent 𝓤 (types.Kit.⋆ 𝓛 Γ) (WpFn 𝓤 H 𝓣.C 𝓣.Λ body (us ++ []) Post)) (sym words)
        (qed 𝓛 Γ ∵ enter ! 𝓣.C 𝓣.Λ body (w ∷ []) _ $ alloc_all ! (λ ls. pass_all ! refl (box_typed E handle block offset typed, tt) $
        sets ! (of_opd ! (get_in ! (fld ! refl (stop !)) (sub ! 0 refl (whole !)))) refl (tt, tt) $
        sets ! (of_opd ! (get_in ! (fld ! refl (stop !)) (sub ! 1 refl (whole !)))) refl typed $
        sets ! (agg ! (and_then ! (get ! refl) (and_then ! (get ! refl) (no_more !)))) refl (box_typed E handle block offset typed) $ returns ! (look_at ! 0 refl) $ free_all ! refl $
        suffices ! _ (ends_at 𝓛 ended stays clauses z w made (tt, tt) (tt, tt)) $ says ! refl $
        nothing ! $ nothing ! $ fjoin ! $ join ! $ move ! (1 ∷ 0 ∷ []) $ join ! $ done !))))

pub of_parts_spec : {M : Type 1} → stated.statement M
unfolding tables_of
of_parts_spec 𝓤 𝓛 𝓜 𝓡 wired X LX =
    let 𝓣 : Tables 𝓤 𝓛.H = tables_of 𝓤 𝓛.H 𝓜 (tables 𝓤 𝓛.H 𝓜 𝓡 𝓡.env) in
    entered 𝓤 𝓛.H (triple_of 𝓛 (Contracted.signature X) (Contracted.spec X 𝓛 𝓜.mem 𝓡.returns)) 𝓣.C 𝓣.Λ (symbol (layouts (a_type ∷ []) (X, tt))) (body X LX) (code.unfolded 𝓤 𝓛.H 𝓜 𝓡 wired (X, tt))
    (walk_Meets 𝓛 (ended X LX) (stays X LX) (Goes-blank 𝓛 1 (Apart (boxed X LX)) no (λ κs x f. tt), tt) (clauses X LX 𝓛 𝓜.mem 𝓡.returns 𝓣) (WpFn 𝓤 𝓛.H 𝓣.C 𝓣.Λ (body X LX)) (WpFn-mono 𝓤 𝓛.H 𝓛.laws 𝓣 (body X LX))
    (walk X LX 𝓛 𝓜.mem 𝓡.returns 𝓣))
