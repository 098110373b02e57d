-- The parts own what a box needs, and `from_raw` makes the box of it.
use mathlib.Core.Path.{◌≡◌, refl, sym, subst, ap}
use mathlib.Core.List.{List, [], ◌∷◌, ◌++◌}
use lib.Dec.{T}
use seplogic.Ra.Ura.{Ura}
use mir.Syntax.{Fn, Body, place, copy, assign, rv_opd, seq, return}
use mir.MapTy.{inst_fn}
use mir.Val.{Val, vptr, has_ty, WT}
use base.Logic.{SProp, ent, id⊢}
use base.Fml.{ftrue, fsep, flft}
use contract.BorrowLft.{◌⊑◌}
use prog.Memory.{Memory}
use prog.Routine.{Routine}
use prog.Wp.{WpFn, Tables}
use types.Logic.{Logic}
use contract.Monad.{Fun, fact}
use contract.Running.{tables, tables_of}
use sound.WpLaws.{fm_of, WpFn-mono}
use types.Kit.{Item, at_ret, ‵, raw, ◌⊛◌, some, later, ◌$◌, ◌∵◌, !, qed, by, move, drop, use1, join, split, split3, pick, rewrite, fsplit, fjoin, feq_i, suffices, await, done}
use types.Part.{whole, sub}
use types.Run.{stop, fld, no_more, and_then, of_opd, returns, enter, first, blocks, exec}
use types.ByLocal.{alloc_all, pass_all, free_all, look_at, get, get_in, sets, lands_last, env}
use denote.RattleType.{RattleType}
use denote.Exit.{no}
use denote.RawPtr.{block_ptr}
use denote.Signature.{plain}
use denote.Steps.{heard, nothing, only}
use denote.Triple.Call.{calls_at_last}
use denote.Triple.Clauses.{Ended, Clauses}
use denote.Triple.Spec.{triple_of}
use denote.Triple.Statement.{Triple, Contract}
use denote.Triple.Table.{entered}
use denote.Triple.Walked.{says, Stays, stay_dropped, walk_of, ends_at, walk_Meets}
use Rattle.core.proofs.alloc.Calls.{token, Goes-blank}
use Rattle.std_alloc.specs.Box.Ownership.{box_owns}
use Rattle.std_alloc.proofs.BoxSteps.Form.{Bx, D, R, P, B, args, box_ty, word, box_typed}
use Rattle.std_alloc.proofs.BoxSteps.Steps.{box_out, box_in}
use Rattle.std_alloc.specs.contracts.boxed.Box.from_raw as FromRaw
use Rattle.std_alloc.proofs.boxed.Box.from_raw.Symbol as from_raw_symbol
use Rattle.std_alloc.proofs.boxed.Box.from_raw.Met as from_raw_met
use Rattle.ipx_c.specs.contracts.cell.Parts as Parts
use Rattle.ipx_c.specs.contracts.cell.Parts.into_box as Contracted
use Rattle.ipx_c.specs.contracts.cell.Parts.into_box.Key.{name as symbol}
use Rattle.ipx_c.proofs.cell.Parts.into_box.Statement as stated
use Rattle.ipx_c.proofs.cell.Parts.into_box.Code as code

-- what is left after the call: its result is returned
abbrev ending : Body
ending = seq (assign (place 0 []) (rv_opd (copy (place 4 [])))) return

module _ (E : Bx) where
  abbrev body : Fn
  body = inst_fn (args E) code.function

  abbrev ended : Ended
  ended = Contracted.ended E.row E.al.row E.al.g E.al.d E.al.drops

  abbrev Given : RattleType
  Given = Parts.the_row (R E) (P E) E.al.g

  abbrev stays : Stays ended.signature.params ended.kept
  stays = (stay_dropped (plain (λ _. Given)) no, tt)

  module _ {M : Type 1} {𝓤 : Ura M} (𝓛 : Logic 𝓤) (at_mem : Memory → SProp 𝓤) (run : Routine → Fun 𝓤) (𝓣 : Tables 𝓤 𝓛.H) where
    open 𝓛 use {H}

    abbrev clauses : Clauses 𝓤 ended
    clauses = Contracted.clauses E.row E.al.row E.al.g E.al.d E.al.drops 𝓛 at_mem run

    abbrev Makes : Contract 𝓤
    Makes = triple_of 𝓛 (FromRaw.signature E.row E.al.row E.al.g E.al.d E.al.drops) (FromRaw.spec E.row E.al.row E.al.g E.al.d E.al.drops 𝓛 at_mem run)

    walk : Triple 𝓤 (𝓣.C (from_raw_symbol.name (args E))) Makes → (z : (walk_of 𝓛 ended stays clauses).Ghost) → ent 𝓤 ((walk_of 𝓛 ended stays clauses).pre z) (WpFn 𝓤 H 𝓣.C 𝓣.Λ body (z.0.4.0 ++ []) ((walk_of 𝓛 ended stays clauses).post z))
    walk known z =
        let lives = z.0.0 in let shares = z.0.1 in let Post = (walk_of 𝓛 ended stays clauses).post z in
        let given : D E = record { ptr = z.0.3.0.at; alloc = z.0.3.0.alloc; value = z.0.3.0.value } in
        let tokens : Item 𝓤 = ‵ (flft lives.0 shares.0) ⊛ ‵ (flft lives.1.0 shares.1.0) ⊛ ‵ ftrue in
        let alive : Item 𝓤 = raw (fact 𝓤 (lives.0 ⊑ E.row.lives)) ⊛ raw (fact 𝓤 (lives.1.0 ⊑ E.al.row.lives)) ⊛ ‵ ftrue in
        qed 𝓛 ((tokens ⊛ ‵ (fsep ((B E).own_val given z.0.4.0) ftrue)) ∷ alive ∷ []) ∵ split ! $ move ! (1 ∷ []) $ fsplit ! $
        box_out E ! given z.0.4.0 (λ block offset handle inside words typed. fjoin ! $
        let w = word E handle block offset in
        let y : Makes.Ghost = ((lives, shares, tt, (given.alloc, (block_ptr block offset, tt)), (handle ∷ [], (vptr block offset ∷ [], tt))), given.value) in
        let Γ : List (Item 𝓤) = ‵ (box_owns (token E.al given.alloc) (R E) (block_ptr block offset) given.value) ∷ ‵ ((P E).own_val given.alloc (handle ∷ [])) ∷ ‵ ftrue ∷ tokens ∷ alive ∷ [] in
        by ! (subst (λ (us : List Val). ent 𝓤 (types.Kit.⋆ 𝓛 Γ) (WpFn 𝓤 H 𝓣.C 𝓣.Λ body (us ++ []) Post)) (sym words)
        (qed 𝓛 Γ ∵ enter ! 𝓣.C 𝓣.Λ body (w ∷ []) _ $ alloc_all ! (λ ls. pass_all ! refl (box_typed E handle block offset typed, tt) $
        sets ! (of_opd ! (get_in ! (fld ! refl (stop !)) (sub ! 0 refl (whole !)))) refl (tt, tt) $
        sets ! (of_opd ! (get_in ! (fld ! refl (stop !)) (sub ! 1 refl (whole !)))) refl typed $
        first ! $ blocks ! $ sets ! (of_opd ! (get ! refl)) refl typed $
        -- what the call takes: the tokens, the handle and the pointer with what lies there
        move ! (4 ∷ []) $ split3 ! $ move ! (2 ∷ []) $ drop ! $ move ! (1 ∷ 2 ∷ []) $ join ! $ move ! (1 ∷ 0 ∷ []) $ join ! $
        move ! (2 ∷ []) $ feq_i ! (List Val) (vptr block offset ∷ []) (vptr block offset ∷ []) refl $ fjoin ! $ move ! (2 ∷ 0 ∷ []) $ fjoin ! $ move ! (2 ∷ 0 ∷ []) $ join ! $ join ! $ use1 𝓛 (raw (Makes.pre y)) (id⊢ 𝓤 _) $
        calls_at_last ! (fm_of 𝓤 H 𝓛.laws 𝓣) Makes known y (and_then ! (get ! refl) (and_then ! (get ! refl) (no_more !))) (λ u.
        -- what it gives: a box with the value
        use1 𝓛 (later (some (λ (r : D E). (tokens ⊛ ‵ ((B E).own_val r (u ∷ []))) ⊛ some (λ (_ : Unit {0} × (Unit {0} × Unit {0})). ‵ (fsep ftrue (fsep ftrue ftrue)) ⊛ (raw (fact 𝓤 (r.value ≡ given.value)) ⊛ raw (fact 𝓤 (r.alloc ≡ given.alloc))))))) (id⊢ 𝓤 _) $
        await ! tt $ pick ! (λ r. split ! $ move ! (1 ∷ []) $ pick ! (λ _. split3 ! $ drop ! $ heard ! (r.value ≡ given.value) (λ same. drop ! $ split ! $ move ! (1 ∷ []) $
        box_out E ! r (u ∷ []) (λ block' offset' handle' inside' words' typed'. box_in E ! r block' offset' r.value inside' refl $ rewrite ! 0 (λ (us : List Val). ‵ ((B E).own_val r us)) (sym words') refl $
        let fits : T (has_ty (box_ty E) u) × WT u = subst (λ (s : Val). T (has_ty (box_ty E) s) × WT s) (sym (ap only words')) (box_typed E handle' block' offset' typed') in
        lands_last ! refl fits $ exec ! 𝓣.C 𝓣.Λ (env body.locals ls) ending (at_ret (env body.locals ls) Post) $
        sets ! (of_opd ! (get ! refl)) refl fits $ returns ! (look_at ! 0 refl) $ free_all ! refl $
        suffices ! _ (ends_at 𝓛 ended stays clauses z u r ((tt, (tt, tt)), tt) (tt, tt)) $ says ! same $
        nothing ! $ nothing ! $ fjoin ! $ join ! $ move ! (1 ∷ 0 ∷ []) $ join ! $ done !)))))))))

pub into_box_spec : {M : Type 1} → stated.statement M
unfolding tables_of
into_box_spec 𝓤 𝓛 𝓜 𝓡 wired X Z LX LZ g d dd allocator md =
    let E : Bx = record { row = X; laws = LX; al = record { row = Z; laws = LZ; g = g; d = d; drops = dd } } in
    let 𝓣 : Tables 𝓤 𝓛.H = tables_of 𝓤 𝓛.H 𝓜 (tables 𝓤 𝓛.H 𝓜 𝓡 𝓡.env) in
    entered 𝓤 𝓛.H (triple_of 𝓛 (ended E).signature (Contracted.spec X Z g d dd 𝓛 𝓜.mem 𝓡.returns)) 𝓣.C 𝓣.Λ (symbol (args E)) (body E) (code.unfolded 𝓤 𝓛.H 𝓜 𝓡 wired (X, (Z, tt)) d dd)
    (walk_Meets 𝓛 (ended E) (stays E) (Goes-blank 𝓛 2 (plain (λ _. Given E)) no (λ κs x f. tt), tt) (clauses E 𝓛 𝓜.mem 𝓡.returns 𝓣) (WpFn 𝓤 𝓛.H 𝓣.C 𝓣.Λ (body E)) (WpFn-mono 𝓤 𝓛.H 𝓛.laws 𝓣 (body E))
    (walk E 𝓛 𝓜.mem 𝓡.returns 𝓣 (from_raw_met.met 𝓤 𝓛 𝓜 𝓡 (code.calls-std_alloc::boxed::Box::from_raw 𝓡.env wired) X Z LX LZ g d dd allocator md)))
