-- What the walks over cells that cross to C and back share: another struct of the same pointer, which owns the same.
use mathlib.Core.Path.{◌≡◌, refl, sym, subst}
use mathlib.Core.List.{List, [], ◌∷◌, ◌++◌}
use Prim.Native.Nat.{ℕ}
use lib.Dec.{T, lit<}
use seplogic.Ra.Ura.{Ura}
use mir.Syntax.{Fn, Ty, local, value_local, ty_ptr, ty_struct, tnil, tcons, assign, seq, place, field, rv_opd, copy, aggregate, return}
use mir.Val.{Val, vstruct, vcons, vnil, of_list, has_ty, WT}
use base.Logic.{SProp, ent, id⊢}
use prog.Wp.{WpFn, Tables}
use types.Logic.{Logic}
use types.Kit.{Item, ‵, raw, ◌$◌, ◌∵◌, !, qed, by, move, drop, use1, fsplit, fjoin, fpick, fpack, feq_l, feq_i, done}
use types.Part.{whole, sub, agg}
use types.Run.{stop, fld, no_more, and_then, of_opd, returns, enter}
use types.ByLocal.{alloc_all, pass_all, free_all, look_at, get, get_in, sets}
use denote.RattleType.{RattleType, Valss}
use denote.Param.Laws.{Laws}
use denote.RawPtr.{Ptr, RawPtr, block_ptr, null_ptr, ptr_val}
use denote.Steps.{nothing}
use denote.Struct.Owning.{shape}
use denote.Struct.Struct.{within}
use Rattle.core.proofs.alloc.Calls.{Fits, handle_tells, α}
use Rattle.std.proofs.ResultValues.{and_tt}
use Rattle.std_alloc.proofs.BoxSteps.Form.{Bx, R, P}
use Rattle.ipx_c.specs.contracts.cell.Cell as Cell
use Rattle.ipx_c.proofs.Boxed.{boxed}

module _ (X : RattleType) (LX : Laws X) where
  abbrev E : Bx
  E = boxed X LX

  -- a pointer and a handle, by the name of their struct
  abbrev pair : List ℕ → Ty
  pair name = ty_struct name (tcons ty_ptr (tcons (α E.al) tnil))

  pointer_typed : (at : Ptr) → T (has_ty ty_ptr (ptr_val at)) × WT (ptr_val at)
  pointer_typed (block_ptr block offset) = (tt, tt)
  pointer_typed null_ptr = (tt, record { fits = lit< tt })

  pair_typed : (name : List ℕ) (at : Ptr) (handle : Val) → Fits E.al handle
      → T (has_ty (pair name) (vstruct (vcons (ptr_val at) (vcons handle vnil)))) × WT (vstruct (vcons (ptr_val at) (vcons handle vnil)))
  pair_typed name (block_ptr block offset) handle typed = (and_tt (has_ty (α E.al) handle) typed.0, (tt, (typed.1, tt)))
  pair_typed name null_ptr handle typed = (and_tt (has_ty (α E.al) handle) typed.0, (record { fits = lit< tt }, (typed.1, tt)))

  -- takes a struct of one name apart, and makes one of the other name
  abbrev pub crossing : List ℕ → List ℕ → Fn
  crossing to from = record {
    lifetimes = 0;
    outlives = [];
    ty_params = [];
    givens = 0;
    params = 1;
    locals = local (pair to) value_local ∷ local (pair from) value_local ∷ local ty_ptr value_local ∷ local (α E.al) value_local ∷ local ty_ptr value_local ∷ [];
    body =
        seq (assign (place 2 []) (rv_opd (copy (place 1 (field 0 ∷ [])))))
        (seq (assign (place 3 []) (rv_opd (copy (place 1 (field 1 ∷ [])))))
        (seq (assign (place 4 []) (rv_opd (copy (place 2 []))))
        (seq (assign (place 0 []) (aggregate (copy (place 4 []) ∷ copy (place 3 []) ∷ [])))
        return)));
  }

  abbrev pub Owned : (Cell.the_row (R E)).Denot → Val → Val
  Owned cell handle = vstruct (vcons (ptr_val cell.at) (vcons handle vnil))

  module _ {M : Type 1} {𝓤 : Ura M} (𝓛 : Logic 𝓤) (𝓣 : Tables 𝓤 𝓛.H) (to from : List ℕ) where
    open 𝓛 use {H}

    pub crosses : (cell : (Cell.the_row (R E)).Denot) (words : List Val) (Post : Val → SProp 𝓤)
        → ((handle : Val) → ent 𝓤 (types.Kit.⋆ 𝓛 (‵ ((Cell.the_row (R E)).own_val cell (Owned cell handle ∷ [])) ∷ [])) (Post (Owned cell handle)))
        → ent 𝓤 (types.Kit.⋆ 𝓛 (‵ ((Cell.the_row (R E)).own_val cell words) ∷ [])) (WpFn 𝓤 H 𝓣.C 𝓣.Λ (crossing to from) (words ++ []) Post)
    crosses cell words Post ends = qed 𝓛 (‵ ((Cell.the_row (R E)).own_val cell words) ∷ []) ∵
        fsplit ! $ fpick ! (λ vss. fsplit ! $ feq_l ! (λ is. fsplit ! $ feq_l ! (λ pointed. fsplit ! $ handle_tells E.al ! cell.alloc vss.1.0 (λ handle handled typed. move ! (1 ∷ []) $ drop ! $
        let w : Val = Owned cell handle in
        let same : words ≡ w ∷ [] =
        subst (λ (hs : List Val). words ≡ vstruct (of_list (ptr_val cell.at ∷ (hs ++ []))) ∷ []) handled
        (subst (λ (ps : List Val). words ≡ vstruct (of_list (ps ++ (vss.1.0 ++ []))) ∷ []) pointed is) in
        -- the pointer and the handle are put together again, as one value
        nothing ! $ move ! (1 ∷ 0 ∷ []) $ fjoin ! $ feq_i ! (List Val) (ptr_val cell.at ∷ []) (ptr_val cell.at ∷ []) refl $ fjoin ! $
        feq_i ! (List Val) (w ∷ []) (w ∷ []) refl $ fjoin ! $
        fpack ! (Valss (RawPtr ∷ P E ∷ [])) (within (shape (Cell.the_type (R E))) (cell.at, (((cell.alloc.memory.seal, tt), tt), tt)) (w ∷ [])) (ptr_val cell.at ∷ [], (handle ∷ [], tt)) $ fjoin ! $
        use1 𝓛 (‵ ((Cell.the_row (R E)).own_val cell (w ∷ []))) (id⊢ 𝓤 _) $
        let Γ : List (Item 𝓤) = ‵ ((Cell.the_row (R E)).own_val cell (w ∷ [])) ∷ [] in
        by ! (subst (λ (us : List Val). ent 𝓤 (types.Kit.⋆ 𝓛 Γ) (WpFn 𝓤 H 𝓣.C 𝓣.Λ (crossing to from) (us ++ []) Post)) (sym same)
        (qed 𝓛 Γ ∵ enter ! 𝓣.C 𝓣.Λ (crossing to from) (w ∷ []) _ $ alloc_all ! (λ ls. pass_all ! refl (pair_typed from cell.at handle typed, tt) $
        sets ! (of_opd ! (get_in ! (fld ! refl (stop !)) (sub ! 0 refl (whole !)))) refl (pointer_typed cell.at) $
        sets ! (of_opd ! (get_in ! (fld ! refl (stop !)) (sub ! 1 refl (whole !)))) refl typed $
        -- the cast
        sets ! (of_opd ! (get ! refl)) refl (pointer_typed cell.at) $
        sets ! (agg ! (and_then ! (get ! refl) (and_then ! (get ! refl) (no_more !)))) refl (pair_typed to cell.at handle typed) $ returns ! (look_at ! 0 refl) $ free_all ! refl $
        by ! (ends handle))))))))
