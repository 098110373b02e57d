-- The cell for C has the pointer of the cell, and owns what it owned.
use mathlib.Core.Path.{refl}
use mathlib.Core.List.{[], ◌∷◌, ◌++◌}
use seplogic.Ra.Ura.{Ura}
use base.Logic.{SProp, ent, emp}
use base.Fml.{ftrue, fsep}
use prog.Memory.{Memory}
use prog.Routine.{Routine}
use prog.Wp.{WpFn, Tables}
use types.Logic.{Logic}
use contract.Monad.{Fun}
use contract.Running.{tables, tables_of}
use sound.WpLaws.{WpFn-mono}
use types.Kit.{‵, raw, ◌⊛◌, ◌$◌, ◌∵◌, !, qed, by, move, drop, join, split, fsplit, fjoin, suffices, done}
use denote.Exit.{yes}
use denote.Signature.{plain}
use denote.Steps.{nothing}
use denote.Triple.Spec.{triple_of}
use denote.Triple.Table.{entered}
use denote.Triple.Walked.{says, Stays, stay_dropped, walk_of, ends_at, Goes-dropped, walk_Meets}
use Rattle.ipx_c.proofs.Crossing.{crosses, Owned}
use Rattle.ipx_c.specs.contracts.cell.Cell as Cell
use Rattle.ipx_c.specs.contracts.keyed_machine.KeyedMachine.{the_row}
use Rattle.ipx_c.proofs.keyed_machine.KeyedMachine.TheLaws.{the_row_laws}
use Rattle.ipx_c.specs.contracts.cell.KeyedCell.of as Contracted
use Rattle.ipx_c.specs.contracts.cell.KeyedCell.of.Key.{name as symbol}
use Rattle.ipx_c.proofs.cell.KeyedCell.of.Statement as stated
use Rattle.ipx_c.proofs.cell.KeyedCell.of.Code as code

abbrev stays : Stays (Contracted.ended).signature.params (Contracted.ended).kept
stays = (stay_dropped (plain (λ _. Cell.the_row the_row)) yes, tt)

module _ {M : Type 1} {𝓤 : Ura M} (𝓛 : Logic 𝓤) (at_mem : Memory → SProp 𝓤) (run : Routine → Fun 𝓤) (𝓣 : Tables 𝓤 𝓛.H) where
  open 𝓛 use {H}

  walk : (z : (walk_of 𝓛 Contracted.ended stays (Contracted.clauses 𝓛 at_mem run)).Ghost)
      → ent 𝓤 ((walk_of 𝓛 Contracted.ended stays (Contracted.clauses 𝓛 at_mem run)).pre z) (WpFn 𝓤 H 𝓣.C 𝓣.Λ code.function (z.0.4.0 ++ []) ((walk_of 𝓛 Contracted.ended stays (Contracted.clauses 𝓛 at_mem run)).post z))
  walk z =
      let Post = (walk_of 𝓛 Contracted.ended stays (Contracted.clauses 𝓛 at_mem run)).post z in
      let given = z.0.3.0 in
      qed 𝓛 ((‵ ftrue ⊛ ‵ (fsep ((Cell.the_row the_row).own_val given z.0.4.0) ftrue)) ∷ raw (emp 𝓤) ∷ []) ∵ split ! $ drop ! $ fsplit ! $ move ! (1 ∷ 2 ∷ []) $ drop ! $ drop ! $
      by ! (crosses the_row the_row_laws 𝓛 𝓣 _ _ given z.0.4.0 Post (λ handle.
      qed 𝓛 (‵ ((Cell.the_row the_row).own_val given (Owned the_row the_row_laws given handle ∷ [])) ∷ []) ∵
      suffices ! _ (ends_at 𝓛 Contracted.ended stays (Contracted.clauses 𝓛 at_mem run) z (Owned the_row the_row_laws given handle) (record { at = given.at; alloc = given.alloc; machine = given.machine }) (tt, tt) (tt, tt)) $ says ! refl $
      nothing ! $ nothing ! $ fjoin ! $ join ! $ nothing ! $ join ! $ done !))

pub of_spec : {M : Type 1} → stated.statement M
unfolding tables_of
of_spec 𝓤 𝓛 𝓜 𝓡 wired =
    let 𝓣 : Tables 𝓤 𝓛.H = tables_of 𝓤 𝓛.H 𝓜 (tables 𝓤 𝓛.H 𝓜 𝓡 𝓡.env) in
    entered 𝓤 𝓛.H (triple_of 𝓛 Contracted.signature (Contracted.spec 𝓛 𝓜.mem 𝓡.returns)) 𝓣.C 𝓣.Λ symbol code.function (code.unfolded 𝓤 𝓛.H 𝓜 𝓡 wired)
    (walk_Meets 𝓛 Contracted.ended stays (Goes-dropped 𝓛 0 (plain (λ _. Cell.the_row the_row)) yes (λ κs x f. refl), tt) (Contracted.clauses 𝓛 𝓜.mem 𝓡.returns) (WpFn 𝓤 𝓛.H 𝓣.C 𝓣.Λ code.function) (WpFn-mono 𝓤 𝓛.H 𝓛.laws 𝓣 code.function)
    (walk 𝓛 𝓜.mem 𝓡.returns 𝓣))
