-- The box of a machine, with the allocator of the C library, as the walks over cells and parts name it.
use mathlib.Core.List.{[]}
use mir.Syntax.{impl, tnil, dnil}
use denote.RattleType.{RattleType}
use denote.Param.Laws.{Laws}
use denote.Signature.{Slot, plain}
use Rattle.std_alloc.proofs.BoxSteps.Form.{Bx, R}
use Rattle.std_heap.specs.contracts.Global as Global
use Rattle.std_heap.specs.contracts.GlobalAllocator.TheImpl.{ghosts, dict}
use Rattle.std_heap.proofs.Global.TheLaws as global
use Rattle.ipx_c.specs.contracts.cell.Parts as Parts
use Rattle.ipx_c.specs.contracts.cell.Cell as Cell

abbrev pub boxed : (X : RattleType) → Laws X → Bx
boxed X laws = record {
  row = X;
  laws = laws;
  al = record { row = Global.the_row; laws = global.the_row_laws; g = ghosts; d = dict; drops = impl [] tnil dnil };
}

abbrev pub Apart : Bx → Slot 1
Apart E = plain (λ _. Parts.the_row (R E) Global.the_row ghosts)

abbrev pub InCell : Bx → Slot 1
InCell E = plain (λ _. Cell.the_row (R E))
