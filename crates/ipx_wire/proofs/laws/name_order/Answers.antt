use Rattle.std.specs.Cmp.Lexicographic.{nat_list_cmp_total}
use Rattle.ipx_wire.proofs.NameOrder.{equal_is, is_equal, prefix_less, first_less}
use Rattle.ipx_wire.proofs.laws.name_order.Goals as goal

pub returns-clause-total : goal.returns-clause-total
returns-clause-total c = nat_list_cmp_total

pub returns-clause-equal : goal.returns-clause-equal
returns-clause-equal c = λ a b. (equal_is a b, is_equal a b)

pub returns-clause-prefix : goal.returns-clause-prefix
returns-clause-prefix c = prefix_less

pub returns-clause-first : goal.returns-clause-first
returns-clause-first c = first_less
