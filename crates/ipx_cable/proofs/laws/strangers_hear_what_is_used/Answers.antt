use Rattle.std.proofs.Common.{◌∙◌}
use Rattle.ipx_cable.proofs.Using.{all_where_none, spoken_to_stranger}
use Rattle.ipx_cable.proofs.laws.strangers_hear_what_is_used.Goals as goal

pub returns-clause-none : goal.returns-clause-none
returns-clause-none c = λ hash history node stranger none kind. spoken_to_stranger hash history node stranger kind ∙ all_where_none hash history none kind

pub returns-clause-all_none : goal.returns-clause-all_none
returns-clause-all_none c = λ hash history node everybody none kind. rw everybody (all_where_none hash history none kind)
