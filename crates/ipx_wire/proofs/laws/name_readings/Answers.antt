use Rattle.ipx_wire.proofs.Names.{name_answered, name_only, none_answered, name_refused, no_name-none, none-no_name, one_name}
use Rattle.ipx_wire.proofs.Services.{name_again}
use Rattle.ipx_wire.proofs.laws.name_readings.Goals as goal

pub returns-clause-name_read : goal.returns-clause-name_read
returns-clause-name_read c = λ field name size. (name_answered field name size, name_only field name)

pub returns-clause-nameless : goal.returns-clause-nameless
returns-clause-nameless c = λ field size. (none_answered field size, name_refused field size)

pub returns-clause-unnamed : goal.returns-clause-unnamed
returns-clause-unnamed c = λ field size. (no_name-none field size, none-no_name field size)

pub returns-clause-one_name : goal.returns-clause-one_name
returns-clause-one_name c = one_name

pub returns-clause-name_again : goal.returns-clause-name_again
returns-clause-name_again c = name_again
