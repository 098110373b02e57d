use Rattle.ipx_settings.proofs.AddressesAgain.{address_again, addresses_once}
use Rattle.ipx_settings.proofs.AddressesRight.{address_right}
use Rattle.ipx_settings.proofs.laws.addresses_are_read_again.Goals as goal

pub returns-clause-again : goal.returns-clause-again
returns-clause-again c = address_again

pub returns-clause-once : goal.returns-clause-once
returns-clause-once c = addresses_once

pub returns-clause-right : goal.returns-clause-right
returns-clause-right c = address_right
