use Rattle.ipx_settings.proofs.LinksAgain.{link_again, links_once}
use Rattle.ipx_settings.proofs.LinksRight.{link_right}
use Rattle.ipx_settings.proofs.laws.links_are_read_again.Goals as goal

pub returns-clause-again : goal.returns-clause-again
returns-clause-again c = link_again

pub returns-clause-once : goal.returns-clause-once
returns-clause-once c = links_once

pub returns-clause-right : goal.returns-clause-right
returns-clause-right c = link_right
