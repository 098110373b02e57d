use Rattle.least_ways.proofs.cited.heard_in_lock_step.Goals as goal

pub returns : goal.returns
returns c = c.lock_step.ensures.heard
