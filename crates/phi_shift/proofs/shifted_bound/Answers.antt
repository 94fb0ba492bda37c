-- `phi_shift::shifted_bound` meets its contract. Assumes nothing.
use Rattle.phi_shift.specs.Plan.{shifted_bound}
use Rattle.phi_shift.proofs.shifted_bound.Goals as goal

pub returns : goal.returns
unfolding shifted_bound
returns c = rw (c.max.ensures, c.abs.ensures)
