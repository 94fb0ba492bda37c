-- `phi_shift::cheaper_shifted` meets its contract. Assumes nothing.
use Rattle.phi_shift.proofs.Ways.{no_shifted_row, costs_less, costs_as_much}
use Rattle.phi_shift.proofs.cheaper_shifted.Goals as goal

pub returns-in_default : goal.returns-in_default
returns-in_default c = search no_shifted_row

pub returns-then-cost : goal.returns-then-cost
returns-then-cost c = search costs_less

pub returns : goal.returns
returns c = search costs_as_much
