-- `phi_shift::with_shift` meets its contract. Assumes nothing.
use Rattle.phi_shift.proofs.Ways.{no_shift, not_usable, is_usable}
use Rattle.phi_shift.proofs.with_shift.Goals as goal

pub returns-in_default : goal.returns-in_default
returns-in_default c = search no_shift

pub returns-then-usable : goal.returns-then-usable
returns-then-usable c = search is_usable

pub returns : goal.returns
returns c = search not_usable
