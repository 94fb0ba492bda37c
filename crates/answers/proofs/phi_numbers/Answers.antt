-- `answers::phi_numbers` meets its contract. Assumes nothing.
use mathlib.Core.Path.{ap, sym, ◌∙◌}
use Rattle.std.specs.Prelude.{Ok}
use Rattle.answers.specs.Told.{phi_numbers, taylor_numbers, krylov_numbers}
use Rattle.answers.proofs.phi_numbers.Goals as goal

pub returns-in-Err : goal.returns-in-Err
unfolding phi_numbers
returns-in-Err c = rw c.number.ensures (sym (ap phi_numbers c.in-Err.is))

pub returns-in-Taylor : goal.returns-in-Taylor
unfolding phi_numbers taylor_numbers
returns-in-Taylor c = sym (ap phi_numbers (c.in-Ok.is ∙ ap Ok c.in-Taylor.is))

pub returns-in-Krylov : goal.returns-in-Krylov
unfolding phi_numbers krylov_numbers
returns-in-Krylov c = sym (ap phi_numbers (c.in-Ok.is ∙ ap Ok c.in-Krylov.is))
