-- `phi_action_helpers::generator_term` meets its contract. Assumes nothing.
use Rattle.phi_action_helpers.specs.Augmented.{generator_term}
use Rattle.phi_action_helpers.proofs.generator_term.Goals as goal

pub returns-then-k : goal.returns-then-k
unfolding generator_term
returns-then-k c = rw c.if-k.true

pub returns-else-k : goal.returns-else-k
unfolding generator_term
returns-else-k c = rw c.if-k.false
