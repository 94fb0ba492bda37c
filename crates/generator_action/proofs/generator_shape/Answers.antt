-- `generator_action::generator_shape` meets its contract. Assumes nothing.
use mathlib.Core.Path.{refl}
use Rattle.generator_action.specs.Mass.{quotient_need}
use Rattle.generator_action.proofs.generator_shape.Goals as goal

pub returns-then-with_mass : goal.returns-then-with_mass
unfolding quotient_need
returns-then-with_mass c = λ starts cols vals mass e. rw (c.if-with_mass.true, e) refl

pub returns : goal.returns
unfolding quotient_need
returns c = λ starts cols vals mass e. rw c.if-with_mass.false refl
