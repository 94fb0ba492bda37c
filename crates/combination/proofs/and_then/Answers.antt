-- `combination::and_then` meets its contract. Assumes nothing.
use mathlib.Core.Path.{refl, sym, ◌∙◌}
use Rattle.checks.proofs.First.{refused_up, sound_on, passed_on}
use Rattle.combination.proofs.and_then.Goals as goal

pub returns-in_err-a : goal.returns-in_err-a
returns-in_err-a c xs ys e f = rw (passed_on c.from_residual.ensures.1) (refused_up xs ys refl (sym c.in_err-a.was ∙ e))

pub returns : goal.returns
returns c xs ys e f = sound_on xs ys c.in_ok-a.was e f
