-- `exports_paused::tolerance` meets its contract. Assumes nothing.
use mathlib.Core.Path.{◌≡◌, refl, ◌∙◌}
use mathlib.Core.Bool.{Bool, true, false}
use lib.Ieee.{Float}
use Rattle.std.specs.Bool.{then_some}
use Rattle.exports_paused.specs.Told.{tolerance}
use Rattle.exports_paused.proofs.tolerance.Goals as goal

some_where : (b : Bool) (x : Float) → then_some b x ≡ tolerance b x
some_where true x = refl
some_where false x = refl

pub returns : goal.returns
returns c = c.then_some.ensures ∙ some_where c.args.with_tol c.args.tol
