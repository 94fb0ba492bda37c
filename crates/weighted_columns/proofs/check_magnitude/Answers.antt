-- `weighted_columns::check_magnitude` meets its contract. Assumes nothing.
use mathlib.Core.Path.{◌∙◌}
use native.Mathlib.Omega.{arith}
use lib.Ieee.{Float, nan}
use mathlib.Core.Bool.{not}
use Rattle.lists.proofs.Positions.{any_front}
use Rattle.doubles.specs.F64.{◌⊗◌, is_finite}
use Rattle.checks.proofs.First.{chain}
use Rattle.weighted_columns.proofs.check_magnitude.Goals as goal

pub returns-then-not-is_finite : goal.returns-then-not-is_finite
returns-then-not-is_finite c = search chain

pub returns-then-has_bad_gain : goal.returns-then-has_bad_gain
returns-then-has_bad_gain c =
    let a = c.args in
    let e = c.has_bad_gain.ensures ∙ any_front (λ (x : Float). not (is_finite (x ⊗ a.eta))) a.gains a.d nan (omega arith) in
    search chain

pub returns : goal.returns
returns c =
    let a = c.args in
    let e = c.has_bad_gain.ensures ∙ any_front (λ (x : Float). not (is_finite (x ⊗ a.eta))) a.gains a.d nan (omega arith) in
    search chain
