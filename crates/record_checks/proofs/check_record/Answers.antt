-- `record_checks::check_record` meets its contract. Assumes nothing.
use mathlib.Core.Path.{sym, ap, ◌∙◌}
use mathlib.Core.List.{List}
use lib.Ieee.{Float}
use Rattle.checks.specs.First.{first}
use Rattle.checks.proofs.First.{passed_on, refused_up, sound_on}
use Rattle.combination.specs.Checks.{finite_checks}
use Rattle.record_checks.proofs.Products.{both_finite}
use Rattle.record_checks.proofs.check_record.Goals as goal

pub returns-in_err-check_plan : goal.returns-in_err-check_plan
returns-in_err-check_plan c =
    rw (passed_on c.from_residual.ensures.1) (sym c.in_err-check_plan.was ∙ refused_up _ _ c.in_err-check_plan.was c.check_plan.ensures)

pub returns-in_err-check_finite : goal.returns-in_err-check_finite
returns-in_err-check_finite c =
    let field = c.check_finite.ensures ∙ ap (λ (v : List Float). first (finite_checks v)) c.field_of.ensures in
    rw (passed_on c.from_residual-in_err-check_finite.ensures.1)
    (sound_on _ _ c.in_ok-check_plan.was c.check_plan.ensures
    (sym c.in_err-check_finite.was ∙ refused_up _ _ c.in_err-check_finite.was field ∙ both_finite _ _))

pub returns : goal.returns
returns c =
    let field = c.check_finite.ensures ∙ ap (λ (v : List Float). first (finite_checks v)) c.field_of.ensures in
    sound_on _ _ c.in_ok-check_plan.was c.check_plan.ensures
    (sound_on _ _ c.in_ok-check_finite.was field c.check_products.ensures ∙ both_finite _ _)
