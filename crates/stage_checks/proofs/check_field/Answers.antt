-- `stage_checks::check_field` meets its contract. Assumes nothing.
use mathlib.Core.Path.{sym, ap, ◌∙◌}
use mathlib.Core.List.{List, []}
use lib.Ieee.{Float}
use Rattle.checks.specs.First.{first}
use Rattle.checks.proofs.First.{passed_on, refused_up, sound_on}
use Rattle.combination.specs.Checks.{finite_checks}
use Rattle.combination.proofs.Further.{finite_behind}
use Rattle.stage_checks.proofs.check_field.Goals as goal

pub returns-in_err-check_finite : goal.returns-in_err-check_finite
unfolding finite_checks
returns-in_err-check_finite c =
    let field = c.check_finite.ensures ∙ ap (λ (v : List Float). first (finite_checks v)) c.field_of.ensures in
    rw (passed_on c.from_residual.ensures.1)
    (sym c.in_err-check_finite.was ∙ refused_up _ (finite_checks c.args.vectors.now) c.in_err-check_finite.was field ∙ sym (finite_behind _ _ []))

pub returns : goal.returns
unfolding finite_checks
returns c =
    let field = c.check_finite.ensures ∙ ap (λ (v : List Float). first (finite_checks v)) c.field_of.ensures in
    sound_on _ _ c.in_ok-check_finite.was field c.check_finite-2.ensures ∙ sym (finite_behind _ _ [])
