-- `ambient_checks::check_fields` meets its contract. Assumes nothing.
use mathlib.Core.Path.{refl}
use Rattle.checks.proofs.First.{passed_on, refused_up, sound_on, passes, stops, not_eq, not_ne}
use Rattle.combination.specs.Checks.{finite_checks}
use Rattle.ambient_checks.specs.Log.{field_checks}
use Rattle.ambient_checks.proofs.check_fields.Goals as goal
use Rattle.checks.specs.declared.Reason.TheVariants.{VectorLength}

pub returns-in_err-check_lengths : goal.returns-in_err-check_lengths
unfolding field_checks
returns-in_err-check_lengths c = rw (passed_on c.from_residual.ensures.1) (refused_up _ _ refl c.in_err-check_lengths.ensures)

pub returns-then-load-n : goal.returns-then-load-n
unfolding field_checks
returns-then-load-n c = sound_on _ _ refl c.in_ok-check_lengths.ensures (stops _ (not_ne c.if-load-n.true) c.count.ensures)

pub returns-in_err-check_finite : goal.returns-in_err-check_finite
unfolding field_checks
returns-in_err-check_finite c =
    rw (passed_on c.from_residual-in_err-check_finite.ensures.1)
    (sound_on _ _ refl c.in_ok-check_lengths.ensures (passes VectorLength _ _ (not_eq c.if-load-n.false) (refused_up _ _ refl c.in_err-check_finite.ensures)))

pub returns : goal.returns
unfolding field_checks finite_checks
returns c =
    sound_on _ _ refl c.in_ok-check_lengths.ensures
    (passes VectorLength _ _ (not_eq c.if-load-n.false) (sound_on _ _ refl c.in_ok-check_finite.ensures c.check_finite-2.ensures))
